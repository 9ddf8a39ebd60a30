-- The goals of `print_version` in src/running.rt, which prints the version: what it ensures.
use Rattle.std.proofs.Common.{◌∙◌, subst, inl}
use Rattle.tsp_io.specs.states.Output.{sink_of}
use Rattle.tsp_io.specs.Streams.{Writes}
use Rattle.tsp_tool.proofs.running.print_version.Goals as goal

pub returns-in-Ok : goal.returns-in-Ok
returns-in-Ok g c =
    inl (subst (λ text. Writes (sink_of g.W.Takes.contents c.args.out.now c.write_text.new.out) text c.write_text.result)
    (c.as_bytes.ensures.value ∙ c.in-Ok.ensures.ok) c.write_text.ensures)
