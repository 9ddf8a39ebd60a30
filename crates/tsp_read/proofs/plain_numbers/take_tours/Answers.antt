-- The goals of `take_tours` in src/plain_numbers.rt, which takes words of tours, and reserves memory for them: what it
-- ensures.
use Rattle.std.proofs.Common.{refl}
use Rattle.tsp_read.specs.declared.section_builder.SectionBuilder.TheVariants as parts
use Rattle.tsp_read.proofs.PlainNumbers.{keeps_run, run_then}
use Rattle.tsp_read.proofs.plain_numbers.take_tours.Goals as goal

-- plan: the nodes are gathered apart and put back, which keeps the run (`keeps_run`)
pub returns : goal.returns
returns c =
    let kept = keeps_run (parts.Tours c.args.list.now) (parts.Tours c.gather-gathered.result.list) c.args.count c.args.text.now
    (λ n words h. (refl, c.gather-gathered.ensures words h)) in
    rw c.put_back.ensures (run_then _ _ _ _ _ _ _ _ _ kept c.take_gathered-gathered.ensures)
