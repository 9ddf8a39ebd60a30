-- The goals of `print_help` in src/running.rt, which prints the help of `clap`: what it ensures.
use Rattle.std.proofs.Common.{inl}
use Rattle.tsp_tool.proofs.running.print_help.Goals as goal

pub returns-in-Ok : goal.returns-in-Ok
returns-in-Ok g c = (c.as_bytes.result.now, inl c.write_text.ensures)
