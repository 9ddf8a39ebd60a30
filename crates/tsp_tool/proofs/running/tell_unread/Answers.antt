-- The goals of `tell_unread` in src/running.rt, which reports that the words of a command line can't be read: what it
-- ensures.
use Rattle.std.proofs.Common.{false, refl}
use Rattle.tsp_tool.specs.declared.ends.RunEnd.TheVariants.{NoJob}
use Rattle.tsp_tool.proofs.running.tell_unread.Goals as goal

pub returns : goal.returns
returns g c = (false, NoJob c.unread.result, (c.unread.ensures.memory, c.unread.ensures.no_text, refl), (c.end.ensures.status, c.end.ensures.reported))
