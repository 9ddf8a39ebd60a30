-- The goals of `ended` in src/ended.rt, which turns the end of a run into a status and a text: what it ensures.
use Rattle.tsp_c.proofs.Prelude.{refl, writer_of}
use Rattle.tsp_c.proofs.PickedRuns.{printed_ends, unprinted_ends}
use Rattle.tsp_c.proofs.ended.ended.Goals as goal

-- plan: by whether there is memory for the line of the fault: it is the text (`printed_ends`), or the status is 3
-- without a text (`unprinted_ends`)
pub returns-in-Ok : goal.returns-in-Ok
returns-in-Ok c = printed_ends c.args.answer (writer_of c.args.report).items c.in-Ok.printed.0 c.in-Ok.printed.1 c.in-Ok.ensures

pub returns-in-Err : goal.returns-in-Err
returns-in-Err c = unprinted_ends c.args.answer (writer_of c.args.report).items 3 c.into_text.result.items c.in-Err.ensures refl c.into_text.ensures
