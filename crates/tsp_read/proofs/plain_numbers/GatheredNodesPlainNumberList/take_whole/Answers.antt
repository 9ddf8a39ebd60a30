-- The goals of `GatheredNodesPlainNumberList::take_whole` in src/plain_numbers.rt, which takes a number if it fits:
-- what it ensures.
use Rattle.tsp_read.proofs.Prelude.{refl, rules, FitsSigned, w64, to_z-of_z}
use Rattle.tsp_read.proofs.plain_numbers.GatheredNodesPlainNumberList.take_whole.Goals as goal

pub returns-clause-taken : goal.returns-clause-taken
returns-clause-taken c = λ taken word read n words h.
    let fits : FitsSigned w64 c.args.number = search rules in
    let next = c.push_read.ensures.taken taken n words word (rw (to_z-of_z w64 c.args.number fits) read) h in
    (next.0, (refl, next.1))
