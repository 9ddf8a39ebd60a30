-- The goals of `settled_root` in src/root.rt, which finds the root, rounded up, by an estimate: what it ensures.
use Rattle.tsp_number.proofs.RoundedRoots.{least-most}
use Rattle.tsp_number.proofs.root.settled_root.Goals as goal

-- plan: the number is the least that covers the square, so it is no larger than one that is known to cover it
-- (`least-most`)
pub returns-then-is_least_cover-clause-most : goal.returns-then-is_least_cover-clause-most
returns-then-is_least_cover-clause-most c =
    least-most c.args.rounding c.args.square c.args.most _ c.requires.covered c.if-is_least_cover.ensures.least
