-- The goals of `is_used` in src/tour.rt, which says whether a cycle uses a pair: what it ensures.
use Rattle.std.proofs.Common.{refl}
use Rattle.tsp_verdict.proofs.TourVerdicts.{uses_other, uses_none}
use Rattle.tsp_verdict.proofs.tour.is_used.Goals as goal

-- plan: the table says what comes after a node, so the pair is used or isn't (`uses_other`, `uses_none`)
pub returns-then-directed : goal.returns-then-directed
returns-then-directed c =
    λ cycle m. uses_none c.args.directed cycle c.args.next.now c.args.pair m c.if-next-pair.false c.if-directed.true

pub returns : goal.returns
returns c = λ cycle m. uses_other c.args.directed cycle c.args.next.now c.args.pair _ m c.requires.0.0 c.if-next-pair.false
    c.if-directed.false refl
