-- The loop of `take_row` in src/all_pairs.rt, which offers the links of one row of a block to the lists.
use Rattle.std.proofs.Common.{length}
use Rattle.tsp_bound.specs.states.Components.{weight_over, AreOffered}
use Rattle.tsp_bound.proofs.all_pairs.take_row.Given as goal

-- of this row the pairs with the places before this one are taken, and all of the rows before it
abbrev pub invariant-places : goal.invariant-places
invariant-places g l = AreOffered (length l.placed.order.now) (weight_over (g.W.Weights.at l.placed.w.now) l.placed.order.now)
    l.fn.columns.first l.fn.columns.last l.from l.place l.links l.bounds
