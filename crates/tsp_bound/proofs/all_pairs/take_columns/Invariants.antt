-- The loop of `take_columns` in src/all_pairs.rt, which offers the links of a block of columns to the lists.
use Rattle.std.proofs.Common.{length}
use Rattle.tsp_bound.specs.states.Components.{weight_over, AreOffered}
use Rattle.tsp_bound.proofs.all_pairs.take_columns.Given as goal

-- of these columns the pairs of the rows before this one are taken, and all pairs of the columns before them
abbrev pub invariant-rows : goal.invariant-rows
invariant-rows g l = AreOffered (length l.placed.order.now) (weight_over (g.W.Weights.at l.placed.w.now) l.placed.order.now)
    l.columns.first l.columns.last l.from 0 l.links l.bounds
