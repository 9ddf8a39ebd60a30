-- The loop of `put_rows` in src/pair_costs.rt, which puts rows of costs into a buffer.
use Rattle.tsp_c.specs.NumberCalls.{IsFilled, row_cost}
use Rattle.tsp_c.proofs.pair_costs.put_rows.Given as goal

-- the costs before this place are in the buffer, row by row, and its other numbers are as they were
abbrev pub invariant-places : goal.invariant-places
invariant-places l = IsFilled l.k (row_cost l.first_row l.instance) l.fn.out l.out
