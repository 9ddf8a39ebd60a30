-- The loop of `put_weights` in src/pair_costs.rt, which puts the costs of pairs into a buffer.
use Rattle.tsp_c.specs.NumberCalls.{IsFilled, pair_cost}
use Rattle.tsp_c.proofs.pair_costs.put_weights.Given as goal

-- the costs of the pairs before this one are in the buffer, and its other numbers are as they were
abbrev pub invariant-pairs : goal.invariant-pairs
invariant-pairs l = IsFilled l.k (pair_cost l.pairs l.instance) l.fn.out l.out
