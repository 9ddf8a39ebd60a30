-- The loop of `dual_bound` in src/assignment.rt, which bounds every cycle by duals.
use Rattle.tsp_bound.proofs.Prelude.{◌≢◌, ℕ, ◌<◌, ◌≤ℤ◌, IsNode}
use Rattle.tsp_bound.specs.states.Duals.{dual_of, scaled}
use Rattle.tsp_bound.proofs.assignment.dual_bound.Given as goal

-- the numbers of each row before this one and of each other column sum to at most the cost
abbrev pub invariant-rows : goal.invariant-rows
invariant-rows g l = (a b : ℕ) → IsNode (g.C.Costs.nodes l.c) a → IsNode (g.C.Costs.nodes l.c) b → a ≢ b → a < l.i
    → dual_of l.d a b ≤ℤ scaled l.d (g.C.Costs.at l.c) a b
