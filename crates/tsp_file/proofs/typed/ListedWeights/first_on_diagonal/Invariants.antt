-- The loop of `ListedWeights::first_on_diagonal` in src/typed.rt, which finds the first node that doesn't cost 0 to
-- itself.
use Rattle.tsp_file.proofs.Prelude.{◌≡◌, ℕ, ◌<◌, pos, IsNode}
use Rattle.tsp_file.specs.states.Weights.{costs_of}
use Rattle.tsp_file.proofs.typed.ListedWeights.first_on_diagonal.Given as goal

-- each node before this one costs 0 to itself
abbrev pub invariant-nodes : goal.invariant-nodes
invariant-nodes l = (k : ℕ) → IsNode l.self.nodes k → k < l.i → costs_of l.self k k ≡ pos 0
