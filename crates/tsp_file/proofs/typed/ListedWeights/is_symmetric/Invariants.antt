-- The loop of `ListedWeights::is_symmetric` in src/typed.rt, which tests the symmetry of all costs, block by block.
use Rattle.tsp_file.proofs.Prelude.{◌≡◌, ℕ, ◌<◌, ◌≤◌, ◌*◌, IsNode}
use Rattle.tsp_file.specs.states.Weights.{costs_of}
use Rattle.tsp_file.proofs.typed.ListedWeights.is_symmetric.Given as goal

-- each pair whose smaller node is in a band before this one costs the same in both directions
abbrev pub invariant-bands : goal.invariant-bands
invariant-bands l =
    (i j : ℕ) → IsNode (l.self.nodes) i → IsNode (l.self.nodes) j → i < j → i ≤ l.band * 64
    → costs_of l.self i j ≡ costs_of l.self j i
