-- The loop of `ListedWeights::first_asymmetric_by_rows` in src/typed.rt.
use Rattle.tsp_file.proofs.Prelude.{◌≡◌, ℕ, ◌<◌, IsNode}
use Rattle.tsp_file.specs.states.Weights.{costs_of}
use Rattle.tsp_file.proofs.typed.ListedWeights.first_asymmetric_by_rows.Given as goal

-- each pair whose smaller node is before this one costs the same in both directions
abbrev pub invariant-rows : goal.invariant-rows
invariant-rows l =
    (a b : ℕ) → IsNode l.self.nodes a → IsNode l.self.nodes b → a < b → a < l.i → costs_of l.self a b ≡ costs_of l.self b a
