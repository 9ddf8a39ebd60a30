-- The loop of `ListedWeights::first_asymmetric_of_row` in src/typed.rt.
use Rattle.std.proofs.Common.{◌≡◌, ℕ, ◌<◌}
use Rattle.tsp_file.specs.states.Weights.{costs_of}
use Rattle.tsp_file.proofs.typed.ListedWeights.first_asymmetric_of_row.Given as goal

-- i and each node after it, up to the one before this, cost the same in both directions
abbrev pub invariant-columns : goal.invariant-columns
invariant-columns l = (b : ℕ) → l.i < b → b < l.j → costs_of l.self l.i b ≡ costs_of l.self b l.i
