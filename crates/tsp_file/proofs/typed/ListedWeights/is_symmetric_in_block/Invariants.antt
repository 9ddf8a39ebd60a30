-- The loop of `ListedWeights::is_symmetric_in_block` in src/typed.rt, which tests the symmetry of a row of a block.
use Rattle.std.proofs.Common.{◌≡◌, ℕ, ◌<◌, ◌≤◌, ◌↔◌, IsTrue}
use Rattle.tsp_file.specs.states.Weights.{costs_of}
use Rattle.tsp_file.proofs.typed.ListedWeights.is_symmetric_in_block.Given as goal

-- `same` says whether each cell of the row before this one costs the same as the cell across the diagonal
abbrev pub invariant-columns : goal.invariant-columns
invariant-columns l = IsTrue l.same ↔ ((b : ℕ) → l.left ≤ b → b < l.j → costs_of l.self l.i b ≡ costs_of l.self b l.i)
