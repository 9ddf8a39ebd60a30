-- The loop of `ListedWeights::is_symmetric_block` in src/typed.rt, which tests the symmetry of a block, row by row.
use Rattle.std.proofs.Common.{◌≡◌, ℕ, ◌<◌, ◌≤◌, ◌+◌}
use Rattle.tsp_file.specs.states.Weights.{costs_of}
use Rattle.tsp_file.proofs.typed.ListedWeights.is_symmetric_block.Given as goal

-- each cell of the block in a row before this one costs the same as the cell across the diagonal
abbrev pub invariant-rows : goal.invariant-rows
invariant-rows l =
    (a b : ℕ) → l.top ≤ a → a < l.i → l.left ≤ b → b < l.left + 64 → b ≤ l.self.nodes → costs_of l.self a b ≡ costs_of l.self b a
