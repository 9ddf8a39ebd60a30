-- The loop of `ListedWeights::is_symmetric_band` in src/typed.rt, which tests the symmetry of a band, block by block.
use Rattle.std.proofs.Common.{◌≡◌, ℕ, ◌<◌, ◌≤◌, ◌*◌, ◌+◌}
use Rattle.tsp_file.specs.states.Weights.{costs_of}
use Rattle.tsp_file.proofs.typed.ListedWeights.is_symmetric_band.Given as goal

-- each cell of this band in the columns of a block before this one costs the same as the cell across the diagonal
abbrev pub invariant-across : goal.invariant-across
invariant-across l =
    (i j : ℕ) → l.band * 64 < i → i ≤ l.band * 64 + 64 → l.band * 64 < j → j ≤ l.block * 64 → i ≤ l.self.nodes → j ≤ l.self.nodes
    → costs_of l.self i j ≡ costs_of l.self j i
