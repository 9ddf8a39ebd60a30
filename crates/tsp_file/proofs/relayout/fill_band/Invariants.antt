-- The loop of `fill_band` in src/relayout.rt, which fills the cells of a band across the diagonal.
use Rattle.tsp_file.proofs.Prelude.{◌≡◌, ◌+◌, ◌<◌, ◌≤◌, ◌*◌, ℕ, length, ℤ, IsSymmetric}
use Rattle.tsp_file.specs.states.Drafts.{HasSide, Fills}
use Rattle.tsp_file.proofs.relayout.fill_band.Given as goal

-- each cell of this band in a row before this one has its cost, and so has each that had it
abbrev pub invariant-rows : goal.invariant-rows
invariant-rows l = record {
  size : length l.weights.items ≡ l.nodes * l.nodes;
  costs : (cost : ℕ → ℕ → ℤ) → IsSymmetric cost → HasSide l.above cost l.nodes l.fn.weights.items
      → Fills cost l.nodes l.fn.weights.items l.weights.items (λ i j. (i < l.row) × (l.left ≤ j) × (j < l.left + 64));
}
