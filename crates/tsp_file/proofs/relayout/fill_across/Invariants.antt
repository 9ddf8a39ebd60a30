-- The loop of `fill_across` in src/relayout.rt, which fills the cells across the diagonal.
use Rattle.tsp_file.proofs.Prelude.{◌≡◌, ◌+◌, ◌<◌, ◌*◌, ℕ, length, ℤ, IsSymmetric}
use Rattle.tsp_file.specs.states.Drafts.{HasSide, Fills}
use Rattle.tsp_file.proofs.relayout.fill_across.Given as goal

-- each cell in a column before this band has its cost, and so has each that had it
abbrev pub invariant-bands : goal.invariant-bands
invariant-bands l = record {
  size : length l.weights.items ≡ l.nodes * l.nodes;
  costs : (cost : ℕ → ℕ → ℤ) → IsSymmetric cost → HasSide l.above cost l.nodes l.fn.weights.items
      → Fills cost l.nodes l.fn.weights.items l.weights.items (λ i j. j < l.band * 64 + 1);
}
