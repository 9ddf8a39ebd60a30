-- The loop of `clear_diagonal` in src/relayout.rt, which sets the diagonal to 0.
use Rattle.tsp_file.proofs.Prelude.{◌≡◌, ◌<◌, ◌*◌, ℕ, length, ℤ, pos}
use Rattle.tsp_file.specs.states.Drafts.{Fills}
use Rattle.tsp_file.proofs.relayout.clear_diagonal.Given as goal

-- the diagonal is 0 before this node, and each cell that had its cost still has it
abbrev pub invariant-nodes : goal.invariant-nodes
invariant-nodes l = record {
  size : length l.weights.items ≡ l.nodes * l.nodes;
  costs : (cost : ℕ → ℕ → ℤ) → ((i : ℕ) → cost i i ≡ pos 0)
      → Fills cost l.nodes l.fn.weights.items l.weights.items (λ i j. (i ≡ j) × (i < l.node));
}
