-- The loop of `mark` in src/tour.rt.
use Rattle.tsp_verdict.proofs.Prelude.{◌≡◌, ◌+◌, ℕ, List, vec_len}
use Rattle.tsp_verdict.specs.states.Marks.{Marked, StandsAfter}
use Rattle.tsp_verdict.proofs.tour.mark.Given as goal

-- if just the nodes of a list before these were marked, just those and the nodes before this one are, each once
abbrev pub invariant-nodes : goal.invariant-nodes
invariant-nodes l = record {
  counted : l.place ≡ l.node-index;
  wide : vec_len l.seen ≡ vec_len l.initial.seen;
  marks : (all : List ℕ) (before : ℕ) → StandsAfter before all l.nodes → Marked all l.initial.seen.items before
      → Marked all l.seen.items (before + l.node-index);
}
