-- The loop of `mark_different` in src/tour.rt.
use Rattle.std.proofs.Common.{◌≡◌, ◌+◌, ◌≤◌, ◌<◌, ℕ, length, get_or}
use Rattle.tsp_verdict.specs.states.Marks.{Marked}
use Rattle.tsp_verdict.proofs.tour.mark_different.Given as goal

-- the nodes before this one are marked, and no others; they are different and at most n
abbrev pub invariant-nodes : goal.invariant-nodes
invariant-nodes l = record {
  wide : length l.taken ≡ l.n + 1;
  small : (k d : ℕ) → k < l.node-index → get_or l.nodes k d ≤ l.n;
  marks : Marked l.nodes l.taken l.node-index;
}
