-- The loop of `taken_back` in src/case_leaf.rt, which sums the numbers of the taken pairs.
use Rattle.tsp_branch.proofs.Prelude.{◌≡◌, ◌*◌, drop, pos, ◌+ℤ◌, IsFromTo, most_number, triples_total, on_taken, decided_number}
use Rattle.tsp_branch.proofs.case_leaf.taken_back.Given as goal

-- the sum so far plus the numbers of the taken pairs left is the whole sum; each pair adds at most 4 * 10^18
abbrev pub invariant-decisions : goal.invariant-decisions
invariant-decisions l = record {
  size : IsFromTo (pos 0) (pos (l.decision-index * most_number)) l.sum;
  so_far : (l.sum +ℤ triples_total (on_taken decided_number (drop l.decision-index l.taken))) ≡ triples_total (on_taken decided_number l.taken);
}
