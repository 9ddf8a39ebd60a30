-- The loop of `CaseLeaf::are_exact` in src/leaf_rows.rt, which tests whether boxes suit the numbers of a leaf.
use Rattle.tsp_branch.proofs.Prelude.{◌≡◌, ◌≤◌, ◌<◌, ℕ, pos, neg_ℤ, ◌+ℤ◌, IsFromTo, entry, most_number, least_at, lent_in, multipliers_at}
use Rattle.tsp_branch.proofs.case_leaf.CaseLeaf.are_exact.Given as goal

-- for each node before this one `moved` has the potential less the node's multipliers, at most 4 * 10^18 in size
abbrev pub invariant-nodes : goal.invariant-nodes
invariant-nodes g l = (x : ℕ) → 1 ≤ x → x < l.node
    → (least_at l.self.moved.now x ≡ entry l.self.potentials.now x +ℤ neg_ℤ (multipliers_at l.self.multipliers.now (lent_in l.self.context.now.families.now) x))
    × IsFromTo (neg_ℤ (pos most_number)) (pos most_number) (least_at l.self.moved.now x)
