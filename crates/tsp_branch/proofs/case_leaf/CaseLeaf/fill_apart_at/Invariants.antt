-- The loop of `CaseLeaf::fill_apart_at` in src/leaf_rows.rt, which writes some weights of a row as if no set had two
-- nodes.
use Rattle.tsp_branch.proofs.Prelude.{◌<◌, ℕ, length, slice_index, least_at, lent_in, IsApart}
use Rattle.tsp_branch.proofs.case_leaf.CaseLeaf.fill_apart_at.Given as goal

-- for each node before this place the row has the weight as if no set had two nodes, in 64 bits
abbrev pub invariant-places : goal.invariant-places
invariant-places g l = (k : ℕ) → k < length l.to → k < l.place
    → IsApart l.self.context.now.cases.now.scale l.self.potentials.now l.self.multipliers.now
    (lent_in l.self.context.now.families.now) (g.C.Costs.at l.self.context.now.costs.now) l.from (slice_index l.to k)
    (least_at l.row (slice_index l.to k))
