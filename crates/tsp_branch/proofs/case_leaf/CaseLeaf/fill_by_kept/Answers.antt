-- The goals of `CaseLeaf::fill_by_kept` in src/leaf_rows.rt, which writes a row of a leaf's weights from the row kept
-- for its node: what it ensures.
use Rattle.tsp_branch.proofs.Prelude.{◌≡◌, ◌∙◌, ◌-◌, ◌+◌, ℕ, ℤ, List, false, get_or, inr, ap, sym, subst, arith, rules, to_z, of_z, FitsSigned, w64, int_wrap, pos, neg_ℤ, ◌*ℤ◌, ints, to_z-of_z, IsNode, IsFromTo, entry, least_at, between_size, scaled_size, lent_in, set_weight, Decision, marks_in, most_decided, decisions_in}
use Rattle.tsp_branch.specs.states.KeptRows.{kept_weight, IsKeptRow}
use Rattle.std.specs.Global.{Vec}
use Rattle.tsp_branch.proofs.RowsKept.{marked_at}
use Rattle.tsp_branch.specs.states.LeafRows.{decided_by}
use Rattle.tsp_branch.proofs.CaseLeaves.{marked_is}
use Rattle.tsp_branch.proofs.case_leaf.CaseLeaf.fill_by_kept.Goals as goal

-- plan: the row kept from leaf to leaf plus both numbers is the weight with marks (`marked_at`), which is the one with
-- the case's decisions (`marked_is`)
pub returns : goal.returns
returns g c =
    let q = c.args.self.now in
    let directed = q.context.now.cases.now.directed in
    let n : ℕ = g.C.Costs.nodes q.context.now.costs.now in
    let cost = g.C.Costs.at q.context.now.costs.now in
    let from : ℕ = c.args.from in
    let families : List (List (List ℕ)) = lent_in q.context.now.families.now in
    let ps : List ℤ = q.potentials.now in
    let ms : List ℤ = q.multipliers.now in
    let case : List Decision = decisions_in q.case.now in
    let w : ℕ → ℕ → ℤ = set_weight q.context.now.cases.now.scale ps ms families cost in
    let slot : Vec ℤ = c.index-self-from.result in
    let row : List ℤ = c.fill_shifted.new.row in
    let rows = q.are_kept c.requires.kept in
    let place : (from - 1) + 1 ≡ from = omega (arith, c.requires.from) in
    let own : IsKeptRow n (cost from) (kept_weight q.context.now.cases.now.scale families cost (marks_in directed case) ms from) (get_or q.kept.now (from - 1) slot).items =
    subst (λ (i : ℕ). IsKeptRow n (cost i) (kept_weight q.context.now.cases.now.scale families cost (marks_in directed case) ms i) (get_or q.kept.now (from - 1) slot).items) place
    (rows.each (from - 1) slot (omega (arith, c.requires.from))) in
    let kept : IsKeptRow n (cost from) (kept_weight q.context.now.cases.now.scale families cost (marks_in directed case) ms from) c.deref.result.now =
    subst (IsKeptRow n (cost from) (kept_weight q.context.now.cases.now.scale families cost (marks_in directed case) ms from)) (sym c.deref.ensures.value) own in
    let m : ℤ = c.weight_in-own.result in
    let m_in : FitsSigned w64 m = search rules in
    let m_is = ap (int_wrap w64) (to_z-of_z w64 m m_in ∙ c.weight_in-own.ensures) ∙ q.are_moved from c.requires.from in
    let both : (x : ℕ) → IsNode n x → (least_at row x ≡ decided_by directed case w from x) × IsFromTo (neg_ℤ (pos most_decided)) (pos most_decided) (least_at row x) = λ x x_in.
    let small = kept.costs x x_in in
    let size = between_size (q.context.now.cases.now.scale *ℤ cost from x) (entry ps from) (entry ps x) (scaled_size q.context.now.cases.now.scale _ q.context.now.cases.now.scaled small.0 small.1)
    (q.numbers.potentials_are (from - 1) (pos 0) (omega (arith, c.requires.from, q.numbers.each_node))) (q.numbers.potentials_are (x - 1) (pos 0) (omega (arith, x_in, q.numbers.each_node))) in
    let value_is = c.fill_shifted.ensures x (omega (arith, x_in, c.requires.room)) in
    let is = marked_at q.context.now.cases.now.scale ps ms families cost (marks_in directed case) from x
    (to_z w64 (of_z w64 m)) (least_at q.moved.now x) (least_at c.deref.result.now x) (least_at row x)
    q.context.now.families.now.once (q.crossed from x c.requires.from x_in) size m_is (q.are_moved x x_in) (kept.weights x x_in) value_is in
    marked_is case w from x directed (least_at row x) q.once is.0 is.1 in
    record {
      values = λ x h. (both x h).0;
      sizes = λ x h. (both x h).1;
    }
