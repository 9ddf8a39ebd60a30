-- The goals of `CaseLeaf::are_exact` in src/leaf_rows.rt, which tests whether boxes suit the numbers of a leaf: its
-- loop, the facts of the values that it makes, what its calls require and what it ensures.
use Rattle.tsp_branch.proofs.Prelude.{◌≡◌, ◌∙◌, ◌-◌, ℕ, ℤ, List, inl, inr, ap, sym, subst, arith, rules, FitsSigned, w64, int_wrap, pos, neg_ℤ, ◌+ℤ◌, All, cases_eq, ints, int_wrap_fits, IsNode, IsFromTo, entry, most_number, least_at, IsPlaceIn, places_with, lent_in, multipliers_at, within, places_inside, small_multipliers}
use Rattle.tsp_branch.specs.states.LeafRows.{sum_at_places}
use Rattle.tsp_branch.proofs.BoxedLeaves.{number_is}
use Rattle.tsp_branch.proofs.case_leaf.CaseLeaf.are_exact.Goals as goal

pub invariant_of-multipliers : goal.invariant_of-multipliers
invariant_of-multipliers g c =
    let leaf = c.args.self.now in
    let families = leaf.context.now.families.now in
    record {
      as_many = leaf.numbers.each_family ∙ families.as_many;
      small = small_multipliers _ families.crossed.items _ _ families.some leaf.numbers;
    }

pub are_few-requires : goal.are_few-requires
are_few-requires g c = λ k d lt.
    let q = c.args.self.now in
    let families : List (List (List ℕ)) = lent_in q.context.now.families.now in
    let node_in : IsNode (g.C.Costs.nodes q.context.now.costs.now) c.nodes.node = (omega (arith, c.nodes.auto.node), omega (arith, c.nodes-test.true, c.count-node-end.ensures.value)) in
    let places_are : c.deref.result.now ≡ places_with 0 families c.nodes.node = c.deref.ensures.value ∙ q.context.now.table.said c.nodes.node c.index-self-node.result node_in.1 in
    let own = (subst (All (IsPlaceIn families)) (sym places_are) (places_inside families c.nodes.node)) k d lt in
    omega (arith, own.0, (q.numbers.each_family ∙ q.context.now.families.now.as_many), q.context.now.families.now.many, q.context.now.families.now.as_many)

-- plan: the multipliers at a node are few, so its potential less these fits 64 bits, and the wrapped number is the
-- exact one
pub nodes-preserved : goal.nodes-preserved
nodes-preserved g c = λ x low below. elim (cases_eq x c.nodes.node) [
  | inl same ↦
      let q = c.args.self.now in
      let node = c.nodes.node in
      let families : List (List (List ℕ)) = lent_in q.context.now.families.now in
      let node_in : IsNode (g.C.Costs.nodes q.context.now.costs.now) c.nodes.node = (omega (arith, c.nodes.auto.node), omega (arith, c.nodes-test.true, c.count-node-end.ensures.value)) in
      let places_are : c.deref.result.now ≡ places_with 0 families node = c.deref.ensures.value ∙ q.context.now.table.said node c.index-self-node.result node_in.1 in
      let taken : ℤ = multipliers_at q.multipliers.now families node in
      let few : IsFromTo (pos 0) (pos 3000000000000000000) taken =
      subst (λ (z : ℤ). IsFromTo (pos 0) (pos 3000000000000000000) z) (ap (sum_at_places q.multipliers.now) places_are ∙ number_is q.multipliers.now families node)
      (c.are_few.ensures c.if-not-are_few.false) in
      let potential = q.numbers.potentials_are (node - 1) (pos 0) (omega (arith, node_in, q.numbers.each_node)) in
      let whole : ℤ = entry q.potentials.now node +ℤ neg_ℤ taken in
      let whole_fits : FitsSigned w64 whole = within whole (omega (arith, ints, few.0, few.1, potential.0, potential.1), omega (arith, ints, few.0, few.1, potential.0, potential.1)) in
      let fits : FitsSigned w64 c.weight_in.result = search rules in
      let is : least_at q.moved.now node ≡ whole =
      sym c.weight_in.ensures ∙ sym (int_wrap_fits w64 c.weight_in.result fits) ∙ ap (int_wrap w64) c.weight_in.ensures ∙ q.are_moved node node_in ∙ int_wrap_fits w64 whole whole_fits in
      let size : IsFromTo (neg_ℤ (pos most_number)) (pos most_number) (least_at q.moved.now node) = subst (λ (z : ℤ). IsFromTo (neg_ℤ (pos most_number)) (pos most_number) z) (sym is)
      (omega (arith, ints, few.0, few.1, potential.0, potential.1), omega (arith, ints, few.0, few.1, potential.0, potential.1)) in
      subst (λ (y : ℕ). (least_at q.moved.now y ≡ entry q.potentials.now y +ℤ neg_ℤ (multipliers_at q.multipliers.now families y))
      × IsFromTo (neg_ℤ (pos most_number)) (pos most_number) (least_at q.moved.now y)) (sym same) (is, size)
  | inr other ↦ c.nodes.invariant x low (omega (arith, below, other))
]

pub returns : goal.returns
returns g c = λ holds x node. c.nodes.invariant x node.0 (omega (arith, node.1, c.nodes-test.false, c.count-node-end.ensures.value))
