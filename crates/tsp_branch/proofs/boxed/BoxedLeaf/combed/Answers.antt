-- The goals of `BoxedLeaf::combed` in src/boxed.rt, which returns a weight without decisions, from the weight
-- without the sets of both nodes: the facts of the values that it makes, what its calls require and what it ensures.
use Rattle.tsp_branch.proofs.Prelude.{◌≡◌, ◌∙◌, ℕ, ℤ, List, ap, ap₂, sym, subst, arith, rules, to_z, of_z, FitsSigned, w64, int_wrap, ◌+ℤ◌, All, to_z-of_z, least_at, SetPlace, IsPlaceIn, places_with, lent_in, inside_both, places_inside, small_multipliers}
use Rattle.tsp_branch.specs.states.LeafRows.{shared_by}
use Rattle.tsp_branch.proofs.BoxedLeaves.{shared_is, boxed_at}
use Rattle.tsp_branch.proofs.boxed.BoxedLeaf.combed.Goals as goal

pub invariant_of-multipliers : goal.invariant_of-multipliers
invariant_of-multipliers g c =
    let leaf = c.args.self.now.leaf.now in
    let families = leaf.context.now.families.now in
    record {
      as_many = leaf.numbers.each_family ∙ families.as_many;
      small = small_multipliers _ families.crossed.items _ _ families.some leaf.numbers;
    }

pub shared_by-shared-requires : goal.shared_by-shared-requires
shared_by-shared-requires g c = λ k d lt.
    let q = c.args.self.now.leaf.now in
    let families : List (List (List ℕ)) = lent_in q.context.now.families.now in
    let places_are : c.deref-2.result.now ≡ places_with 0 families c.args.from = c.deref-2.ensures.value ∙ q.context.now.table.said c.args.from c.index-context-from.result c.requires.from.1 in
    let own = (subst (All (IsPlaceIn families)) (sym places_are) (places_inside families c.args.from)) k d lt in
    omega (arith, own.0, (q.numbers.each_family ∙ q.context.now.families.now.as_many), q.context.now.families.now.many, q.context.now.families.now.as_many)

-- plan: the base with the multipliers of the sets that have both nodes is the weight by sets (`boxed_at`), in 64 bits
pub returns : goal.returns
returns g c =
    let p = c.args.self.now in
    let q = p.leaf.now in
    let from = c.args.from in
    let to = c.args.to in
    let families : List (List (List ℕ)) = lent_in q.context.now.families.now in
    let ms : List ℤ = q.multipliers.now in
    let base_fits : FitsSigned w64 c.args.base = search rules in
    let shared_fits : FitsSigned w64 c.shared_by-shared.result = search rules in
    let fits : FitsSigned w64 c.sum_left.result = search rules in
    let others_are : c.deref.result.now ≡ places_with 0 families to = c.deref.ensures.value ∙ q.context.now.table.said to c.index-context-to.result c.requires.to.1 in
    let places_are : c.deref-2.result.now ≡ places_with 0 families from = c.deref-2.ensures.value ∙ q.context.now.table.said from c.index-context-from.result c.requires.from.1 in
    let shared : int_wrap w64 c.shared_by-shared.result ≡ int_wrap w64 (inside_both ms families (places_with 0 families from) to) =
    c.shared_by-shared.ensures ∙ ap₂ (λ (os ps : List SetPlace). int_wrap w64 (shared_by ms os ps)) others_are places_are
    ∙ ap (int_wrap w64) (shared_is ms families (places_with 0 families from) to q.context.now.families.now.once (places_inside families from)) in
    let value_is : to_z w64 (of_z w64 c.sum_left.result) ≡ int_wrap w64 (c.args.base +ℤ c.shared_by-shared.result) =
    to_z-of_z w64 c.sum_left.result fits ∙ c.sum_left.ensures
    ∙ ap₂ (λ (a b : ℤ). int_wrap w64 (a +ℤ b)) (to_z-of_z w64 c.args.base base_fits) (to_z-of_z w64 c.shared_by-shared.result shared_fits) in
    let both = boxed_at q.context.now.cases.now.scale q.potentials.now ms families
    (g.C.Costs.at q.context.now.costs.now) from to (least_at q.moved.now from)
    (least_at q.moved.now to) c.args.base q.context.now.families.now.once
    (p.exact from c.requires.from).0 (p.exact to c.requires.to).0 c.requires.base c.shared_by-shared.result (to_z w64 (of_z w64 c.sum_left.result)) c.requires.size
    (q.crossed from to c.requires.from c.requires.to) shared value_is in
    record { value = both.0; size = both.1 }
