-- The goals of `CaseLeaf::fill_combed_at` in src/leaf_rows.rt, which writes some weights of a row, whose size is
-- limited: the facts of the values that it makes, what its calls require and what it ensures.
use Rattle.tsp_branch.proofs.Prelude.{◌≡◌, ◌<◌, ℕ, ℤ, List, length, slice_index, arith, sym, subst, ◌∙◌, pos, neg_ℤ, All, ints, IsFromTo, least_at, IsMoved, SetPlace, places_with, IsPlaceIn, lent_in, inside_both, most_combed, set_weight, places_inside, small_multipliers, combed_at}
use Rattle.tsp_branch.proofs.case_leaf.CaseLeaf.fill_combed_at.Goals as goal

pub invariant_of-multiplied : goal.invariant_of-multiplied
invariant_of-multiplied g c =
    let leaf = c.args.self.now in
    record {
      as_many = leaf.numbers.each_family ∙ leaf.context.now.families.now.as_many;
      small = λ k default lt. let own = small_multipliers _ leaf.context.now.families.now.crossed.items _ _ leaf.context.now.families.now.some leaf.numbers k default lt in
          (omega (arith, ints, own.0), own.1);
    }

pub add_sets-requires-clause-places : goal.add_sets-requires-clause-places
add_sets-requires-clause-places g c =
    let p = c.args.self.now in
    let families : List (List (List ℕ)) = lent_in p.context.now.families.now in
    let places_are : c.deref.result.now ≡ places_with 0 families c.args.from = c.deref.ensures.value ∙ p.context.now.table.said c.args.from c.index-self-from.result c.requires.from.1 in
    subst (All (IsPlaceIn families)) (sym places_are) (places_inside families c.args.from)

-- plan: the entries without sets of two nodes, moved by the multipliers of the sets that have both, are those by sets
-- (`combed_at`)
pub returns : goal.returns
returns g c =
    let p = c.args.self.now in
    let from : ℕ = c.args.from in
    let families : List (List (List ℕ)) = lent_in p.context.now.families.now in
    let multipliers : List ℤ = p.multipliers.now in
    let cost = g.C.Costs.at p.context.now.costs.now in
    let old : List ℤ = c.fill_apart_at.new.row in
    let row : List ℤ = c.add_sets.new.row in
    let places_are : c.deref.result.now ≡ places_with 0 families from = c.deref.ensures.value ∙ p.context.now.table.said from c.index-self-from.result c.requires.from.1 in
    let gained : (x : ℕ) → IsMoved (inside_both multipliers families (places_with 0 families from) x) (least_at old x) (least_at row x) = λ x.
    subst (λ (ps : List SetPlace). IsMoved (inside_both multipliers families ps x) (least_at old x) (least_at row x)) places_are (c.add_sets.ensures x) in
    let node : ℕ → ℕ = slice_index c.args.to.now in
    let both : (k : ℕ) → k < length c.args.to.now
    → (least_at row (node k) ≡ set_weight p.context.now.cases.now.scale p.potentials.now multipliers families cost from
    (node k)) × IsFromTo (neg_ℤ (pos most_combed)) (pos most_combed) (least_at row (node k)) = λ k h.
    combed_at p.context.now.cases.now.scale p.potentials.now multipliers families cost from (node k) (least_at old (node k)) (least_at row (node k)) p.context.now.families.now.once
    (p.crossed from (node k) c.requires.from (c.requires.to k h)) (c.fill_apart_at.ensures k h) (gained (node k)) in
    record {
      values = λ k h. (both k h).0;
      sizes = λ k h. (both k h).1;
    }
