-- The goals of `LeafWeights::fill_row` in src/leaf_weights.rt, which writes the weights between a node and each node
-- into a row: what its calls require and what it ensures.
use Rattle.tsp_routing.proofs.Prelude.{◌≡◌, ℕ, ℤ, List, sym, subst, ◌∙◌, pos, neg_ℤ, All, IsNode, IsFromTo, least_at, IsMoved, places_with, IsPlaceIn, lent_in, inside_both, set_weight, places_inside}
use Rattle.tsp_cases.specs.declared.sets.SetPlace.{SetPlace}
use Rattle.tsp_routing.specs.PlanBounds.{most_link}
use Rattle.tsp_routing.proofs.RouteProducts.{signed_at}
use Rattle.tsp_routing.proofs.leaf_weights.LeafWeights.fill_row.Goals as goal

-- plan: a row without sets of two nodes, and what these add, are the weights, whose remainders in 64 bits are
-- themselves
pub add_sets-requires-clause-places : goal.add_sets-requires-clause-places
add_sets-requires-clause-places g c =
    let p = c.args.self.now in
    let families : List (List (List ℕ)) = lent_in p.families.now in
    let places_are : c.deref.result.now ≡ places_with 0 families c.args.from = c.deref.ensures.value ∙ p.table.said c.args.from c.index-self-from.result c.requires.from.1 in
    subst (All (IsPlaceIn families)) (sym places_are) (places_inside families c.args.from)

pub returns : goal.returns
returns g c =
    let p = c.args.self.now in
    let from : ℕ = c.args.from in
    let families : List (List (List ℕ)) = lent_in p.families.now in
    let multipliers : List ℤ = p.multipliers.now in
    let cost = g.C.Costs.at p.costs.now in
    let old : List ℤ = c.fill_apart.new.row in
    let row : List ℤ = c.add_sets.new.row in
    let places_are : c.deref.result.now ≡ places_with 0 families from = c.deref.ensures.value ∙ p.table.said from c.index-self-from.result c.requires.from.1 in
    let gained : (x : ℕ) → IsMoved (inside_both multipliers families (places_with 0 families from) x) (least_at old x) (least_at row x) = λ x.
    subst (λ (ps : List SetPlace). IsMoved (inside_both multipliers families ps x) (least_at old x) (least_at row x)) places_are (c.add_sets.ensures x) in
    let both : (x : ℕ) → IsNode (g.C.Costs.nodes p.costs.now) x
    → (least_at row x ≡ set_weight p.scale p.potentials.now multipliers families cost from x) × IsFromTo (neg_ℤ (pos most_link)) (pos most_link) (least_at row x) = λ x h.
    signed_at p.scale p.potentials.now multipliers families cost from x (least_at old x) (least_at row x) p.families.now.once (p.crossed from x c.requires.from h)
    (c.fill_apart.ensures.values x h, c.fill_apart.ensures.sizes x h) (gained x) in
    record {
      values = λ x h. (both x h).0;
      sizes = λ x h. (both x h).1;
    }
