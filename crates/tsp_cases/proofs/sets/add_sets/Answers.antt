-- The goals of `add_sets` in src/sets.rt, which adds the multipliers of a node's sets to its row: its loop and what
-- it ensures.
use Rattle.tsp_cases.proofs.Prelude.{◌≡◌, ◌≤◌, ◌<◌, ℕ, ℤ, List, length, get_or, refl, ap, subst, inl, ◌∙◌, arith, to_z, of_z, w64, pos, ◌*ℤ◌, ints, drop_all, least_at, IsMoved, moved_on}
use Rattle.tsp_cases.specs.declared.sets.SetPlace.{SetPlace}
use Rattle.tsp_cases.specs.states.Sets.{added, place_at, lent_in, twice_in, inside_both}
use Rattle.tsp_cases.proofs.SetSums.{inside_left}
use Rattle.tsp_cases.proofs.sets.add_sets.Goals as goal

-- plan: one set more that has the node adds twice its multiplier to the entries of its nodes (`inside_left`)
pub places-preserved : goal.places-preserved
places-preserved c = λ x last rest.
    let families : List (List (List ℕ)) = lent_in c.args.multiplied.now.families.now in
    let multipliers : List ℤ = c.args.multiplied.now.numbers.now in
    let nodes : List ℕ = c.set_at-nodes.result.now in
    let place : SetPlace = get_or c.args.places.now c.places.place-index (place_at 0 0) in
    let inside = c.requires.places c.places.place-index (place_at 0 0) c.places-test.true in
    let of_lists = c.args.multiplied.now.families.now.many in
    let of_lent = c.args.multiplied.now.families.now.as_many in
    let family_in : place.family < length multipliers = omega (arith, inside.0, of_lists, of_lent, c.args.multiplied.now.as_many) in
    let multiplier : ℤ = get_or multipliers place.family (pos 0) in
    let own = c.args.multiplied.now.small place.family (pos 0) family_in in
    let twice : to_z w64 (of_z w64 (pos 2 *ℤ multiplier)) ≡ pos 2 *ℤ multiplier = omega (arith, ints, own.0, own.1) in
    let whole : to_z w64 (of_z w64 multiplier) ≡ multiplier = omega (arith, ints, own.0, own.1) in
    let same : added (to_z w64 (of_z w64 (pos 2 *ℤ to_z w64 (of_z w64 multiplier)))) nodes x ≡ twice_in multipliers families place x =
    ap (λ (z : ℤ). added (to_z w64 (of_z w64 (pos 2 *ℤ z))) nodes x) whole ∙ ap (λ (z : ℤ). added z nodes x) twice
    ∙ ap (λ (ns : List ℕ). added (pos 2 *ℤ multiplier) ns x) c.set_at-nodes.ensures.set in
    let step : IsMoved (twice_in multipliers families place x) (least_at c.places.row x) (least_at c.add_to_nodes.new.row x) =
    subst (λ (z : ℤ). IsMoved z (least_at c.places.row x) (least_at c.add_to_nodes.new.row x)) same (c.add_to_nodes.ensures x) in
    c.places.invariant x last (rw (inside_left multipliers families c.args.places.now c.places.place-index x (place_at 0 0) c.places-test.true) (moved_on _ _ _ _ _ step rest))

pub returns : goal.returns
returns c = λ x.
    let past : length c.args.places.now ≤ c.places.place-index = omega (arith, c.places-test.false) in
    c.places.invariant x (least_at c.places.row x)
    (inl (refl, ap (λ ps. inside_both c.args.multiplied.now.numbers.now (lent_in c.args.multiplied.now.families.now) ps x) (drop_all c.places.place-index c.args.places.now past)))
