-- The goals of `has_place` in src/boxed.rt, which tests whether a list has the place of a set: its loop and what it
-- ensures.
use Rattle.tsp_branch.proofs.Prelude.{◌≤◌, ◌+◌, ◌||◌, List, length, drop, ap, sym, ◌∙◌, arith, drop_all, SetPlace, place_at}
use Rattle.tsp_branch.specs.states.LeafRows.{has_place}
use Rattle.tsp_branch.proofs.BoxedLeaves.{has_left}
use Rattle.tsp_branch.proofs.boxed.has_place.Goals as goal

-- plan: by whether the place is the next one of the list, or among those behind it (`has_left`)
pub places-preserved : goal.places-preserved
places-preserved c =
    let left = has_left c.args.places.now c.places.other-index c.args.place (place_at 0 0) c.places-test.true in
    sym (left ∙ ap (λ b. b || has_place (drop (c.places.other-index + 1) c.args.places.now) c.args.place) (sym c.is_same_place.ensures ∙ c.if-is_same_place.false)) ∙ c.places.invariant

pub returns-then-is_same_place : goal.returns-then-is_same_place
returns-then-is_same_place c =
    let left = has_left c.args.places.now c.places.other-index c.args.place (place_at 0 0) c.places-test.true in
    sym (sym c.places.invariant ∙ left ∙ ap (λ b. b || has_place (drop (c.places.other-index + 1) c.args.places.now) c.args.place) (sym c.is_same_place.ensures ∙ c.if-is_same_place.true))

pub returns : goal.returns
returns c =
    let past : length c.args.places.now ≤ c.places.other-index = omega (arith, c.places-test.false) in
    sym (sym c.places.invariant ∙ ap (λ (ps : List SetPlace). has_place ps c.args.place) (drop_all c.places.other-index c.args.places.now past))
