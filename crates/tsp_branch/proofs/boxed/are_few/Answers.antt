-- The goals of `are_few` in src/boxed.rt, which tests whether multipliers are few enough for boxes: that no sum
-- overflows and its loop.
use Rattle.tsp_branch.proofs.Prelude.{◌≡◌, ◌∙◌, ◌+◌, ℤ, List, drop, get_or, refl, ap, arith, to_z, of_z, drop-cons, add-one, w64, pos, ◌+ℤ◌, ints, SetPlace, place_at}
use Rattle.tsp_branch.specs.states.LeafRows.{sum_at_places}
use Rattle.tsp_branch.proofs.boxed.are_few.Goals as goal

pub overflow_add-sum : goal.overflow_add-sum
overflow_add-sum c =
    let place : SetPlace = get_or c.args.places.now c.places.place-index (place_at 0 0) in
    let own = c.args.multipliers.now.small place.family (pos 0) (c.requires c.places.place-index (place_at 0 0) c.places-test.true) in
    let size = c.places.invariant.size in
    omega (arith, ints, own.0, own.1, size.0, size.1)

-- plan: the multiplier of one set more is added, and the sum fits 64 bits, as it is at most 3 * 10^18 before
pub places-preserved : goal.places-preserved
places-preserved c =
    let ns : List ℤ = c.args.multipliers.now.numbers.now in
    let ps : List SetPlace = c.args.places.now in
    let index = c.places.place-index in
    let place : SetPlace = get_or ps index (place_at 0 0) in
    let number : ℤ = get_or ns place.family (pos 0) in
    let sum : ℤ = to_z w64 c.places.sum-bits in
    let own = c.args.multipliers.now.small place.family (pos 0) (c.requires index (place_at 0 0) c.places-test.true) in
    let size = c.places.invariant.size in
    let value : ℤ = to_z w64 (of_z w64 (sum +ℤ to_z w64 (of_z w64 number))) in
    let is : value ≡ sum +ℤ number = omega (arith, ints, own.0, own.1, size.0, size.1) in
    let parts : sum_at_places ns (drop index ps) ≡ number +ℤ sum_at_places ns (drop (index + 1) ps) =
    ap (sum_at_places ns) (drop-cons ps index (place_at 0 0) c.places-test.true) ∙ rw (add-one index) refl in
    record {
      sum = omega (arith, ints, is, parts, c.places.invariant.sum);
      size = (omega (arith, ints, is, own.0, size.0), omega (arith, ints, c.if-sum-gt-MOST_TAKEN.false));
    }
