-- The goals of `shared_by` in src/boxed.rt, which sums the multipliers of the sets that have both nodes: its loop
-- and what it ensures.
use Rattle.tsp_branch.proofs.Prelude.{◌≡◌, ◌≤◌, ◌+◌, ◌∙◌, ℤ, List, length, drop, get_or, ap, sym, arith, rules, to_z, of_z, FitsSigned, w64, int_wrap, pos, ◌+ℤ◌, ◌*ℤ◌, if◌then◌else◌, ints, to_z-of_z, int_wrap-add_left, drop_all, SetPlace, place_at}
use Rattle.tsp_branch.specs.states.LeafRows.{has_place, shared_by}
use Rattle.tsp_branch.proofs.BoxedLeaves.{shared_left}
use Rattle.tsp_branch.proofs.boxed.shared_by.Goals as goal
use Rattle.tsp_branch.proofs.boxed.shared_by.Goals.{then-has_place, else-has_place}

pub places-init : goal.places-init
places-init c = ap (int_wrap w64) (omega (arith, ints))

-- plan: one place more is in both lists, and adds its multiplier twice, or isn't (`shared_left`)
pub places-preserved : goal.places-preserved
places-preserved c =
    let ns : List ℤ = c.args.multipliers.now.numbers.now in
    let os : List SetPlace = c.args.others.now in
    let ps : List SetPlace = c.args.places.now in
    let index = c.places.place-index in
    let place : SetPlace = get_or ps index (place_at 0 0) in
    let z : ℤ = pos 2 *ℤ get_or ns place.family (pos 0) in
    let rest : ℤ = shared_by ns os (drop (index + 1) ps) in
    let sum : ℤ = to_z w64 c.places.sum-bits in
    let left = shared_left ns os ps index (place_at 0 0) c.places-test.true in
    let own = c.args.multipliers.now.small place.family (pos 0) (c.requires index (place_at 0 0) c.places-test.true) in
    elim c.if-has_place.branch [
      | then-has_place u ↦
          let more : shared_by ns os (drop index ps) ≡ z +ℤ rest = left ∙ ap (λ b. (if b then z else pos 0) +ℤ rest) (sym c.has_place.ensures ∙ u.if-has_place.true) in
          let fits : FitsSigned w64 u.sum_left-sum.result = search rules in
          let twice : to_z w64 (of_z w64 (pos 2 *ℤ to_z w64 (of_z w64 (get_or ns place.family (pos 0))))) ≡ z = omega (arith, ints, own.0, own.1) in
          let new_is : to_z w64 (of_z w64 u.sum_left-sum.result) ≡ int_wrap w64 (sum +ℤ z) =
          to_z-of_z w64 u.sum_left-sum.result fits ∙ u.sum_left-sum.ensures ∙ ap (λ y. int_wrap w64 (sum +ℤ y)) twice in
          rw u.sum-is (ap (λ s. int_wrap w64 (s +ℤ rest)) new_is ∙ int_wrap-add_left w64 (sum +ℤ z) rest
          ∙ ap (int_wrap w64) (let e : (sum +ℤ z) +ℤ rest ≡ sum +ℤ shared_by ns os (drop index ps) = omega (arith, ints, more) in e) ∙ c.places.invariant)
      | else-has_place u ↦
          let more : shared_by ns os (drop index ps) ≡ pos 0 +ℤ rest = left ∙ ap (λ b. (if b then z else pos 0) +ℤ rest) (sym c.has_place.ensures ∙ u.if-has_place.false) in
          rw u.sum-is (ap (int_wrap w64) (let e : sum +ℤ rest ≡ sum +ℤ shared_by ns os (drop index ps) = omega (arith, ints, more) in e) ∙ c.places.invariant)
    ]

pub returns : goal.returns
returns c =
    let past : length c.args.places.now ≤ c.places.place-index = omega (arith, c.places-test.false) in
    let none : shared_by c.args.multipliers.now.numbers.now c.args.others.now (drop c.places.place-index c.args.places.now) ≡ pos 0 =
    ap (shared_by c.args.multipliers.now.numbers.now c.args.others.now) (drop_all c.places.place-index c.args.places.now past) in
    ap (int_wrap w64) (let e : to_z w64 c.places.sum-bits ≡ to_z w64 c.places.sum-bits
    +ℤ shared_by c.args.multipliers.now.numbers.now c.args.others.now (drop c.places.place-index c.args.places.now) = omega (arith, ints, none) in e)
    ∙ c.places.invariant
