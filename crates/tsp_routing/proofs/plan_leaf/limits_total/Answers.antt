-- The goals of `limits_total` in src/plan_leaf.rt, which sums what the multipliers of all sets give back: that no sum
-- overflows, and its loop.
use Rattle.tsp_routing.proofs.Prelude.{◌≡◌, ◌∙◌, ◌+◌, ◌-◌, ◌*◌, ◌^◌, ◌<◌, ℕ, ℤ, List, drop, length, get_or, ap, ap₂, subst, arith, rules, to_z, of_z, FitsSigned, pos, neg_ℤ, unsigned_abs, ◌+ℤ◌, w64, w128, ints, to_z-of_z, fits_signed_from_abs, IsFromTo, size_of, Crossings, Decision, decisions_in}
use Rattle.tsp_routing.specs.PlanBounds.{low_of, high_of, least_times}
use Rattle.tsp_routing.specs.states.LeafWeights.{numbers_total}
use Rattle.tsp_routing.proofs.RouteProducts.{sizes_low, sizes_left, numbers_left}
use Rattle.tsp_routing.proofs.plan_leaf.limits_total.Goals as goal

-- plan: what the families so far give back, and what those left do, is the sum of all; sizes of multipliers bound it
abbrev zero_crossed : Crossings
zero_crossed = record { least = 0; most = 0 }

abbrev next : (c : goal.After-given_by-sum) → ℤ
next c = get_or c.args.multipliers.now c.families.index (pos 0)

own_size : (c : goal.After-given_by-sum)
    → IsFromTo (neg_ℤ (pos (unsigned_abs (next c) * 2 ^ 33))) (pos (unsigned_abs (next c) * 2 ^ 33)) c.given_by-sum.result
own_size c =
    let fits : FitsSigned w64 (get_or c.args.multipliers.now c.families.index (pos 0)) = search rules in
    subst (λ (z : ℤ). IsFromTo (neg_ℤ (pos (unsigned_abs z * 2 ^ 33))) (pos (unsigned_abs z * 2 ^ 33)) c.given_by-sum.result)
    (to_z-of_z w64 (next c) fits) c.given_by-sum.ensures.size

sum_size : (c : goal.After-given_by-sum)
    → IsFromTo (neg_ℤ (pos (2 ^ 92))) (pos (2 ^ 92)) (to_z w128 c.families.sum-bits +ℤ c.given_by-sum.result)
sum_size c =
    let size = own_size c in
    let left = sizes_left c.args.multipliers.now c.families.index (pos 0) c.families-test.true in
    let low = sizes_low (drop (c.families.index + 1) c.args.multipliers.now) in
    let h = c.families.invariant in
    (omega (arith, ints, size.0, left, low, h.low, h.high, c.requires.sizes), omega (arith, ints, size.1, left, low, h.low, h.high, c.requires.sizes))

computed : (c : goal.After-given_by-sum)
    → to_z w128 (of_z w128 (to_z w128 c.families.sum-bits +ℤ to_z w128 (of_z w128 c.given_by-sum.result)))
    ≡ to_z w128 c.families.sum-bits +ℤ c.given_by-sum.result
computed c =
    let whole : FitsSigned w128 c.given_by-sum.result = search rules in
    let size = sum_size c in
    ap (λ z. to_z w128 (of_z w128 (to_z w128 c.families.sum-bits +ℤ z))) (to_z-of_z w128 c.given_by-sum.result whole)
    ∙ to_z-of_z w128 (to_z w128 c.families.sum-bits +ℤ c.given_by-sum.result)
    (fits_signed_from_abs w128 (to_z w128 c.families.sum-bits +ℤ c.given_by-sum.result)
    (let less = size_of (2 ^ 92) (to_z w128 c.families.sum-bits +ℤ c.given_by-sum.result) size in omega (arith, less)))

pub overflow_add-sum : goal.overflow_add-sum
overflow_add-sum c =
    let whole : FitsSigned w128 c.given_by-sum.result = search rules in
    let size = sum_size c in
    rw (to_z-of_z w128 c.given_by-sum.result whole)
    (fits_signed_from_abs w128 (to_z w128 c.families.sum-bits +ℤ c.given_by-sum.result)
    (let less = size_of (2 ^ 92) (to_z w128 c.families.sum-bits +ℤ c.given_by-sum.result) size in omega (arith, less)))

pub families-preserved : goal.families-preserved
families-preserved c =
    let case : List Decision = decisions_in c.args.case.now in
    let nodes : ℕ = c.args.nodes in
    let crossed : List Crossings = c.args.crossed.now in
    let ms : List ℤ = c.args.multipliers.now in
    let index : ℕ = c.families.index in
    let place : ℕ = nodes + 1 + index in
    let fits : FitsSigned w64 (get_or c.args.multipliers.now c.families.index (pos 0)) = search rules in
    let inside : index < length crossed = omega (arith, c.families-test.true, c.requires.as_many) in
    let value : c.given_by-sum.result ≡ least_times (low_of place case (get_or crossed index zero_crossed).least)
    (high_of place case (2 * (nodes - 1))) (get_or ms index (pos 0)) = c.given_by-sum.ensures.value
    ∙ ap₂ (λ (k : ℕ) z. least_times (low_of place case (get_or crossed index zero_crossed).least) (high_of place case (2 * k)) z)
    c.from.ensures (to_z-of_z w64 (get_or ms index (pos 0)) fits) in
    let parts = numbers_left case (2 * (nodes - 1)) place crossed ms index zero_crossed (pos 0) inside c.families-test.true in
    let on : place + 1 ≡ nodes + 1 + (index + 1) = omega arith in
    let rest = ap (λ (k : ℕ). numbers_total case (2 * (nodes - 1)) k (drop (index + 1) crossed) (drop (index + 1) ms)) on in
    let left = sizes_left ms index (pos 0) c.families-test.true in
    let size = own_size c in
    let h = c.families.invariant in
    rw (computed c) (record {
      low = omega (arith, ints, size.0, left, h.low);
      high = omega (arith, ints, size.1, left, h.high);
      so_far = omega (arith, ints, value, parts, rest, h.so_far);
    })
