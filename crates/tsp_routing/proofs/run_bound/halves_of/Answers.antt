-- The goals of `halves_of` in src/run_bound.rt, which sums what rows give back: that no sum overflows, and its loop.
use Rattle.tsp_routing.proofs.Prelude.{◌≡◌, ◌∙◌, ◌+◌, ◌*◌, ◌^◌, ◌<◌, ℕ, ℤ, List, drop, map, length, get_or, ap, ap₂, subst, arith, rules, to_z, of_z, FitsSigned, pos, neg_ℤ, unsigned_abs, ◌+ℤ◌, ◌*ℤ◌, w64, w128, ints, to_z-of_z, fits_signed_from_abs, length-map, IsFromTo, size_of}
use Rattle.tsp_routing.specs.Runs.{half}
use Rattle.tsp_format.specs.Steps.{SubsetRow}
use Rattle.tsp_format.specs.declared.steps.RowSets.{RowSets}
use Rattle.tsp_format.specs.states.TreeSteps.{subset_row_of}
use Rattle.tsp_routing.proofs.RouteProducts.{sizes_low, sizes_left}
use Rattle.tsp_routing.proofs.LeastRuns.{no_row, half_at, halves_left}
use Rattle.tsp_routing.proofs.run_bound.halves_of.Goals as goal

-- plan: what the rows so far give back, and what those left do, is the sum of all; sizes of charges bound it
abbrev next : (c : goal.After-times_given_back-sum) → ℤ
next c = get_or c.args.charges.now c.rows.index (pos 0)

own_size : (c : goal.After-times_given_back-sum)
    → IsFromTo (neg_ℤ (pos (unsigned_abs (next c) * 2 ^ 33))) (pos (unsigned_abs (next c) * 2 ^ 33)) c.times_given_back-sum.result
own_size c =
    let fits : FitsSigned w64 (get_or c.args.charges.now c.rows.index (pos 0)) = search rules in
    subst (λ (z : ℤ). IsFromTo (neg_ℤ (pos (unsigned_abs z * 2 ^ 33))) (pos (unsigned_abs z * 2 ^ 33)) c.times_given_back-sum.result)
    (to_z-of_z w64 (next c) fits) c.times_given_back-sum.ensures.size

sum_size : (c : goal.After-times_given_back-sum)
    → IsFromTo (neg_ℤ (pos (2 ^ 92))) (pos (2 ^ 92)) (to_z w128 c.rows.sum-bits +ℤ c.times_given_back-sum.result)
sum_size c =
    let size = own_size c in
    let left = sizes_left c.args.charges.now c.rows.index (pos 0) c.rows-test.true in
    let low = sizes_low (drop (c.rows.index + 1) c.args.charges.now) in
    let h = c.rows.invariant in
    (omega (arith, ints, size.0, left, low, h.low, h.high, c.requires.sizes), omega (arith, ints, size.1, left, low, h.low, h.high, c.requires.sizes))

computed : (c : goal.After-times_given_back-sum)
    → to_z w128 (of_z w128 (to_z w128 c.rows.sum-bits +ℤ to_z w128 (of_z w128 c.times_given_back-sum.result)))
    ≡ to_z w128 c.rows.sum-bits +ℤ c.times_given_back-sum.result
computed c =
    let whole : FitsSigned w128 c.times_given_back-sum.result = search rules in
    let size = sum_size c in
    ap (λ z. to_z w128 (of_z w128 (to_z w128 c.rows.sum-bits +ℤ z))) (to_z-of_z w128 c.times_given_back-sum.result whole)
    ∙ to_z-of_z w128 (to_z w128 c.rows.sum-bits +ℤ c.times_given_back-sum.result)
    (fits_signed_from_abs w128 (to_z w128 c.rows.sum-bits +ℤ c.times_given_back-sum.result)
    (let less = size_of (2 ^ 92) (to_z w128 c.rows.sum-bits +ℤ c.times_given_back-sum.result) size in omega (arith, less)))

pub overflow_add-sum : goal.overflow_add-sum
overflow_add-sum c =
    let whole : FitsSigned w128 c.times_given_back-sum.result = search rules in
    let size = sum_size c in
    rw (to_z-of_z w128 c.times_given_back-sum.result whole)
    (fits_signed_from_abs w128 (to_z w128 c.rows.sum-bits +ℤ c.times_given_back-sum.result)
    (let less = size_of (2 ^ 92) (to_z w128 c.rows.sum-bits +ℤ c.times_given_back-sum.result) size in omega (arith, less)))

pub rows-preserved : goal.rows-preserved
rows-preserved c =
    let rows : List RowSets = c.args.rows.now in
    let sets : List SubsetRow = map subset_row_of rows in
    let charges : List ℤ = c.args.charges.now in
    let index : ℕ = c.rows.index in
    let fits : FitsSigned w64 (get_or c.args.charges.now c.rows.index (pos 0)) = search rules in
    let inside : index < length rows = omega (arith, c.rows-test.true, c.requires.many) in
    let long = length-map rows subset_row_of in
    let count = half_at c.half_of.result rows index inside c.half_of.ensures.value in
    let value : c.times_given_back-sum.result ≡ pos (half (get_or sets index no_row)) *ℤ get_or charges index (pos 0) =
    c.times_given_back-sum.ensures.value ∙ ap₂ (λ (k : ℕ) (z : ℤ). pos k *ℤ z) count (to_z-of_z w64 (get_or charges index (pos 0)) fits) in
    let parts = halves_left sets charges index (omega (arith, inside, long)) c.rows-test.true in
    let left = sizes_left charges index (pos 0) c.rows-test.true in
    let size = own_size c in
    let h = c.rows.invariant in
    rw (computed c) (record {
      low = omega (arith, ints, size.0, left, h.low);
      high = omega (arith, ints, size.1, left, h.high);
      so_far = omega (arith, ints, value, parts, h.so_far);
    })
