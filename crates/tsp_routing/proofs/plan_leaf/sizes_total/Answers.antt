-- The goals of `sizes_total` in src/plan_leaf.rt, which sums the sizes of multipliers: that no sum overflows, and its
-- loop.
use Rattle.tsp_routing.proofs.Prelude.{◌≡◌, ◌∙◌, ◌^◌, ◌<◌, ℕ, ℤ, List, get_or, ap, arith, rules, to_z, FitsSigned, pos, nat_abs, unsigned_abs, w64, w128, ints, to_z-of_z}
use Rattle.tsp_routing.proofs.RouteProducts.{sizes_left, size_more}
use Rattle.tsp_routing.proofs.plan_leaf.sizes_total.Goals as goal

-- plan: one size more, which fits 128 bits (`size_more`)
abbrev next : (c : goal.After-from-sum) → ℤ
next c = get_or c.args.multipliers.now c.multipliers.multiplier-index (pos 0)

size_is : (c : goal.After-from-sum) → c.from-sum.result ≡ pos (unsigned_abs (next c))
size_is c =
    let fits : FitsSigned w64 (get_or c.args.multipliers.now c.multipliers.multiplier-index (pos 0)) = search rules in
    c.from-sum.ensures ∙ ap (λ (n : ℕ). pos n) (c.unsigned_abs.ensures.value ∙ ap nat_abs (to_z-of_z w64 (next c) fits))

pub overflow_add-sum : goal.overflow_add-sum
overflow_add-sum c =
    let few : c.multipliers.multiplier-index < 2 ^ 64 = omega arith in
    (size_more (to_z w128 c.multipliers.sum-bits) (next c) c.from-sum.result c.multipliers.multiplier-index few c.multipliers.invariant.size
    (c.requires c.multipliers.multiplier-index (pos 0) c.multipliers-test.true) (size_is c)).fits

pub multipliers-preserved : goal.multipliers-preserved
multipliers-preserved c =
    let ms : List ℤ = c.args.multipliers.now in
    let index : ℕ = c.multipliers.multiplier-index in
    let few : index < 2 ^ 64 = omega arith in
    let more = size_more (to_z w128 c.multipliers.sum-bits) (next c) c.from-sum.result index few c.multipliers.invariant.size
    (c.requires index (pos 0) c.multipliers-test.true) (size_is c) in
    let left = sizes_left ms index (pos 0) c.multipliers-test.true in
    let before = c.multipliers.invariant.so_far in
    rw more.is (record { size = more.size; so_far = omega (arith, ints, left, before) })
