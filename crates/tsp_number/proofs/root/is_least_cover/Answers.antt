-- The goals of `is_least_cover` in src/root.rt, which says whether a number is certainly the root, rounded up: what it
-- ensures.
use Rattle.std.proofs.Common.{◌≡◌, ◌+◌, ◌*◌, ◌-◌, ◌<◌, ◌≤◌, ◌%◌, ◌^◌, ℕ, arith, ◌∙◌, ap}
use Rattle.tsp_number.proofs.RoundedRoots.{up_cover, tenth_cover}
use Rattle.tsp_number.proofs.root.is_least_cover.Goals as goal

-- a step less than a number above 0, as 64 bits count it
one_less : (n step : ℕ) → step ≤ n → n < 2 ^ 64 → 0 < step → (n + (2 ^ 64 - step)) % 2 ^ 64 ≡ n - step
one_less n step within small some =
    let sum : n + (2 ^ 64 - step) ≡ n - step + 2 ^ 64 = omega arith in
    omega arith

pub returns-then-square-high : goal.returns-then-square-high
returns-then-square-high c =
    let count = c.from-count.ensures in
    let whole = c.ranges.whole.fits in
    let steps : 0 < c.args.whole → c.from-then-square-high.result ≡ 2 * c.args.whole - 1 = λ some.
    c.from-then-square-high.ensures ∙ ap (λ n. (2 * n + (2 ^ 64 - 1)) % 2 ^ 64) count ∙ one_less (2 * c.args.whole) 1 (omega arith) (omega arith) (omega arith) in
    rw c.in-Up.is (up_cover _ _ _ _ (rw count at c.from-edge-in-Up.ensures) c.if-square-high.true steps)

-- plan: by the rounding: the number covers the square, and the number before it doesn't (`up_cover`, `tenth_cover`),
-- computed in 64 bits (`one_less`)
pub returns-then-square-high-2 : goal.returns-then-square-high-2
returns-then-square-high-2 c =
    let count = c.from-count.ensures in
    let whole = c.ranges.whole.fits in
    let steps : 0 < c.args.whole → c.from-then-square-high-2.result ≡ 20 * c.args.whole - 10 = λ some.
    c.from-then-square-high-2.ensures ∙ ap (λ n. (20 * n + (2 ^ 64 - 10)) % 2 ^ 64) count ∙ one_less (20 * c.args.whole) 10 (omega arith) (omega arith) (omega arith) in
    rw c.in-TenthUp.is
    (tenth_cover _ _ _ _ _ (rw count at c.from-in-TenthUp.ensures) (rw count at c.from-in-TenthUp-2.ensures) c.if-square-high-2.true steps)
