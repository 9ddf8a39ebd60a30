-- The shortcut of src/metric.rt for EUC_2D: if both differences are whole numbers of 512ths, the sum of their squares
-- fits 64 bits and decides the rounding.
use Rattle.tsp_cost.proofs.Prelude.{◌≡◌, ℕ, ◌+◌, ◌*◌, ◌-◌, ◌<◌, ◌≤◌, ◌^◌, ℤ, pos, negsuc, ◌*ℤ◌, ◌-ℤ◌, unsigned_abs, FitsSigned, to_z, of_z, w64, sym, ap, ◌∙◌, Option, None, Some, rules, arith, IfSome, to_z-of_z, unsigned_abs-mul, Point}
use Rattle.tsp_number.specs.Decimal.{unit}
use Rattle.tsp_number.specs.Distances.{squared, dx, dy, square_apart, euc_2d_of, IsEuc2d, IsNearestRoot, IsDistance}
use Rattle.tsp_cost.specs.states.Metrics.{RoundsTo}

-- the sum of both squares, in counts of 10^-9
square_is : (w h : ℕ) → squared (w * 1953125) + squared (h * 1953125) ≡ (squared w + squared h) * 3814697265625
square_is w h = omega arith

half_above : (square root : ℕ) → square < 65536 * squared (2 * root + 1)
    → 4 * (square * 3814697265625) < squared ((2 * root + 1) * unit)
half_above square root below =
    let sides : squared ((2 * root + 1) * unit) ≡ squared (2 * root + 1) * (unit * unit) = omega arith in
    omega (arith, sides, below)

half_below : (square root : ℕ) → 65536 * squared (2 * root - 1) ≤ square
    → squared ((2 * root - 1) * unit) ≤ 4 * (square * 3814697265625)
half_below square root from =
    let sides : squared ((2 * root - 1) * unit) ≡ squared (2 * root - 1) * (unit * unit) = omega arith in
    omega (arith, sides, from)

nearest : (square root : ℕ) → RoundsTo square root → IsNearestRoot (square * 3814697265625) root
nearest square root is = record {
  below_next_half = half_above square root is.below;
  from_last_half = λ some. half_below square root (is.from some);
}

few_fit : (steps : ℤ) → unsigned_abs steps ≤ 2 ^ 30 → FitsSigned w64 steps
few_fit (pos n) few = search rules
few_fit (negsuc n) few = search rules

pub coarse_is : IsDistance IsEuc2d euc_2d_of → (a b : Point) (w h : ℤ) (root : Option ℕ)
    → (w *ℤ pos 1953125 ≡ a.x -ℤ b.x) × (unsigned_abs w ≤ 2 ^ 30) → (h *ℤ pos 1953125 ≡ a.y -ℤ b.y) × (unsigned_abs h ≤ 2 ^ 30)
    → IfSome root (λ k. RoundsTo (squared (unsigned_abs (to_z w64 (of_z w64 w))) + squared (unsigned_abs (to_z w64 (of_z w64 h)))) k)
    → IfSome root (λ k. k ≡ euc_2d_of a b)
coarse_is law a b w h None wide high is = tt
coarse_is law a b w h (Some k) wide high is =
    let first : dx a b ≡ unsigned_abs w * 1953125 = ap unsigned_abs (sym wide.0) ∙ unsigned_abs-mul w (pos 1953125) in
    let second : dy a b ≡ unsigned_abs h * 1953125 = ap unsigned_abs (sym high.0) ∙ unsigned_abs-mul h (pos 1953125) in
    let apart : square_apart a b ≡ (squared (unsigned_abs w) + squared (unsigned_abs h)) * 3814697265625 =
    rw (first, second) (square_is (unsigned_abs w) (unsigned_abs h)) in
    let rounds : RoundsTo (squared (unsigned_abs w) + squared (unsigned_abs h)) k =
    rw (to_z-of_z w64 w (few_fit w wide.1), to_z-of_z w64 h (few_fit h high.1)) at is in
    law.unique a b k (rw apart (nearest (squared (unsigned_abs w) + squared (unsigned_abs h)) k rounds))
