-- For src/distance.rt: a rounded root is the one number that covers its square, and so each distance is the one number
-- with its inequalities.
use Rattle.tsp_number.proofs.Prelude.{◌≡◌, ℕ, ◌+◌, ◌*◌, ◌-◌, ◌<◌, ◌≤◌, ◌^◌, ℤ, pos, negsuc, ◌*ℤ◌, ◌-ℤ◌, unsigned_abs, w64, Bool, true, false, nat_lt, zero, suc, refl, inl, inr, ap, ◌∙◌, FitsSigned, to_z, of_z, rules, arith, neg_ℤ, ◌+ℤ◌, ◌≤ℤ◌, nat_le, if◌then◌else◌, max, sym, cases_lt, nat_tests, to_z-of_z, ints, mul-le, w128}
use Rattle.std.specs.Bool.{OnTrue}
use Rattle.tsp_number.specs.Decimal.{unit, most_count}
use Rattle.tsp_number.specs.Distances.{squared, dx, dy, dz, square_apart, square_apart_in_space, IsEuc2d, IsEuc3d, IsCeil2d, IsAtt, IsMan2d, IsMax2d, least, euc_2d_of, ceil_2d_of, man_2d_of, max_2d_of, att_of, IsOnPlane, IsDistance}
use Rattle.tsp_number.specs.declared.decimal.Point.{Point}
use Rattle.tsp_number.specs.declared.root.Rounding.{Rounding}
use Rattle.tsp_number.specs.declared.root.Rounding.TheVariants.{Nearest, Up, TenthUp}
use Rattle.tsp_number.specs.states.Rounding.{Covers, IsLeastCover}

-- a whole number below k has a square of at most that of the one before k
pub squared-below : (j k : ℕ) → j < k → squared (j * unit) ≤ squared ((k - 1) * unit)
squared-below j k below =
    let sides : j * unit ≤ (k - 1) * unit = omega arith in
    mul-le (j * unit) (j * unit) ((k - 1) * unit) ((k - 1) * unit) sides sides

-- the squares of both differences are that of the straight distance
pub apart_is : (a b : Point) (w h : ℕ) → w ≡ dx a b → h ≡ dy a b → squared w + squared h ≡ square_apart a b
apart_is a b w h wide high = cc

pub is_euc_2d : (a b : Point) (k : ℕ) → IsLeastCover Nearest (square_apart a b) k → IsEuc2d a b k
is_euc_2d a b k is = record {
  below_next_half = is.enough;
  from_last_half = λ some.
      let short : ¬ (4 * square_apart a b < squared ((2 * (k - 1) + 1) * unit)) = is.least some in
      let before : 2 * (k - 1) + 1 ≡ 2 * k - 1 = omega arith in
      let far : ¬ (4 * square_apart a b < squared ((2 * k - 1) * unit)) = rw before at short in
      omega arith;
}

pub is_euc_3d : (a b : Point) (w h u k : ℕ) → w ≡ dx a b → h ≡ dy a b → u ≡ dz a b
    → 4 * (squared w + squared h + squared u) < squared ((2 * k + 1) * unit)
    → (0 < k → ¬ (4 * (squared w + squared h + squared u) < squared ((2 * (k - 1) + 1) * unit)))
    → IsEuc3d a b k
is_euc_3d a b w h u k wide high up enough least =
    let same : squared w + squared h + squared u ≡ square_apart_in_space a b = cc in
    record {
      below_next_half = rw same at enough;
      from_last_half = λ some.
          let short : ¬ (4 * (squared w + squared h + squared u) < squared ((2 * (k - 1) + 1) * unit)) = least some in
          let before : 2 * (k - 1) + 1 ≡ 2 * k - 1 = omega arith in
          let far : ¬ (4 * square_apart_in_space a b < squared ((2 * k - 1) * unit)) = rw (before, same) at short in
          omega arith;
    }

pub is_ceil_2d : (a b : Point) (k : ℕ) → IsLeastCover Up (square_apart a b) k → IsCeil2d a b k
is_ceil_2d a b k is = record {
  enough = is.enough;
  none_smaller = λ j below.
      let short : ¬ (square_apart a b ≤ squared ((k - 1) * unit)) = is.least (omega arith) in
      let sides = squared-below j k below in
      omega arith;
}

pub is_att : (a b : Point) (k : ℕ) → IsLeastCover TenthUp (square_apart a b) k → IsAtt a b k
is_att a b k is = record {
  enough = is.enough;
  none_smaller = λ j below.
      let short : ¬ (square_apart a b ≤ 10 * squared ((k - 1) * unit)) = is.least (omega arith) in
      let sides = squared-below j k below in
      omega arith;
}

-- ---- the square of a difference of coordinates

pub square_is : (way : ℤ) → way *ℤ way ≡ pos (squared (unsigned_abs way))
square_is (pos n) = refl
square_is (negsuc n) = refl

pub square-most : (n : ℕ) → n ≤ 2 * 10 ^ 18 → squared n ≤ 4 * 10 ^ 36
square-most n most = omega (arith, mul-le n n (2 * 10 ^ 18) (2 * 10 ^ 18) most most)

fits_wide : (n : ℕ) → n ≤ 4 * 10 ^ 36 → FitsSigned w128 (pos n)
fits_wide n small = search rules

way_fits : (z : ℤ) → unsigned_abs z ≤ 2 * 10 ^ 18 → FitsSigned w128 z
way_fits (pos n) small = search rules
way_fits (negsuc n) small = search rules

near_fits : (z : ℤ) → unsigned_abs z ≤ 2 * 10 ^ 18 → FitsSigned w64 z
near_fits (pos n) small = search rules
near_fits (negsuc n) small = search rules

-- a difference as the code computes it, in 64 bits
pub way_is : (way x y : ℤ) → way ≡ x -ℤ y → unsigned_abs way ≤ 2 * 10 ^ 18 → unsigned_abs (to_z w64 (of_z w64 way)) ≡ unsigned_abs (x -ℤ y)
way_is way x y is small = ap unsigned_abs (to_z-of_z w64 way (near_fits way small) ∙ is)

pub apart-most : (a b : Point) (w h : ℤ) → w ≡ a.x -ℤ b.x → h ≡ a.y -ℤ b.y → unsigned_abs w ≤ 2 * 10 ^ 18 → unsigned_abs h ≤ 2 * 10 ^ 18
    → square_apart a b ≤ 8 * 10 ^ 36
apart-most a b w h wide high small small' =
    let first : dx a b ≤ 2 * 10 ^ 18 = rw wide at small in
    let second : dy a b ≤ 2 * 10 ^ 18 = rw high at small' in
    omega (arith, square-most (dx a b) first, square-most (dy a b) second)

-- the square of a difference as the code computes it, in 128 bits
pub wide_square : (wide way : ℤ) → wide ≡ way → unsigned_abs way ≤ 2 * 10 ^ 18
    → to_z w128 (of_z w128 (to_z w128 (of_z w128 wide) *ℤ to_z w128 (of_z w128 wide))) ≡ pos (squared (unsigned_abs way))
wide_square wide way same small =
    let here : to_z w128 (of_z w128 wide) ≡ way = ap (λ (z : ℤ). to_z w128 (of_z w128 z)) same ∙ to_z-of_z w128 way (way_fits way small) in
    rw (here, square_is way) (to_z-of_z w128 (pos (squared (unsigned_abs way))) (fits_wide (squared (unsigned_abs way)) (square-most (unsigned_abs way) small)))

-- the square of k lies at most a step above: the one before k doesn't reach it
up_least : (square k steps : ℕ) → square ≤ k * unit * (k * unit) → (0 < k → steps ≡ 2 * k - 1) → k * unit * (k * unit) - square < steps * (unit * unit)
    → 0 < k → ¬ (square ≤ squared ((k - 1) * unit))
up_least square zero steps reached is near some covered = omega arith
up_least square (suc j) steps reached is near some covered =
    let count : steps ≡ 2 * j + 1 = omega (arith, is some) in
    let step : suc j * unit * (suc j * unit) ≡ j * unit * (j * unit) + (2 * j + 1) * (unit * unit) = omega arith in
    let before : suc j - 1 ≡ j = omega arith in
    let covered' : square ≤ squared (j * unit) = rw before at covered in
    let near' : suc j * unit * (suc j * unit) - square < (2 * j + 1) * (unit * unit) = rw count at near in
    omega arith

up_by : (square k steps : ℕ) (test : Bool) → square ≤ k * unit * (k * unit) → (0 < k → steps ≡ 2 * k - 1)
    → nat_lt (k * unit * (k * unit) - square) (steps * (unit * unit)) ≡ test → OnTrue test (IsLeastCover Up square k)
up_by square k steps true reached is test = record {
  enough = reached;
  least = up_least square k steps reached is (grind (arith, nat_tests));
}
up_by square k steps false reached is test = tt

pub up_cover : (square k edge steps : ℕ) → edge ≡ k * unit → square ≤ edge * edge → (0 < k → steps ≡ 2 * k - 1)
    → OnTrue (nat_lt (edge * edge - square) (steps * 1000000000000000000)) (IsLeastCover Up square k)
up_cover square k edge steps edge_is reached is =
    rw edge_is (up_by square k steps _ (rw edge_is at reached) is refl)

tenth_least : (square k steps : ℕ) → square ≤ k * unit * (10 * (k * unit)) → (0 < k → steps ≡ 20 * k - 10)
    → k * unit * (10 * (k * unit)) - square < steps * (unit * unit) → 0 < k → ¬ (square ≤ 10 * squared ((k - 1) * unit))
tenth_least square zero steps reached is near some covered = omega arith
tenth_least square (suc j) steps reached is near some covered =
    let count : steps ≡ 20 * j + 10 = omega (arith, is some) in
    let step : suc j * unit * (10 * (suc j * unit)) ≡ 10 * (j * unit * (j * unit)) + (20 * j + 10) * (unit * unit) = omega arith in
    let before : suc j - 1 ≡ j = omega arith in
    let covered' : square ≤ 10 * squared (j * unit) = rw before at covered in
    let near' : suc j * unit * (10 * (suc j * unit)) - square < (20 * j + 10) * (unit * unit) = rw count at near in
    omega arith

tenth_by : (square k steps : ℕ) (test : Bool) → square ≤ k * unit * (10 * (k * unit)) → (0 < k → steps ≡ 20 * k - 10)
    → nat_lt (k * unit * (10 * (k * unit)) - square) (steps * (unit * unit)) ≡ test → OnTrue test (IsLeastCover TenthUp square k)
tenth_by square k steps true reached is test = record {
  enough = omega arith;
  least = tenth_least square k steps reached is (grind (arith, nat_tests));
}
tenth_by square k steps false reached is test = tt

pub tenth_cover : (square k edge edge' steps : ℕ) → edge ≡ k * unit → edge' ≡ 10 * (k * unit) → square ≤ edge * edge' → (0 < k → steps ≡ 20 * k - 10)
    → OnTrue (nat_lt (edge * edge' - square) (steps * 1000000000000000000)) (IsLeastCover TenthUp square k)
tenth_cover square k edge edge' steps edge_is edge'_is reached is =
    rw (edge_is, edge'_is) (tenth_by square k steps _ (rw (edge_is, edge'_is) at reached) is refl)

-- ---- no rounded root is larger than a number that covers the square

-- a larger number than one that covers the square covers it too
covers-up : (rounding : Rounding) (square most k : ℕ) → Covers rounding square most → most ≤ k → Covers rounding square k
covers-up Nearest square most k enough le =
    let side : (2 * most + 1) * unit ≤ (2 * k + 1) * unit = omega arith in
    let area = mul-le ((2 * most + 1) * unit) ((2 * most + 1) * unit) ((2 * k + 1) * unit) ((2 * k + 1) * unit) side side in
    omega arith
covers-up Up square most k enough le =
    let side : most * unit ≤ k * unit = omega arith in
    let area = mul-le (most * unit) (most * unit) (k * unit) (k * unit) side side in
    omega arith
covers-up TenthUp square most k enough le =
    let side : most * unit ≤ k * unit = omega arith in
    let area = mul-le (most * unit) (most * unit) (k * unit) (k * unit) side side in
    omega arith

pub least-most : (rounding : Rounding) (square most k : ℕ) → Covers rounding square most → (0 < k → ¬ Covers rounding square (k - 1)) → k ≤ most
least-most rounding square most k enough least =
    elim (cases_lt most k) [
      | inl long ↦ absurd (least (omega arith) (covers-up rounding square most (k - 1) enough (omega arith)))
      | inr short ↦ short
    ]

-- ---- the five distances of the plane

-- ---- the least number that passes a test

least_from : (test : ℕ → Bool) (first : Bool) (n more : ℕ) → test 0 ≡ first → (first ≡ false → test (suc more) ≡ true) → test (if first then 0 else suc more) ≡ true
least_from test true n more here there = here
least_from test false n more here there = there refl

pub least-holds : (test : ℕ → Bool) (n : ℕ) → test n ≡ true → test (least test n) ≡ true
unfolding least
least-holds test zero holds = holds
least-holds test (suc n) holds =
    least_from test (test 0) n (least (λ k. test (suc k)) n) refl (λ _. least-holds (λ k. test (suc k)) n holds)

below_by : (test : ℕ → Bool) (first : Bool) (more k : ℕ) → test 0 ≡ first → ((j : ℕ) → j < more → test (suc j) ≡ false)
    → k < (if first then 0 else suc more) → test k ≡ false
below_by test true more k here there below = absurd (omega arith)
below_by test false more zero here there below = here
below_by test false more (suc k) here there below = there k (omega arith)

pub least-below : (test : ℕ → Bool) (n k : ℕ) → k < least test n → test k ≡ false
unfolding least
least-below test zero k below = absurd (omega arith)
least-below test (suc n) k below =
    below_by test (test 0) (least (λ j. test (suc j)) n) k refl (λ j less. least-below (λ i. test (suc i)) n j less) below

-- ---- squares

pub squared-le : (m n : ℕ) → m ≤ n → squared m ≤ squared n
squared-le m n le = mul-le m m n n le le

squared-unit : (n : ℕ) → n ≤ squared (n * unit)
squared-unit zero = omega arith
squared-unit (suc n) =
    let side : suc n ≤ suc n * unit = omega arith in
    let one : 1 ≤ suc n * unit = omega arith in
    let product : suc n * 1 ≤ suc n * unit * (suc n * unit) = mul-le (suc n) 1 (suc n * unit) (suc n * unit) side one in
    omega arith

-- ---- tests on numbers

pub below : (m n : ℕ) → m < n → nat_lt m n ≡ true
below m n less = grind (arith, nat_tests)

pub from_below : (m n : ℕ) → nat_lt m n ≡ true → m < n
from_below m n test = grind (arith, nat_tests)

pub not_below : (m n : ℕ) → nat_lt m n ≡ false → n ≤ m
not_below m n test = grind (arith, nat_tests)

at_most : (m n : ℕ) → m ≤ n → nat_le m n ≡ true
at_most m n le = grind (arith, nat_tests)

from_at_most : (m n : ℕ) → nat_le m n ≡ true → m ≤ n
from_at_most m n test = grind (arith, nat_tests)

not_at_most : (m n : ℕ) → nat_le m n ≡ false → n < m
not_at_most m n test = grind (arith, nat_tests)

-- ---- there is a number for each distance

-- the least k with s below the square of its next half is the root of s rounded
pub rounded_square : (s k : ℕ) → k ≡ least (λ j. nat_lt (4 * s) (squared ((2 * j + 1) * unit))) s
    → (4 * s < squared ((2 * k + 1) * unit)) × (0 < k → squared ((2 * k - 1) * unit) ≤ 4 * s)
rounded_square s k is =
    let test : ℕ → Bool = λ j. nat_lt (4 * s) (squared ((2 * j + 1) * unit)) in
    let side : 2 * s + 1 ≤ (2 * s + 1) * unit = omega arith in
    let sides = squared-le (2 * s + 1) ((2 * s + 1) * unit) side in
    let reached : test s ≡ true = below _ _ (omega arith) in
    let holds : test k ≡ true = rw is (least-holds test s reached) in (
      from_below _ _ holds,
      λ some.
          let before = least-below test s (k - 1) (omega arith) in
          let same : 2 * (k - 1) + 1 ≡ 2 * k - 1 = omega arith in
          let far = not_below _ _ before in
          rw same at far,
    )

euc_2d-defined : (a b : Point) → IsEuc2d a b (euc_2d_of a b)
euc_2d-defined a b =
    let parts = rounded_square (square_apart a b) (euc_2d_of a b) refl in
    record { below_next_half = parts.0; from_last_half = parts.1 }

-- the least k with s at most f k
covered : (s : ℕ) (f : ℕ → ℕ) (k : ℕ) → s ≤ f s → k ≡ least (λ j. nat_le s (f j)) s → (s ≤ f k) × ((j : ℕ) → j < k → f j < s)
covered s f k reached is =
    let test : ℕ → Bool = λ j. nat_le s (f j) in
    let holds : test k ≡ true = rw is (least-holds test s (at_most _ _ reached)) in
    (from_at_most _ _ holds, λ j below. not_at_most _ _ (least-below test s j (omega (arith, is, below))))

ceil_2d-defined : (a b : Point) → IsCeil2d a b (ceil_2d_of a b)
ceil_2d-defined a b =
    let parts = covered (square_apart a b) (λ k. squared (k * unit)) (ceil_2d_of a b) (squared-unit (square_apart a b)) refl in
    record { enough = parts.0; none_smaller = parts.1 }

att-defined : (a b : Point) → IsAtt a b (att_of a b)
att-defined a b =
    let reached : square_apart a b ≤ 10 * squared (square_apart a b * unit) = omega (arith, squared-unit (square_apart a b)) in
    let parts = covered (square_apart a b) (λ k. 10 * squared (k * unit)) (att_of a b) reached refl in
    record { enough = parts.0; none_smaller = parts.1 }

-- the least k with t below its next half is t rounded
pub rounded : (t k : ℕ) → k ≡ least (λ j. nat_lt (2 * t) ((2 * j + 1) * unit)) t
    → (2 * t < (2 * k + 1) * unit) × (0 < k → (2 * k - 1) * unit ≤ 2 * t)
rounded t k is =
    let test : ℕ → Bool = λ j. nat_lt (2 * t) ((2 * j + 1) * unit) in
    let holds = least-holds test t (below _ _ (omega arith)) in
    let holds' : test k ≡ true = rw is holds in (
      from_below _ _ holds',
      λ some.
          let before = least-below test t (k - 1) (omega arith) in
          let far = not_below _ _ before in
          omega arith,
    )

man_2d-defined : (a b : Point) → IsMan2d a b (man_2d_of a b)
man_2d-defined a b =
    let parts = rounded (dx a b + dy a b) (man_2d_of a b) refl in
    record { below_next_half = parts.0; from_last_half = parts.1 }

max_2d-defined : (a b : Point) → IsMax2d a b (max_2d_of a b)
max_2d-defined a b =
    let parts = rounded (max (dx a b) (dy a b)) (max_2d_of a b) refl in
    record { below_next_half = parts.0; from_last_half = parts.1 }

-- ---- and no other one

pub rounded_square_apart : (s j k : ℕ) → 4 * s < squared ((2 * j + 1) * unit) → (0 < k → squared ((2 * k - 1) * unit) ≤ 4 * s) → ¬ (j < k)
rounded_square_apart s j k high low less =
    let sides = squared-le ((2 * j + 1) * unit) ((2 * k - 1) * unit) (omega arith) in
    let reached = low (omega arith) in
    omega arith

euc_2d_apart : (a b : Point) (j k : ℕ) → IsEuc2d a b j → IsEuc2d a b k → ¬ (j < k)
euc_2d_apart a b j k first second = rounded_square_apart (square_apart a b) j k first.below_next_half second.from_last_half

pub covered_apart : (s : ℕ) (f : ℕ → ℕ) (j k : ℕ) → s ≤ f j → ((i : ℕ) → i < k → f i < s) → ¬ (j < k)
covered_apart s f j k enough none less = omega (arith, enough, none j less)

ceil_2d_apart : (a b : Point) (j k : ℕ) → IsCeil2d a b j → IsCeil2d a b k → ¬ (j < k)
ceil_2d_apart a b j k first second = covered_apart (square_apart a b) (λ i. squared (i * unit)) j k first.enough second.none_smaller

att_apart : (a b : Point) (j k : ℕ) → IsAtt a b j → IsAtt a b k → ¬ (j < k)
att_apart a b j k first second = covered_apart (square_apart a b) (λ i. 10 * squared (i * unit)) j k first.enough second.none_smaller

pub rounded_apart : (t j k : ℕ) → 2 * t < (2 * j + 1) * unit → (0 < k → (2 * k - 1) * unit ≤ 2 * t) → ¬ (j < k)
rounded_apart t j k high low less =
    let reached = low (omega arith) in
    omega arith

man_2d_apart : (a b : Point) (j k : ℕ) → IsMan2d a b j → IsMan2d a b k → ¬ (j < k)
man_2d_apart a b j k first second = rounded_apart (dx a b + dy a b) j k first.below_next_half second.from_last_half

max_2d_apart : (a b : Point) (j k : ℕ) → IsMax2d a b j → IsMax2d a b k → ¬ (j < k)
max_2d_apart a b j k first second = rounded_apart (max (dx a b) (dy a b)) j k first.below_next_half second.from_last_half

same_from : (j k : ℕ) → ¬ (j < k) → ¬ (k < j) → j ≡ k
same_from j k first second = omega arith

-- if there is a number and no two, it is unique
pub only_one : (Is : Point → Point → ℕ → Type 0) (distance : Point → Point → ℕ) → ((a b : Point) → Is a b (distance a b))
    → ((a b : Point) (j k : ℕ) → Is a b j → Is a b k → ¬ (j < k)) → (a b : Point) (k : ℕ) → Is a b k → k ≡ distance a b
only_one Is distance defined apart a b k is =
    same_from k (distance a b) (apart a b k (distance a b) is (defined a b)) (apart a b (distance a b) k (defined a b) is)

-- ---- symmetric, and 0 between equal points

unsigned_abs-neg : (x : ℤ) → unsigned_abs (neg_ℤ x) ≡ unsigned_abs x
unsigned_abs-neg (pos zero) = refl
unsigned_abs-neg (pos (suc n)) = refl
unsigned_abs-neg (negsuc n) = refl

pub unsigned_abs-sub : (x y : ℤ) → unsigned_abs (x -ℤ y) ≡ unsigned_abs (y -ℤ x)
unsigned_abs-sub x y =
    let turned : x -ℤ y ≡ neg_ℤ (y -ℤ x) = omega (arith, ints) in
    ap unsigned_abs turned ∙ unsigned_abs-neg (y -ℤ x)

pub unsigned_abs-self : (x : ℤ) → unsigned_abs (x -ℤ x) ≡ 0
unsigned_abs-self x =
    let none : x -ℤ x ≡ pos 0 = omega (arith, ints) in
    ap unsigned_abs none

within : (x : ℤ) (m : ℕ) → unsigned_abs x ≤ m → (x ≤ℤ pos m) × (pos 0 ≤ℤ (x +ℤ pos m))
within (pos n) m le = (omega (arith, ints), omega (arith, ints))
within (negsuc n) m le = (omega (arith, ints), omega (arith, ints))

from_within : (x : ℤ) (m : ℕ) → x ≤ℤ pos m → pos 0 ≤ℤ (x +ℤ pos m) → unsigned_abs x ≤ m
from_within (pos n) m high low = omega (arith, ints)
from_within (negsuc n) m high low = omega (arith, ints)

pub unsigned_abs-most : (x y : ℤ) → unsigned_abs x ≤ most_count → unsigned_abs y ≤ most_count → unsigned_abs (x -ℤ y) ≤ 2 * most_count
unsigned_abs-most x y left right =
    let x' = within x most_count left in
    let y' = within y most_count right in
    from_within (x -ℤ y) (2 * most_count) (omega (arith, ints, x', y')) (omega (arith, ints, x', y'))

pub dx-comm : (a b : Point) → dx a b ≡ dx b a
dx-comm a b = unsigned_abs-sub a.x b.x

pub dy-comm : (a b : Point) → dy a b ≡ dy b a
dy-comm a b = unsigned_abs-sub a.y b.y

square_apart-comm : (a b : Point) → square_apart a b ≡ square_apart b a
square_apart-comm a b = rw (dx-comm a b, dy-comm a b) refl

square_apart-self : (a : Point) → square_apart a a ≡ 0
square_apart-self a = rw (unsigned_abs-self a.x, unsigned_abs-self a.y) refl

square_apart-most : (a b : Point) → IsOnPlane a → IsOnPlane b → square_apart a b ≤ 8 * 10 ^ 36
square_apart-most a b on on' =
    let first = squared-le (dx a b) (2 * most_count) (unsigned_abs-most a.x b.x on.x on'.x) in
    let second = squared-le (dy a b) (2 * most_count) (unsigned_abs-most a.y b.y on.y on'.y) in
    omega arith

-- ---- no distance is long

pub rounded_square-most : (s most k : ℕ) → 4 * s < squared ((2 * most + 1) * unit) → (0 < k → squared ((2 * k - 1) * unit) ≤ 4 * s) → k ≤ most
rounded_square-most s most k small low =
    elim (cases_lt most k) [
      | inl long ↦ absurd (rounded_square_apart s most k small low long)
      | inr short ↦ short
    ]

euc_2d-most : (a b : Point) (k : ℕ) → square_apart a b ≤ 8 * 10 ^ 36 → IsEuc2d a b k → k ≤ 4000000000
euc_2d-most a b k small is = rounded_square-most (square_apart a b) 4000000000 k (omega arith) is.from_last_half

covered-most : (s : ℕ) (f : ℕ → ℕ) (most k : ℕ) → s ≤ f most → ((i : ℕ) → i < k → f i < s) → k ≤ most
covered-most s f most k enough none =
    elim (cases_lt most k) [
      | inl long ↦ absurd (omega (arith, enough, none most long))
      | inr short ↦ short
    ]

ceil_2d-most : (a b : Point) (k : ℕ) → square_apart a b ≤ 8 * 10 ^ 36 → IsCeil2d a b k → k ≤ 4000000000
ceil_2d-most a b k small is = covered-most (square_apart a b) (λ i. squared (i * unit)) 4000000000 k (omega arith) is.none_smaller

pub att-most : (a b : Point) (k : ℕ) → square_apart a b ≤ 8 * 10 ^ 36 → IsAtt a b k → k ≤ 894427191
att-most a b k small is = covered-most (square_apart a b) (λ i. 10 * squared (i * unit)) 894427191 k (omega arith) is.none_smaller

pub rounded-most : (t most k : ℕ) → 2 * t < (2 * most + 1) * unit → (0 < k → (2 * k - 1) * unit ≤ 2 * t) → k ≤ most
rounded-most t most k small low =
    elim (cases_lt most k) [
      | inl long ↦ absurd (rounded_apart t most k small low long)
      | inr short ↦ short
    ]

ways-most : (a b : Point) → IsOnPlane a → IsOnPlane b → (dx a b ≤ 2 * 10 ^ 18) × (dy a b ≤ 2 * 10 ^ 18)
ways-most a b on on' = (unsigned_abs-most a.x b.x on.x on'.x, unsigned_abs-most a.y b.y on.y on'.y)

man_2d-most : (a b : Point) (k : ℕ) → IsOnPlane a → IsOnPlane b → IsMan2d a b k → k ≤ 4000000000
man_2d-most a b k on on' is = rounded-most (dx a b + dy a b) 4000000000 k (omega (arith, ways-most a b on on')) is.from_last_half

max_2d-most : (a b : Point) (k : ℕ) → IsOnPlane a → IsOnPlane b → IsMax2d a b k → k ≤ 4000000000
max_2d-most a b k on on' is = rounded-most (max (dx a b) (dy a b)) 4000000000 k (omega (arith, ways-most a b on on')) is.from_last_half

-- ---- the laws

pub euc_2d-is : (a b : Point) (k : ℕ) → IsEuc2d a b k → k ≡ euc_2d_of a b
euc_2d-is = only_one IsEuc2d euc_2d_of euc_2d-defined euc_2d_apart

pub ceil_2d-is : (a b : Point) (k : ℕ) → IsCeil2d a b k → k ≡ ceil_2d_of a b
ceil_2d-is = only_one IsCeil2d ceil_2d_of ceil_2d-defined ceil_2d_apart

pub man_2d-is : (a b : Point) (k : ℕ) → IsMan2d a b k → k ≡ man_2d_of a b
man_2d-is = only_one IsMan2d man_2d_of man_2d-defined man_2d_apart

pub max_2d-is : (a b : Point) (k : ℕ) → IsMax2d a b k → k ≡ max_2d_of a b
max_2d-is = only_one IsMax2d max_2d_of max_2d-defined max_2d_apart

pub att-is : (a b : Point) (k : ℕ) → IsAtt a b k → k ≡ att_of a b
att-is = only_one IsAtt att_of att-defined att_apart

pub euc_2d_laws : IsDistance IsEuc2d euc_2d_of
euc_2d_laws = record {
  defined = euc_2d-defined;
  unique = euc_2d-is;
  symmetric = λ a b. ap (λ s. least (λ k. nat_lt (4 * s) (squared ((2 * k + 1) * unit))) s) (square_apart-comm a b);
  none = λ a.
      let same = square_apart-self a in
      sym (euc_2d-is a a 0 (record { below_next_half = rw same (omega arith); from_last_half = λ some. absurd (omega arith) }));
  most = λ a b on on'. euc_2d-most a b (euc_2d_of a b) (square_apart-most a b on on') (euc_2d-defined a b);
}

pub ceil_2d_laws : IsDistance IsCeil2d ceil_2d_of
ceil_2d_laws = record {
  defined = ceil_2d-defined;
  unique = ceil_2d-is;
  symmetric = λ a b. ap (λ s. least (λ k. nat_le s (squared (k * unit))) s) (square_apart-comm a b);
  none = λ a.
      let same = square_apart-self a in
      sym (ceil_2d-is a a 0 (record { enough = rw same (omega arith); none_smaller = λ j below. absurd (omega arith) }));
  most = λ a b on on'. ceil_2d-most a b (ceil_2d_of a b) (square_apart-most a b on on') (ceil_2d-defined a b);
}

pub att_laws : IsDistance IsAtt att_of
att_laws = record {
  defined = att-defined;
  unique = att-is;
  symmetric = λ a b. ap (λ s. least (λ k. nat_le s (10 * squared (k * unit))) s) (square_apart-comm a b);
  none = λ a.
      let same = square_apart-self a in
      sym (att-is a a 0 (record { enough = rw same (omega arith); none_smaller = λ j below. absurd (omega arith) }));
  most = λ a b on on'.
      let short = att-most a b (att_of a b) (square_apart-most a b on on') (att-defined a b) in
      omega arith;
}

sum-comm : (a b : Point) → dx a b + dy a b ≡ dx b a + dy b a
sum-comm a b = rw (dx-comm a b, dy-comm a b) refl

pub man_2d_laws : IsDistance IsMan2d man_2d_of
man_2d_laws = record {
  defined = man_2d-defined;
  unique = man_2d-is;
  symmetric = λ a b. ap (λ t. least (λ j. nat_lt (2 * t) ((2 * j + 1) * unit)) t) (sum-comm a b);
  none = λ a.
      let x = unsigned_abs-self a.x in
      let y = unsigned_abs-self a.y in
      sym (man_2d-is a a 0 (record { below_next_half = rw (x, y) (omega arith); from_last_half = λ some. absurd (omega arith) }));
  most = λ a b on on'. man_2d-most a b (man_2d_of a b) on on' (man_2d-defined a b);
}

longer-comm : (a b : Point) → max (dx a b) (dy a b) ≡ max (dx b a) (dy b a)
longer-comm a b = rw (dx-comm a b, dy-comm a b) refl

pub max_2d_laws : IsDistance IsMax2d max_2d_of
max_2d_laws = record {
  defined = max_2d-defined;
  unique = max_2d-is;
  symmetric = λ a b. ap (λ t. least (λ j. nat_lt (2 * t) ((2 * j + 1) * unit)) t) (longer-comm a b);
  none = λ a.
      let x = unsigned_abs-self a.x in
      let y = unsigned_abs-self a.y in
      sym (max_2d-is a a 0 (record { below_next_half = rw (x, y) (omega arith); from_last_half = λ some. absurd (omega arith) }));
  most = λ a b on on'. max_2d-most a b (max_2d_of a b) on on' (max_2d-defined a b);
}

-- a signed number with the size of the distance
pub signed_is : (z : ℤ) (k : ℕ) → pos 0 ≤ℤ z → unsigned_abs z ≡ k → z ≡ pos k
signed_is (pos n) k low same = ap pos same
signed_is (negsuc n) k low same = absurd (omega (arith, ints))
