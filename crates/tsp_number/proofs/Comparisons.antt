-- For src/at_least.rt and the distances in space: what comparing squares says of a distance, and that a distance
-- doesn't shrink as points move apart along an axis.
use Rattle.std.proofs.Common.{◌≡◌, ℕ, ◌+◌, ◌*◌, ◌<◌, ◌≤◌, ◌^◌, nat_lt, refl, sym, ap, arith, ◌-◌, max}
use Rattle.tsp_number.proofs.RoundedRoots.{squared-le, rounded, rounded_square, rounded_apart, rounded_square_apart, rounded-most, rounded_square-most, only_one, unsigned_abs-self, unsigned_abs-sub, unsigned_abs-most, dx-comm, dy-comm, euc_2d_laws, ceil_2d_laws, att_laws, covered_apart, man_2d_laws, max_2d_laws}
use Rattle.tsp_number.specs.Decimal.{unit, most_count}
use Rattle.tsp_number.specs.Distances.{squared, dx, dy, dz, square_apart_in_space, longest_way, IsEuc3d, IsMan3d, IsMax3d, least, euc_3d_of, man_3d_of, max_3d_of, IsInSpace, IsDistanceInSpace, square_apart, euc_2d_of, ceil_2d_of, att_of, man_2d_of, max_2d_of, IsMonotone}
use Rattle.tsp_number.specs.declared.decimal.Point.{Point}
use Rattle.tsp_number.specs.declared.root.Rounding.TheVariants.{Nearest, Up, TenthUp}
use Rattle.tsp_number.specs.states.Rounding.{IsLeastCover}

-- ---- there is a number for each distance

euc_3d-defined : (a b : Point) → IsEuc3d a b (euc_3d_of a b)
euc_3d-defined a b =
    let parts = rounded_square (square_apart_in_space a b) (euc_3d_of a b) refl in
    record { below_next_half = parts.0; from_last_half = parts.1 }

man_3d-defined : (a b : Point) → IsMan3d a b (man_3d_of a b)
man_3d-defined a b =
    let parts = rounded (dx a b + dy a b + dz a b) (man_3d_of a b) refl in
    record { below_next_half = parts.0; from_last_half = parts.1 }

max_3d-defined : (a b : Point) → IsMax3d a b (max_3d_of a b)
max_3d-defined a b =
    let parts = rounded (longest_way a b) (max_3d_of a b) refl in
    record { below_next_half = parts.0; from_last_half = parts.1 }

-- ---- and no other one

euc_3d_apart : (a b : Point) (j k : ℕ) → IsEuc3d a b j → IsEuc3d a b k → ¬ (j < k)
euc_3d_apart a b j k first second = rounded_square_apart (square_apart_in_space a b) j k first.below_next_half second.from_last_half

man_3d_apart : (a b : Point) (j k : ℕ) → IsMan3d a b j → IsMan3d a b k → ¬ (j < k)
man_3d_apart a b j k first second = rounded_apart (dx a b + dy a b + dz a b) j k first.below_next_half second.from_last_half

max_3d_apart : (a b : Point) (j k : ℕ) → IsMax3d a b j → IsMax3d a b k → ¬ (j < k)
max_3d_apart a b j k first second = rounded_apart (longest_way a b) j k first.below_next_half second.from_last_half

pub euc_3d-is : (a b : Point) (k : ℕ) → IsEuc3d a b k → k ≡ euc_3d_of a b
euc_3d-is = only_one IsEuc3d euc_3d_of euc_3d-defined euc_3d_apart

pub man_3d-is : (a b : Point) (k : ℕ) → IsMan3d a b k → k ≡ man_3d_of a b
man_3d-is = only_one IsMan3d man_3d_of man_3d-defined man_3d_apart

pub max_3d-is : (a b : Point) (k : ℕ) → IsMax3d a b k → k ≡ max_3d_of a b
max_3d-is = only_one IsMax3d max_3d_of max_3d-defined max_3d_apart

-- ---- symmetric, and 0 between equal points

dz-comm : (a b : Point) → dz a b ≡ dz b a
dz-comm a b = unsigned_abs-sub a.z b.z

square-comm : (a b : Point) → square_apart_in_space a b ≡ square_apart_in_space b a
square-comm a b = rw (dx-comm a b, dy-comm a b, dz-comm a b) refl

sum-comm : (a b : Point) → dx a b + dy a b + dz a b ≡ dx b a + dy b a + dz b a
sum-comm a b = rw (dx-comm a b, dy-comm a b, dz-comm a b) refl

longest-comm : (a b : Point) → longest_way a b ≡ longest_way b a
longest-comm a b = rw (dx-comm a b, dy-comm a b, dz-comm a b) refl

square-self : (a : Point) → square_apart_in_space a a ≡ 0
square-self a = rw (unsigned_abs-self a.x, unsigned_abs-self a.y, unsigned_abs-self a.z) refl

sum-self : (a : Point) → dx a a + dy a a + dz a a ≡ 0
sum-self a = rw (unsigned_abs-self a.x, unsigned_abs-self a.y, unsigned_abs-self a.z) refl

longest-self : (a : Point) → longest_way a a ≡ 0
longest-self a = rw (unsigned_abs-self a.x, unsigned_abs-self a.y, unsigned_abs-self a.z) refl

-- ---- none is long

ways-most : (a b : Point) → IsInSpace a → IsInSpace b → (dx a b ≤ 2 * 10 ^ 18) × (dy a b ≤ 2 * 10 ^ 18) × (dz a b ≤ 2 * 10 ^ 18)
ways-most a b within within' =
    (unsigned_abs-most a.x b.x within.x within'.x, unsigned_abs-most a.y b.y within.y within'.y, unsigned_abs-most a.z b.z within.z within'.z)

square-most : (a b : Point) → IsInSpace a → IsInSpace b → square_apart_in_space a b ≤ 12 * 10 ^ 36
square-most a b within within' =
    let first = squared-le (dx a b) (2 * most_count) (unsigned_abs-most a.x b.x within.x within'.x) in
    let second = squared-le (dy a b) (2 * most_count) (unsigned_abs-most a.y b.y within.y within'.y) in
    let third = squared-le (dz a b) (2 * most_count) (unsigned_abs-most a.z b.z within.z within'.z) in
    omega arith

euc_3d-most : (a b : Point) (k : ℕ) → square_apart_in_space a b ≤ 12 * 10 ^ 36 → IsEuc3d a b k → k ≤ 6000000000
euc_3d-most a b k small is = rounded_square-most (square_apart_in_space a b) 6000000000 k (omega arith) is.from_last_half

man_3d-most : (a b : Point) (k : ℕ) → IsInSpace a → IsInSpace b → IsMan3d a b k → k ≤ 6000000000
man_3d-most a b k within within' is =
    rounded-most (dx a b + dy a b + dz a b) 6000000000 k (omega (arith, ways-most a b within within')) is.from_last_half

max_3d-most : (a b : Point) (k : ℕ) → IsInSpace a → IsInSpace b → IsMax3d a b k → k ≤ 6000000000
max_3d-most a b k within within' is =
    rounded-most (longest_way a b) 6000000000 k (omega (arith, ways-most a b within within')) is.from_last_half

-- ---- the laws

pub euc_3d_laws : IsDistanceInSpace IsEuc3d euc_3d_of
euc_3d_laws = record {
  defined = euc_3d-defined;
  unique = euc_3d-is;
  symmetric = λ a b. ap (λ s. least (λ k. nat_lt (4 * s) (squared ((2 * k + 1) * unit))) s) (square-comm a b);
  none = λ a.
      let same = square-self a in
      sym (euc_3d-is a a 0 (record { below_next_half = rw same (omega arith); from_last_half = λ some. absurd (omega arith) }));
  most = λ a b within within'. euc_3d-most a b (euc_3d_of a b) (square-most a b within within') (euc_3d-defined a b);
}

pub man_3d_laws : IsDistanceInSpace IsMan3d man_3d_of
man_3d_laws = record {
  defined = man_3d-defined;
  unique = man_3d-is;
  symmetric = λ a b. ap (λ t. least (λ j. nat_lt (2 * t) ((2 * j + 1) * unit)) t) (sum-comm a b);
  none = λ a.
      let same = sum-self a in
      sym (man_3d-is a a 0 (record { below_next_half = rw same (omega arith); from_last_half = λ some. absurd (omega arith) }));
  most = λ a b within within'. man_3d-most a b (man_3d_of a b) within within' (man_3d-defined a b);
}

pub max_3d_laws : IsDistanceInSpace IsMax3d max_3d_of
max_3d_laws = record {
  defined = max_3d-defined;
  unique = max_3d-is;
  symmetric = λ a b. ap (λ t. least (λ j. nat_lt (2 * t) ((2 * j + 1) * unit)) t) (longest-comm a b);
  none = λ a.
      let same = longest-self a in
      sym (max_3d-is a a 0 (record { below_next_half = rw same (omega arith); from_last_half = λ some. absurd (omega arith) }));
  most = λ a b within within'. max_3d-most a b (max_3d_of a b) within within' (max_3d-defined a b);
}

-- ---- each distance with a root is the least number that covers a square

nearest_cover : (square k : ℕ) → 4 * square < squared ((2 * k + 1) * unit) → (0 < k → squared ((2 * k - 1) * unit) ≤ 4 * square) → IsLeastCover Nearest square k
nearest_cover square k below from = record {
  enough = below;
  least = λ some covered.
      let before : 2 * (k - 1) + 1 ≡ 2 * k - 1 = omega (arith, some) in
      let near : 4 * square < squared ((2 * k - 1) * unit) = rw before at covered in
      let far = from some in
      omega (arith, near, far);
}

pub euc_2d_cover : (a b : Point) → IsLeastCover Nearest (square_apart a b) (euc_2d_of a b)
euc_2d_cover a b =
    let is = euc_2d_laws.defined a b in
    nearest_cover (square_apart a b) (euc_2d_of a b) is.below_next_half is.from_last_half

pub euc_3d_cover : (a b : Point) → IsLeastCover Nearest (square_apart_in_space a b) (euc_3d_of a b)
euc_3d_cover a b =
    let is = euc_3d_laws.defined a b in
    nearest_cover (square_apart_in_space a b) (euc_3d_of a b) is.below_next_half is.from_last_half

before_less : (k : ℕ) → 0 < k → k - 1 < k
before_less k some = omega (arith, some)

not_within : (m n : ℕ) → m < n → ¬ (n ≤ m)
not_within m n less within = omega (arith, less, within)

pub ceil_2d_cover : (a b : Point) → IsLeastCover Up (square_apart a b) (ceil_2d_of a b)
ceil_2d_cover a b =
    let is = ceil_2d_laws.defined a b in
    let k = ceil_2d_of a b in
    record { enough = is.enough; least = λ some. not_within _ _ (is.none_smaller (k - 1) (before_less k some)) }

pub att_cover : (a b : Point) → IsLeastCover TenthUp (square_apart a b) (att_of a b)
att_cover a b =
    let is = att_laws.defined a b in
    let k = att_of a b in
    record { enough = is.enough; least = λ some. not_within _ _ (is.none_smaller (k - 1) (before_less k some)) }

-- the squares of the three differences sum to that of the straight distance in space
pub space_is : (a b : Point) (w h u : ℕ) → w ≡ dx a b → h ≡ dy a b → u ≡ dz a b → squared w + squared h + squared u ≡ square_apart_in_space a b
space_is a b w h u wide high up = cc

-- ---- each distance grows with the differences of both points along the axes

-- ---- the squares, sums and maxima of the differences grow with these

abbrev IsWay : (Point → Point → ℕ) → Type 0
IsWay way = (a b c d : Point) → dx a b ≤ dx c d → dy a b ≤ dy c d → dz a b ≤ dz c d → way a b ≤ way c d

square-grows : IsWay square_apart
square-grows a b c d x y z =
    omega (arith, squared-le (dx a b) (dx c d) x, squared-le (dy a b) (dy c d) y)

square_in_space-grows : IsWay square_apart_in_space
square_in_space-grows a b c d x y z =
    omega (arith, squared-le (dx a b) (dx c d) x, squared-le (dy a b) (dy c d) y, squared-le (dz a b) (dz c d) z)

sum-grows : IsWay (λ a b. dx a b + dy a b)
sum-grows a b c d x y z = omega (arith, x, y)

sum_in_space-grows : IsWay (λ a b. dx a b + dy a b + dz a b)
sum_in_space-grows a b c d x y z = omega (arith, x, y, z)

max-le : (a b c d : ℕ) → a ≤ c → b ≤ d → max a b ≤ max c d
max-le a b c d first second = omega arith

longest-grows : IsWay (λ a b. max (dx a b) (dy a b))
longest-grows a b c d x y z = max-le (dx a b) (dy a b) (dx c d) (dy c d) x y

longest_in_space-grows : IsWay longest_way
longest_in_space-grows a b c d x y z =
    max-le (max (dx a b) (dy a b)) (dz a b) (max (dx c d) (dy c d)) (dz c d) (longest-grows a b c d x y z) z

-- ---- each rounding grows

-- the root to the nearest whole number
nearest_root : (way distance : Point → Point → ℕ) → IsWay way → ((a b : Point) → 4 * way a b < squared ((2 * distance a b + 1) * unit))
    → ((a b : Point) → 0 < distance a b → squared ((2 * distance a b - 1) * unit) ≤ 4 * way a b) → IsMonotone distance
nearest_root way distance grows below from a b c d x y z =
    let more = grows a b c d x y z in
    let high : 4 * way a b < squared ((2 * distance c d + 1) * unit) = omega (arith, more, below c d) in
    let apart = rounded_square_apart (way a b) (distance c d) (distance a b) high (from a b) in
    omega (arith, apart)

-- the nearest whole number
nearest : (way distance : Point → Point → ℕ) → IsWay way → ((a b : Point) → 2 * way a b < (2 * distance a b + 1) * unit)
    → ((a b : Point) → 0 < distance a b → (2 * distance a b - 1) * unit ≤ 2 * way a b) → IsMonotone distance
nearest way distance grows below from a b c d x y z =
    let more = grows a b c d x y z in
    let high : 2 * way a b < (2 * distance c d + 1) * unit = omega (arith, more, below c d) in
    let apart = rounded_apart (way a b) (distance c d) (distance a b) high (from a b) in
    omega (arith, apart)

-- the root upward: the least number whose cover is enough
upward : (way distance : Point → Point → ℕ) (cover : ℕ → ℕ) → IsWay way → ((a b : Point) → way a b ≤ cover (distance a b))
    → ((a b : Point) (j : ℕ) → j < distance a b → cover j < way a b) → IsMonotone distance
upward way distance cover grows enough none a b c d x y z =
    let more = grows a b c d x y z in
    let high : way a b ≤ cover (distance c d) = omega (arith, more, enough c d) in
    let apart = covered_apart (way a b) cover (distance c d) (distance a b) high (none a b) in
    omega (arith, apart)

-- ---- the distances

pub euc_2d-grows : IsMonotone euc_2d_of
euc_2d-grows = nearest_root square_apart euc_2d_of square-grows (λ a b. (euc_2d_laws.defined a b).below_next_half) (λ a b. (euc_2d_laws.defined a b).from_last_half)

pub ceil_2d-grows : IsMonotone ceil_2d_of
ceil_2d-grows = upward square_apart ceil_2d_of (λ k. squared (k * unit)) square-grows (λ a b. (ceil_2d_laws.defined a b).enough) (λ a b. (ceil_2d_laws.defined a b).none_smaller)

pub att-grows : IsMonotone att_of
att-grows = upward square_apart att_of (λ k. 10 * squared (k * unit)) square-grows (λ a b. (att_laws.defined a b).enough) (λ a b. (att_laws.defined a b).none_smaller)

pub man_2d-grows : IsMonotone man_2d_of
man_2d-grows = nearest (λ a b. dx a b + dy a b) man_2d_of sum-grows (λ a b. (man_2d_laws.defined a b).below_next_half) (λ a b. (man_2d_laws.defined a b).from_last_half)

pub max_2d-grows : IsMonotone max_2d_of
max_2d-grows = nearest (λ a b. max (dx a b) (dy a b)) max_2d_of longest-grows (λ a b. (max_2d_laws.defined a b).below_next_half) (λ a b. (max_2d_laws.defined a b).from_last_half)

pub euc_3d-grows : IsMonotone euc_3d_of
euc_3d-grows = nearest_root square_apart_in_space euc_3d_of square_in_space-grows (λ a b. (euc_3d_laws.defined a b).below_next_half) (λ a b. (euc_3d_laws.defined a b).from_last_half)

pub man_3d-grows : IsMonotone man_3d_of
man_3d-grows = nearest (λ a b. dx a b + dy a b + dz a b) man_3d_of sum_in_space-grows (λ a b. (man_3d_laws.defined a b).below_next_half) (λ a b. (man_3d_laws.defined a b).from_last_half)

pub max_3d-grows : IsMonotone max_3d_of
max_3d-grows = nearest longest_way max_3d_of longest_in_space-grows (λ a b. (max_3d_laws.defined a b).below_next_half) (λ a b. (max_3d_laws.defined a b).from_last_half)
