-- Circles 1, 2 and 3 of docs/trust.md.
-- What each of TSPLIB's eight distances is, after Reinelt: the one whole number that satisfies some inequalities.
-- src/distance.rt promises them, and tsp_file defines the costs of an instance by them. The meaning of every length
-- rests on these, so a change here changes what `yes` promises. Further down, which distances grow as points move
-- apart; only searches need that. Crates above import it, too.
use Rattle.std.specs.Prelude.{◌≡◌, ℕ, zero, suc, Bool, nat_lt, nat_le, if◌then◌else◌, ◌+◌, ◌-◌, ◌*◌, ◌<◌, ◌≤◌, ◌-ℤ◌, unsigned_abs, max, ℤ, pos}
use Rattle.tsp_number.specs.Decimal.{unit, most_count}
use Rattle.tsp_number.specs.declared.decimal.Point.{Point}

-- the point of the plane with these coordinates
abbrev pub on_plane : ℤ → ℤ → Point
on_plane x y = record { x = x; y = y; z = pos 0 }

abbrev pub squared : ℕ → ℕ
squared n = n * n

-- how far apart the points are along each axis, in counts of 10^-9
abbrev pub dx : Point → Point → ℕ
dx a b = unsigned_abs (a.x -ℤ b.x)

abbrev pub dy : Point → Point → ℕ
dy a b = unsigned_abs (a.y -ℤ b.y)

abbrev pub dz : Point → Point → ℕ
dz a b = unsigned_abs (a.z -ℤ b.z)

-- the square of the straight distance in the plane, by Pythagoras
abbrev pub square_apart : Point → Point → ℕ
square_apart a b = squared (dx a b) + squared (dy a b)

-- the square of the straight distance in space
abbrev pub square_apart_in_space : Point → Point → ℕ
square_apart_in_space a b = squared (dx a b) + squared (dy a b) + squared (dz a b)

-- k is the root of a square of counts, rounded to the nearest whole number, a half upward
pub record IsNearestRoot (square k : ℕ) : Type 0 where
  pub below_next_half : 4 * square < squared ((2 * k + 1) * unit)
  pub from_last_half : 0 < k → squared ((2 * k - 1) * unit) ≤ 4 * square

-- k is a count rounded to the nearest whole number, a half upward
pub record IsNearestWhole (count k : ℕ) : Type 0 where
  pub below_next_half : 2 * count < (2 * k + 1) * unit
  pub from_last_half : 0 < k → (2 * k - 1) * unit ≤ 2 * count

-- k is the least whole number whose reach is at least the needed number
pub record IsFirstEnough (needed : ℕ) (reach : ℕ → ℕ) (k : ℕ) : Type 0 where
  pub enough : needed ≤ reach k
  pub none_smaller : (j : ℕ) → j < k → reach j < needed

-- ---- each distance under its name

-- EUC_2D: the straight distance rounded to the nearest whole number, a half upward
abbrev pub IsEuc2d : Point → Point → ℕ → Type 0
IsEuc2d a b k = IsNearestRoot (square_apart a b) k

-- CEIL_2D: the straight distance rounded up
abbrev pub IsCeil2d : Point → Point → ℕ → Type 0
IsCeil2d a b k = IsFirstEnough (square_apart a b) (λ j. squared (j * unit)) k

-- MAN_2D: the sum of both differences rounded to the nearest whole number, a half upward
abbrev pub IsMan2d : Point → Point → ℕ → Type 0
IsMan2d a b k = IsNearestWhole (dx a b + dy a b) k

-- MAX_2D: the larger of both differences rounded to the nearest whole number, a half upward
abbrev pub IsMax2d : Point → Point → ℕ → Type 0
IsMax2d a b k = IsNearestWhole (max (dx a b) (dy a b)) k

-- ATT: the root of a tenth of the square rounded up
abbrev pub IsAtt : Point → Point → ℕ → Type 0
IsAtt a b k = IsFirstEnough (square_apart a b) (λ j. 10 * squared (j * unit)) k

-- EUC_3D: the straight distance in space rounded to the nearest whole number, a half upward
abbrev pub IsEuc3d : Point → Point → ℕ → Type 0
IsEuc3d a b k = IsNearestRoot (square_apart_in_space a b) k

-- MAN_3D: the sum of the three ways rounded to the nearest whole number, a half upward
abbrev pub IsMan3d : Point → Point → ℕ → Type 0
IsMan3d a b k = IsNearestWhole (dx a b + dy a b + dz a b) k

-- the longest of the three ways
abbrev pub longest_way : Point → Point → ℕ
longest_way a b = max (max (dx a b) (dy a b)) (dz a b)

-- MAX_3D: the longest of the three ways rounded to the nearest whole number, a half upward
abbrev pub IsMax3d : Point → Point → ℕ → Type 0
IsMax3d a b k = IsNearestWhole (longest_way a b) k

-- the least number at which the test holds, sought from 0 on below n; n if there is none
unfoldable pub least : (ℕ → Bool) → ℕ → ℕ
least test zero = 0
least test (suc n) = if test 0 then 0 else suc (least (λ k. test (suc k)) n)

-- The distances as functions of the points: the least k that is large enough. Each is the one k of a definition above.
abbrev pub euc_2d_of : Point → Point → ℕ
euc_2d_of a b = least (λ k. nat_lt (4 * square_apart a b) (squared ((2 * k + 1) * unit))) (square_apart a b)

abbrev pub ceil_2d_of : Point → Point → ℕ
ceil_2d_of a b = least (λ k. nat_le (square_apart a b) (squared (k * unit))) (square_apart a b)

abbrev pub man_2d_of : Point → Point → ℕ
man_2d_of a b = least (λ k. nat_lt (2 * (dx a b + dy a b)) ((2 * k + 1) * unit)) (dx a b + dy a b)

abbrev pub max_2d_of : Point → Point → ℕ
max_2d_of a b = least (λ k. nat_lt (2 * max (dx a b) (dy a b)) ((2 * k + 1) * unit)) (max (dx a b) (dy a b))

abbrev pub att_of : Point → Point → ℕ
att_of a b = least (λ k. nat_le (square_apart a b) (10 * squared (k * unit))) (square_apart a b)

abbrev pub euc_3d_of : Point → Point → ℕ
euc_3d_of a b = least (λ k. nat_lt (4 * square_apart_in_space a b) (squared ((2 * k + 1) * unit))) (square_apart_in_space a b)

abbrev pub man_3d_of : Point → Point → ℕ
man_3d_of a b =
    least (λ k. nat_lt (2 * (dx a b + dy a b + dz a b)) ((2 * k + 1) * unit)) (dx a b + dy a b + dz a b)

abbrev pub max_3d_of : Point → Point → ℕ
max_3d_of a b = least (λ k. nat_lt (2 * longest_way a b) ((2 * k + 1) * unit)) (longest_way a b)

-- the coordinates in the plane are counts of decimals
pub record IsOnPlane (a : Point) : Type 0 where
  pub x : unsigned_abs a.x ≤ most_count
  pub y : unsigned_abs a.y ≤ most_count

-- the three coordinates are counts of decimals
pub record IsInSpace (a : Point) : Type 0 where
  pub x : unsigned_abs a.x ≤ most_count
  pub y : unsigned_abs a.y ≤ most_count
  pub z : unsigned_abs a.z ≤ most_count

-- `distance` is the number that `Is` defines, and nothing else is. It is symmetric, 0 between equal points, and at most
-- `longest` between points that lie `Within`
pub record IsDistanceWithin (Within : Point → Type 0) (longest : ℕ) (Is : Point → Point → ℕ → Type 0)
    (distance : Point → Point → ℕ) : Type 0 where
  pub defined : (a b : Point) → Is a b (distance a b)
  pub unique : (a b : Point) (k : ℕ) → Is a b k → k ≡ distance a b
  pub symmetric : (a b : Point) → distance a b ≡ distance b a
  pub none : (a : Point) → distance a a ≡ 0
  pub most : (a b : Point) → Within a → Within b → distance a b ≤ longest

-- of points in the plane, whose third coordinate isn't looked at
abbrev pub IsDistance : (Point → Point → ℕ → Type 0) → (Point → Point → ℕ) → Type 0
IsDistance = IsDistanceWithin IsOnPlane 4000000000

-- of points in space
abbrev pub IsDistanceInSpace : (Point → Point → ℕ → Type 0) → (Point → Point → ℕ) → Type 0
IsDistanceInSpace = IsDistanceWithin IsInSpace 6000000000

-- ---- distances that don't shrink if two points move apart along the axes

-- points that are no farther apart along each axis are no farther apart
abbrev pub IsMonotone : (Point → Point → ℕ) → Type 0
IsMonotone distance =
    (a b c d : Point) → dx a b ≤ dx c d → dy a b ≤ dy c d → dz a b ≤ dz c d → distance a b ≤ distance c d
