-- Circle 1 of docs/trust.md.
-- The distance that each weight type means, by its inequalities. With it a referee can check the meaning of a length
-- without the functions that compute one, because a law in src/laws.rt ties the two. Problems.antt in tsp_cost uses it.
use Rattle.tsp_file.specs.Prelude.{ℕ, Point, IsEuc2d, IsCeil2d, IsMan2d, IsMax2d, IsAtt, IsEuc3d, IsMan3d, IsMax3d, WeightKind, Explicit, Euc2d, Ceil2d, Man2d, Max2d, Att, Euc3d, Man3d, Max3d}

-- k is the distance of a and b by the weight type; EXPLICIT has none
abbrev pub IsDistanceBy : WeightKind → Point → Point → ℕ → Type 0
IsDistanceBy Euc2d a b k = IsEuc2d a b k
IsDistanceBy Ceil2d a b k = IsCeil2d a b k
IsDistanceBy Man2d a b k = IsMan2d a b k
IsDistanceBy Max2d a b k = IsMax2d a b k
IsDistanceBy Att a b k = IsAtt a b k
IsDistanceBy Euc3d a b k = IsEuc3d a b k
IsDistanceBy Man3d a b k = IsMan3d a b k
IsDistanceBy Max3d a b k = IsMax3d a b k
IsDistanceBy Explicit a b k = ⊥
