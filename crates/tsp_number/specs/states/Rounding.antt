-- Which whole number is the rounded root of a square: the least one that is large enough (`Covers`), for roots rounded
-- to the nearest number or up. Only `src/root.rt`, which finds it, and `src/distance.rt` and `src/at_least.rt`, which
-- ask for it, use these definitions. You may change them with the search, because each distance is defined by
-- inequalities of its own.
use Rattle.std.specs.Prelude.{ℕ, ◌+◌, ◌-◌, ◌*◌, ◌^◌, ◌<◌, ◌≤◌}
use Rattle.tsp_number.specs.declared.root.Rounding.{Rounding}
use Rattle.tsp_number.specs.declared.root.Rounding.TheVariants.{Nearest, Up, TenthUp}
use Rattle.tsp_number.specs.Decimal.{unit}
use Rattle.tsp_number.specs.Distances.{squared}

-- k is large enough to be the root rounded to the nearest number, or up, or (for ATT) the root of a tenth of the square
-- rounded up
abbrev pub Covers : Rounding → ℕ → ℕ → Type 0
Covers Nearest square k = 4 * square < squared ((2 * k + 1) * unit)
Covers Up square k = square ≤ squared (k * unit)
Covers TenthUp square k = square ≤ 10 * squared (k * unit)

-- k is the rounded root: no smaller number is large enough
pub record IsLeastCover (rounding : Rounding) (square k : ℕ) : Type 0 where
  pub enough : Covers rounding square k
  pub least : 0 < k → ¬ Covers rounding square (k - 1)

-- no estimate of a root reaches this number
abbrev pub estimate_limit : Rounding → ℕ
estimate_limit Nearest = 2 ^ 32
estimate_limit Up = 2 ^ 32
estimate_limit TenthUp = 2 ^ 30
