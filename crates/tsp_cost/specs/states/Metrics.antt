-- The weight type of each `Metric`, and what loops over points compute: the rounded root for the shortcut of EUC_2D,
-- and sums of costs in blocks of 32 nodes. Only `src/metric.rt`, `src/points.rt` and `specs/states/Views.antt` use
-- them. A new metric needs its line in `weight_kind_of`; the loops' part may follow the code.
use Rattle.tsp_cost.specs.Prelude.{ℕ, List, length, slice_index_or, ℤ, pos, squared, Point, links_to, sum_int_by}
use Rattle.std.specs.Prelude.{◌+◌, ◌-◌, ◌*◌, ◌<◌, ◌≤◌, ◌≡◌, ◌∷◌, ◌++◌, ◌+ℤ◌, ◌≤ℤ◌}
use Rattle.tsp_format.specs.declared.kinds.WeightKind.{WeightKind}
use Rattle.tsp_format.specs.declared.kinds.WeightKind.TheVariants as kinds
use Rattle.tsp_cost.specs.declared.metric.Metric.{Metric}
use Rattle.tsp_cost.specs.declared.metric.Metric.TheVariants as metrics

-- the root of a square of steps, divided by 512 and rounded to the nearest whole number, is this one
pub record RoundsTo (square root : ℕ) : Type 0 where
  pub below : square < 65536 * squared (2 * root + 1)
  pub from : 0 < root → 65536 * squared (2 * root - 1) ≤ square

-- ---- the weight type of each `Metric` (src/metric.rt), whose variants are the weight types

-- the weight type with the same name
abbrev pub weight_kind_of : Metric → WeightKind
weight_kind_of metrics.Euc2d = kinds.Euc2d
weight_kind_of metrics.Euc3d = kinds.Euc3d
weight_kind_of metrics.Ceil2d = kinds.Ceil2d
weight_kind_of metrics.Man2d = kinds.Man2d
weight_kind_of metrics.Man3d = kinds.Man3d
weight_kind_of metrics.Max2d = kinds.Max2d
weight_kind_of metrics.Max3d = kinds.Max3d
weight_kind_of metrics.Att = kinds.Att

-- ---- the sum of the costs along a list of nodes, which code adds up in blocks of 32 nodes

-- the sum of the costs from a node along others to an end
abbrev pub length_to : (ℕ → ℕ → ℤ) → ℕ → ℕ → List ℕ → ℤ
length_to cost end from others = sum_int_by (λ link. cost link.0 link.1) (links_to end from others)

-- the sum of the costs from `from` along these nodes, the last of which is `last`: more nodes from there on add their
-- own costs
abbrev pub IsWayThrough : (ℕ → ℕ → ℤ) → ℕ → List ℕ → ℤ → ℕ → Type 0
IsWayThrough cost from nodes sum last = (end : ℕ) (more : List ℕ)
    → sum +ℤ length_to cost end last more ≡ length_to cost end from (nodes ++ more)

-- a sum of `count` costs, each at most 10^12 in size
pub record IsSumOfCosts (count : ℕ) (sum : ℤ) : Type 0 where
  pub low : pos 0 ≤ℤ (sum +ℤ pos (1000000000000 * count))
  pub high : sum ≤ℤ pos (1000000000000 * count)

-- the points of the node `from` and of the first `count` of the others, in an array of 33
pub record ArePlaces (place : ℕ → Point) (from : ℕ) (nodes : List ℕ) (count : ℕ) (places : List Point) : Type 0 where
  pub long : length places ≡ 33
  pub each : (k : ℕ) (other : Point) → k ≤ count → slice_index_or places k other ≡ place (slice_index_or (from ∷ nodes) k 0)
