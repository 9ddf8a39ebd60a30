-- Costs between nodes as rows, and boxes of the plane or space with the points in them: the words in which the
-- shortcuts of the trait `Costs` are promised. In no circle of docs/trust.md, because no bound is defined by them.
-- tsp_bound and tsp_cost import it, too.
use Rattle.std.specs.Prelude.{◌≡◌, ℕ, ℤ, List, slice_index_or, pos, neg_ℤ, ◌≤ℤ◌}
use Rattle.tsp_number.specs.declared.decimal.Point.{Point}
use Rattle.tsp_format.specs.Limits.{most_weight}
use Rattle.tsp_format.specs.Nodes.{IsNode}
use Rattle.tsp_theory.specs.declared.costs.Region.{Region}
use Rattle.tsp_theory.specs.declared.costs.Site.{Site}

-- the entry is the cost, which is within the limit of weights
pub record IsCostEntry (cost entry : ℤ) : Type 0 where
  pub is : entry ≡ cost
  pub low : neg_ℤ (pos most_weight) ≤ℤ entry
  pub high : entry ≤ℤ pos most_weight

-- a row has the cost to each node at the node's index
abbrev pub IsCostRow : ℕ → (ℕ → ℤ) → List ℤ → Type 0
IsCostRow n cost row = (j : ℕ) → IsNode n j → IsCostEntry (cost j) (slice_index_or row j (pos 0))

-- ---- boxes of points along the axes, and nodes with their points

-- the point lies in the box
pub record IsIn (region : Region) (p : Point) : Type 0 where
  pub low_x : region.low.x ≤ℤ p.x
  pub high_x : p.x ≤ℤ region.high.x
  pub low_y : region.low.y ≤ℤ p.y
  pub high_y : p.y ≤ℤ region.high.y
  pub low_z : region.low.z ≤ℤ p.z
  pub high_z : p.z ≤ℤ region.high.z

-- a node with its point
pub record IsSite (nodes : ℕ) (place : ℕ → Point) (site : Site) : Type 0 where
  pub node_in : IsNode nodes site.node
  pub there : site.place ≡ place site.node
