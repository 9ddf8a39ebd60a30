-- What is known about an `Instance` once it is made (`HasFound`), and that each of its views, by points, matrix or
-- triangle, has the costs of its file (`IsViewOf`, `ShowsSymmetric`). `src/instance.rt` promises it, and
-- `tsp_verdict/src/potentials_certificate.rt` and `tsp_verdict/src/certificate.rt` carry a bound over to the file by
-- it. A new view needs its line here.
use Rattle.tsp_cost.specs.Prelude.{ℕ, Some, IsSome, IsTrue, true, false, length, map, ℤ, on_plane, Point, listed_cost, distance, point_of, cost, Fields}
use Rattle.std.specs.Prelude.{◌≡◌, ◌≢◌}
use Rattle.tsp_number.specs.declared.decimal.PlanePoint.{PlanePoint}
use Rattle.tsp_format.specs.declared.kinds.Kind.TheVariants as kinds
use Rattle.tsp_format.specs.declared.kinds.WeightFormat.TheVariants.{Listed}
use Rattle.tsp_format.specs.declared.kinds.WeightKind.TheVariants.{Explicit}
use Rattle.tsp_format.specs.declared.layout.Layout.TheVariants.{FullMatrix}
use Rattle.tsp_file.specs.Rules.{is_instance, is_explicit}
use Rattle.tsp_file.specs.Valid.{IsInRange, HasRouting}
use Rattle.tsp_cost.specs.declared.instance.CostSource.{CostSource}
use Rattle.tsp_cost.specs.declared.instance.CostSource.TheVariants.{Distances, Weights}
use Rattle.tsp_cost.specs.declared.instance.SymmetricView.{SymmetricView}
use Rattle.tsp_cost.specs.declared.instance.SymmetricView.TheVariants as symmetric_views
use Rattle.tsp_cost.specs.declared.instance.View.{View}
use Rattle.tsp_cost.specs.declared.instance.View.TheVariants as views
use Rattle.tsp_cost.specs.declared.matrix.EvenMatrix.{EvenMatrix}
use Rattle.tsp_cost.specs.declared.matrix.Matrix.{Matrix}
use Rattle.tsp_cost.specs.declared.matrix.Triangle.{Triangle}
use Rattle.tsp_cost.specs.declared.points.Euclidean.{Euclidean}
use Rattle.tsp_cost.specs.declared.points.Points.{Points}
use Rattle.tsp_cost.specs.states.Metrics.{weight_kind_of}

-- the costs are distances of its points, or weights that it lists in a layout
abbrev pub ComesFrom : Fields → CostSource → Type 0
ComesFrom f (Distances metric) = (f.weight_kind ≡ Some (weight_kind_of metric)) × IsSome f.coords
ComesFrom f (Weights layout) = (f.weight_kind ≡ Some Explicit) × (f.weight_format ≡ Some (Listed layout)) × IsSome f.weights

-- the file is a valid instance with these nodes, and its costs come from there
pub record HasFound (f : Fields) (nodes : ℕ) (source : CostSource) : Type 0 where
  pub instance : IsTrue (is_instance f.kind)
  pub range : IsInRange f
  pub dimension : f.dimension ≡ Some nodes
  pub costs : ComesFrom f source
  pub routing : f.kind ≡ Some kinds.Cvrp → HasRouting f

-- ---- the number of nodes and the costs of each view of an instance

-- how many nodes a view of points has
abbrev pub points_nodes : {P : Type 0} → Points P → ℕ
points_nodes p = length p.points.now

-- their distance; `place` gives each point as one of space
abbrev pub points_cost : {P : Type 0} → (P → Point) → Points P → ℕ → ℕ → ℤ
points_cost place p i j =
    distance (weight_kind_of p.metric) (point_of (map place p.points.now) i) (point_of (map place p.points.now) j)

-- the point of a node
abbrev pub points_place : {P : Type 0} → (P → Point) → Points P → ℕ → Point
points_place place p node = point_of (map place p.points.now) node

-- the points of a view whose weight type is EUC_2D
abbrev pub euclidean_points : Euclidean → Points PlanePoint
euclidean_points e = e.points

-- how many nodes a full matrix has
abbrev pub matrix_nodes : Matrix → ℕ
matrix_nodes m = m.nodes

-- the cost that it lists
abbrev pub matrix_cost : Matrix → ℕ → ℕ → ℤ
matrix_cost m i j = listed_cost FullMatrix m.nodes m.weights.now i j

-- the same for a full matrix with symmetric costs
abbrev pub even_nodes : EvenMatrix → ℕ
even_nodes e = matrix_nodes e.matrix

abbrev pub even_cost : EvenMatrix → ℕ → ℕ → ℤ
even_cost e i j = matrix_cost e.matrix i j

-- how many nodes half a matrix has
abbrev pub triangle_nodes : Triangle → ℕ
triangle_nodes t = t.nodes

-- the cost that it lists, in one direction or the other
abbrev pub triangle_cost : Triangle → ℕ → ℕ → ℤ
triangle_cost t i j = listed_cost t.layout t.nodes t.weights.now i j

-- the number of nodes is that of the file, and so is every cost
pub record HasCosts (f : Fields) (nodes : ℕ) (costs : ℕ → ℕ → ℤ) : Type 0 where
  pub count : f.dimension ≡ Some nodes
  pub every : (i j : ℕ) → costs i j ≡ cost f i j

-- a view of the file: points if its weights are distances, a matrix if all are listed, a triangle if half of
-- them are
abbrev pub IsViewOf : Fields → View → Type 0
IsViewOf f (views.Plane p) = (is_explicit f.weight_kind ≡ false)
    × HasCosts f (points_nodes p) (points_cost (λ point. on_plane point.x point.y) p)
IsViewOf f (views.Space p) = (is_explicit f.weight_kind ≡ false) × HasCosts f (points_nodes p) (points_cost (λ point. point) p)
IsViewOf f (views.Matrix m) = (is_explicit f.weight_kind ≡ true) × (f.weight_format ≡ Some (Listed FullMatrix))
    × HasCosts f (matrix_nodes m) (matrix_cost m)
IsViewOf f (views.Triangle t) = (is_explicit f.weight_kind ≡ true) × (f.weight_format ≢ Some (Listed FullMatrix))
    × HasCosts f (triangle_nodes t) (triangle_cost t)

-- a view of a file whose costs are the same in both directions
abbrev pub ShowsSymmetric : Fields → SymmetricView → Type 0
ShowsSymmetric f (symmetric_views.Plane p) = HasCosts f (points_nodes p) (points_cost (λ point. on_plane point.x point.y) p)
ShowsSymmetric f (symmetric_views.Space p) = HasCosts f (points_nodes p) (points_cost (λ point. point) p)
ShowsSymmetric f (symmetric_views.Matrix m) = HasCosts f (even_nodes m) (even_cost m)
ShowsSymmetric f (symmetric_views.Triangle t) = HasCosts f (triangle_nodes t) (triangle_cost t)
