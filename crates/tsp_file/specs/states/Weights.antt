-- The costs that a listed matrix (`ListedWeights`) gives, as a function of two nodes. Only `src/typed.rt`, where the
-- struct is, uses it, so change the two together.
use Rattle.std.specs.Prelude.{ℕ, ℤ}
use Rattle.tsp_file.specs.declared.typed.ListedWeights.{ListedWeights}
use Rattle.tsp_file.specs.Cost.{listed_cost}

-- the cost from one node to another
abbrev pub costs_of : ListedWeights → ℕ → ℕ → ℤ
costs_of w i j = listed_cost w.layout w.nodes w.weights.now i j
