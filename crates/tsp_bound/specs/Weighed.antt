-- The weight of a minimum 1-tree, without saying which tree: a bound needs no more, so code may find any of them.
-- src/prim.rt promises it. In no circle of docs/trust.md. tsp_branch imports it, too.
use Rattle.std.specs.Prelude.{◌≡◌, ℕ, List, ℤ}
use Rattle.tsp_theory.specs.Tree.{weight_of, IsLeastOneTree}

-- the weight of a 1-tree; no 1-tree weighs less
pub record IsLeastWeight (n : ℕ) (w : ℕ → ℕ → ℤ) (weight : ℤ) : Type 0 where
  pub tree : List (ℕ × ℕ)
  pub least : IsLeastOneTree n w tree
  pub weight_is : weight ≡ weight_of w tree
