-- Minimum trees over the nodes 2..n, put together from least joins: each is a least pair that leaves some set of nodes
-- which no earlier pair leaves. In R. C. Prim's algorithm this is the set of grown nodes, in O. Boruvka's rounds (1926)
-- any component. Source: R. E. Tarjan, Data structures and network algorithms, 1983, chapter 6: the blue rule. Both
-- ways of growing a tree in tsp_bound are proved against it. In no circle of docs/trust.md.
use Rattle.std.specs.Prelude.{◌≡◌, ℕ, ◌+◌, Bool, false, List, [], ◌∷◌, ◌++◌, length, ℤ}
use Rattle.std.specs.List.{All}
use Rattle.tsp_theory.specs.Tree.{IsLeastLeaving, IsInner, crosses}

-- no pair leaves the set `part`
abbrev pub IsUncrossed : (ℕ → Bool) → List (ℕ × ℕ) → Type 0
IsUncrossed part pairs = All (λ pair. crosses part pair ≡ false) pairs

-- a least pair that leaves some set of nodes which no earlier pair leaves
pub record IsLeastJoin (Node : ℕ → Type 0) (w : ℕ → ℕ → ℤ) (earlier : List (ℕ × ℕ)) (pair : ℕ × ℕ) : Type 0 where
  pub part : ℕ → Bool
  pub uncrossed : IsUncrossed part earlier
  pub from : Node pair.0
  pub leaving : IsLeastLeaving Node w part pair

-- each pair is a least join of the pairs before it
abbrev pub AreLeastJoins : (ℕ → Type 0) → (ℕ → ℕ → ℤ) → List (ℕ × ℕ) → List (ℕ × ℕ) → Type 0
AreLeastJoins Node w earlier [] = Unit {0}
AreLeastJoins Node w earlier (pair ∷ pairs) = IsLeastJoin Node w earlier pair × AreLeastJoins Node w (earlier ++ pair ∷ []) pairs

-- least joins over the nodes 2..n, as many as a tree over them has
pub record IsWholeForest (n : ℕ) (w : ℕ → ℕ → ℤ) (added : List (ℕ × ℕ)) : Type 0 where
  pub joins : AreLeastJoins (IsInner n) w [] added
  pub count : 2 + length added ≡ n
