-- Circle 3 of docs/trust.md.
-- Trees and 1-trees over the nodes of a problem, their weights, and what a minimum 1-tree is (`IsLeastOneTree`), on
-- which the bounds rest. src/bound.rt and src/prim.rt in tsp_bound promise to find one. Further down, a tree that grows
-- from a node: only proofs and tsp_bound's way to a minimum tree rest on it, no bound. Crates above import it, too.
use Rattle.std.specs.List.{All, list_any, filter}
use Rattle.std.specs.Prelude.{◌≡◌, ◌≢◌, ℕ, ◌==◌, ◌<◌, ◌≤◌, Bool, true, false, not, if◌then◌else◌, List, [], ◌∷◌, length, ℤ, pos, ◌≤ℤ◌, ◌+◌, ◌||◌, map, nat_lt}
use Rattle.tsp_theory.specs.Tour.{sum_int_by}

-- a pair of nodes of 1..n, the smaller one first
abbrev pub IsPair : ℕ → ℕ × ℕ → Type 0
IsPair n pair = (1 ≤ pair.0) × (pair.0 < pair.1) × (pair.1 ≤ n)

-- the nodes of 2..n
abbrev pub IsInner : ℕ → ℕ → Type 0
IsInner n node = (2 ≤ node) × (node ≤ n)

-- the pair is an edge at node 1
abbrev pub is_at_one : ℕ × ℕ → Bool
is_at_one pair = pair.0 == 1

-- the pairs that aren't at node 1
abbrev pub inner_pairs : List (ℕ × ℕ) → List (ℕ × ℕ)
inner_pairs pairs = filter (λ pair. not (is_at_one pair)) pairs

-- one end of the pair is in the set `part`, and one isn't
abbrev pub crosses : (ℕ → Bool) → ℕ × ℕ → Bool
crosses part pair = if part pair.0 then not (part pair.1) else part pair.1

-- 1 for two nodes of which one is in the set, otherwise 0
abbrev pub crossing : (ℕ → Bool) → ℕ → ℕ → ℤ
crossing part i j = if crosses part (i, j) then pos 1 else pos 0

-- A 1-tree: n pairs, of which two different ones are at node 1 and the others join the nodes 2..n.
pub record IsOneTree (n : ℕ) (pairs : List (ℕ × ℕ)) : Type 0 where
  pub count : length pairs ≡ n
  pub range : All (IsPair n) pairs
  pub first : ℕ
  pub second : ℕ
  pub root_edges : filter is_at_one pairs ≡ (1, first) ∷ (1, second) ∷ []
  pub differ : first ≢ second
  pub joined : (part : ℕ → Bool) (inside outside : ℕ) → IsInner n inside → IsInner n outside
      → part inside ≡ true → part outside ≡ false → list_any (crosses part) (inner_pairs pairs) ≡ true

-- the sum of the weights of pairs
abbrev pub weight_of : (ℕ → ℕ → ℤ) → List (ℕ × ℕ) → ℤ
weight_of w pairs = sum_int_by (λ pair. w pair.0 pair.1) pairs

-- a 1-tree, and no 1-tree weighs less
pub record IsLeastOneTree (n : ℕ) (w : ℕ → ℕ → ℤ) (pairs : List (ℕ × ℕ)) : Type 0 where
  pub tree : IsOneTree n pairs
  pub least : (others : List (ℕ × ℕ)) → IsOneTree n others → weight_of w pairs ≤ℤ weight_of w others

-- ---- a least tree over the nodes 2..n that grows from one of them

-- a set of nodes, with one node more
abbrev pub and_node : (ℕ → Bool) → ℕ → ℕ → Bool
and_node part node x = (x == node) || part x

-- a pair from a grown node to one that isn't grown; no such pair weighs less
pub record IsLeastLeaving (Node : ℕ → Type 0) (w : ℕ → ℕ → ℤ) (grown : ℕ → Bool) (pair : ℕ × ℕ) : Type 0 where
  pub from : grown pair.0 ≡ true
  pub to : grown pair.1 ≡ false
  pub node : Node pair.1
  pub least : (a b : ℕ) → Node a → Node b → grown a ≡ true → grown b ≡ false → w pair.0 pair.1 ≤ℤ w a b

-- each pair is a least one that leaves the nodes grown so far
abbrev pub Grows : (ℕ → Type 0) → (ℕ → ℕ → ℤ) → (ℕ → Bool) → List (ℕ × ℕ) → Type 0
Grows Node w grown [] = Unit {0}
Grows Node w grown (pair ∷ pairs) = IsLeastLeaving Node w grown pair × Grows Node w (and_node grown pair.1) pairs

-- the grown nodes after these pairs
abbrev pub grown_by : (ℕ → Bool) → List (ℕ × ℕ) → ℕ → Bool
grown_by grown [] = grown
grown_by grown (pair ∷ pairs) = grown_by (and_node grown pair.1) pairs

-- a growth from node 2 that reaches all of 2..n
pub record IsWholeGrowth (n : ℕ) (w : ℕ → ℕ → ℤ) (added : List (ℕ × ℕ)) : Type 0 where
  pub grows : Grows (IsInner n) w (λ x. x == 2) added
  pub reached : (x : ℕ) → IsInner n x → grown_by (λ y. y == 2) added x ≡ true
  pub count : 2 + length added ≡ n

-- the two nodes of 2..n that are nearest to node 1, the nearest first
pub record AreNearest (n : ℕ) (w : ℕ → ℕ → ℤ) (first second : ℕ) : Type 0 where
  pub first_in : IsInner n first
  pub second_in : IsInner n second
  pub differ : first ≢ second
  pub near : (x : ℕ) → IsInner n x → w 1 first ≤ℤ w 1 x
  pub next : (x : ℕ) → IsInner n x → x ≢ first → w 1 second ≤ℤ w 1 x

-- a pair, the smaller node first
abbrev pub ordered : ℕ × ℕ → ℕ × ℕ
ordered pair = if nat_lt pair.0 pair.1 then pair else (pair.1, pair.0)

-- the 1-tree of two edges at node 1 and the pairs of a growth
abbrev pub tree_of : ℕ → ℕ → List (ℕ × ℕ) → List (ℕ × ℕ)
tree_of first second added = (1, first) ∷ (1, second) ∷ map ordered added
