-- Circle 3 of docs/trust.md.
-- The lower bounds that numbers on nodes give: by minimum 1-trees under potentials, with or without numbers on pairs,
-- and by duals of an assignment. The theorems are stated here, too; src/laws.rt proves them. Crates above import it,
-- too.
use Rattle.std.specs.List.{All, AllPairs}
use Rattle.std.specs.Prelude.{◌≡◌, ◌≢◌, ℕ, ◌-◌, ◌^◌, ◌*◌, ◌≤◌, List, length, slice_index_or, ℤ, pos, neg_ℤ, ◌*ℤ◌, ◌≤ℤ◌, ◌+◌, ◌+ℤ◌, ◌-ℤ◌, ◌==◌, ◌&&◌, ◌||◌, Bool, false, if◌then◌else◌, [], ◌<ℤ◌}
use Rattle.tsp_format.specs.Limits.{most_scale, most_potential, most_triples, most_multiplier, most_weight}
use Rattle.tsp_format.specs.Nodes.{IsNode}
use Rattle.tsp_format.specs.Steps.{IsFromTo}
use Rattle.tsp_format.specs.Words.{IsSymmetric, IsBefore}
use Rattle.tsp_theory.specs.Tour.{sum_int_by, IsCycle, length_of, AreNeighbours}
use Rattle.tsp_theory.specs.Tree.{weight_of, IsLeastOneTree}

-- the scale of a certificate: its numbers are multiples of 1 / scale
abbrev pub IsScale : ℤ → Type 0
IsScale scale = IsFromTo (pos 1) (pos most_scale) scale

-- numbers that are within the limit of potentials
abbrev pub ArePotentials : List ℤ → Type 0
ArePotentials numbers = All (IsFromTo (neg_ℤ (pos most_potential)) (pos most_potential)) numbers

-- the number of a node; nodes count from 1
abbrev pub entry : List ℤ → ℕ → ℤ
entry numbers node = slice_index_or numbers (node - 1) (pos 0)

-- the sum of all numbers
abbrev pub total : List ℤ → ℤ
total numbers = sum_int_by (λ number. number) numbers

-- the least whole number that, times the scale, is no less than the sum
pub record IsLeastBound (scale sum bound : ℤ) : Type 0 where
  pub above : sum ≤ℤ (scale *ℤ bound)
  pub least : (other : ℤ) → sum ≤ℤ (scale *ℤ other) → bound ≤ℤ other

-- the limit of the number of a node, and of the number on a decided pair: two of them and any cost times a scale fit 64
-- bits
abbrev pub most_number : ℕ
most_number = 4000000000000000000

-- a bound so small that sums with it fit 128 bits
abbrev pub IsBoundSized : ℤ → Type 0
IsBoundSized bound = IsFromTo (neg_ℤ (pos (2 ^ 100))) (pos (2 ^ 100)) bound

-- a scale, and as many numbers of rows as of columns
pub record AreDuals (scale : ℤ) (rows columns : List ℤ) : Type 0 where
  pub scale_is : IsScale scale
  pub rows_are : ArePotentials rows
  pub columns_are : ArePotentials columns
  pub as_many : length rows ≡ length columns

-- a scale and numbers of nodes
pub record AreNodePotentials (scale : ℤ) (numbers : List ℤ) : Type 0 where
  pub scale_is : IsScale scale
  pub numbers_are : ArePotentials numbers

-- two different nodes with a number that isn't negative
abbrev pub IsMultiplier : ℕ × ℕ × ℤ → Type 0
IsMultiplier triple = (triple.0 ≢ triple.1) × IsFromTo (pos 0) (pos most_multiplier) triple.2

-- multipliers of pairs, as many as the limit allows
pub record AreMultipliers (triples : List (ℕ × ℕ × ℤ)) : Type 0 where
  pub few : length triples ≤ most_triples
  pub each : All IsMultiplier triples

-- how large a sum of `count` numbers of 64 bits is at most
abbrev pub IsSumSized : ℕ → ℤ → Type 0
IsSumSized count sum = IsFromTo (neg_ℤ (pos (count * 2 ^ 63))) (pos (count * 2 ^ 63)) sum

-- ---- the weights between nodes under potentials, and the bound of a minimum 1-tree

-- the weight between two nodes: the cost times the scale, and the potentials of both
abbrev pub weight_between : ℤ → List ℤ → (ℕ → ℕ → ℤ) → ℕ → ℕ → ℤ
weight_between scale potentials cost i j = (scale *ℤ cost i j) +ℤ (entry potentials i +ℤ entry potentials j)

-- how large that weight is at most
abbrev pub most_between : ℕ
most_between = most_scale * most_weight + 2 * most_potential

-- the bound of a 1-tree of this weight: each potential is taken off twice, because a cycle has each node in two links
abbrev pub IsBoundOfPotentials : ℤ → List ℤ → ℤ → ℤ → Type 0
IsBoundOfPotentials scale potentials weight bound = IsLeastBound scale (weight -ℤ (pos 2 *ℤ total potentials)) bound

-- the bound of potentials: that of a minimum 1-tree
pub record IsNodeBound (n : ℕ) (cost : ℕ → ℕ → ℤ) (scale : ℤ) (potentials : List ℤ) (bound : ℤ) : Type 0 where
  pub tree : List (ℕ × ℕ)
  pub least : IsLeastOneTree n (weight_between scale potentials cost) tree
  pub bound_is : IsBoundOfPotentials scale potentials (weight_of (weight_between scale potentials cost) tree) bound

-- The bound of potentials is at most the length of every cycle: a cycle's links are a 1-tree.
abbrev pub NodeBoundsBoundCycles : Type 0
NodeBoundsBoundCycles = (n : ℕ) (cost : ℕ → ℕ → ℤ) (scale : ℤ) (potentials : List ℤ) (bound : ℤ) (nodes : List ℕ)
    → 3 ≤ n → IsSymmetric cost → IsScale scale → length potentials ≡ n → IsNodeBound n cost scale potentials bound
    → IsCycle n nodes → bound ≤ℤ length_of cost nodes

-- ---- the bound of a minimum 1-tree under potentials

-- ---- triples: two nodes with a number

-- the pair of a triple
abbrev pub pair_of : ℕ × ℕ × ℤ → ℕ × ℕ
pair_of triple = (triple.0, triple.1)

-- the same two nodes, in either direction
abbrev pub is_same_pair : ℕ × ℕ → ℕ × ℕ → Bool
is_same_pair p q = ((p.0 == q.0) && (p.1 == q.1)) || ((p.1 == q.0) && (p.0 == q.1))

-- the number of a triple on two nodes: 0 if its pair is another one
abbrev pub number_on : ℕ × ℕ × ℤ → ℕ → ℕ → ℤ
number_on triple i j = if is_same_pair (pair_of triple) (i, j) then triple.2 else pos 0

-- the numbers of several triples on two nodes, added
abbrev pub numbers_on : List (ℕ × ℕ × ℤ) → ℕ → ℕ → ℤ
numbers_on triples i j = sum_int_by (λ triple. number_on triple i j) triples

-- the numbers of all triples, added
abbrev pub triples_total : List (ℕ × ℕ × ℤ) → ℤ
triples_total triples = sum_int_by (λ triple. triple.2) triples

-- triples over n nodes with different pairs
pub record AreOnPairs (n : ℕ) (triples : List (ℕ × ℕ × ℤ)) : Type 0 where
  pub nodes : All (λ triple. IsNode n triple.0 × IsNode n triple.1) triples
  pub differ : AllPairs (λ s t. is_same_pair (pair_of s) (pair_of t) ≡ false) triples

-- ---- pairs that are taken, and pairs that are avoided

-- weights less the numbers of the taken pairs, and more by those of the avoided ones
abbrev pub adjusted : List (ℕ × ℕ × ℤ) → List (ℕ × ℕ × ℤ) → (ℕ → ℕ → ℤ) → ℕ → ℕ → ℤ
adjusted taken avoided w i j = (w i j -ℤ numbers_on taken i j) +ℤ numbers_on avoided i j

-- a cycle has the two nodes of each triple as neighbours
abbrev pub UsesEach : List (ℕ × ℕ × ℤ) → List ℕ → Type 0
UsesEach triples nodes = All (λ triple. AreNeighbours nodes (pair_of triple)) triples

-- a cycle has the two nodes of no triple as neighbours
abbrev pub UsesNone : List (ℕ × ℕ × ℤ) → List ℕ → Type 0
UsesNone triples nodes = All (λ triple. AreNeighbours nodes (pair_of triple) → ⊥) triples

-- the bound of an adjusted 1-tree of this weight: each potential is taken off twice, and the numbers of the taken pairs
-- are given back, because a cycle has each node in two of its links and each taken pair in one
abbrev pub IsAdjustedBoundOf : ℤ → List ℤ → List (ℕ × ℕ × ℤ) → ℤ → ℤ → Type 0
IsAdjustedBoundOf scale potentials taken weight bound =
    IsLeastBound scale ((weight -ℤ (pos 2 *ℤ total potentials)) +ℤ triples_total taken) bound

-- the bound of potentials and of numbers on taken and avoided pairs: that of a minimum 1-tree
pub record IsAdjustedBound (n : ℕ) (cost : ℕ → ℕ → ℤ) (scale : ℤ) (potentials : List ℤ) (taken avoided : List (ℕ × ℕ × ℤ))
    (bound : ℤ) : Type 0 where
  pub tree : List (ℕ × ℕ)
  pub least : IsLeastOneTree n (adjusted taken avoided (weight_between scale potentials cost)) tree
  pub bound_is : IsAdjustedBoundOf scale potentials taken
      (weight_of (adjusted taken avoided (weight_between scale potentials cost)) tree) bound

-- ---- the theorems

-- Under symmetric weights a minimum 1-tree weighs no more than a cycle: the cycle's links are a 1-tree.
abbrev pub LeastOneTreesAreBelowCycles : Type 0
LeastOneTreesAreBelowCycles = (n : ℕ) (w : ℕ → ℕ → ℤ) (tree : List (ℕ × ℕ)) (nodes : List ℕ)
    → 3 ≤ n → ((i j : ℕ) → w i j ≡ w j i) → IsLeastOneTree n w tree → IsCycle n nodes → weight_of w tree ≤ℤ length_of w nodes

-- The bound of potentials and numbers is at most the length of every cycle that uses all taken and no avoided pairs.
abbrev pub AdjustedBoundsBoundCycles : Type 0
AdjustedBoundsBoundCycles = (n : ℕ) (cost : ℕ → ℕ → ℤ) (scale : ℤ) (potentials : List ℤ)
    (taken avoided : List (ℕ × ℕ × ℤ)) (bound : ℤ) (nodes : List ℕ)
    → 3 ≤ n → IsSymmetric cost → IsScale scale → length potentials ≡ n
    → IsAdjustedBound n cost scale potentials taken avoided bound
    → IsCycle n nodes → UsesEach taken nodes → UsesNone avoided nodes → bound ≤ℤ length_of cost nodes

-- Without taken and avoided pairs it is the bound of the potentials alone.
abbrev pub UnadjustedBoundsAreNodeBounds : Type 0
UnadjustedBoundsAreNodeBounds = (n : ℕ) (cost : ℕ → ℕ → ℤ) (scale : ℤ) (potentials : List ℤ) (bound : ℤ)
    → IsAdjustedBound n cost scale potentials [] [] bound → IsNodeBound n cost scale potentials bound

-- ---- the bound of duals: numbers of rows and of columns, whose sums are at most the costs

-- good duals: for different nodes i and j of 1..n the sum of row i and column j is at most the cost from i to j times
-- the scale
abbrev pub AreGood : ℕ → (ℕ → ℕ → ℤ) → ℤ → List ℤ → List ℤ → Type 0
AreGood n cost scale rows columns = (i j : ℕ) → IsNode n i → IsNode n j → i ≢ j
    → (entry rows i +ℤ entry columns j) ≤ℤ (scale *ℤ cost i j)

-- the first pair of different nodes, by rows, whose sum is larger than that
pub record IsFirstBroken (n : ℕ) (cost : ℕ → ℕ → ℤ) (scale : ℤ) (rows columns : List ℤ) (i j : ℕ) : Type 0 where
  pub row : IsNode n i
  pub column : IsNode n j
  pub other : i ≢ j
  pub broken : (scale *ℤ cost i j) <ℤ (entry rows i +ℤ entry columns j)
  pub first : (a b : ℕ) → IsNode n a → IsNode n b → a ≢ b → IsBefore (a, b) (i, j)
      → (entry rows a +ℤ entry columns b) ≤ℤ (scale *ℤ cost a b)

-- the bound of duals: the least whole number that, times the scale, is no less than the sum of them all
abbrev pub IsDualBound : ℤ → List ℤ → List ℤ → ℤ → Type 0
IsDualBound scale rows columns bound = IsLeastBound scale (total rows +ℤ total columns) bound

-- The bound of good duals is at most the length of every cycle: each node has one link out and one in.
abbrev pub DualsBoundCycles : Type 0
DualsBoundCycles = (n : ℕ) (cost : ℕ → ℕ → ℤ) (scale : ℤ) (rows columns : List ℤ) (bound : ℤ) (nodes : List ℕ)
    → 2 ≤ n → IsScale scale → length rows ≡ n → length columns ≡ n → AreGood n cost scale rows columns
    → IsDualBound scale rows columns bound → IsCycle n nodes → bound ≤ℤ length_of cost nodes
