-- Circle 3 of docs/trust.md.
-- How often a family of sets is crossed: at least by a cycle, and at most by one edge, found over the parts into which
-- the sets divide the nodes. src/family.rt computes the two numbers, which decide what a family adds to a bound. Crates
-- above import it, too.
use Rattle.tsp_cases.specs.Prelude.{Vec, All, AllPairs, list_any, Any, AllByRecursion, ℕ, Bool, List, length, map, ℤ, [], slice_index, pos, IsNode, IsCycle, sum_int_by, length_of, crossing, IsInner}
use Rattle.std.specs.Prelude.{◌≡◌, ◌<◌, ◌⊎◌, ◌==◌, ◌≤ℤ◌, ◌≢◌, ◌+◌, ◌*◌, ◌≤◌, ◌↔◌, if◌then◌else◌, ◌∷◌, ◌-◌, ◌^◌}

-- the least length of a cycle through the nodes 1..n
pub record IsLeastLength (n : ℕ) (cost : ℕ → ℕ → ℤ) (least : ℤ) : Type 0 where
  pub nodes : List ℕ
  pub cycle : IsCycle n nodes
  pub length_is : least ≡ length_of cost nodes
  pub below : (others : List ℕ) → IsCycle n others → least ≤ℤ length_of cost others

-- the largest cost between two of the nodes 1..n
pub record IsMostCost (n : ℕ) (cost : ℕ → ℕ → ℤ) (most : ℤ) : Type 0 where
  pub first : ℕ
  pub second : ℕ
  pub first_node : IsNode n first
  pub second_node : IsNode n second
  pub most_is : most ≡ cost first second
  pub above : (i j : ℕ) → IsNode n i → IsNode n j → cost i j ≤ℤ most

-- ---- sets

-- whether a node is in a list
abbrev pub has : List ℕ → ℕ → Bool
has nodes node = list_any (λ other. other == node) nodes

-- the sets of these lists
abbrev pub sets_of : List (List ℕ) → List (ℕ → Bool)
sets_of lists = map has lists

-- how many sets have one of two nodes and not the other
abbrev pub sets_crossed : List (ℕ → Bool) → ℕ → ℕ → ℤ
sets_crossed sets i j = sum_int_by (λ set. crossing set i j) sets

-- ---- parts: two nodes are in one part exactly if the same sets have them

-- the same sets have the nodes i and j
abbrev pub AreAlike : List (ℕ → Bool) → ℕ → ℕ → Type 0
AreAlike sets i j = All (λ set. set i ≡ set j) sets

-- no two of these nodes are in one part
abbrev pub AreUnlike : List (ℕ → Bool) → List ℕ → Type 0
AreUnlike sets nodes = AllPairs (λ i j. AreAlike sets i j → ⊥) nodes

-- among the nodes 1..n, some `count` nodes are in different parts
abbrev pub HasUnlike : ℕ → ℕ → List (ℕ → Bool) → Type 0
HasUnlike count n sets = (nodes : List ℕ) × (length nodes ≡ count) × All (IsNode n) nodes × AreUnlike sets nodes

-- a family that is refused: it has more than 63 sets, or more than 14 parts
abbrev pub AreTooMany : ℕ → List (ℕ → Bool) → Type 0
AreTooMany n sets = (63 < length sets) ⊎ HasUnlike 15 n sets

-- ---- the sets that have a node as one number, whose bits are the sets

-- the sets that have a node, as a number: its lowest bit is for the first set
abbrev pub membership : List (ℕ → Bool) → ℕ → ℕ
membership [] node = 0
membership (set ∷ sets) node = membership sets node * 2 + (if set node then 1 else 0)

-- the memberships of the nodes 1..n, each at the index of its node
pub record AreMemberships (n : ℕ) (sets : List (ℕ → Bool)) (memberships : List ℕ) : Type 0 where
  pub count : length memberships ≡ n + 1
  pub said : (node : ℕ) → node < length memberships → slice_index memberships node ≡ membership sets node

-- an index of a node in that list
abbrev pub IsNodePlace : List ℕ → ℕ → Type 0
IsNodePlace memberships node = (1 ≤ node) × (node < length memberships)

-- nodes of which no two have the same membership
abbrev pub AreDifferent : List ℕ → List ℕ → Type 0
AreDifferent memberships nodes = AllPairs (λ i j. slice_index memberships i ≢ slice_index memberships j) nodes

-- one node for each membership in the list
pub record AreFirsts (memberships firsts : List ℕ) : Type 0 where
  pub places : All (IsNodePlace memberships) firsts
  pub differ : AreDifferent memberships firsts
  pub each : (node : ℕ) → IsNodePlace memberships node
      → Any (λ first. slice_index memberships node ≡ slice_index memberships first) firsts

-- Two nodes have one membership exactly if they are in the same sets.
abbrev pub MembershipsTellSets : Type 0
MembershipsTellSets = (sets : List (ℕ → Bool)) (i j : ℕ) → (membership sets i ≡ membership sets j) ↔ AreAlike sets i j

-- the largest of the numbers; 0 if there is none
pub record IsLargest (numbers : List ℕ) (largest : ℕ) : Type 0 where
  pub above : (k : ℕ) → slice_index numbers k ≤ largest
  pub found : (k : ℕ) × (largest ≡ slice_index numbers k)

-- ---- the parts into which sets divide the nodes

-- one node of each part: each node of 1..n is in the same sets as one of them, and no two of them are
pub record ArePartsOf (n : ℕ) (sets : List (ℕ → Bool)) (firsts : List ℕ) : Type 0 where
  pub nodes : All (IsNode n) firsts
  pub apart : AreUnlike sets firsts
  pub each : (node : ℕ) → IsNode n node → Any (AreAlike sets node) firsts

-- how many sets the nodes of two parts cross; parts are numbered from 1 on
abbrev pub between : List (ℕ → Bool) → List ℕ → ℕ → ℕ → ℤ
between sets firsts a b = sets_crossed sets (slice_index firsts (a - 1)) (slice_index firsts (b - 1))

-- parts by a number for each node: each of 1..m is that of a node, and the nodes with one number are in the same sets
pub record IsDivision (n m : ℕ) (sets : List (ℕ → Bool)) (part_of : ℕ → ℕ) : Type 0 where
  pub range : (node : ℕ) → IsNode n node → IsNode m (part_of node)
  pub met : (part : ℕ) → IsNode m part → (node : ℕ) × IsNode n node × (part_of node ≡ part)
  pub same : (i j : ℕ) → IsNode n i → IsNode n j → part_of i ≡ part_of j → AreAlike sets i j

-- ---- the theorems

-- Every cycle crosses the sets at least as often as the best cyclic order of the parts of a division.
abbrev pub DivisionsBoundCycles : Type 0
DivisionsBoundCycles = (n m : ℕ) (sets : List (ℕ → Bool)) (part_of : ℕ → ℕ) (cost : ℕ → ℕ → ℤ) (least : ℤ) (nodes : List ℕ)
    → 1 ≤ n → IsDivision n m sets part_of
    → ((i j : ℕ) → IsNode n i → IsNode n j → cost (part_of i) (part_of j) ≡ sets_crossed sets i j)
    → IsLeastLength m cost least → IsCycle n nodes → least ≤ℤ length_of (sets_crossed sets) nodes

-- Every cycle crosses the sets at least as often as the best cyclic order of their parts.
abbrev pub PartsBoundCycles : Type 0
PartsBoundCycles = (n : ℕ) (sets : List (ℕ → Bool)) (firsts : List ℕ) (least : ℤ) (nodes : List ℕ)
    → 1 ≤ n → ArePartsOf n sets firsts → IsLeastLength (length firsts) (between sets firsts) least
    → IsCycle n nodes → least ≤ℤ length_of (sets_crossed sets) nodes

-- Some cycle crosses them no more often than that.
abbrev pub PartsTellCycles : Type 0
PartsTellCycles = (n : ℕ) (sets : List (ℕ → Bool)) (firsts : List ℕ) (least : ℤ)
    → 1 ≤ n → ArePartsOf n sets firsts → IsLeastLength (length firsts) (between sets firsts) least
    → IsLeastLength n (sets_crossed sets) least

-- The least length is unique.
abbrev pub LeastLengthsAreUnique : Type 0
LeastLengthsAreUnique = (n : ℕ) (cost : ℕ → ℕ → ℤ) (a b : ℤ) → IsLeastLength n cost a → IsLeastLength n cost b → a ≡ b

-- The largest cost is unique.
abbrev pub MostCostsAreUnique : Type 0
MostCostsAreUnique = (n : ℕ) (cost : ℕ → ℕ → ℤ) (a b : ℤ) → IsMostCost n cost a → IsMostCost n cost b → a ≡ b

-- If no two of some nodes are in the same sets, there are at least as many parts as nodes.
abbrev pub UnlikeNodesNeedParts : Type 0
UnlikeNodesNeedParts = (n : ℕ) (sets : List (ℕ → Bool)) (firsts nodes : List ℕ) → ArePartsOf n sets firsts
    → All (IsNode n) nodes → AreUnlike sets nodes → length nodes ≤ length firsts

-- ---- the least lengths of paths through sets of nodes to node 1, by dynamic programming

-- costs between the nodes 1..n, listed by rows
abbrev pub cost_by_rows : ℕ → List ℕ → ℕ → ℕ → ℕ
cost_by_rows n costs i j = slice_index costs ((i - 1) * n + (j - 1))

-- costs as integers
abbrev pub as_whole : (ℕ → ℕ → ℕ) → ℕ → ℕ → ℤ
as_whole cost i j = pos (cost i j)

-- the length of the path from a node through others to node 1
abbrev pub path_length : (ℕ → ℕ → ℕ) → ℕ → List ℕ → ℕ
path_length cost from [] = cost from 1
path_length cost from (next ∷ nodes) = cost from next + path_length cost next nodes

-- a set of nodes from 2 on as a number: its lowest bit is for node 2
abbrev pub number_of : List ℕ → ℕ
number_of [] = 0
number_of (node ∷ nodes) = 2 ^ (node - 2) + number_of nodes

-- no two elements are the same, by recursion
abbrev pub AllApart : List ℕ → Type 0
AllApart [] = Unit {0}
AllApart (x ∷ xs) = AllByRecursion (λ y. x ≢ y) xs × AllApart xs

-- the nodes of a set in some order, each once
pub record IsOrderOf (n set : ℕ) (nodes : List ℕ) : Type 0 where
  pub range : AllByRecursion (IsInner n) nodes
  pub once : AllApart nodes
  pub set_is : number_of nodes ≡ set

-- the length if there is no path
abbrev pub no_path : ℕ
no_path = 2 ^ 60

-- the least length of the paths from a node of the set through all others of it to node 1
pub record IsBestPath (n : ℕ) (cost : ℕ → ℕ → ℕ) (set node best : ℕ) : Type 0 where
  pub most : best ≤ no_path
  pub below : (rest : List ℕ) → IsOrderOf n set (node ∷ rest) → best ≤ path_length cost node rest
  pub found : (best ≡ no_path) ⊎ ((rest : List ℕ) × IsOrderOf n set (node ∷ rest) × (best ≡ path_length cost node rest))

-- the table of such lengths: set by set, for each node from 2 on, as far as the table goes
abbrev pub AreBestPaths : ℕ → (ℕ → ℕ → ℕ) → List ℕ → Type 0
AreBestPaths n cost table = (set other : ℕ) → other < n - 1 → set * (n - 1) + other < length table
    → IsBestPath n cost set (other + 2) (slice_index table (set * (n - 1) + other))

-- the least of `start` and of the sums of a cost and a length, entry by entry of two lists
pub record IsLeastSum (start : ℕ) (costs paths : List ℕ) (cost_at path_at count least : ℕ) : Type 0 where
  pub below_start : least ≤ start
  pub below : (k : ℕ) → k < count → least ≤ slice_index costs (cost_at + k) + slice_index paths (path_at + k)
  pub found : (least ≡ start)
      ⊎ ((k : ℕ) × (k < count) × (least ≡ slice_index costs (cost_at + k) + slice_index paths (path_at + k)))

-- ---- sets of nodes, and families of sets, as vectors

-- sets of nodes of 1..n
abbrev pub AreSetsOf : ℕ → List (Vec ℕ) → Type 0
AreSetsOf n sets = All (λ set. All (IsNode n) set.items) sets

-- the nodes of each set
abbrev pub lists_of : List (Vec ℕ) → List (List ℕ)
lists_of sets = map (λ set. set.items) sets

-- the sets of each family
abbrev pub families_in : List (Vec (Vec ℕ)) → List (List (List ℕ))
families_in families = map (λ sets. lists_of sets.items) families

-- families of sets of nodes of 1..n
abbrev pub AreFamiliesOf : ℕ → List (Vec (Vec ℕ)) → Type 0
AreFamiliesOf n families = All (λ sets. AreSetsOf n sets.items) families
