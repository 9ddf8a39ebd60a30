-- Circle 3 of docs/trust.md.
-- The bound of a branches file as mathematics: a leaf's bound is that of a minimum 1-tree or of the least link from
-- each node, and the file's bound is the least one of a leaf. The theorems that no tour is shorter are stated here;
-- src/laws.rt proves them. Crates above import it, too.
use Rattle.tsp_cases.specs.Prelude.{All, Any, ℕ, Bool, true, false, List, ℤ, [], length, pos, Option, Some, None, IsNode, nodes_to, IsSymmetric, IsLeastBound, IsScale, total, weight_between, adjusted, triples_total, UsesEach, UsesNone, IsAdjustedBound, IsCycle, Follows, sum_int_by, length_of, Problem, BoundsTours, HasNoTour, weight_of, IsLeastOneTree}
use Rattle.std.specs.Prelude.{◌≡◌, ◌≢◌, ◌≤◌, ◌↔◌, ◌+ℤ◌, ◌≤ℤ◌, ◌-ℤ◌, ◌*ℤ◌, ◌⊎◌, ◌∷◌}
use Rattle.tsp_cases.specs.Cases.{KeepsAll, SolutionKind, cycles, BoundsKept, HasNoCycle, BoundsCase, take_pairs, on_taken, on_avoided, LeafNumbers, CaseStep, are_case_trees, leaves_of}
use Rattle.tsp_cases.specs.Families.{family_crossings, Family, IsFamily}
use Rattle.tsp_cases.specs.declared.decision.Decision.{Decision}

-- a taken pair (a, b) allows the link from a to b, and links that neither start at a nor end at b; an avoided pair
-- allows all links but that from a to b
abbrev pub AllowsLink : Bool → ℕ × ℕ → ℕ → ℕ → Type 0
AllowsLink true (a, b) i j = (i ≡ a) ↔ (j ≡ b)
AllowsLink false (a, b) i j = i ≡ a → j ≢ b

-- a decision allows the link from i to j
abbrev pub Allows : ℕ → ℕ → Decision → Type 0
Allows i j decision = AllowsLink decision.taken decision.pair i j

-- a link from i to another node of 1..n that all decisions allow
pub record IsAllowed (n : ℕ) (decisions : List Decision) (i j : ℕ) : Type 0 where
  pub node : IsNode n j
  pub other : i ≢ j
  pub each : All (Allows i j) decisions

-- the least weight of the allowed links from i, of which there is at least one
pub record IsLeastFrom (n : ℕ) (w : ℕ → ℕ → ℤ) (decisions : List Decision) (i : ℕ) (least : ℤ) : Type 0 where
  pub to : ℕ
  pub allowed : IsAllowed n decisions i to
  pub reached : least ≡ w i to
  pub below : (j : ℕ) → IsAllowed n decisions i j → least ≤ℤ w i j

-- from some node of 1..n no link is allowed
pub record HasNoLink (n : ℕ) (decisions : List Decision) : Type 0 where
  pub from : ℕ
  pub node : IsNode n from
  pub none : (j : ℕ) → IsAllowed n decisions from j → ⊥

-- the sum over the nodes 1..last of the least weights from them
pub record IsSumOfLeast (n : ℕ) (w : ℕ → ℕ → ℤ) (decisions : List Decision) (last : ℕ) (sum : ℤ) : Type 0 where
  pub least : ℕ → ℤ
  pub each : (i : ℕ) → IsNode last i → IsLeastFrom n w decisions i (least i)
  pub sum_is : sum ≡ sum_int_by least (nodes_to last)

-- the bound by rows: the least whole number that, times the scale, is no less than that sum over all nodes and the
-- number given back
pub record IsRowBound (n : ℕ) (w : ℕ → ℕ → ℤ) (decisions : List Decision) (scale given_back bound : ℤ) : Type 0 where
  pub sum : ℤ
  pub least : IsSumOfLeast n w decisions n sum
  pub bound_is : IsLeastBound scale (sum +ℤ given_back) bound

-- ---- the theorems

-- Each link of a cycle is allowed by the decisions that the cycle keeps.
abbrev pub LinksAreAllowed : Type 0
LinksAreAllowed = (n : ℕ) (decisions : List Decision) (nodes : List ℕ) (i j : ℕ)
    → 2 ≤ n → IsCycle n nodes → KeepsAll true nodes decisions → Follows nodes (i, j) → IsNode n i × IsAllowed n decisions i j

-- If no link from some node is allowed, no cycle keeps the decisions.
abbrev pub NoLinkNoCycle : Type 0
NoLinkNoCycle = (n : ℕ) (decisions : List Decision) → 2 ≤ n → HasNoLink n decisions → HasNoCycle true n decisions

-- The sum of the least weights is at most the weight of every cycle that keeps the decisions.
abbrev pub SumsAreBelowCycles : Type 0
SumsAreBelowCycles = (n : ℕ) (w : ℕ → ℕ → ℤ) (decisions : List Decision) (sum : ℤ) (nodes : List ℕ)
    → 2 ≤ n → IsSumOfLeast n w decisions n sum → IsCycle n nodes → KeepsAll true nodes decisions → sum ≤ℤ length_of w nodes

-- ---- the bound of a leaf by a minimum 1-tree, under potentials, numbers on pairs

-- families of n nodes, each with a multiplier that isn't negative
abbrev pub AreMultiplied : ℕ → List (Family × ℤ) → Type 0
AreMultiplied n families = All (λ multiplied. IsFamily n multiplied.0 × (pos 0 ≤ℤ multiplied.1)) families

-- how often two nodes cross the sets of families, each family times its multiplier
abbrev pub crossings_of : List (Family × ℤ) → ℕ → ℕ → ℤ
crossings_of families i j = sum_int_by (λ multiplied. multiplied.1 *ℤ family_crossings multiplied.0.sets i j) families

-- how often a cycle crosses them at least, each family times its multiplier
abbrev pub least_of : List (Family × ℤ) → ℤ
least_of families = sum_int_by (λ multiplied. multiplied.1 *ℤ pos multiplied.0.numbers.least) families

-- weights less those crossings
abbrev pub combed : List (Family × ℤ) → (ℕ → ℕ → ℤ) → ℕ → ℕ → ℤ
combed families w i j = w i j -ℤ crossings_of families i j

-- the weight between two nodes: the cost at the scale and the potentials of both, less the numbers of taken pairs, more
-- by those of avoided ones, and less the crossings
abbrev pub leaf_weight : ℤ → List ℤ → List (ℕ × ℕ × ℤ) → List (ℕ × ℕ × ℤ) → List (Family × ℤ) → (ℕ → ℕ → ℤ) → ℕ → ℕ → ℤ
leaf_weight scale potentials taken avoided families cost =
    combed families (adjusted taken avoided (weight_between scale potentials cost))

-- the bound of a 1-tree of this weight: each potential is taken off twice, and what the numbers of taken pairs and the
-- families take off every cycle is given back
abbrev pub IsLeafBoundOf : ℤ → List ℤ → List (ℕ × ℕ × ℤ) → List (Family × ℤ) → ℤ → ℤ → Type 0
IsLeafBoundOf scale potentials taken families weight bound =
    IsLeastBound scale (((weight -ℤ (pos 2 *ℤ total potentials)) +ℤ triples_total taken) +ℤ least_of families) bound

-- the bound of potentials, of numbers on taken and avoided pairs, and of families: that of a minimum 1-tree
pub record IsLeafBound (n : ℕ) (cost : ℕ → ℕ → ℤ) (scale : ℤ) (potentials : List ℤ) (taken avoided : List (ℕ × ℕ × ℤ))
    (families : List (Family × ℤ)) (bound : ℤ) : Type 0 where
  pub tree : List (ℕ × ℕ)
  pub least : IsLeastOneTree n (leaf_weight scale potentials taken avoided families cost) tree
  pub bound_is : IsLeafBoundOf scale potentials taken families
      (weight_of (leaf_weight scale potentials taken avoided families cost) tree) bound

-- That bound is at most the length of every cycle that uses the taken pairs and none of the avoided.
abbrev pub LeafBoundsBoundCycles : Type 0
LeafBoundsBoundCycles = (n : ℕ) (cost : ℕ → ℕ → ℤ) (scale : ℤ) (potentials : List ℤ) (taken avoided : List (ℕ × ℕ × ℤ))
    (families : List (Family × ℤ)) (bound : ℤ) (nodes : List ℕ)
    → 3 ≤ n → IsSymmetric cost → IsScale scale → length potentials ≡ n → AreMultiplied n families
    → IsLeafBound n cost scale potentials taken avoided families bound
    → IsCycle n nodes → UsesEach taken nodes → UsesNone avoided nodes → bound ≤ℤ length_of cost nodes

-- Without families it is the bound of Bounds.antt in tsp_theory.
abbrev pub UncombedBoundsAreAdjustedBounds : Type 0
UncombedBoundsAreAdjustedBounds = (n : ℕ) (cost : ℕ → ℕ → ℤ) (scale : ℤ) (potentials : List ℤ) (taken avoided : List (ℕ × ℕ × ℤ))
    (bound : ℤ) → IsLeafBound n cost scale potentials taken avoided [] bound
    → IsAdjustedBound n cost scale potentials taken avoided bound

-- ---- the bound of a leaf by the least link from each node, under potentials and multipliers

-- the bound by rows of such weights; it gives back the least crossings of the families, each times its multiplier, less
-- each potential twice
abbrev pub IsRowLeafBound : ℕ → (ℕ → ℕ → ℤ) → ℤ → List ℤ → List (Family × ℤ) → List Decision → ℤ → Type 0
IsRowLeafBound n cost scale potentials families decisions bound =
    IsRowBound n (combed families (weight_between scale potentials cost)) decisions scale
    (least_of families -ℤ (pos 2 *ℤ total potentials)) bound

-- That bound is at most the length of every cycle that keeps the decisions.
abbrev pub RowLeafBoundsBoundCycles : Type 0
RowLeafBoundsBoundCycles = (n : ℕ) (cost : ℕ → ℕ → ℤ) (scale : ℤ) (potentials : List ℤ) (families : List (Family × ℤ))
    (decisions : List Decision) (bound : ℤ) → 2 ≤ n → IsScale scale → length potentials ≡ n → AreMultiplied n families
    → IsRowLeafBound n cost scale potentials families decisions bound → BoundsCase true n cost bound decisions

-- ---- the bound of a certificate by branching

-- each family with its multiplier
abbrev pub multiplied : List Family → List ℤ → List (Family × ℤ)
multiplied [] multipliers = []
multiplied (family ∷ families) [] = []
multiplied (family ∷ families) (multiplier ∷ multipliers) = (family, multiplier) ∷ multiplied families multipliers

-- a potential for each of n nodes, and multipliers that aren't negative
pub record AreLeafNumbers (n : ℕ) (numbers : LeafNumbers) : Type 0 where
  pub each_node : length numbers.potentials ≡ n
  pub signs : All (λ multiplier. pos 0 ≤ℤ multiplier) numbers.multipliers

-- families of n nodes, a whole tree, and numbers at each of its leaves
pub record IsCaseTree (n : ℕ) (families : List Family) (given : List Decision) (steps : List CaseStep) : Type 0 where
  pub families_are : All (IsFamily n) families
  pub whole : are_case_trees 1 steps ≡ true
  pub numbers_are : All (λ leaf. AreLeafNumbers n leaf.1) (leaves_of (given ∷ []) steps)

-- ---- the bound of a leaf

-- What is found for a leaf. Undirected: the bound of a minimum 1-tree, with the same number on all decided pairs.
-- Directed: the bound by the least link from each node, or none if some node has no link that the decisions allow.
abbrev pub IsFoundAt : Bool → ℕ → (ℕ → ℕ → ℤ) → ℤ → ℤ → List Family → List Decision × LeafNumbers → Option ℤ → Type 0
IsFoundAt false n cost scale number families (case, numbers) (Some bound) =
    IsLeafBound n cost scale numbers.potentials (on_taken number case) (on_avoided number case)
    (multiplied families numbers.multipliers) bound
IsFoundAt false n cost scale number families (case, numbers) None = ⊥
IsFoundAt true n cost scale number families (case, numbers) (Some bound) =
    IsRowLeafBound n cost scale numbers.potentials (multiplied families numbers.multipliers) case bound
IsFoundAt true n cost scale number families (case, numbers) None = HasNoLink n case

-- ---- the bound of a certificate: the least of the bounds of its leaves

-- a leaf has no bound, or one that is at least this
abbrev pub IsAbove : (List Decision × LeafNumbers → Option ℤ → Type 0) → ℤ → List Decision × LeafNumbers → Type 0
IsAbove found bound leaf = found leaf None ⊎ ((own : ℤ) × found leaf (Some own) × (bound ≤ℤ own))

-- the least bound that is found for a leaf; none if no leaf has a bound
abbrev pub IsLeastFound : (List Decision × LeafNumbers → Option ℤ → Type 0) → List (List Decision × LeafNumbers) → Option ℤ
    → Type 0
IsLeastFound found leaves (Some bound) = All (IsAbove found bound) leaves × Any (λ leaf. found leaf (Some bound)) leaves
IsLeastFound found leaves None = All (λ leaf. found leaf None) leaves

-- Where what is found of each leaf bounds the solutions of its case, the least that is found of the leaves bounds all
-- solutions that keep the given decisions.
abbrev pub LeastFoundBounds : {S : Type 0} → SolutionKind S → (List Decision × LeafNumbers → Option ℤ → Type 0) → Type 0
LeastFoundBounds kind found = (given : List Decision) (steps : List CaseStep) (least : Option ℤ)
    → are_case_trees 1 steps ≡ true
    → All (λ leaf. (own : Option ℤ) → found leaf own → BoundsKept kind leaf.0 own) (leaves_of (given ∷ []) steps)
    → IsLeastFound found (leaves_of (given ∷ []) steps) least → BoundsKept kind given least

-- the least bound of the leaves of a tree that begins with the given decisions
abbrev pub IsCaseTreeBound : Bool → ℕ → (ℕ → ℕ → ℤ) → ℤ → ℤ → List Family → List Decision → List CaseStep → Option ℤ → Type 0
IsCaseTreeBound directed n cost scale number families given steps found =
    IsLeastFound (IsFoundAt directed n cost scale number families) (leaves_of (given ∷ []) steps) found

-- ---- the theorems

-- what the bound of a leaf asks of the costs: undirected, that they are the same in both directions
abbrev pub AreCostsFor : Bool → ℕ → (ℕ → ℕ → ℤ) → Type 0
AreCostsFor false n cost = (3 ≤ n) × IsSymmetric cost
AreCostsFor true n cost = 2 ≤ n

-- A bound is at most the length of every cycle of the case. If there is no bound, the case has no cycle.
abbrev pub BoundsIfAny : Bool → ℕ → (ℕ → ℕ → ℤ) → List Decision → Option ℤ → Type 0
BoundsIfAny directed n cost case found = BoundsKept (cycles directed n cost) case found

-- The bound of a certificate is at most the length of every cycle that keeps the given decisions.
abbrev pub CaseTreesBoundCycles : Type 0
CaseTreesBoundCycles = (directed : Bool) (n : ℕ) (cost : ℕ → ℕ → ℤ) (scale number : ℤ) (families : List Family)
    (given : List Decision) (steps : List CaseStep) (found : Option ℤ)
    → AreCostsFor directed n cost → IsScale scale → IsCaseTree n families given steps
    → IsCaseTreeBound directed n cost scale number families given steps found → BoundsIfAny directed n cost given found

-- If the given decisions take the fixed pairs, the bound is at most the length of every tour.
abbrev pub CaseTreesBoundTours : Type 0
CaseTreesBoundTours = (problem : Problem) (scale number : ℤ) (families : List Family) (steps : List CaseStep) (bound : ℤ)
    → AreCostsFor problem.directed problem.nodes problem.cost → IsScale scale
    → IsCaseTree problem.nodes families (take_pairs problem.fixed) steps
    → IsCaseTreeBound problem.directed problem.nodes problem.cost scale number families (take_pairs problem.fixed) steps
    (Some bound) → BoundsTours problem bound

-- If no leaf has a bound then, there is no tour.
abbrev pub NoBoundNoTour : Type 0
NoBoundNoTour = (problem : Problem) (scale number : ℤ) (families : List Family) (steps : List CaseStep)
    → AreCostsFor problem.directed problem.nodes problem.cost → IsScale scale
    → IsCaseTree problem.nodes families (take_pairs problem.fixed) steps
    → IsCaseTreeBound problem.directed problem.nodes problem.cost scale number families (take_pairs problem.fixed) steps None
    → HasNoTour problem

-- A tree has one such bound, or none, whichever minimum 1-trees are found.
abbrev pub CaseTreeBoundsAreUnique : Type 0
CaseTreeBoundsAreUnique = (directed : Bool) (n : ℕ) (cost : ℕ → ℕ → ℤ) (scale number : ℤ) (families : List Family)
    (given : List Decision) (steps : List CaseStep) (a b : Option ℤ)
    → IsCaseTreeBound directed n cost scale number families given steps a
    → IsCaseTreeBound directed n cost scale number families given steps b → a ≡ b
