-- Circle 3 of docs/trust.md.
-- Trees of cases: a branch divides the first open case by a decision on a pair, and a leaf closes a case by its
-- numbers. src/case_tree.rt goes through the cases in this order, and bounds in CaseTrees.antt and in tsp_routing are
-- defined by them. Every tour keeps the decisions of some leaf, so the least bound of a leaf is a bound for all tours.
-- tsp_branch and tsp_verdict import it, too.
use Rattle.tsp_cases.specs.Prelude.{All, AllPairs, ℕ, Bool, true, false, List, [], length, map, ℤ, pos, zero, suc, Option, None, Some, IsSymmetric, IsScale, most_number, pair_of, is_same_pair, IsAdjustedBound, IsCycle, Uses, length_of, Problem, BoundsTours}
use Rattle.std.specs.Prelude.{◌≤◌, ◌≡◌, ◌==◌, ◌&&◌, if◌then◌else◌, ◌∷◌, ◌≤ℤ◌, ◌++◌, ◌⊎◌}
use Rattle.tsp_cases.specs.declared.decision.Decision.{Decision}

-- a cycle uses a taken pair, and doesn't use an avoided one; directed: from the first node to the second
abbrev pub KeepsPair : Bool → List ℕ → Bool → ℕ × ℕ → Type 0
KeepsPair directed nodes true pair = Uses directed nodes pair
KeepsPair directed nodes false pair = Uses directed nodes pair → ⊥

-- a cycle keeps a decision: it uses the pair exactly if that is taken
abbrev pub KeepsDecision : Bool → List ℕ → Decision → Type 0
KeepsDecision directed nodes decision = KeepsPair directed nodes decision.taken decision.pair

-- a cycle keeps all these decisions
abbrev pub KeepsAll : Bool → List ℕ → List Decision → Type 0
KeepsAll directed nodes decisions = All (KeepsDecision directed nodes) decisions

-- whether two pairs are the same; directed: also in the order of their nodes
abbrev pub is_same : Bool → ℕ × ℕ → ℕ × ℕ → Bool
is_same true pair other = (pair.0 == other.0) && (pair.1 == other.1)
is_same false pair other = is_same_pair pair other

-- no two decisions are on the same pair
abbrev pub DecideOnce : Bool → List Decision → Type 0
DecideOnce directed decisions = AllPairs (λ a b. is_same directed a.pair b.pair ≡ false) decisions

-- pairs that are fixed, as decisions
abbrev pub take_pairs : List (ℕ × ℕ) → List Decision
take_pairs pairs = map (λ pair. record { pair = pair; taken = true }) pairs

-- ---- decisions as the numbers on pairs that tsp_theory speaks of: the same number on each

-- a triple: the pair of the decision, with the number
abbrev pub on_pair : ℤ → Decision → ℕ × ℕ × ℤ
on_pair number decision = (decision.pair.0, decision.pair.1, number)

-- the number on each taken pair
abbrev pub on_taken : ℤ → List Decision → List (ℕ × ℕ × ℤ)
on_taken number [] = []
on_taken number (decision ∷ decisions) =
    if decision.taken then (on_pair number decision ∷ on_taken number decisions) else on_taken number decisions

-- the number on each avoided pair
abbrev pub on_avoided : ℤ → List Decision → List (ℕ × ℕ × ℤ)
on_avoided number [] = []
on_avoided number (decision ∷ decisions) =
    if decision.taken then on_avoided number decisions else (on_pair number decision ∷ on_avoided number decisions)

-- the number on each decided pair: by it the weight of a taken pair is lowered, that of an avoided one raised
abbrev pub decided_number : ℤ
decided_number = pos most_number

-- ---- the theorems, which are those of tsp_theory

-- The bound of potentials and decisions is at most the length of every cycle that keeps these.
abbrev pub DecidedBoundsBoundCycles : Type 0
DecidedBoundsBoundCycles = (n : ℕ) (cost : ℕ → ℕ → ℤ) (scale : ℤ) (potentials : List ℤ) (number : ℤ) (decisions : List Decision)
    (bound : ℤ) (nodes : List ℕ) → 3 ≤ n → IsSymmetric cost → IsScale scale → length potentials ≡ n
    → IsAdjustedBound n cost scale potentials (on_taken number decisions) (on_avoided number decisions) bound
    → IsCycle n nodes → KeepsAll false nodes decisions → bound ≤ℤ length_of cost nodes

-- The bound of potentials and of numbers on fixed pairs is at most the length of every tour.
abbrev pub FixedBoundsBoundTours : Type 0
FixedBoundsBoundTours = (problem : Problem) (scale : ℤ) (potentials : List ℤ) (numbers : List (ℕ × ℕ × ℤ)) (bound : ℤ)
    → 3 ≤ problem.nodes → problem.directed ≡ false → IsSymmetric problem.cost → map pair_of numbers ≡ problem.fixed
    → IsScale scale → length potentials ≡ problem.nodes
    → IsAdjustedBound problem.nodes problem.cost scale potentials numbers [] bound → BoundsTours problem bound

-- ---- a tree of cases, as a list of steps

-- the numbers of a leaf: potentials of the nodes, and multipliers of the families
pub record LeafNumbers : Type 0 where
  pub potentials : List ℤ
  pub multipliers : List ℤ

-- a step: a branch by a pair, or a leaf
pub data CaseStep : Type 0 where
  Branch : ℕ × ℕ → CaseStep
  Leaf : LeafNumbers → CaseStep

-- Whether steps are that many trees, one after the other. A leaf is one, and so is a branch with two trees after it.
abbrev pub are_case_trees : ℕ → List CaseStep → Bool
are_case_trees zero [] = true
are_case_trees zero (step ∷ steps) = false
are_case_trees (suc count) [] = false
are_case_trees (suc count) (Branch pair ∷ steps) = are_case_trees (suc (suc count)) steps
are_case_trees (suc count) (Leaf numbers ∷ steps) = are_case_trees count steps

-- a case is a list of decisions, the last one first: it means the cycles that keep them; a case with one decision more
abbrev pub decide : ℕ × ℕ → Bool → List Decision → List Decision
decide pair taken case = record { pair = pair; taken = taken } ∷ case

-- Each leaf with its case. A branch puts two cases in the place of the first open one: the cycles with the pair, and
-- then those without.
abbrev pub leaves_of : List (List Decision) → List CaseStep → List (List Decision × LeafNumbers)
leaves_of [] steps = []
leaves_of (case ∷ cases) [] = []
leaves_of (case ∷ cases) (Branch pair ∷ steps) = leaves_of (decide pair true case ∷ decide pair false case ∷ cases) steps
leaves_of (case ∷ cases) (Leaf numbers ∷ steps) = (case, numbers) ∷ leaves_of cases steps

-- the cases of leaves, without their numbers
abbrev pub cases_of : List (List Decision × LeafNumbers) → List (List Decision)
cases_of leaves = map (λ leaf. leaf.0) leaves

-- ---- solutions, whatever their kind

-- A kind of solution: which values are solutions, how long each is, and which decisions it keeps. Cycles are one kind
-- by edges and one by arcs, and plans of routes are the third (tsp_routing).
pub record SolutionKind (S : Type 0) : Type 1 where
  pub IsSolution : S → Type 0
  pub length_is : S → ℤ
  pub Keeps : S → Decision → Type 0

-- cycles of n nodes; directed: by arcs
abbrev pub cycles : Bool → ℕ → (ℕ → ℕ → ℤ) → SolutionKind (List ℕ)
cycles directed n cost = record {
  IsSolution = IsCycle n;
  length_is = length_of cost;
  Keeps = KeepsDecision directed;
}

-- a value keeps the decisions of one of the cases
abbrev pub KeepsOne : {S : Type 0} → SolutionKind S → S → List (List Decision) → Type 0
KeepsOne kind value [] = ⊥
KeepsOne kind value (case ∷ cases) = All (kind.Keeps value) case ⊎ KeepsOne kind value cases

-- What is found of a case: a bound is at most the length of every solution that keeps its decisions, and where there is
-- none, no solution does.
abbrev pub BoundsKept : {S : Type 0} → SolutionKind S → List Decision → Option ℤ → Type 0
BoundsKept {S} kind case (Some bound) =
    (value : S) → kind.IsSolution value → All (kind.Keeps value) case → bound ≤ℤ kind.length_is value
BoundsKept {S} kind case None = (value : S) → kind.IsSolution value → All (kind.Keeps value) case → ⊥

-- ---- the theorems

-- Where a value keeps a decision or its opposite, whatever the pair, it keeps those of a leaf of each tree that begins
-- with decisions that it keeps.
abbrev pub LeavesAreKept : {S : Type 0} → SolutionKind S → Type 0
LeavesAreKept {S} kind = (given : List Decision) (steps : List CaseStep) (value : S)
    → are_case_trees 1 steps ≡ true → All (kind.Keeps value) given
    → KeepsOne kind value (cases_of (leaves_of (given ∷ []) steps))

-- Each cycle that keeps the given decisions keeps those of a leaf.
abbrev pub CyclesKeepLeaves : Type 0
CyclesKeepLeaves = (directed : Bool) (n : ℕ) (cost : ℕ → ℕ → ℤ) → LeavesAreKept (cycles directed n cost)

-- a bound is at most the length of every cycle of the case
abbrev pub BoundsCase : Bool → ℕ → (ℕ → ℕ → ℤ) → ℤ → List Decision → Type 0
BoundsCase directed n cost bound case = BoundsKept (cycles directed n cost) case (Some bound)

-- no cycle keeps the decisions of the case
abbrev pub HasNoCycle : Bool → ℕ → List Decision → Type 0
HasNoCycle directed n case = (nodes : List ℕ) → IsCycle n nodes → KeepsAll directed nodes case → ⊥

-- ---- the open cases as a stack of decisions has them, the last one first

-- the cases after that of the stack: for each taken pair of it the cycles without that pair
abbrev pub later_cases : List Decision → List Decision → List (List Decision)
later_cases given [] = []
later_cases given (decision ∷ stack) =
    if decision.taken then (decide decision.pair false (stack ++ given) ∷ later_cases given stack) else later_cases given stack

-- the case of the stack, with the given decisions, and the cases after it; none at the end of the tree
abbrev pub open_cases : List Decision → Option (List Decision) → List (List Decision)
open_cases given None = []
open_cases given (Some stack) = (stack ++ given) ∷ later_cases given stack

-- the stack after a leaf: the last taken pair is avoided, the decisions after it are dropped; none if no pair is taken
abbrev pub next_stack : List Decision → Option (List Decision)
next_stack [] = None
next_stack (decision ∷ stack) = if decision.taken then Some (decide decision.pair false stack) else next_stack stack

-- The empty stack has the given decisions as its one case.
abbrev pub StacksBegin : Type 0
StacksBegin = (given : List Decision) → open_cases given (Some []) ≡ given ∷ []

-- The stack with one more taken pair has two cases in place of the first.
abbrev pub StacksBranch : Type 0
StacksBranch = (given stack : List Decision) (pair : ℕ × ℕ) → open_cases given (Some (decide pair true stack))
    ≡ decide pair true (stack ++ given) ∷ decide pair false (stack ++ given) ∷ later_cases given stack

-- The stack after a leaf has all open cases except the first.
abbrev pub StacksHoldCases : Type 0
StacksHoldCases = (given stack : List Decision) → open_cases given (next_stack stack) ≡ later_cases given stack
