-- The decisions of the case that is open in a pass over a tree, on a stack and by node (`IsOpenCase`), and what they
-- add to the weight of an edge (`changes`). `src/open_case.rt` keeps them, and `src/case_tree.rt` hands each leaf its
-- decisions (`decisions_in`), which the judges of leaves in tsp_branch and tsp_routing name in their contracts.
-- tsp_verdict imports it, too.
use Rattle.tsp_cases.specs.Prelude.{Vec, w64, int_wrap, All, filter, ℕ, Bool, true, false, List, [], reverse, Some, None, ℤ, pos, neg_ℤ, not, length, slice_index_or, IsNode, IsFromTo, is_same_pair, adjusted, sum_int_by}
use Rattle.std.specs.Prelude.{◌≡◌, ◌≢◌, ◌<◌, if◌then◌else◌, ◌+ℤ◌, ◌⊎◌, ◌==◌, ◌||◌, ◌&&◌, ◌+◌, ◌≤◌, ◌∷◌, ◌++◌, ◌^◌}
use Rattle.tsp_cases.specs.Cases.{on_taken, on_avoided, decided_number, next_stack}
use Rattle.tsp_cases.specs.declared.decision.Decision.{Decision}
use Rattle.tsp_cases.specs.declared.open_case.NodeDecisions.{NodeDecisions}
use Rattle.tsp_cases.specs.declared.open_case.OpenCase.{OpenCase}

-- a decision on two different nodes of 1..n
abbrev pub IsDecision : ℕ → Decision → Type 0
IsDecision n decision = IsNode n decision.pair.0 × IsNode n decision.pair.1 × (decision.pair.0 ≢ decision.pair.1)

-- a decision on two different numbers below `places`, which are indexes of a row
abbrev pub IsOnPlaces : ℕ → Decision → Type 0
IsOnPlaces places decision = (decision.pair.0 < places) × (decision.pair.1 < places) × (decision.pair.0 ≢ decision.pair.1)

-- weights less the number of each taken pair, and more by that of each avoided one
abbrev pub decided : List Decision → (ℕ → ℕ → ℤ) → ℕ → ℕ → ℤ
decided decisions w = adjusted (on_taken decided_number decisions) (on_avoided decided_number decisions) w

-- what a decision adds to the weight of its pair: less if the pair is taken, more if it is avoided
abbrev pub signed : Bool → ℤ
signed taken = if taken then (neg_ℤ decided_number) else decided_number

-- what a decision adds to the weight of two nodes
abbrev pub change_of : Decision → ℕ → ℕ → ℤ
change_of decision i j = if is_same_pair decision.pair (i, j) then signed decision.taken else pos 0

-- what several decisions add to the weight of two nodes
abbrev pub changes : List Decision → ℕ → ℕ → ℤ
changes decisions i j = sum_int_by (λ decision. change_of decision i j) decisions

-- what the decisions of a case add to the rows of `KeptRows`: nothing if pairs have a direction
abbrev pub marks_in : Bool → List Decision → ℕ → ℕ → ℤ
marks_in true decisions i j = pos 0
marks_in false decisions i j = changes decisions i j

-- how large a weight is under decisions that decide each pair once
abbrev pub most_decided : ℕ
most_decided = 6000000000000000000

-- no weight changes by more than one decision does
abbrev pub AreFewChanges : List Decision → Type 0
AreFewChanges case = (i j : ℕ) → IsFromTo (neg_ℤ decided_number) decided_number (changes case i j)

-- a value as it was, if the pair is another one; otherwise what is left of the sum with the number in 64 bits
abbrev pub IsChanged : Decision → ℕ → ℕ → ℤ → ℤ → Type 0
IsChanged decision i j old new = ((new ≡ old) × (change_of decision i j ≡ pos 0))
    ⊎ (new ≡ int_wrap w64 (old +ℤ change_of decision i j))

-- decisions with the last one first, as a case has them; code has the last one at the end
abbrev pub stack_of : List Decision → List Decision
stack_of decisions = reverse decisions

-- the stack after a leaf, if a case is open still; otherwise an empty one
abbrev pub IsNextStack : List Decision → Bool → List Decision → Type 0
IsNextStack old true new = next_stack (stack_of old) ≡ Some (stack_of new)
IsNextStack old false new = (next_stack (stack_of old) ≡ None) × (new ≡ [])

-- ---- the decisions of the open case as code has them: a stack above the given decisions

-- the pair of a decision begins with the node x; undirected: or ends with it
abbrev pub bears_on : Bool → ℕ → Decision → Bool
bears_on directed x decision = (decision.pair.0 == x) || (not directed && (decision.pair.1 == x))

-- the decisions that are listed for the node x, the last one first
abbrev pub listed_at : List (Vec Decision) → ℕ → Vec Decision → List Decision
listed_at lists x default = stack_of (slice_index_or lists x default).items

-- for each node the decisions of the case that bear on it, and apart the taken ones; a case has the last decision first
pub record AreByNode (n : ℕ) (held : NodeDecisions) (case : List Decision) : Type 0 where
  pub places : length held.lists.items ≡ n + 1
  pub each : (x : ℕ) (default : Vec Decision) → x ≤ n
      → listed_at held.lists.items x default ≡ filter (bears_on held.directed x) case
  pub taken : stack_of held.taken.items ≡ filter (λ decision. decision.taken) case

-- the list of one node has a decision more
pub record HaveOneMore (node : ℕ) (decision : Decision) (old new : List (Vec Decision)) : Type 0 where
  pub places : length new ≡ length old
  pub others : (x : ℕ) (a b : Vec Decision) → x < length old → x ≢ node → listed_at new x a ≡ listed_at old x b
  pub here : (a b : Vec Decision) → listed_at new node a ≡ decision ∷ listed_at old node b

-- the list of one node lacks its last decision
pub record HaveOneLess (node : ℕ) (old new : List (Vec Decision)) : Type 0 where
  pub places : length new ≡ length old
  pub others : (x : ℕ) (a b : Vec Decision) → x < length old → x ≢ node → listed_at new x a ≡ listed_at old x b
  pub here : (a b : Vec Decision) (last : Decision) (rest : List Decision) → listed_at old node b ≡ last ∷ rest
      → listed_at new node a ≡ rest

-- the decisions of the open case: those on the stack, the last one first, and those that are given for all cases
abbrev pub decisions_in : OpenCase → List Decision
decisions_in case = stack_of case.stack.items ++ case.given.now

-- the decisions of the open case are on pairs of nodes, and are listed by node
pub record IsOpenCase (n : ℕ) (case : OpenCase) : Type 0 where
  pub pairs : All (IsDecision n) (decisions_in case)
  pub by_node : AreByNode n case.by_node (decisions_in case)

-- numbers of a leaf of at most 2^64, to which src/case_tree.rt can add the differences of the next leaf
abbrev pub AreSmall : List ℤ → Type 0
AreSmall numbers = All (IsFromTo (neg_ℤ (pos (2 ^ 64))) (pos (2 ^ 64))) numbers
