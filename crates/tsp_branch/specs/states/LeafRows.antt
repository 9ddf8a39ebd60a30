-- The weights of a leaf for tours, row by row: which links its decisions close (`IsOpenRow`), what sets and decisions
-- add between two nodes, and when its numbers fit 64 bits (`AreExact`). Only `src/case_leaf.rt`, `src/leaf_rows.rt` and
-- `src/boxed.rt` use them. You may change them with the code, because a leaf's bound is defined in tsp_cases.
use Rattle.tsp_branch.specs.Prelude.{list_any, filter, ℕ, List, ℤ, pos, Bool, true, false, map, reverse, slice_index_or, negsuc, neg_ℤ, IsNode, IsFromTo, entry, most_number, least_at, IsAllowed, changes, decided, bears_on, multipliers_at}
use Rattle.std.specs.Prelude.{◌≡◌, ◌⊎◌, ◌==◌, ◌&&◌, if◌then◌else◌, ◌+ℤ◌, ◌*ℤ◌}
use Rattle.tsp_theory.specs.Tour.{sum_int_by}
use Rattle.tsp_cases.specs.declared.decision.Decision.{Decision}
use Rattle.tsp_cases.specs.declared.sets.SetPlace.{SetPlace}

-- the weight that means no link: the largest number of 64 bits, below which all weights are
abbrev pub no_link : ℤ
no_link = pos 9223372036854775807

-- the old value if the link is allowed, otherwise closed
abbrev pub IsShut : Type 0 → ℤ → ℤ → Type 0
IsShut Allowed old new = (Allowed × (new ≡ old)) ⊎ ((Allowed → ⊥) × (new ≡ no_link))

-- a row of weights from a node in which the links that aren't allowed are closed
abbrev pub IsOpenRow : ℕ → (ℕ → ℕ → ℤ) → List Decision → ℕ → List ℤ → Type 0
IsOpenRow n w decisions from row = (x : ℕ) → IsNode n x → IsShut (IsAllowed n decisions from x) (w from x) (least_at row x)

-- ---- the weight between two nodes of a leaf: what the sets that have both add

-- two places belong to the same set of the same family
abbrev pub is_same_place : SetPlace → SetPlace → Bool
is_same_place place other = (other.family == place.family) && (other.set == place.set)

-- a list contains the place
abbrev pub has_place : List SetPlace → SetPlace → Bool
has_place places place = list_any (λ other. is_same_place place other) places

-- the sum over places that another list has too: twice the multiplier of the place's family
abbrev pub shared_by : List ℤ → List SetPlace → List SetPlace → ℤ
shared_by numbers others places =
    sum_int_by (λ place. if has_place others place then (pos 2 *ℤ slice_index_or numbers place.family (pos 0)) else pos 0) places

-- the sum over places of the multipliers of their families
abbrev pub sum_at_places : List ℤ → List SetPlace → ℤ
sum_at_places numbers places = sum_int_by (λ place. slice_index_or numbers place.family (pos 0)) places

-- `moved` has each node's potential less the multipliers of its sets, without overflow, and no larger than a potential
-- may be
abbrev pub AreExact : ℕ → List ℤ → List ℤ → List (List (List ℕ)) → List ℤ → Type 0
AreExact n potentials multipliers families moved = (x : ℕ) → IsNode n x
    → (least_at moved x ≡ entry potentials x +ℤ neg_ℤ (multipliers_at multipliers families x))
    × IsFromTo (neg_ℤ (pos most_number)) (pos most_number) (least_at moved x)

-- ---- decisions

-- the number, or 0 if it is negative
abbrev pub upwards : ℤ → ℤ
upwards (pos k) = pos k
upwards (negsuc k) = pos 0

-- the weights of a leaf: undirected, as the decisions of its case change them; directed, unchanged
abbrev pub decided_by : Bool → List Decision → (ℕ → ℕ → ℤ) → ℕ → ℕ → ℤ
decided_by true case w = w
decided_by false case w = decided case w

-- weights plus the decisions that raise them
abbrev pub raised : List Decision → (ℕ → ℕ → ℤ) → ℕ → ℕ → ℤ
raised case w i j = w i j +ℤ upwards (changes case i j)

-- the other node of a decision's pair
abbrev pub other_of : ℕ → Decision → ℕ
other_of from decision = if decision.pair.0 == from then decision.pair.1 else decision.pair.0

-- the other nodes of the decisions on pairs with this node, in the order in which code lists them
abbrev pub others_of : List Decision → ℕ → List ℕ
others_of case from = map (other_of from) (reverse (filter (bears_on false from) case))
