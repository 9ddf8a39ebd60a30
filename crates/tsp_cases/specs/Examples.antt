-- Small sets, families, costs, numbers and trees of cases, for the laws in src/examples.rt here and in tsp_routing and
-- tsp_verdict. No other contract uses them.
use Rattle.tsp_cases.specs.Prelude.{All, range_with_len, ℕ, Bool, List, [], true, false, Some, replicate, min, max, slice_index, slice_index_or, ℤ, pos, negsuc, map, length_of}
use Rattle.std.specs.Prelude.{◌∷◌, ◌≡◌, ◌-◌, ◌*◌}
use Rattle.tsp_format.specs.Steps as listed
use Rattle.tsp_cases.specs.CaseTrees.{leaf_weight, multiplied, IsCaseTree, IsCaseTreeBound, IsRowLeafBound, IsRowBound}
use Rattle.tsp_cases.specs.Cases.{DecideOnce, leaves_of, cases_of, on_taken, on_avoided, LeafNumbers, CaseStep, Leaf, are_case_trees, Branch}
use Rattle.tsp_cases.specs.Crossings.{has}
use Rattle.tsp_cases.specs.Families.{Comb, comb_of, family_crossings, Family, IsFamily, family_with, IsGoodFamily, IsGoodComb}
use Rattle.tsp_cases.specs.ListedCases.{listed_steps, as_leaf_numbers, IsFirstTwice}
use Rattle.tsp_cases.specs.declared.family.Crossings.{Crossings}
use Rattle.tsp_cases.specs.declared.decision.Decision.{Decision}

-- no case of this tree over four nodes decides a pair twice
abbrev pub AreOnce : Bool → List Decision → List listed.Step → Type 0
AreOnce directed given steps = All (DecideOnce directed) (cases_of (leaves_of (given ∷ []) (listed_steps 4 0 steps)))

-- some case does
abbrev pub AreNotOnce : Bool → List Decision → List listed.Step → Type 0
AreNotOnce directed given steps = AreOnce directed given steps → ⊥

-- two branches: the second one is among the tours that use the first one's pair
abbrev pub branched : ℕ → ℕ → ℕ → ℕ → List listed.Step
branched a b c d = listed.Branch a b ∷ listed.Branch c d ∷ listed.Leaf [] ∷ listed.Leaf [] ∷ listed.Leaf [] ∷ []

-- ---- a small comb, small costs and small trees on which the definitions are evaluated

-- the comb of the handle 1 2 3 and the teeth 1 4, 2 5 and 3 6
abbrev pub small_comb : Comb
small_comb = comb_of (1 ∷ 2 ∷ 3 ∷ []) ((1 ∷ 4 ∷ []) ∷ (2 ∷ 5 ∷ []) ∷ (3 ∷ 6 ∷ []) ∷ [])

-- its family: a cycle crosses its sets 10 times at the least
abbrev pub small_family : Family
small_family = record { sets = small_comb; numbers = record { least = 10; most = 3 } }

-- two nodes cross this many sets of the comb
abbrev pub PairCrosses : ℕ → ℕ → ℕ → Type 0
PairCrosses i j times = family_crossings small_comb i j ≡ pos times

-- a cycle through these nodes crosses the sets of the comb this often
abbrev pub CrossesInAll : List ℕ → ℕ → Type 0
CrossesInAll nodes times = length_of (family_crossings small_comb) nodes ≡ pos times

-- symmetric costs, listed by rows: of each node those to the nodes after it
abbrev pub cost_in : List (List ℕ) → ℕ → ℕ → ℤ
cost_in rows i j = pos (slice_index (slice_index_or rows (min i j - 1) []) (max i j - min i j - 1))

-- the costs between four nodes
abbrev pub four_rows : List (List ℕ)
four_rows = (1 ∷ 2 ∷ 2 ∷ []) ∷ (1 ∷ 1 ∷ []) ∷ (3 ∷ []) ∷ []

-- the costs between six nodes
abbrev pub six_rows : List (List ℕ)
six_rows = (2 ∷ 2 ∷ 1 ∷ 9 ∷ 9 ∷ []) ∷ (2 ∷ 9 ∷ 1 ∷ 9 ∷ []) ∷ (9 ∷ 9 ∷ 1 ∷ []) ∷ (2 ∷ 2 ∷ []) ∷ (2 ∷ []) ∷ []

-- the cycle through these nodes has this length
abbrev pub LengthIs : List (List ℕ) → List ℕ → ℤ → Type 0
LengthIs rows nodes length = length_of (cost_in rows) nodes ≡ length

-- the number on each decided pair: 4 * 10^18
abbrev pub large : ℤ
large = pos 4000000000000000000

-- the potentials 0 at n nodes, and no multipliers
abbrev pub no_numbers : ℕ → LeafNumbers
no_numbers n = record { potentials = replicate n (pos 0); multipliers = [] }

-- the potential 1 at node 2 of four, and no multipliers
abbrev pub one_at_two : LeafNumbers
one_at_two = record { potentials = pos 0 ∷ pos 1 ∷ pos 0 ∷ pos 0 ∷ []; multipliers = [] }

-- the weight of two of the four nodes at a leaf with that potential
abbrev pub WeighsAt : List Decision → ℕ → ℕ → ℤ → Type 0
WeighsAt case i j weight =
    leaf_weight (pos 1) one_at_two.potentials (on_taken large case) (on_avoided large case) [] (cost_in four_rows) i j ≡ weight

-- the weight of two of the six at the scale 2, if the comb has the multiplier 1
abbrev pub WeighsUnderComb : ℕ → ℕ → ℤ → Type 0
WeighsUnderComb i j weight =
    leaf_weight (pos 2) [] [] [] (multiplied (small_family ∷ []) (pos 1 ∷ [])) (cost_in six_rows) i j ≡ weight

-- a tree over the four nodes has this bound
abbrev pub FourHave : List CaseStep → ℤ → Type 0
FourHave steps bound = IsCaseTree 4 [] [] steps × IsCaseTreeBound false 4 (cost_in four_rows) (pos 1) large [] [] steps
    (Some bound)

-- a tree of one leaf over six nodes, with these multipliers
abbrev pub six_leaf : List ℤ → List CaseStep
six_leaf multipliers = Leaf (record { potentials = replicate 6 (pos 0); multipliers = multipliers }) ∷ []

-- with the comb and these multipliers, that tree has this bound
abbrev pub SixHave : List ℤ → ℤ → Type 0
SixHave multipliers bound = IsCaseTree 6 (small_family ∷ []) [] (six_leaf multipliers)
    × IsCaseTreeBound false 6 (cost_in six_rows) (pos 2) large (small_family ∷ []) [] (six_leaf multipliers) (Some bound)

-- the steps are one tree, and these are the cases of its leaves
pub record IsTreeOf (steps : List CaseStep) (cases : List (List Decision)) : Type 0 where
  pub whole : are_case_trees 1 steps ≡ true
  pub cases_are : cases_of (leaves_of ([] ∷ []) steps) ≡ cases

-- the steps aren't one tree
abbrev pub IsNoTree : List CaseStep → Type 0
IsNoTree steps = are_case_trees 1 steps ≡ false

-- the decision that takes a pair
abbrev pub with_pair : ℕ → ℕ → Decision
with_pair i j = record { pair = (i, j); taken = true }

-- the decision that avoids a pair
abbrev pub without_pair : ℕ → ℕ → Decision
without_pair i j = record { pair = (i, j); taken = false }

-- ---- small families of sets of six nodes, on which the definitions are evaluated

-- the set 1 2 3 twice
abbrev pub one_set_twice : List (List ℕ)
one_set_twice = (1 ∷ 2 ∷ 3 ∷ []) ∷ (1 ∷ 2 ∷ 3 ∷ []) ∷ []

-- the set of all six nodes
abbrev pub all_six : List (List ℕ)
all_six = (1 ∷ 2 ∷ 3 ∷ 4 ∷ 5 ∷ 6 ∷ []) ∷ []

-- the set 1 2 3 and the set of all nodes, which nothing crosses
abbrev pub beside_all_six : List (List ℕ)
beside_all_six = (1 ∷ 2 ∷ 3 ∷ []) ∷ all_six

-- the sets are a family, with these numbers: a cycle crosses them `least` times at least, and two nodes cross `most` of
-- them at most
abbrev pub IsCrossed : ℕ → ℕ → List (List ℕ) → Type 0
IsCrossed least most sets = IsFamily 6 (family_with (record { least = least; most = most }) sets)

-- the sets are no good family
abbrev pub IsNoFamily : List (List ℕ) → Type 0
IsNoFamily sets = IsGoodFamily 6 sets → ⊥

-- ---- the numbers of two leaves, on which the definitions are evaluated

-- three potentials
abbrev pub potentials_of_three : ℤ → ℤ → ℤ → List ℤ
potentials_of_three a b c = a ∷ b ∷ c ∷ []

-- the steps as they are listed: 5 more at node 2 and 1 at the comb; and then 2 less at node 2 and 2 more at the comb
abbrev pub by_differences : List listed.Step
by_differences = listed.Branch 1 2 ∷ listed.Leaf ((2, pos 5) ∷ (4, pos 1) ∷ [])
    ∷ listed.Leaf ((2, negsuc 1) ∷ (4, pos 2) ∷ []) ∷ []

-- the same steps with all numbers
abbrev pub by_numbers : List CaseStep
by_numbers = Branch (1, 2) ∷ Leaf (as_leaf_numbers (potentials_of_three (pos 0) (pos 5) (pos 0)) (pos 1 ∷ []))
    ∷ Leaf (as_leaf_numbers (potentials_of_three (pos 0) (pos 3) (pos 0)) (pos 3 ∷ [])) ∷ []

-- a comb of three teeth: a cycle crosses its sets 10 times at least, and two nodes cross 3 of them at most
abbrev pub known_three : Crossings
known_three = record { least = 10; most = 3 }

-- two such combs
abbrev pub two_combs : List Crossings
two_combs = known_three ∷ known_three ∷ []

-- a family of which two nodes cross this many sets at most, and a cycle twice as many at least
abbrev pub crossed_by : ℕ → Crossings
crossed_by most = record { least = 2 * most; most = most }

-- three potentials of 0 and two multipliers
abbrev pub multiplied_by : ℤ → ℤ → LeafNumbers
multiplied_by first second = as_leaf_numbers (potentials_of_three (pos 0) (pos 0) (pos 0)) (first ∷ second ∷ [])

-- a potential at node 3 of three, and no multipliers
abbrev pub moved_at_three : ℤ → LeafNumbers
moved_at_three potential = as_leaf_numbers (potentials_of_three (pos 0) (pos 0) potential) []

-- ---- three nodes whose costs depend on the direction, for the bounds by rows

-- the costs from 1 are 1 and 10, those from 2 are 10 and 2, and those from 3 are 3 and 10
abbrev pub three_rows : List (List ℕ)
three_rows = (0 ∷ 1 ∷ 10 ∷ []) ∷ (10 ∷ 0 ∷ 2 ∷ []) ∷ (3 ∷ 10 ∷ 0 ∷ []) ∷ []

abbrev pub cost_of_three : ℕ → ℕ → ℤ
cost_of_three i j = pos (slice_index (slice_index_or three_rows (i - 1) []) (j - 1))

-- the bound by rows at a scale, if nothing is given back
abbrev pub ThreeHave : List Decision → ℤ → ℤ → Type 0
ThreeHave decisions scale bound = IsRowBound 3 cost_of_three decisions scale (pos 0) bound

-- the lone set of node 1, which a cycle crosses twice at the least
abbrev pub lone_one : Family
lone_one = family_with (record { least = 2; most = 3 }) ((1 ∷ []) ∷ [])

-- the bound of a leaf at a scale, with the potentials 3, 0 and 1 and the multiplier 2 of the lone set
abbrev pub LeafOfThreeHas : List Decision → ℤ → ℤ → Type 0
LeafOfThreeHas decisions scale bound =
    IsRowLeafBound 3 cost_of_three scale (pos 3 ∷ pos 0 ∷ pos 1 ∷ []) ((lone_one, pos 2) ∷ []) decisions bound

-- ---- families at their limits: 63 and 64 sets, 14 and 15 parts

-- the set of node 1, `count` times
abbrev pub one_set_times : ℕ → List (ℕ → Bool)
one_set_times count = map (λ number. has (1 ∷ [])) (range_with_len 1 count)

-- the sets of one node each, from 1 to `last`: the nodes after it are one part more
abbrev pub single_sets : ℕ → List (ℕ → Bool)
single_sets last = map (λ node. has (node ∷ [])) (range_with_len 1 last)

-- ---- small combs that are bad, and small trees with a branch that comes twice

-- sets of six nodes are neither a lone set nor a comb, or have a node twice
abbrev pub IsNotGood : List (List ℕ) → Type 0
IsNotGood sets = IsGoodComb 6 sets → ⊥

-- sets of six nodes are a lone set or a comb, and have no node twice
abbrev pub IsGood : List (List ℕ) → Type 0
IsGood sets = IsGoodComb 6 sets

-- the teeth 1 4, 2 5 and 3 6
abbrev pub three_teeth : List (List ℕ)
three_teeth = (1 ∷ 4 ∷ []) ∷ (2 ∷ 5 ∷ []) ∷ (3 ∷ 6 ∷ []) ∷ []

-- this branch is the first that comes twice
abbrev pub TwiceAt : Bool → List Decision → List listed.Step → ℕ → Type 0
TwiceAt directed given steps branch = IsFirstTwice directed given steps branch

-- two branches, one after the other, without the leaves
abbrev pub branches : ℕ → ℕ → ℕ → ℕ → List listed.Step
branches a b c d = listed.Branch a b ∷ listed.Branch c d ∷ []

-- two branches: the second one is among the tours that don't use the first one's pair
abbrev pub branches_apart : ℕ → ℕ → ℕ → ℕ → List (ℕ × ℤ) → List listed.Step
branches_apart a b c d changes = listed.Branch a b ∷ listed.Leaf changes ∷ listed.Branch c d ∷ []

-- a branch on 1 2, one on 1 3 in each of its two cases, and then one on 3 1, which comes twice
abbrev pub on_both_sides : List (ℕ × ℤ) → List listed.Step
on_both_sides changes = listed.Branch 1 2 ∷ listed.Branch 1 3 ∷ listed.Leaf changes ∷ listed.Leaf changes ∷ listed.Branch 1 3
    ∷ listed.Leaf changes ∷ listed.Branch 3 1 ∷ []
