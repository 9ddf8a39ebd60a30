-- The reasons against a branches file, ruled out one by one in src/certificate.rt (`no_branches`, `memory_first`), and
-- the bound that the file gives (`certified`), unless no leaf has one (`no_tour`).
use Rattle.tsp_verdict.proofs.Prelude.{◌≡◌, ℕ, ◌<◌, ◌≤◌, List, [], ◌∷◌, length, refl, ap₂, arith, ◌≢◌, ◌∙◌, ◌-◌, Bool, true, false, get_or, inl, inr, sym, ap, subst, subst₂, false≢true, length-map, All-weaker, All-from_recursion, recursion_from_All, Vec, All, AllByRecursion, sum_by, ◌^◌, ◌⊎◌, Option, None, Some, unwrap_or, ℤ, most_family_nodes, IsNode, IsSymmetric, Kind, AreSomeSets, cost, scale_in, fixed_of, families_listed, Fields, nodes_of, is_branches_file, IsSetOf, AreSets, families_of as lists_of_families, IsScale, IsBoundSized, BoundsTours, HasNoTour, is_directed, problem_of, IsTourOf, decide, KeepsAll, take_pairs, decided_number, IsFamily, NumbersAreUnique, family_with, families_with, IsGoodFamily, IsFirstBadFamily, AreFamilies, branch_pairs, IsFirstBadBranch, leaf_changes, listed_steps, AreGoodLeaves, IsFirstBadLeaf, branches_of_cases, IsFirstTwice, Crossings, rank_of, Branches, Reason, NotBranches, BranchesDimension, BadFamily, BadMemory, BadRow, BadBranch, BranchTwice, BadLeaf, TooManyLoads, TooManyStates, slice_index_or, memories_listed, rows_listed, HoldsMemory, map}
use Rattle.tsp_format.specs.Steps.{SubsetRow}
use Rattle.tsp_file.specs.Cost.{AreSomeLists}
use Rattle.tsp_routing.specs.RunTrees.{owner_of}
use Rattle.tsp_verdict.specs.states.MemoryReasons.{IsMemoryReason, IsBadFamilyIfAny, family_or}
use Rattle.std.proofs.Math.Path.{fun_ext}
use Rattle.std.proofs.lemmas.List.Sums.{sum_by-cons}
use Rattle.tsp_format.specs.Steps as listed
use Rattle.tsp_format.specs.declared.kinds.Kind.TheVariants as kinds
use Rattle.tsp_cases.specs.CaseTrees.{IsCaseTree, IsCaseTreeBound, BoundsIfAny, CaseTreesBoundCycles}
use Rattle.tsp_cases.specs.Crossings.{AreSetsOf, AreFamiliesOf, lists_of, families_in}
use Rattle.tsp_cases.specs.declared.decision.Decision.{Decision}
use Rattle.tsp_branch.proofs.Judging.{costs_for}
use Rattle.tsp_branch.specs.BranchVerdicts.{IsBranchVerdict}
use Rattle.tsp_cases.specs.JudgedLeaves.{IsSizedVerdict}
use Rattle.tsp_cases.specs.declared.judged.TreeVerdict.{TreeVerdict}
use Rattle.tsp_cases.specs.declared.judged.TreeVerdict.TheVariants as found
use Rattle.tsp_verdict.proofs.CarriedBounds.{Same, fitting}
use Rattle.tsp_verdict.proofs.FirstReasons.{tree_either, branches_rank, q_routes_rank, past_all, is_ranked}
use Rattle.tsp_verdict.proofs.GivenPairs.{keeps_given}
use Rattle.tsp_verdict.specs.Certificates.{each_once, given_in, case_steps_in, families_with_numbers, AreNumbersOf, IsBadFamily, AppliesToBranches, HasBoundByBranches, IsBoundByBranches, HasNoBoundByBranches, AppliesToQRoutes}
use Rattle.tsp_verdict.specs.Certified.{IsBoundBy, HasNoBoundBy, HasNoBound, AppliesToCertificateBy, AppliesToCertificate, BoundsSolutionsBy, BoundsSolutions, HasNoSolutionBy, HasNoSolution, IsCertified, FindsBound}
use Rattle.tsp_theory.specs.First.{IsFirstPlace}
use Rattle.tsp_verdict.specs.SolutionReasons.{NoneBefore, IsFirstReason}
use Rattle.tsp_verdict.specs.states.TourKnownBounds.{IsSymmetricTsp}
use Rattle.tsp_verdict.specs.states.TreeFound.{IsNumbered, found_by_tree}

-- ---- sets of nodes

from_lists : (P : List ℕ → Type 0) (sets : List (Vec ℕ)) → AllByRecursion P (lists_of sets)
    → AllByRecursion (λ set. P set.items) sets
from_lists P [] h = tt
from_lists P (set ∷ sets) h = (h.0, from_lists P sets h.1)

sets_hold : (n : ℕ) (sets : List (Vec ℕ)) → AreSets n (lists_of sets) → AreSetsOf n sets
sets_hold n sets are = All-from_recursion (λ (set : Vec ℕ). All (IsNode n) set.items) sets (from_lists (All (IsNode n)) sets
    (recursion_from_All (All (IsNode n)) (lists_of sets)
    (All-weaker (IsSetOf n) (All (IsNode n)) (λ set is. is.1) (lists_of sets) are.1)))

families_by : (n : ℕ) (families : List (Vec (Vec ℕ))) → AllByRecursion (AreSets n) (families_in families)
    → AllByRecursion (λ sets. AreSetsOf n sets.items) families
families_by n [] h = tt
families_by n (sets ∷ families) h = (sets_hold n sets.items h.0, families_by n families h.1)

pub families_hold : (n : ℕ) (families : List (Vec (Vec ℕ))) → AreSomeSets n (families_in families) → AreFamiliesOf n families
families_hold n families some =
    All-from_recursion (λ (sets : Vec (Vec ℕ)). AreSetsOf n sets.items) families
    (families_by n families (recursion_from_All (AreSets n) (families_in families) some.sets))

-- ---- how many

set_nodes : (n : ℕ) (sets : List (List ℕ)) → AllByRecursion (IsSetOf n) sets → length sets ≤ sum_by length sets
set_nodes n [] are = omega arith
set_nodes n (set ∷ sets) are = omega (arith, are.0.0, set_nodes n sets are.1, sum_by-cons length set sets)

few_by : (n : ℕ) (families : List (Vec (Vec ℕ))) → AllByRecursion (AreSets n) (families_in families)
    → sum_by (sum_by length) (families_in families) ≤ most_family_nodes
    → AllByRecursion (λ sets. length sets.items < 2 ^ 32) families
few_by n [] h most = tt
few_by n (sets ∷ families) h most =
    let lists : List (List ℕ) = lists_of sets.items in
    let all = sum_by-cons (sum_by length) lists (families_in families) in
    let own = set_nodes n lists (recursion_from_All (IsSetOf n) lists h.0.1) in
    let long = length-map sets.items (λ (set : Vec ℕ). set.items) in
    (omega (arith, all, own, long, most), few_by n families h.1 (omega (arith, all, most)))

pub families_few : (n : ℕ) (families : List (Vec (Vec ℕ))) → AreSomeSets n (families_in families)
    → All (λ sets. length sets.items < 2 ^ 32) families
families_few n families some = All-from_recursion (λ (sets : Vec (Vec ℕ)). length sets.items < 2 ^ 32) families
    (few_by n families (recursion_from_All (AreSets n) (families_in families) some.sets) some.few_nodes)

-- ---- their numbers

pub one_numbers : NumbersAreUnique → (n : ℕ) (a b : List Crossings) (families : List (List (List ℕ))) → length a ≡ length families
    → length b ≡ length families
    → AllByRecursion (IsFamily n) (families_with a families) → AllByRecursion (IsFamily n) (families_with b families) → a ≡ b
one_numbers unique n [] [] families p q f g = refl
one_numbers unique n [] (b ∷ bs) families p q f g = absurd (omega (arith, p, q))
one_numbers unique n (a ∷ more) [] families p q f g = absurd (omega (arith, p, q))
one_numbers unique n (a ∷ more) (b ∷ bs) [] p q f g = absurd (omega (arith, p))
one_numbers unique n (a ∷ more) (b ∷ bs) (sets ∷ families) p q f g =
    ap₂ (λ (c : Crossings) (cs : List Crossings). c ∷ cs) (unique n (family_with a sets) (family_with b sets) refl f.0 g.0)
    (one_numbers unique n more bs families (omega (arith, p)) (omega (arith, q)) f.1 g.1)

-- ---- reasons against a certificate by branching, ruled out one by one, and its bound

-- ---- where indexes end

-- a branch, and a leaf, in the list is one of the steps
branches_within : (cases : List (List Decision)) (steps : List listed.Step)
    → length (branches_of_cases cases steps) ≤ length steps
branches_within [] steps = omega arith
branches_within (case ∷ cases) [] = omega arith
branches_within (case ∷ cases) (listed.Branch a b ∷ steps) =
    let less = branches_within (decide (a, b) true case ∷ decide (a, b) false case ∷ cases) steps in omega (arith, less)
branches_within (case ∷ cases) (listed.Leaf changes ∷ steps) = let less = branches_within cases steps in omega (arith, less)

pub twice_within : (directed : Bool) (given : List Decision) (steps : List listed.Step) (first : ℕ)
    → IsFirstTwice directed given steps first → first ≤ length steps
twice_within directed given steps first h =
    let most = h.applies.0.1 in
    let less = branches_within (given ∷ []) steps in
    omega (arith, most, less)

leaves_within : (steps : List listed.Step) → length (leaf_changes steps) ≤ length steps
leaves_within [] = omega arith
leaves_within (listed.Branch a b ∷ steps) = let less = leaves_within steps in omega (arith, less)
leaves_within (listed.Leaf changes ∷ steps) = let less = leaves_within steps in omega (arith, less)

pub bad_within : (n : ℕ) (crossed : List Crossings) (steps : List listed.Step) (bad : ℕ) → IsFirstBadLeaf n crossed steps bad
    → bad ≤ length steps
bad_within n crossed steps bad h =
    let most = h.applies.0.1 in
    let less = leaves_within steps in
    omega (arith, most, less)

-- ---- the verdict of tsp_branch, over what the files hold

-- the file lists no memory and no subset row
abbrev pub ListsNeither : Fields → Type 0
ListsNeither tree = (memories_listed tree ≡ []) × (rows_listed tree ≡ [])

pub record IsReported (inst tree : Fields) (costs : ℕ → ℕ → ℤ) (verdict : TreeVerdict) : Type 0 where
  pub steps : List listed.Step
  pub steps_are : tree.branches ≡ Some steps
  pub by_steps : IsBranchVerdict (is_directed inst.kind) (nodes_of inst) costs (scale_in tree) (families_listed tree)
      (given_in inst) steps verdict
  pub neither : ListsNeither tree

-- what code lists is what the file does
pub lists_neither : (tree : Fields) (lists : List (List ℕ)) (rows : List SubsetRow) → HoldsMemory tree lists rows
    → IsMemoryReason lists rows None → ListsNeither tree
lists_neither tree lists rows held none = (sym held.lists_kept ∙ none.0, sym held.rows_kept ∙ none.1)

-- no list of a file is empty
pub lists_some : (n : ℕ) (lists : List (Vec ℕ)) → AreSomeLists n (map (λ (list : Vec ℕ). list.items) lists)
    → All (λ (list : Vec ℕ). 1 ≤ length list.items) lists
lists_some n lists held = All-from_recursion (λ (list : Vec ℕ). 1 ≤ length list.items) lists
    (each lists (recursion_from_All (IsSetOf n) (map (λ (list : Vec ℕ). list.items) lists) held.each))
  where
    each : (xs : List (Vec ℕ)) → AllByRecursion (IsSetOf n) (map (λ (list : Vec ℕ). list.items) xs)
        → AllByRecursion (λ (list : Vec ℕ). 1 ≤ length list.items) xs
    each [] all = tt
    each (x ∷ xs) all = (all.0.0, each xs all.1)

-- a file has one list of steps
one_list : {A : Type 0} (o : Option (List A)) (xs ys : List A) → o ≡ Some xs → o ≡ Some ys → xs ≡ ys
one_list o xs ys a b = sym (ap (λ p. unwrap_or p []) a) ∙ ap (λ p. unwrap_or p []) b

-- the values that the code passes are those of the files
pub record AreOf (inst tree : Fields) (directed : Bool) (n : ℕ) (scale : ℤ) (families : List (List (List ℕ)))
    (given : List Decision) (steps : List listed.Step) : Type 0 where
  pub directed_is : directed ≡ is_directed inst.kind
  pub nodes_are : n ≡ nodes_of inst
  pub scale_is : scale ≡ scale_in tree
  pub families_are : families ≡ families_listed tree
  pub given_is : given ≡ given_in inst
  pub steps_are : tree.branches ≡ Some steps
  pub neither : ListsNeither tree

pub are_of : (inst tree : Fields) (directed : Bool) (n : ℕ) (scale : ℤ) (families : List (Vec (Vec ℕ))) (fixed : List (ℕ × ℕ))
    (given : List Decision) (steps : List listed.Step)
    → directed ≡ is_directed inst.kind → inst.dimension ≡ Some n → scale ≡ scale_in tree
    → lists_of_families families ≡ families_listed tree
    → fixed ≡ fixed_of inst
    → given ≡ take_pairs (each_once directed fixed) → tree.branches ≡ Some steps → ListsNeither tree
    → AreOf inst tree directed n scale (lists_of_families families) given steps
are_of inst tree directed n scale families fixed given steps directed_is count scale_is families_kept fixed_are given_is steps_are neither =
    record {
      directed_is = directed_is;
      nodes_are = sym (ap (λ (d : Option ℕ). unwrap_or d 0) count);
      scale_is = scale_is;
      families_are = families_kept;
      given_is = given_is ∙ ap (λ (pairs : List (ℕ × ℕ)). take_pairs (each_once directed pairs)) fixed_are
          ∙ ap (λ (d : Bool). take_pairs (each_once d (fixed_of inst))) directed_is;
      steps_are = steps_are;
      neither = neither;
    }

pub reported : (inst tree : Fields) (directed : Bool) (n : ℕ) (costs : ℕ → ℕ → ℤ) (scale : ℤ) (families : List (List (List ℕ)))
    (given : List Decision) (steps : List listed.Step) (verdict : TreeVerdict)
    → AreOf inst tree directed n scale families given steps
    → IsBranchVerdict directed n costs scale families given steps verdict → IsReported inst tree costs verdict
reported inst tree directed n costs scale families given steps verdict are h =
    let to : Bool = is_directed inst.kind in
    let by_steps =
    subst (λ (m : ℕ). IsBranchVerdict to m costs (scale_in tree) (families_listed tree) (given_in inst) steps verdict)
    are.nodes_are
    (subst (λ (z : ℤ). IsBranchVerdict to n costs z (families_listed tree) (given_in inst) steps verdict) are.scale_is
    (subst (λ (fs : List (List (List ℕ))). IsBranchVerdict to n costs scale fs (given_in inst) steps verdict) are.families_are
    (subst (λ (ds : List Decision). IsBranchVerdict to n costs scale families ds steps verdict) are.given_is
    (subst (λ (d : Bool). IsBranchVerdict d n costs scale families given steps verdict) are.directed_is h)))) in
    record { steps = steps; steps_are = are.steps_are; by_steps = by_steps; neither = are.neither }

-- ---- which reasons apply

bad_family : (inst tree : Fields) (index : ℕ)
    → IsFirstBadFamily (nodes_of inst) (families_listed tree) index
    → IsFirstPlace (IsBadFamily (nodes_of inst) (families_listed tree)) (families_listed tree) index
bad_family inst tree index bad = record {
  applies = bad.applies;
  none_before = λ earlier before from is. is (bad.none_before earlier before from);
}

-- if all families are good, none is bad
no_bad_family : (inst tree : Fields)
    → ((family : ℕ) → family < length (families_listed tree) → IsGoodFamily (nodes_of inst) (get_or (families_listed tree) family []))
    → (index : ℕ) → AppliesToBranches inst tree (BadFamily index) → ⊥
no_bad_family inst tree good index applies =
    applies.applies.1 (good (index - 1) (omega (arith, applies.applies.0.0, applies.applies.0.1)))

-- the numbers of the families are those of the file's
numbers_reported : (inst tree : Fields) (crossed : List Crossings)
    → AreFamilies (nodes_of inst) (families_listed tree) crossed
    → AreNumbersOf inst tree crossed
numbers_reported inst tree crossed are = record {
  many = are.many;
  are = are.are;
}

-- if all leaves are good, none is bad, by whichever numbers
no_bad_leaf : NumbersAreUnique → (inst tree : Fields) (steps : List listed.Step) (crossed : List Crossings)
    → tree.branches ≡ Some steps → AreNumbersOf inst tree crossed
    → AreGoodLeaves (nodes_of inst) crossed steps → (index : ℕ) → AppliesToBranches inst tree (BadLeaf index) → ⊥
no_bad_leaf unique inst tree steps crossed steps_are are good index applies =
    let n : ℕ = nodes_of inst in
    let others = applies.2 in
    let same : others ≡ crossed = one_numbers unique n others crossed (families_listed tree) applies.3.many are.many
    (recursion_from_All (IsFamily n) (families_with_numbers tree others) applies.3.are)
    (recursion_from_All (IsFamily n) (families_with_numbers tree crossed) are.are) in
    let bad = subst₂ (λ (cs : List Crossings) (ss : List listed.Step). IsFirstBadLeaf n cs ss index) same
    (one_list tree.branches applies.0 steps applies.1 steps_are) applies.4 in
    bad.applies.1 (good index bad.applies.0.0 bad.applies.0.1)

-- if no case is divided twice, none is, as the file lists its steps
no_twice : (inst tree : Fields) (steps : List listed.Step) → tree.branches ≡ Some steps
    → ((index : ℕ) → IsFirstTwice (is_directed inst.kind) (given_in inst) steps index → ⊥) → (index : ℕ)
    → AppliesToBranches inst tree (BranchTwice index) → ⊥
no_twice inst tree steps steps_are none index applies =
    none index (subst (λ (ss : List listed.Step). IsFirstTwice (is_directed inst.kind) (given_in inst) ss index)
    (one_list tree.branches applies.0 steps applies.1 steps_are) applies.2)

-- if each branch is on two nodes, none is bad, as the file lists its steps
no_bad_pair : (inst tree : Fields) (steps : List listed.Step) → tree.branches ≡ Some steps
    → ((index : ℕ) → IsFirstBadBranch 1 (nodes_of inst) steps index → ⊥) → (index : ℕ)
    → AppliesToBranches inst tree (BadBranch index) → ⊥
no_bad_pair inst tree steps steps_are none index applies =
    none index (subst (λ (ss : List listed.Step). IsFirstBadBranch 1 (nodes_of inst) ss index)
    (one_list tree.branches applies.0 steps applies.1 steps_are) applies.2)

-- there are no more branches than steps
pub pairs_few : (steps : List listed.Step) → length (branch_pairs steps) ≤ length steps
pairs_few [] = omega arith
pairs_few (listed.Branch a b ∷ steps) = let rest = pairs_few steps in omega (arith, rest)
pairs_few (listed.Leaf changes ∷ steps) = let rest = pairs_few steps in omega (arith, rest)

-- the facts before a rank rule out the reasons before it
none_before : (inst tree : Fields) (rank : ℕ) → (rank_of NotBranches < rank → is_branches_file tree.kind ≡ true)
    → (rank_of BranchesDimension < rank → nodes_of tree ≡ nodes_of inst)
    → (rank_of (BadFamily 1) < rank → (index : ℕ) → AppliesToBranches inst tree (BadFamily index) → ⊥)
    → (rank_of (BadMemory 1) < rank → memories_listed tree ≡ [])
    → (rank_of (BadRow 1) < rank → rows_listed tree ≡ [])
    → (rank_of (BadBranch 1) < rank → (index : ℕ) → AppliesToBranches inst tree (BadBranch index) → ⊥)
    → (rank_of (BranchTwice 1) < rank → (index : ℕ) → AppliesToBranches inst tree (BranchTwice index) → ⊥)
    → (rank_of (BadLeaf 1) < rank → (index : ℕ) → AppliesToBranches inst tree (BadLeaf index) → ⊥)
    → NoneBefore (AppliesToBranches inst tree) rank
none_before inst tree rank sort size families lists rows pairs once leaves NotBranches low applies = false≢true (sym applies ∙ sort low)
none_before inst tree rank sort size families lists rows pairs once leaves BranchesDimension low applies = applies (size low)
none_before inst tree rank sort size families lists rows pairs once leaves (BadFamily index) low applies = families low index applies
none_before inst tree rank sort size families lists rows pairs once leaves (BadMemory node) low applies =
    let none = ap (λ (xs : List (List ℕ)). length xs) (lists low) in omega (arith, applies.0, none)
none_before inst tree rank sort size families lists rows pairs once leaves (BadRow index) low applies =
    let none = ap (λ (xs : List SubsetRow). length xs) (rows low) in omega (arith, applies.0, none)
none_before inst tree rank sort size families lists rows pairs once leaves (BadBranch index) low applies = pairs low index applies
none_before inst tree rank sort size families lists rows pairs once leaves (BranchTwice index) low applies = once low index applies
none_before inst tree rank sort size families lists rows pairs once leaves (BadLeaf index) low applies = leaves low index applies
none_before inst tree rank sort size families lists rows pairs once leaves reason low applies = applies

-- the two reasons that need no look at the tree
pub no_branches : (inst tree : Fields) → is_branches_file tree.kind ≡ false
    → IsFirstReason (AppliesToCertificate Branches inst tree) NotBranches
no_branches inst tree other =
    tree_either inst.kind (λ Applies. IsFirstReason Applies NotBranches) inst tree
    (record { applies = other; none_before = λ reason low applies. omega (arith, low, branches_rank inst tree reason applies) })
    (record { applies = other; none_before = λ reason low applies. omega (arith, low, q_routes_rank inst tree reason applies) })

pub other_dimension : (inst tree : Fields) → is_branches_file tree.kind ≡ true → nodes_of tree ≢ nodes_of inst
    → IsFirstReason (AppliesToCertificate Branches inst tree) BranchesDimension
other_dimension inst tree sort other =
    tree_either inst.kind (λ Applies. IsFirstReason Applies BranchesDimension) inst tree
    (record { applies = other; none_before = λ reason low applies. of_tours reason low applies })
    (record { applies = other; none_before = λ reason low applies. of_q_routes reason low applies })
  where
    of_tours : (reason : Reason) → rank_of reason < rank_of BranchesDimension → AppliesToBranches inst tree reason → ⊥
    of_tours NotBranches low applies = false≢true (sym applies ∙ sort)
    of_tours reason low applies = omega (arith, low, branches_rank inst tree reason applies)

    of_q_routes : (reason : Reason) → rank_of reason < rank_of BranchesDimension → AppliesToQRoutes inst tree reason → ⊥
    of_q_routes NotBranches low applies = false≢true (sym applies ∙ sort)
    of_q_routes reason low applies = omega (arith, low, q_routes_rank inst tree reason applies)

-- a TSP or an ATSP
abbrev pub HasArcsOrEdges : Fields → Type 0
HasArcsOrEdges inst = (inst.kind ≡ Some kinds.Tsp) ⊎ (inst.kind ≡ Some kinds.Atsp)

-- of its tours the reasons against the certificate are these
for_tree : (P : (Reason → Type 0) → Type 0) (inst tree : Fields) → HasArcsOrEdges inst → P (AppliesToBranches inst tree)
    → P (AppliesToCertificate Branches inst tree)
for_tree P inst tree (inl tsp) first = subst (λ k. P (AppliesToCertificateBy Branches k inst tree)) (sym tsp) first
for_tree P inst tree (inr atsp) first = subst (λ k. P (AppliesToCertificateBy Branches k inst tree)) (sym atsp) first

pub family_first : (inst tree : Fields) (costs : ℕ → ℕ → ℤ) (index : ℕ) → HasArcsOrEdges inst → is_branches_file tree.kind ≡ true
    → nodes_of tree ≡ nodes_of inst
    → IsReported inst tree costs (found.BadFamily index)
    → IsFirstReason (AppliesToCertificate Branches inst tree) (BadFamily index)
family_first inst tree costs index kind sort size is = for_tree (λ Applies. IsFirstReason Applies (BadFamily index)) inst tree kind (record {
  applies = bad_family inst tree index is.by_steps;
  none_before = none_before inst tree (rank_of (BadFamily 1)) (λ low. sort) (λ low. size) (λ low. absurd (omega (arith, low)))
      (λ low. absurd (omega (arith, low))) (λ low. absurd (omega (arith, low))) (λ low. absurd (omega (arith, low)))
      (λ low. absurd (omega (arith, low))) (λ low. absurd (omega (arith, low)));
})

pub pair_first : (inst tree : Fields) (costs : ℕ → ℕ → ℤ) (index : ℕ) → HasArcsOrEdges inst → is_branches_file tree.kind ≡ true
    → nodes_of tree ≡ nodes_of inst
    → IsReported inst tree costs (found.BadBranch index)
    → IsFirstReason (AppliesToCertificate Branches inst tree) (BadBranch index)
pair_first inst tree costs index kind sort size is = for_tree (λ Applies. IsFirstReason Applies (BadBranch index)) inst tree kind (record {
  applies = (is.steps, is.steps_are, is.by_steps.2);
  none_before = none_before inst tree (rank_of (BadBranch 1)) (λ low. sort) (λ low. size)
      (λ low. no_bad_family inst tree is.by_steps.1.good) (λ low. is.neither.0) (λ low. is.neither.1)
      (λ low. absurd (omega (arith, low))) (λ low. absurd (omega (arith, low))) (λ low. absurd (omega (arith, low)));
})

pub twice_first : (inst tree : Fields) (costs : ℕ → ℕ → ℤ) (index : ℕ) → HasArcsOrEdges inst → is_branches_file tree.kind ≡ true
    → nodes_of tree ≡ nodes_of inst
    → IsReported inst tree costs (found.BranchTwice index)
    → IsFirstReason (AppliesToCertificate Branches inst tree) (BranchTwice index)
twice_first inst tree costs index kind sort size is = for_tree (λ Applies. IsFirstReason Applies (BranchTwice index)) inst tree kind (record {
  applies = (is.steps, is.steps_are, is.by_steps.3);
  none_before = none_before inst tree (rank_of (BranchTwice 1)) (λ low. sort) (λ low. size)
      (λ low. no_bad_family inst tree is.by_steps.1.good) (λ low. is.neither.0) (λ low. is.neither.1)
      (λ low. no_bad_pair inst tree is.steps is.steps_are is.by_steps.2.0)
      (λ low. absurd (omega (arith, low))) (λ low. absurd (omega (arith, low)));
})

pub leaf_first : (inst tree : Fields) (costs : ℕ → ℕ → ℤ) (index : ℕ) → HasArcsOrEdges inst → is_branches_file tree.kind ≡ true
    → nodes_of tree ≡ nodes_of inst
    → IsReported inst tree costs (found.BadLeaf index)
    → IsFirstReason (AppliesToCertificate Branches inst tree) (BadLeaf index)
leaf_first inst tree costs index kind sort size is = for_tree (λ Applies. IsFirstReason Applies (BadLeaf index)) inst tree kind (record {
  applies = (
    is.steps,
    is.steps_are,
    is.by_steps.crossed,
    numbers_reported inst tree is.by_steps.crossed is.by_steps.are_families,
    is.by_steps.leaves,
  );
  none_before = none_before inst tree (rank_of (BadLeaf 1)) (λ low. sort) (λ low. size)
      (λ low. no_bad_family inst tree is.by_steps.are_families.good) (λ low. is.neither.0) (λ low. is.neither.1)
      (λ low. no_bad_pair inst tree is.steps is.steps_are is.by_steps.on_nodes.0)
      (λ low. no_twice inst tree is.steps is.steps_are is.by_steps.are_once.0) (λ low. absurd (omega (arith, low)));
})

none_of_branches : NumbersAreUnique → (inst tree : Fields) (costs : ℕ → ℕ → ℤ) (bound : Option ℤ)
    → is_branches_file tree.kind ≡ true
    → nodes_of tree ≡ nodes_of inst → IsReported inst tree costs (found.Bound bound)
    → (reason : Reason) → AppliesToBranches inst tree reason → ⊥
none_of_branches unique inst tree costs bound sort size is reason applies =
    none_before inst tree past_all (λ low. sort) (λ low. size) (λ low. no_bad_family inst tree is.by_steps.are_families.good)
    (λ low. is.neither.0) (λ low. is.neither.1)
    (λ low. no_bad_pair inst tree is.steps is.steps_are is.by_steps.on_nodes.0)
    (λ low. no_twice inst tree is.steps is.steps_are is.by_steps.are_once.0)
    (λ low. no_bad_leaf unique inst tree is.steps is.by_steps.crossed is.steps_are
    (numbers_reported inst tree is.by_steps.crossed is.by_steps.are_families) is.by_steps.leaves.2)
    reason (is_ranked reason) applies

pub nothing_applies : NumbersAreUnique → (inst tree : Fields) (costs : ℕ → ℕ → ℤ) (bound : Option ℤ) → HasArcsOrEdges inst
    → is_branches_file tree.kind ≡ true
    → nodes_of tree ≡ nodes_of inst → IsReported inst tree costs (found.Bound bound)
    → (reason : Reason) → AppliesToCertificate Branches inst tree reason → ⊥
nothing_applies unique inst tree costs bound kind sort size is =
    for_tree (λ Applies. (reason : Reason) → Applies reason → ⊥) inst tree kind
    (none_of_branches unique inst tree costs bound sort size is)

-- ---- memories and subset rows, which are for routes alone

-- the first bad family, or else the reason against memories and rows
pub memory_first : (inst tree : Fields) (bad : Option ℕ) (reason : Reason) → HasArcsOrEdges inst → is_branches_file tree.kind ≡ true
    → nodes_of tree ≡ nodes_of inst → IsBadFamilyIfAny (nodes_of inst) (families_listed tree) bad
    → IsMemoryReason (memories_listed tree) (rows_listed tree) (Some reason)
    → IsFirstReason (AppliesToCertificate Branches inst tree) (family_or bad reason)
memory_first inst tree (Some index) reason kind sort size families against =
    for_tree (λ Applies. IsFirstReason Applies (BadFamily index)) inst tree kind (record {
      applies = bad_family inst tree index families;
      none_before = none_before inst tree (rank_of (BadFamily 1)) (λ low. sort) (λ low. size) (λ low. absurd (omega (arith, low)))
          (λ low. absurd (omega (arith, low))) (λ low. absurd (omega (arith, low))) (λ low. absurd (omega (arith, low)))
          (λ low. absurd (omega (arith, low))) (λ low. absurd (omega (arith, low)));
    })
memory_first inst tree None reason kind sort size families (inl listed) =
    subst (λ (r : Reason). IsFirstReason (AppliesToCertificate Branches inst tree) r) (sym listed.1)
    (for_tree (λ Applies. IsFirstReason Applies (BadMemory (owner_of (slice_index_or (memories_listed tree) 0 [])))) inst tree kind (record {
      applies = (listed.0, refl);
      none_before = none_before inst tree (rank_of (BadMemory 1)) (λ low. sort) (λ low. size) (λ low. no_bad_family inst tree families)
          (λ low. absurd (omega (arith, low))) (λ low. absurd (omega (arith, low))) (λ low. absurd (omega (arith, low)))
          (λ low. absurd (omega (arith, low))) (λ low. absurd (omega (arith, low)));
    }))
memory_first inst tree None reason kind sort size families (inr listed) =
    subst (λ (r : Reason). IsFirstReason (AppliesToCertificate Branches inst tree) r) (sym listed.2)
    (for_tree (λ Applies. IsFirstReason Applies (BadRow 1)) inst tree kind (record {
      applies = (listed.1, refl);
      none_before = none_before inst tree (rank_of (BadRow 1)) (λ low. sort) (λ low. size) (λ low. no_bad_family inst tree families)
          (λ low. listed.0) (λ low. absurd (omega (arith, low))) (λ low. absurd (omega (arith, low)))
          (λ low. absurd (omega (arith, low))) (λ low. absurd (omega (arith, low)));
    }))

-- ---- the bound, carried to costs that are the same between all nodes

-- pairs of a TSP alone have no direction
pub tsp_of_undirected : (inst : Fields) → HasArcsOrEdges inst → is_directed inst.kind ≡ false → inst.kind ≡ Some kinds.Tsp
tsp_of_undirected inst (inl tsp) undirected = tsp
tsp_of_undirected inst (inr atsp) undirected = absurd (false≢true (sym undirected ∙ ap is_directed atsp))

pub directed_is : (directed : Bool) (inst : Fields) (kind : Kind) → directed ≡ is_directed (Some kind) → Some kind ≡ inst.kind
    → directed ≡ is_directed inst.kind
directed_is directed inst kind is same = is ∙ ap is_directed same

-- the costs of a view are the same in both directions if those of the instance are
pub symmetric_view : (inst : Fields) (directed : Bool) (costs : ℕ → ℕ → ℤ) → HasArcsOrEdges inst → directed ≡ is_directed inst.kind
    → IsSymmetricTsp inst → Same costs (cost inst)
    → directed ≡ false → IsSymmetric costs
symmetric_view inst directed costs kind is even same undirected i j differ =
    same i j ∙ even (tsp_of_undirected inst kind (sym is ∙ undirected)) i j differ ∙ sym (same j i)

-- what is found for the costs of a view is found for those of the instance
module _ (inst tree : Fields) (costs : ℕ → ℕ → ℤ) (bound : Option ℤ) (same : Same costs (cost inst))
    (is : IsReported inst tree costs (found.Bound bound)) where
  numbers_are : AreNumbersOf inst tree is.by_steps.crossed
  numbers_are = numbers_reported inst tree is.by_steps.crossed is.by_steps.are_families

  certificate_is : IsCaseTree (nodes_of inst) (families_with_numbers tree is.by_steps.crossed) (given_in inst)
      (case_steps_in inst tree is.steps)
  certificate_is =
      subst (λ (k : ℕ). IsCaseTree (nodes_of inst) (families_with_numbers tree is.by_steps.crossed) (given_in inst)
      (listed_steps (nodes_of inst) k is.steps)) numbers_are.many is.by_steps.leaves.0

  bound_is : IsCaseTreeBound (is_directed inst.kind) (nodes_of inst) (cost inst) (scale_in tree) decided_number
      (families_with_numbers tree is.by_steps.crossed) (given_in inst) (case_steps_in inst tree is.steps) bound
  bound_is =
      subst (λ (f : ℕ → ℕ → ℤ). IsCaseTreeBound (is_directed inst.kind) (nodes_of inst) f (scale_in tree) decided_number
      (families_with_numbers tree is.by_steps.crossed) (given_in inst) (case_steps_in inst tree is.steps) bound)
      (fun_ext (λ i. fun_ext (same i)))
      (subst (λ (k : ℕ). IsCaseTreeBound (is_directed inst.kind) (nodes_of inst) costs (scale_in tree) decided_number
      (families_with_numbers tree is.by_steps.crossed) (given_in inst)
      (listed_steps (nodes_of inst) k is.steps) bound) numbers_are.many is.by_steps.leaves.1)

  has_bound : HasBoundByBranches inst tree bound
  has_bound = record {
    steps = is.steps;
    steps_are = is.steps_are;
    crossed = is.by_steps.crossed;
    numbers = numbers_are;
    certificate = certificate_is;
    bound = bound_is;
  }

  cycles_bounded : CaseTreesBoundCycles → HasArcsOrEdges inst → 3 ≤ nodes_of inst → IsSymmetricTsp inst → IsScale (scale_in tree)
      → BoundsIfAny (is_directed inst.kind) (nodes_of inst) (cost inst) (given_in inst) bound
  cycles_bounded law kind some even scaled =
      law (is_directed inst.kind) (nodes_of inst) (cost inst) (scale_in tree) decided_number
      (families_with_numbers tree is.by_steps.crossed) (given_in inst) (case_steps_in inst tree is.steps) bound
      (costs_for (is_directed inst.kind) (nodes_of inst) (cost inst) some
      (λ undirected. even (tsp_of_undirected inst kind undirected))) scaled certificate_is bound_is

tour_keeps : (inst : Fields) (nodes : List ℕ) → IsTourOf inst nodes → KeepsAll (is_directed inst.kind) nodes (given_in inst)
tour_keeps inst nodes tour = keeps_given (is_directed inst.kind) nodes (fixed_of inst) tour.fixed_used

bound_by : (inst tree : Fields) (bound : ℤ) → HasArcsOrEdges inst → IsBoundByBranches inst tree bound
    → IsBoundBy Branches inst.kind inst tree bound
bound_by inst tree bound (inl tsp) is = subst (λ k. IsBoundBy Branches k inst tree bound) (sym tsp) is
bound_by inst tree bound (inr atsp) is = subst (λ k. IsBoundBy Branches k inst tree bound) (sym atsp) is

none_by : (inst tree : Fields) → HasArcsOrEdges inst → HasNoBoundByBranches inst tree → HasNoBound Branches inst tree
none_by inst tree (inl tsp) is = subst (λ k. HasNoBoundBy Branches k inst tree) (sym tsp) is
none_by inst tree (inr atsp) is = subst (λ k. HasNoBoundBy Branches k inst tree) (sym atsp) is

below_all : (inst : Fields) (bound : ℤ) → HasArcsOrEdges inst → BoundsTours (problem_of inst) bound → BoundsSolutions inst bound
below_all inst bound (inl tsp) below = subst (λ k. BoundsSolutionsBy k inst bound) (sym tsp) below
below_all inst bound (inr atsp) below = subst (λ k. BoundsSolutionsBy k inst bound) (sym atsp) below

without_tours : (inst : Fields) → HasArcsOrEdges inst → HasNoTour (problem_of inst) → HasNoSolution inst
without_tours inst (inl tsp) none = subst (λ k. HasNoSolutionBy k inst) (sym tsp) none
without_tours inst (inr atsp) none = subst (λ k. HasNoSolutionBy k inst) (sym atsp) none

-- the bound that a view's costs give is that of the certificate
pub certified : (inst tree : Fields) (costs : ℕ → ℕ → ℤ) (bound : ℤ) → CaseTreesBoundCycles → HasArcsOrEdges inst
    → 3 ≤ nodes_of inst → IsSymmetricTsp inst → IsScale (scale_in tree)
    → Same costs (cost inst) → IsBoundSized bound → IsReported inst tree costs (found.Bound (Some bound))
    → IsCertified Branches inst tree bound
certified inst tree costs bound law kind some even scaled same sized is = (
  bound_by inst tree bound kind (has_bound inst tree costs (Some bound) same is),
  below_all inst bound kind (λ nodes tour. cycles_bounded inst tree costs (Some bound) same is law kind some even scaled nodes
      tour.cycle (tour_keeps inst nodes tour)),
  fitting bound sized,
)

-- if no leaf has a bound, the certificate gives none, and the instance has no tour
pub no_tour : (inst tree : Fields) (costs : ℕ → ℕ → ℤ) → CaseTreesBoundCycles → HasArcsOrEdges inst → 3 ≤ nodes_of inst
    → IsSymmetricTsp inst → IsScale (scale_in tree)
    → Same costs (cost inst) → IsReported inst tree costs (found.Bound None)
    → HasNoBound Branches inst tree × HasNoSolution inst
no_tour inst tree costs law kind some even scaled same is = (
  none_by inst tree kind (has_bound inst tree costs None same is),
  without_tours inst kind (λ nodes tour. cycles_bounded inst tree costs None same is law kind some even scaled nodes tour.cycle
      (tour_keeps inst nodes tour)),
)

-- ---- what the certificate gives, by the verdict on its tree

pub tree_finds : NumbersAreUnique → CaseTreesBoundCycles → (inst tree : Fields) (costs : ℕ → ℕ → ℤ) (verdict : TreeVerdict)
    → HasArcsOrEdges inst → is_branches_file tree.kind ≡ true → nodes_of tree ≡ nodes_of inst → 3 ≤ nodes_of inst → IsSymmetricTsp inst
    → IsScale (scale_in tree) → Same costs (cost inst) → IsSizedVerdict verdict → IsReported inst tree costs verdict
    → FindsBound Branches inst tree (found_by_tree verdict)
tree_finds unique law inst tree costs (found.Bound (Some bound)) kind sort size some even scaled same sized is = (
  nothing_applies unique inst tree costs (Some bound) kind sort size is,
  certified inst tree costs bound law kind some even scaled same sized is,
)
tree_finds unique law inst tree costs (found.Bound None) kind sort size some even scaled same sized is =
    let gone = no_tour inst tree costs law kind some even scaled same is in
    (nothing_applies unique inst tree costs None kind sort size is, gone.0, gone.1)
tree_finds unique law inst tree costs (found.BadFamily index) kind sort size some even scaled same sized is = family_first inst tree costs index kind sort size is
tree_finds unique law inst tree costs (found.BadBranch index) kind sort size some even scaled same sized is = pair_first inst tree costs index kind sort size is
tree_finds unique law inst tree costs (found.BranchTwice index) kind sort size some even scaled same sized is = twice_first inst tree costs index kind sort size is
tree_finds unique law inst tree costs (found.BadLeaf index) kind sort size some even scaled same sized is = leaf_first inst tree costs index kind sort size is
tree_finds unique law inst tree costs other kind sort size some even scaled same sized is = absurd is.by_steps.leaves

-- its number fits 32 bits
pub tree_numbered : (directed : Bool) (n : ℕ) (costs : ℕ → ℕ → ℤ) (scale : ℤ) (families : List (List (List ℕ))) (given : List Decision)
    (steps : List listed.Step) (verdict : TreeVerdict) → length families < 2 ^ 32 → length steps < 2 ^ 32
    → IsBranchVerdict directed n costs scale families given steps verdict → IsNumbered verdict
tree_numbered directed n costs scale families given steps (found.Bound bound) few_families few_steps is = tt
tree_numbered directed n costs scale families given steps (found.BadFamily index) few_families few_steps is = omega (arith, is.applies.0.1, few_families)
tree_numbered directed n costs scale families given steps (found.BadMemory node) few_families few_steps is = tt
tree_numbered directed n costs scale families given steps (found.BadRow index) few_families few_steps is = absurd is.leaves
tree_numbered directed n costs scale families given steps (found.BadBranch index) few_families few_steps is =
    omega (arith, is.2.applies.0.1, pairs_few steps, few_steps)
tree_numbered directed n costs scale families given steps (found.BranchTwice index) few_families few_steps is =
    omega (arith, twice_within directed given steps index is.3, few_steps)
tree_numbered directed n costs scale families given steps (found.BadLeaf index) few_families few_steps is =
    omega (arith, bad_within n is.crossed steps index is.leaves, few_steps)
tree_numbered directed n costs scale families given steps found.TooManyLoads few_families few_steps is = tt
tree_numbered directed n costs scale families given steps (found.TooManyStates index) few_families few_steps is = absurd is.leaves
