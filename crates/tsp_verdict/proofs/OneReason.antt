-- Two reasons of one rank that apply to the same files have the same numbers: against the instance
-- (`instance_by_rank`), tours (`tours_by_rank`), routes (`routes_by_rank`) and certificates (`certificates_by_rank`).
-- OneVerdict.antt rests on these four.
use Rattle.tsp_verdict.proofs.Prelude.{◌<◌, ◌⊎◌, inl, inr, arith, ◌≡◌, ◌∙◌, ℕ, List, [], length, refl, sym, ap, ap₂, subst, cases_order, false≢true, ints, pos, Option, None, Some, Bool, true, false, slice_index_or, ℤ, IsFirstAsymmetric, cost, scale_in, families_listed, Fields, nodes_of, IsFirstBroken, is_directed, IsFamily, NumbersAreUnique, IsFirstBadLeaf, IsFirstTwice, Crossings, IsFirstBadPlanBranch, RoutingProblem, routing_of, families_with, recursion_from_All, memories_listed, rows_listed, rank_of, CertificateKind, Potentials, Branches, Reason, TooFewNodes, NotSymmetric, DepotCount, DepotDemand, FixedEdgesInRoutes, LengthClaimed, NotASolution, Dimension, TourCount, TourLength, DepotInRoute, NodeOutOfRange, RepeatedNode, FixedEdgeUnused, Unserved, Overload, NotPotentials, PotentialsDimension, PotentialsKind, MultiplierNotFixed, MultiplierRepeated, DualInfeasible, NotBranches, BranchesDimension, BadFamily, BadMemory, BadRow, BadBranch, BranchTwice, BadLeaf, TooManyLoads, TooManyStates, Ok, Err, BoundVerdict}
use Rattle.tsp_format.specs.Steps as listed
use Rattle.tsp_format.specs.Steps.{SubsetRow}
use Rattle.tsp_theory.proofs.FirstRanks.{one_rank}
use Rattle.tsp_theory.specs.First.{IsFirst}
use Rattle.tsp_routing.specs.PlanLinks.{IsCutFamily}
use Rattle.tsp_routing.specs.RunTrees.{owner_of, IsFirstBadList, IsFirstFull, IsBadMemory}
use Rattle.tsp_routing.specs.RunVerdicts.{IsFirstBadLeafOf, tree_with, IsFirstFullLeaf, HasFullLeaf}
use Rattle.tsp_routing.proofs.QRoutesBoundPlans.{all_crossed, one_light}
use Rattle.tsp_cases.specs.ListedCases as pairs
use Rattle.tsp_verdict.proofs.FirstReasons.{certificate_rank, HasTours, instance_either, first_for_tours, tour_rank, routes_rank, AreOwn, Both, Carried, reason_of, IsOneByRank, one_pair, tree_either}
use Rattle.tsp_verdict.proofs.TreeReasons.{one_numbers}
use Rattle.tsp_verdict.specs.Certificates.{given_in, AreNumbersOf, AppliesToBranches, families_with_numbers, BreaksDuals, AppliesToPotentials, AppliesToQRoutes, unit_in, by_runs_in}
use Rattle.tsp_verdict.specs.Certified.{AppliesToTouring, AppliesToRouting, AppliesToInstance, NoneAgainstInstance, AppliesToBounded, IsBoundVerdict, AppliesToCertificate, FindsBound, AppliesToCertified, AppliesToCertifiedRoutes}
use Rattle.tsp_verdict.specs.SolutionReasons.{IsFirstReason, AppliesToRoutes, AppliesToTour}

tours_rank : (inst : Fields) (reason : Reason) → AppliesToTouring inst reason
    → rank_of reason < rank_of (LengthClaimed (pos 0))
tours_rank inst TooFewNodes applies = omega arith
tours_rank inst (NotSymmetric i j) applies = omega arith
tours_rank inst reason applies = absurd applies

routing_rank : (inst : Fields) (reason : Reason) → AppliesToRouting inst reason
    → rank_of reason < rank_of (LengthClaimed (pos 0))
routing_rank inst TooFewNodes applies = omega arith
routing_rank inst DepotCount applies = omega arith
routing_rank inst DepotDemand applies = omega arith
routing_rank inst FixedEdgesInRoutes applies = omega arith
routing_rank inst reason applies = absurd applies

pub instance_rank : (inst : Fields) (reason : Reason) → AppliesToInstance inst reason
    → rank_of reason < rank_of (LengthClaimed (pos 0))
instance_rank inst reason applies =
    instance_either inst.kind (λ Applies. (reason : Reason) → Applies reason → rank_of reason < rank_of (LengthClaimed (pos 0))) inst
    (tours_rank inst) (routing_rank inst) reason applies

-- the first reason against the instance is the first of all
pub instance_refused : (by : CertificateKind) (inst cert : Fields) (reason : Reason)
    → IsFirstReason (AppliesToInstance inst) reason → IsBoundVerdict by inst cert (Err reason)
instance_refused by inst cert reason first = record {
  applies = inl first.applies;
  none_before = λ other low applies. by_side other low applies;
}
  where
    by_side : (other : Reason) → rank_of other < rank_of reason
        → AppliesToInstance inst other ⊎ AppliesToCertificate by inst cert other → ⊥
    by_side other low (inl applies) = first.none_before other low applies
    by_side other low (inr applies) =
        omega (arith, low, instance_rank inst reason first.applies, certificate_rank by inst cert other applies)

none_of_both : (by : CertificateKind) (inst cert : Fields) → NoneAgainstInstance inst
    → ((other : Reason) → AppliesToCertificate by inst cert other → ⊥)
    → (reason : Reason) → AppliesToBounded by inst cert reason → ⊥
none_of_both by inst cert none certificate reason (inl applies) = none reason applies
none_of_both by inst cert none certificate reason (inr applies) = certificate reason applies

-- if none applies to the instance, it is the certificate that decides
pub certificate_decides : (by : CertificateKind) (inst cert : Fields) (found : BoundVerdict) → NoneAgainstInstance inst
    → FindsBound by inst cert found
    → IsBoundVerdict by inst cert found
certificate_decides by inst cert (Ok (Some bound)) none b = (none_of_both by inst cert none b.0, b.1)
certificate_decides by inst cert (Ok None) none b = (none_of_both by inst cert none b.0, b.1, b.2)
certificate_decides by inst cert (Err reason) none first = record {
  applies = inr first.applies;
  none_before = λ other low applies. by_side other low applies;
}
  where
    by_side : (other : Reason) → rank_of other < rank_of reason
        → AppliesToInstance inst other ⊎ AppliesToCertificate by inst cert other → ⊥
    by_side other low (inl applies) = none other applies
    by_side other low (inr applies) = first.none_before other low applies

-- the same of an instance of tours, by the reasons against its tours
pub tours_refused : (by : CertificateKind) (inst cert : Fields) (reason : Reason) → HasTours inst
    → IsFirstReason (AppliesToTouring inst) reason → IsBoundVerdict by inst cert (Err reason)
tours_refused by inst cert reason kind first = instance_refused by inst cert reason (first_for_tours inst reason kind first)

-- ---- two reasons of one rank that apply to a solution, to an instance or to a certificate

-- the one value of an option
pub one_value : {X : Type 0} (option : Option X) (a b : X) → option ≡ Some a → option ≡ Some b → a ≡ b
one_value option a b one other = of_some a b (sym one ∙ other)
  where
    of_some : {X : Type 0} (a b : X) → Some a ≡ Some b → a ≡ b
    of_some a b same = ap (λ found. elim found [ None ↦ a | Some x ↦ x ]) same

-- two first numbers are one, where nothing both applies and is known not to
one_number : (Applies Not : ℕ → Type 0) (a b : ℕ) → IsFirst (λ k. k) Applies Not a → IsFirst (λ k. k) Applies Not b
    → ((k : ℕ) → Applies k → Not k → ⊥) → a ≡ b
one_number Applies Not a b one other never = one_rank (λ k. k) Applies Not a b never one other

-- ---- against a tour

one_asymmetric : (n : ℕ) (cost : ℕ → ℕ → ℤ) (a b i j : ℕ) → IsFirstAsymmetric n cost (a, b) → IsFirstAsymmetric n cost (i, j)
    → (a ≡ i) × (b ≡ j)
one_asymmetric n cost a b i j one other = one_pair a b i j
    (λ before. one.differ (other.first a b one.row one.column one.upper before))
    (λ before. other.differ (one.first i j other.row other.column other.upper before))

asymmetric_by_rank : (n : ℕ) (cost : ℕ → ℕ → ℤ) (i j : ℕ) (carried : Carried) → IsFirstAsymmetric n cost (i, j)
    → IsFirstAsymmetric n cost (carried.0, carried.1) → NotSymmetric i j ≡ NotSymmetric carried.0 carried.1
asymmetric_by_rank n cost i j carried one other =
    let same = one_asymmetric n cost i j carried.0 carried.1 one other in ap₂ (λ a b. NotSymmetric a b) same.0 same.1

-- plan: by the reason: one without numbers is equal to itself; of one with numbers files have one first place or pair
pub tours_by_rank : (inst sol : Fields) → IsOneByRank (AppliesToTour inst sol)
tours_by_rank inst sol NotASolution carried one other = refl
tours_by_rank inst sol TooFewNodes carried one other = refl
tours_by_rank inst sol (NotSymmetric i j) carried one other =
    asymmetric_by_rank (nodes_of inst) (cost inst) i j carried one.1 other.1
tours_by_rank inst sol Dimension carried one other = refl
tours_by_rank inst sol TourCount carried one other = refl
tours_by_rank inst sol TourLength carried one other = refl
tours_by_rank inst sol (NodeOutOfRange i) carried one other = ap NodeOutOfRange (one_number _ _ i carried.0 one other (λ k here not. not here.0.0 here.1))
tours_by_rank inst sol (RepeatedNode i) carried one other = ap RepeatedNode (one_number _ _ i carried.0 one other (λ k here not. not here.0.0 here.1))
tours_by_rank inst sol (FixedEdgeUnused i) carried one other = ap FixedEdgeUnused (one_number _ _ i carried.0 one other (λ k here not. not here.0.0 here.1))
tours_by_rank inst sol reason carried one other = absurd one

-- ---- against an instance, whatever the solution

-- plan: by the reason: one without numbers is equal to itself; of one with numbers files have one first place or pair
instances_by_rank : (inst : Fields) → IsOneByRank (AppliesToTouring inst)
instances_by_rank inst TooFewNodes carried one other = refl
instances_by_rank inst (NotSymmetric i j) carried one other =
    asymmetric_by_rank (nodes_of inst) (cost inst) i j carried one.1 other.1
instances_by_rank inst reason carried one other = absurd one

-- plan: by the reason: one without numbers is equal to itself; of one with numbers files have one first place or pair
routings_by_rank : (inst : Fields) → IsOneByRank (AppliesToRouting inst)
routings_by_rank inst TooFewNodes carried one other = refl
routings_by_rank inst DepotCount carried one other = refl
routings_by_rank inst DepotDemand carried one other = refl
routings_by_rank inst FixedEdgesInRoutes carried one other = refl
routings_by_rank inst reason carried one other = absurd one

pub instance_by_rank : (inst : Fields) → IsOneByRank (AppliesToInstance inst)
instance_by_rank inst = instance_either inst.kind IsOneByRank inst (instances_by_rank inst) (routings_by_rank inst)

-- ---- against routes

-- plan: by the reason: one without numbers is equal to itself; of one with numbers files have one first place or pair
pub routes_by_rank : (inst sol : Fields) → IsOneByRank (AppliesToRoutes inst sol)
routes_by_rank inst sol NotASolution carried one other = refl
routes_by_rank inst sol TooFewNodes carried one other = refl
routes_by_rank inst sol Dimension carried one other = refl
routes_by_rank inst sol DepotCount carried one other = refl
routes_by_rank inst sol DepotDemand carried one other = refl
routes_by_rank inst sol FixedEdgesInRoutes carried one other = refl
routes_by_rank inst sol (DepotInRoute i) carried one other = ap DepotInRoute (one_number _ _ i carried.0 one other (λ k here not. not here.0.0 here.1))
routes_by_rank inst sol (NodeOutOfRange i) carried one other = ap NodeOutOfRange (one_number _ _ i carried.0 one other (λ k here not. not here.0.0 here.1))
routes_by_rank inst sol (RepeatedNode i) carried one other = ap RepeatedNode (one_number _ _ i carried.0 one other (λ k here not. not here.0.0 here.1))
routes_by_rank inst sol (Unserved i) carried one other = ap Unserved (one_number _ _ i carried.0 one other (λ k here served. here.1 (served here.0)))
routes_by_rank inst sol (Overload i) carried one other = ap Overload (one_number _ _ i carried.0 one other (λ k here not. not here.0.0 here.1))
routes_by_rank inst sol reason carried one other = absurd one

-- ---- against a certificate by potentials

one_broken : (n : ℕ) (cost : ℕ → ℕ → ℤ) (scale : ℤ) (rows columns : List ℤ) (a b i j : ℕ)
    → IsFirstBroken n cost scale rows columns a b → IsFirstBroken n cost scale rows columns i j → (a ≡ i) × (b ≡ j)
one_broken n cost scale rows columns a b i j one other = one_pair a b i j
    (λ before. let fits = other.first a b one.row one.column one.other before in
    let broken = one.broken in absurd (omega (arith, ints, fits, broken)))
    (λ before. let fits = one.first i j other.row other.column other.other before in
    let broken = other.broken in absurd (omega (arith, ints, fits, broken)))

one_breaking : (inst pot : Fields) (a b i j : ℕ) → BreaksDuals inst pot a b → BreaksDuals inst pot i j → (a ≡ i) × (b ≡ j)
one_breaking inst pot a b i j one other =
    let rows = one_value pot.row_potentials other.rows one.rows other.rows_are one.rows_are in
    let columns = one_value pot.column_potentials other.columns one.columns other.columns_are one.columns_are in
    let of_rows = subst (λ rows. IsFirstBroken (nodes_of inst) (cost inst) (scale_in pot) rows other.columns i j) rows
    other.first in
    let of_both = subst (λ columns. IsFirstBroken (nodes_of inst) (cost inst) (scale_in pot) one.rows columns i j) columns
    of_rows in
    one_broken (nodes_of inst) (cost inst) (scale_in pot) one.rows one.columns a b i j one.first of_both

broken_by_rank : (inst pot : Fields) (i j : ℕ) (carried : Carried) → BreaksDuals inst pot i j
    → BreaksDuals inst pot carried.0 carried.1 → DualInfeasible i j ≡ DualInfeasible carried.0 carried.1
broken_by_rank inst pot i j carried one other =
    let same = one_breaking inst pot i j carried.0 carried.1 one other in ap₂ (λ a b. DualInfeasible a b) same.0 same.1

-- plan: by the reason: one without numbers is equal to itself; of one with numbers files have one first place or pair
pub potentials_by_rank : (inst pot : Fields) → IsOneByRank (AppliesToPotentials inst pot)
potentials_by_rank inst pot NotPotentials carried one other = refl
potentials_by_rank inst pot PotentialsDimension carried one other = refl
potentials_by_rank inst pot PotentialsKind carried one other = refl
potentials_by_rank inst pot (MultiplierNotFixed i) carried one other =
    ap MultiplierNotFixed (one_number _ _ i carried.0 one.1 other.1 (λ k here not. not here.0.0 here.1))
potentials_by_rank inst pot (MultiplierRepeated i) carried one other =
    ap MultiplierRepeated (one_number _ _ i carried.0 one.1 other.1 (λ k here not. not here.0.0 here.1))
potentials_by_rank inst pot (DualInfeasible i j) carried one other = broken_by_rank inst pot i j carried one.1 other.1
potentials_by_rank inst pot reason carried one other = absurd one

-- ---- against a certificate by branching

-- the numbers of its families are the same
pub one_crossed : NumbersAreUnique → (inst tree : Fields) (a b : List Crossings) → AreNumbersOf inst tree a
    → AreNumbersOf inst tree b → a ≡ b
one_crossed unique inst tree a b one other = one_numbers unique (nodes_of inst) a b (families_listed tree) one.many other.many
    (recursion_from_All (IsFamily (nodes_of inst)) (families_with_numbers tree a) one.are)
    (recursion_from_All (IsFamily (nodes_of inst)) (families_with_numbers tree b) other.are)

twice_by_rank : (inst tree : Fields) (a b : ℕ) → AppliesToBranches inst tree (BranchTwice a)
    → AppliesToBranches inst tree (BranchTwice b) → a ≡ b
twice_by_rank inst tree a b one other =
    let steps = one_value tree.branches other.0 one.0 other.1 one.1 in
    let moved = subst (λ steps. IsFirstTwice (is_directed inst.kind) (given_in inst) steps b) steps other.2 in
    one_number _ _ a b one.2 moved (λ k here not. false≢true (sym (not here.0.0) ∙ here.1))

bad_pair_by_rank : (inst tree : Fields) (a b : ℕ) → AppliesToBranches inst tree (BadBranch a)
    → AppliesToBranches inst tree (BadBranch b) → a ≡ b
bad_pair_by_rank inst tree a b one other =
    let steps = one_value tree.branches other.0 one.0 other.1 one.1 in
    let moved = subst (λ steps. pairs.IsFirstBadBranch 1 (nodes_of inst) steps b) steps other.2 in
    one_number _ _ a b one.2 moved (λ k here good. here.1 (good here.0.0))

bad_leaf_by_rank : NumbersAreUnique → (inst tree : Fields) (a b : ℕ) → AppliesToBranches inst tree (BadLeaf a)
    → AppliesToBranches inst tree (BadLeaf b) → a ≡ b
bad_leaf_by_rank unique inst tree a b one other =
    let steps = one_value tree.branches other.0 one.0 other.1 one.1 in
    let crossed = one_crossed unique inst tree other.2 one.2 other.3 one.3 in
    let of_steps = subst (λ steps. IsFirstBadLeaf (nodes_of inst) other.2 steps b) steps other.4 in
    let moved = subst (λ crossed. IsFirstBadLeaf (nodes_of inst) crossed one.0 b) crossed of_steps in
    one_number _ _ a b one.4 moved (λ k here good. here.1 (good here.0.0))

-- plan: by the reason: one without numbers is equal to itself; of one with numbers files have one first place or pair
pub trees_by_rank : NumbersAreUnique → (inst tree : Fields) → IsOneByRank (AppliesToBranches inst tree)
trees_by_rank unique inst tree NotBranches carried one other = refl
trees_by_rank unique inst tree BranchesDimension carried one other = refl
trees_by_rank unique inst tree (BadFamily i) carried one other = ap BadFamily (one_number _ _ i carried.0 one other (λ k here not. not here.0.0 here.1))
trees_by_rank unique inst tree (BadMemory i) carried one other = ap BadMemory (one.1 ∙ sym other.1)
trees_by_rank unique inst tree (BadRow i) carried one other = ap BadRow (one.1 ∙ sym other.1)
trees_by_rank unique inst tree (BadBranch i) carried one other = ap BadBranch (bad_pair_by_rank inst tree i carried.0 one other)
trees_by_rank unique inst tree (BranchTwice i) carried one other = ap BranchTwice (twice_by_rank inst tree i carried.0 one other)
trees_by_rank unique inst tree (BadLeaf i) carried one other =
    ap BadLeaf (bad_leaf_by_rank unique inst tree i carried.0 one other)
trees_by_rank unique inst tree reason carried one other = absurd one

-- ---- against a certificate for routes

one_bad_list : (n depot : ℕ) (lists : List (List ℕ)) (a b : ℕ) → IsFirstBadList n depot lists a → IsFirstBadList n depot lists b → a ≡ b
one_bad_list n depot lists a b one other = elim (cases_order one.place other.place) [
  | inl same ↦ one.first ∙ ap (λ (k : ℕ). owner_of (slice_index_or lists k [])) same ∙ sym other.first
  | inr (inl less) ↦ absurd (one.bad (other.before one.place less))
  | inr (inr more) ↦ absurd (other.bad (one.before other.place more))
]

one_full : (n depot : ℕ) (lists : List (List ℕ)) (rows : List SubsetRow) (a b : ℕ) → IsFirstFull n depot lists rows a
    → IsFirstFull n depot lists rows b → a ≡ b
one_full n depot lists rows a b one other = elim (cases_order a b) [
  | inl same ↦ same
  | inr (inl less) ↦ absurd (one.full (other.before a one.there less))
  | inr (inr more) ↦ absurd (other.full (one.before b other.there more))
]

one_bad_memory : (n depot : ℕ) (lists : List (List ℕ)) (rows : List SubsetRow) (a b : ℕ) → IsBadMemory n depot lists rows a
    → IsBadMemory n depot lists rows b → a ≡ b
one_bad_memory n depot lists rows a b (inl one) (inl other) = one_bad_list n depot lists a b one other
one_bad_memory n depot lists rows a b (inl one) (inr other) = absurd (one.bad (other.0 one.place one.inside))
one_bad_memory n depot lists rows a b (inr one) (inl other) = absurd (other.bad (one.0 other.place other.inside))
one_bad_memory n depot lists rows a b (inr one) (inr other) = one_full n depot lists rows a b one.2 other.2

one_bad_leaf_of : (by_runs : Bool) (n families rows : ℕ) (steps : List listed.Step) (a b : ℕ)
    → IsFirstBadLeafOf by_runs n families rows steps a → IsFirstBadLeafOf by_runs n families rows steps b → a ≡ b
one_bad_leaf_of false n families rows steps a b one other = one_number _ _ a b one other (λ k here good. here.1 (good here.0.0))
one_bad_leaf_of true n families rows steps a b one other = one_number _ _ a b one other (λ k here good. here.1 (good here.0.0))

one_full_leaf : (problem : RoutingProblem) (scale : ℤ) (unit : ℕ) (families : List (List (List ℕ))) (lists : List (List ℕ))
    (rows : List SubsetRow) (steps : List listed.Step) (a b : ℕ) → HasFullLeaf problem scale unit families lists rows steps a
    → HasFullLeaf problem scale unit families lists rows steps b → a ≡ b
one_full_leaf problem scale unit families lists rows steps a b one other =
    let crossed : one.crossed ≡ other.crossed = all_crossed problem families one.crossed other.crossed one.cuts.many other.cuts.many
    (recursion_from_All (IsCutFamily problem) (families_with one.crossed families) one.cuts.are)
    (recursion_from_All (IsCutFamily problem) (families_with other.crossed families) other.cuts.are) in
    let light : one.light ≡ other.light = one_light problem unit one.light other.light one.units other.units in
    let moved = subst (λ (cs : List Crossings). IsFirstFullLeaf (tree_with problem scale unit families lists rows other.light cs) steps a) crossed
    (subst (λ (l : ℕ). IsFirstFullLeaf (tree_with problem scale unit families lists rows l one.crossed) steps a) light one.first) in
    one_number _ _ a b moved other.first (λ k here good. here.1 (good here.0.0))

full_leaf_by_rank : (inst tree : Fields) (a b : ℕ) → AppliesToQRoutes inst tree (TooManyStates a)
    → AppliesToQRoutes inst tree (TooManyStates b) → a ≡ b
full_leaf_by_rank inst tree a b one other =
    let steps = one_value tree.branches other.0 one.0 other.1 one.1 in
    let moved = subst (λ steps. HasFullLeaf (routing_of inst) (scale_in tree) (unit_in tree) (families_listed tree) (memories_listed tree)
    (rows_listed tree) steps b) steps other.2 in
    one_full_leaf (routing_of inst) (scale_in tree) (unit_in tree) (families_listed tree) (memories_listed tree) (rows_listed tree)
    one.0 a b one.2 moved

bad_branch_by_rank : (inst tree : Fields) (a b : ℕ) → AppliesToQRoutes inst tree (BadBranch a)
    → AppliesToQRoutes inst tree (BadBranch b) → a ≡ b
bad_branch_by_rank inst tree a b one other =
    let steps = one_value tree.branches other.0 one.0 other.1 one.1 in
    let moved = subst (λ steps. IsFirstBadPlanBranch (nodes_of inst) (length (families_listed tree)) steps b) steps other.2 in
    one_number _ _ a b one.2 moved (λ k here good. here.1 (good here.0.0))

bad_plan_leaf_by_rank : (inst tree : Fields) (a b : ℕ) → AppliesToQRoutes inst tree (BadLeaf a)
    → AppliesToQRoutes inst tree (BadLeaf b) → a ≡ b
bad_plan_leaf_by_rank inst tree a b one other =
    let steps = one_value tree.branches other.0 one.0 other.1 one.1 in
    let moved = subst (λ steps. IsFirstBadLeafOf (by_runs_in tree) (nodes_of inst) (length (families_listed tree))
    (length (rows_listed tree)) steps b) steps other.2 in
    one_bad_leaf_of (by_runs_in tree) (nodes_of inst) (length (families_listed tree)) (length (rows_listed tree)) one.0 a b one.2 moved

-- plan: by the reason: one without numbers is equal to itself; of one with numbers files have one first place or pair
pub q_routes_by_rank : (inst tree : Fields) → IsOneByRank (AppliesToQRoutes inst tree)
q_routes_by_rank inst tree NotBranches carried one other = refl
q_routes_by_rank inst tree BranchesDimension carried one other = refl
q_routes_by_rank inst tree (BadFamily i) carried one other = ap BadFamily (one_number _ _ i carried.0 one other (λ k here good. here.1 (good here.0.0)))
q_routes_by_rank inst tree (BadMemory i) carried one other = ap BadMemory (one_bad_memory _ _ _ _ i carried.0 one other)
q_routes_by_rank inst tree (BadRow i) carried one other = ap BadRow (one_number _ _ i carried.0 one other (λ k here good. here.1 (good here.0.0)))
q_routes_by_rank inst tree (BadBranch i) carried one other = ap BadBranch (bad_branch_by_rank inst tree i carried.0 one other)
q_routes_by_rank inst tree (BadLeaf i) carried one other = ap BadLeaf (bad_plan_leaf_by_rank inst tree i carried.0 one other)
q_routes_by_rank inst tree TooManyLoads carried one other = refl
q_routes_by_rank inst tree (TooManyStates i) carried one other = ap TooManyStates (full_leaf_by_rank inst tree i carried.0 one other)
q_routes_by_rank inst tree reason carried one other = absurd one

-- ---- against either of two: a reason of one rank applies to one of them alone

pub certificates_by_rank : NumbersAreUnique → (by : CertificateKind) (inst cert : Fields)
    → IsOneByRank (AppliesToCertificate by inst cert)
certificates_by_rank unique Potentials inst cert = potentials_by_rank inst cert
certificates_by_rank unique Branches inst cert =
    tree_either inst.kind IsOneByRank inst cert (trees_by_rank unique inst cert) (q_routes_by_rank inst cert)

-- a reason of the rank of another has that rank
same_rank : (reason : Reason) (carried : Carried) → rank_of (reason_of (rank_of reason) carried) ≡ rank_of reason
same_rank NotASolution carried = refl
same_rank reason carried = refl

-- reasons against a solution or an instance come before those against a certificate, whatever they carry
either_by_rank : NumbersAreUnique → (Own : Reason → Type 0) (by : CertificateKind) (inst cert : Fields) → AreOwn Own → IsOneByRank Own
    → IsOneByRank (Both Own by inst cert)
either_by_rank unique Own by inst cert own one reason carried (inl a) (inl b) = one reason carried a b
either_by_rank unique Own by inst cert own one reason carried (inl a) (inr b) =
    absurd (omega (
      arith,
      own reason a,
      certificate_rank by inst cert (reason_of (rank_of reason) carried) b,
      same_rank reason carried,
    ))
either_by_rank unique Own by inst cert own one reason carried (inr a) (inl b) =
    absurd (omega (
      arith,
      own (reason_of (rank_of reason) carried) b,
      certificate_rank by inst cert reason a,
      same_rank reason carried,
    ))
either_by_rank unique Own by inst cert own one reason carried (inr a) (inr b) =
    certificates_by_rank unique by inst cert reason carried a b

pub certified_by_rank : NumbersAreUnique → (by : CertificateKind) (inst sol cert : Fields)
    → IsOneByRank (AppliesToCertified by inst sol cert)
certified_by_rank unique by inst sol cert =
    either_by_rank unique (AppliesToTour inst sol) by inst cert (tour_rank inst sol) (tours_by_rank inst sol)

pub certified_routes_by_rank : NumbersAreUnique → (by : CertificateKind) (inst sol cert : Fields)
    → IsOneByRank (AppliesToCertifiedRoutes by inst sol cert)
certified_routes_by_rank unique by inst sol cert =
    either_by_rank unique (AppliesToRoutes inst sol) by inst cert (routes_rank inst sol) (routes_by_rank inst sol)

pub bounded_by_rank : NumbersAreUnique → (by : CertificateKind) (inst cert : Fields)
    → IsOneByRank (AppliesToBounded by inst cert)
bounded_by_rank unique by inst cert =
    either_by_rank unique (AppliesToInstance inst) by inst cert (instance_rank inst) (instance_by_rank inst)
