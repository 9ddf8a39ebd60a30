-- There is one first reason, by the TYPE of the instance and of the certificate. For src/solution_verdict.rt and
-- src/potentials_certificate.rt, and for the law in src/one_verdict.rt.
use Rattle.tsp_verdict.proofs.Prelude.{◌≡◌, ◌∙◌, ℕ, zero, suc, List, [], ◌∷◌, inl, inr, refl, sym, ap, subst, ◌≢◌, ◌⊎◌, Option, Some, None, ◌-◌, ◌<◌, ◌≤◌, true, false, subst₂, arith, cases_order, false≢true, ints, All, AllPairs, ℤ, pos, unwrap_or, IsNode, IsBefore, Kind, fixed_of, scale_in, multipliers_in, cost, Fields, nodes_of, is_potentials_file, pair_of, is_same_pair, AreOnPairs, AreGood, rank_of, CertificateKind, Branches, Potentials, Reason, NotASolution, TooFewNodes, NotSymmetric, Dimension, TourCount, TourLength, DepotCount, DepotDemand, FixedEdgesInRoutes, DepotInRoute, NodeOutOfRange, RepeatedNode, FixedEdgeUnused, Unserved, Overload, LengthClaimed, NotPotentials, PotentialsDimension, PotentialsKind, MultiplierNotFixed, MultiplierRepeated, DualInfeasible, NotBranches, BranchesDimension, BadFamily, BadMemory, BadRow, BadBranch, BranchTwice, BadLeaf, TooManyLoads, TooManyStates, NotJudged, NotUsed, Verdict}
use Rattle.tsp_theory.proofs.FirstRanks.{one_rank}
use Rattle.tsp_format.specs.declared.keyword.Field.{Field}
use Rattle.tsp_format.specs.declared.keyword.Field.TheVariants.{NameKey}
use Rattle.tsp_format.specs.declared.kinds.Kind.TheVariants as kinds
use Rattle.tsp_verdict.specs.Certificates.{AppliesToBranches, AppliesToQRoutes, AreListed, IsUnlisted, IsPairRepeated, pair_at, has_wanted, BreaksDuals, AppliesToPotentials, IsBoundByDuals}
use Rattle.tsp_verdict.specs.Certified.{AppliesToTouring, NoneAgainstTouring, AppliesToRouting, AppliesToInstanceBy, AppliesToInstance, NoneAgainstInstance, AppliesToCertificateBy, IsCertifiedTourVerdict, IsCertifiedRoutesVerdict, IsCertifiedVerdictBy, IsCertifiedVerdict, IsBoundBy, IsCertified, AppliesToCertificate, NoneWithoutMemory}
use Rattle.tsp_theory.specs.First.{IsFirstPlace}
use Rattle.tsp_verdict.specs.SolutionReasons.{IsFirstReason, NoneBefore, AppliesToTour, AppliesToRoutes}

-- what a reason carries: one number, two, a length, or a field
abbrev pub Carried : Type 0
Carried = ℕ × ℕ × ℤ × Field

abbrev carried_of : Reason → Carried
carried_of (NotSymmetric i j) = (i, j, pos 0, NameKey)
carried_of (DepotInRoute i) = (i, 0, pos 0, NameKey)
carried_of (NodeOutOfRange i) = (i, 0, pos 0, NameKey)
carried_of (RepeatedNode i) = (i, 0, pos 0, NameKey)
carried_of (FixedEdgeUnused i) = (i, 0, pos 0, NameKey)
carried_of (Unserved i) = (i, 0, pos 0, NameKey)
carried_of (Overload i) = (i, 0, pos 0, NameKey)
carried_of (LengthClaimed i) = (0, 0, i, NameKey)
carried_of (MultiplierNotFixed i) = (i, 0, pos 0, NameKey)
carried_of (MultiplierRepeated i) = (i, 0, pos 0, NameKey)
carried_of (DualInfeasible i j) = (i, j, pos 0, NameKey)
carried_of (BadFamily i) = (i, 0, pos 0, NameKey)
carried_of (BadMemory i) = (i, 0, pos 0, NameKey)
carried_of (BadRow i) = (i, 0, pos 0, NameKey)
carried_of (BadBranch i) = (i, 0, pos 0, NameKey)
carried_of (BranchTwice i) = (i, 0, pos 0, NameKey)
carried_of (BadLeaf i) = (i, 0, pos 0, NameKey)
carried_of (TooManyStates i) = (i, 0, pos 0, NameKey)
carried_of (NotUsed field) = (0, 0, pos 0, field)
carried_of reason = (0, 0, pos 0, NameKey)

-- the reasons by their ranks
abbrev reasons : List (Carried → Reason)
reasons =
    (λ carried. NotASolution) ∷
    (λ carried. TooFewNodes) ∷
    (λ carried. NotSymmetric carried.0 carried.1) ∷
    (λ carried. Dimension) ∷
    (λ carried. TourCount) ∷
    (λ carried. TourLength) ∷
    (λ carried. DepotCount) ∷
    (λ carried. DepotDemand) ∷
    (λ carried. FixedEdgesInRoutes) ∷
    (λ carried. DepotInRoute carried.0) ∷
    (λ carried. NodeOutOfRange carried.0) ∷
    (λ carried. RepeatedNode carried.0) ∷
    (λ carried. FixedEdgeUnused carried.0) ∷
    (λ carried. Unserved carried.0) ∷
    (λ carried. Overload carried.0) ∷
    (λ carried. LengthClaimed carried.2) ∷
    (λ carried. NotPotentials) ∷
    (λ carried. PotentialsDimension) ∷
    (λ carried. PotentialsKind) ∷
    (λ carried. MultiplierNotFixed carried.0) ∷
    (λ carried. MultiplierRepeated carried.0) ∷
    (λ carried. DualInfeasible carried.0 carried.1) ∷
    (λ carried. NotBranches) ∷
    (λ carried. BranchesDimension) ∷
    (λ carried. BadFamily carried.0) ∷
    (λ carried. BadMemory carried.0) ∷
    (λ carried. BadRow carried.0) ∷
    (λ carried. BadBranch carried.0) ∷
    (λ carried. BranchTwice carried.0) ∷
    (λ carried. BadLeaf carried.0) ∷
    (λ carried. TooManyLoads) ∷
    (λ carried. TooManyStates carried.0) ∷
    (λ carried. NotJudged) ∷
    (λ carried. NotUsed carried.3) ∷
    []

-- the one of a rank, from 1 on
abbrev of_rank : List (Carried → Reason) → ℕ → Carried → Reason
of_rank [] rank carried = NotASolution
of_rank (first ∷ more) zero carried = NotASolution
of_rank (first ∷ more) (suc zero) carried = first carried
of_rank (first ∷ more) (suc (suc rank)) carried = of_rank more (suc rank) carried

abbrev pub reason_of : ℕ → Carried → Reason
reason_of rank carried = of_rank reasons rank carried

-- plan: by the reason, each by computing
is_of_rank : (reason : Reason) → reason ≡ reason_of (rank_of reason) (carried_of reason)
is_of_rank NotASolution = refl
is_of_rank reason = refl

-- no reason has this rank or one above it
abbrev pub past_all : ℕ
past_all = 100

pub is_ranked : (reason : Reason) → rank_of reason < past_all
is_ranked NotASolution = omega arith
is_ranked reason = omega arith

-- of two reasons of one rank that apply the numbers are the same
abbrev pub IsOneByRank : (Reason → Type 0) → Type 0
IsOneByRank Applies = (one : Reason) (carried : Carried) → Applies one → Applies (reason_of (rank_of one) carried)
    → one ≡ reason_of (rank_of one) carried

pub one_first : (Applies : Reason → Type 0) → IsOneByRank Applies → (one other : Reason) → IsFirstReason Applies one
    → IsFirstReason Applies other → one ≡ other
one_first Applies by_rank one other first second =
    let same : rank_of one ≡ rank_of other =
    one_rank rank_of Applies (λ reason. Applies reason → ⊥) one other (λ reason applies not. not applies) first second in
    let is : other ≡ reason_of (rank_of one) (carried_of other) =
    is_of_rank other ∙ ap (λ rank. reason_of rank (carried_of other)) (sym same) in
    by_rank one (carried_of other) first.applies (subst Applies is second.applies) ∙ sym is

-- ---- first pairs by rows

pub one_pair : (a b i j : ℕ) → (IsBefore (a, b) (i, j) → ⊥) → (IsBefore (i, j) (a, b) → ⊥) → (a ≡ i) × (b ≡ j)
one_pair a b i j first second = elim (cases_order a i) [
  | inl same ↦ elim (cases_order b j) [
    | inl also ↦ (same, also)
    | inr (inl less) ↦ absurd (first (inr (same, less)))
    | inr (inr more) ↦ absurd (second (inr (sym same, more)))
  ]
  | inr (inl less) ↦ absurd (first (inl less))
  | inr (inr more) ↦ absurd (second (inl more))
]

-- ---- reasons, known bounds and verdicts by the TYPE of an instance

-- tours are judged
abbrev pub HasTours : Fields → Type 0
HasTours inst = (inst.kind ≡ Some kinds.Tsp) ⊎ (inst.kind ≡ Some kinds.Atsp)

-- ---- whatever the TYPE: what holds of reasons against tours and against routes

pub instance_either : (kind : Option Kind) (P : (Reason → Type 0) → Type 0) (inst : Fields) → P (AppliesToTouring inst)
    → P (AppliesToRouting inst) → P (AppliesToInstanceBy kind inst)
instance_either (Some kinds.Tsp) P inst tours routing = tours
instance_either (Some kinds.Atsp) P inst tours routing = tours
instance_either (Some kinds.Cvrp) P inst tours routing = routing
instance_either (Some kinds.Tour) P inst tours routing = tours
instance_either (Some kinds.Potentials) P inst tours routing = tours
instance_either (Some kinds.Branches) P inst tours routing = tours
instance_either None P inst tours routing = tours

pub tree_either : (kind : Option Kind) (P : (Reason → Type 0) → Type 0) (inst tree : Fields) → P (AppliesToBranches inst tree)
    → P (AppliesToQRoutes inst tree) → P (AppliesToCertificateBy Branches kind inst tree)
tree_either (Some kinds.Tsp) P inst tree tours routes = tours
tree_either (Some kinds.Atsp) P inst tree tours routes = tours
tree_either (Some kinds.Cvrp) P inst tree tours routes = routes
tree_either (Some kinds.Tour) P inst tree tours routes = tours
tree_either (Some kinds.Potentials) P inst tree tours routes = tours
tree_either (Some kinds.Branches) P inst tree tours routes = tours
tree_either None P inst tree tours routes = tours

-- ---- of tours

pub for_tours : (inst : Fields) (reason : Reason) → HasTours inst → AppliesToTouring inst reason → AppliesToInstance inst reason
for_tours inst reason (inl tsp) applies = subst (λ kind. AppliesToInstanceBy kind inst reason) (sym tsp) applies
for_tours inst reason (inr atsp) applies = subst (λ kind. AppliesToInstanceBy kind inst reason) (sym atsp) applies

pub of_tours : (inst : Fields) (reason : Reason) → HasTours inst → AppliesToInstance inst reason → AppliesToTouring inst reason
of_tours inst reason (inl tsp) applies = subst (λ kind. AppliesToInstanceBy kind inst reason) tsp applies
of_tours inst reason (inr atsp) applies = subst (λ kind. AppliesToInstanceBy kind inst reason) atsp applies

pub first_for_tours : (inst : Fields) (reason : Reason) → HasTours inst → IsFirstReason (AppliesToTouring inst) reason
    → IsFirstReason (AppliesToInstance inst) reason
first_for_tours inst reason kind first = record {
  applies = for_tours inst reason kind first.applies;
  none_before = λ other low applies. first.none_before other low (of_tours inst other kind applies);
}

pub none_for_tours : (inst : Fields) → HasTours inst → NoneAgainstTouring inst → NoneAgainstInstance inst
none_for_tours inst kind none reason applies = none reason (of_tours inst reason kind applies)

pub certified_tour : (by : CertificateKind) (inst sol cert : Fields) (verdict : Verdict) → HasTours inst
    → IsCertifiedTourVerdict by inst sol cert verdict → IsCertifiedVerdict by inst sol cert verdict
certified_tour by inst sol cert verdict (inl tsp) v =
    subst (λ kind. IsCertifiedVerdictBy kind by inst sol cert verdict) (sym tsp) v
certified_tour by inst sol cert verdict (inr atsp) v =
    subst (λ kind. IsCertifiedVerdictBy kind by inst sol cert verdict) (sym atsp) v

-- ---- of routes

pub of_routing : (inst : Fields) (reason : Reason) → inst.kind ≡ Some kinds.Cvrp → AppliesToInstance inst reason
    → AppliesToRouting inst reason
of_routing inst reason cvrp applies = subst (λ kind. AppliesToInstanceBy kind inst reason) cvrp applies

pub certified_routes : (by : CertificateKind) (inst sol cert : Fields) (verdict : Verdict) → inst.kind ≡ Some kinds.Cvrp
    → IsCertifiedRoutesVerdict by inst sol cert verdict → IsCertifiedVerdict by inst sol cert verdict
certified_routes by inst sol cert verdict cvrp v =
    subst (λ kind. IsCertifiedVerdictBy kind by inst sol cert verdict) (sym cvrp) v

-- ---- reasons against a certificate of potentials, ruled out one by one

-- ---- against the certificate alone

-- the facts before a rank rule out the reasons before it
pub none_before : (inst pot : Fields) (rank : ℕ) → (rank_of NotPotentials < rank → is_potentials_file pot.kind ≡ true)
    → (rank_of PotentialsDimension < rank → nodes_of pot ≡ nodes_of inst)
    → (rank_of PotentialsKind < rank → has_wanted inst.kind pot ≡ true)
    → (rank_of (MultiplierNotFixed 1) < rank → (index : ℕ) → AppliesToPotentials inst pot (MultiplierNotFixed index) → ⊥)
    → (rank_of (MultiplierRepeated 1) < rank → (index : ℕ) → AppliesToPotentials inst pot (MultiplierRepeated index) → ⊥)
    → (rank_of (DualInfeasible 1 2) < rank → (i j : ℕ) → AppliesToPotentials inst pot (DualInfeasible i j) → ⊥)
    → NoneBefore (AppliesToPotentials inst pot) rank
none_before inst pot rank sort size wanted fixed once good NotPotentials low applies = false≢true (sym applies ∙ sort low)
none_before inst pot rank sort size wanted fixed once good PotentialsDimension low applies = applies (size low)
none_before inst pot rank sort size wanted fixed once good PotentialsKind low applies = false≢true (sym applies ∙ wanted low)
none_before inst pot rank sort size wanted fixed once good (MultiplierNotFixed index) low applies = fixed low index applies
none_before inst pot rank sort size wanted fixed once good (MultiplierRepeated index) low applies = once low index applies
none_before inst pot rank sort size wanted fixed once good (DualInfeasible i j) low applies = good low i j applies
none_before inst pot rank sort size wanted fixed once good reason low applies = applies

-- out of memory, those are ruled out that need none
pub none_of_potentials : (inst pot : Fields) → is_potentials_file pot.kind ≡ true → nodes_of pot ≡ nodes_of inst
    → has_wanted inst.kind pot ≡ true
    → NoneWithoutMemory Potentials inst pot
none_of_potentials inst pot sort size wanted =
    none_before inst pot (rank_of (MultiplierNotFixed 1)) (λ low. sort) (λ low. size) (λ low. wanted)
    (λ low. absurd (omega (arith, low))) (λ low. absurd (omega (arith, low))) (λ low. absurd (omega (arith, low)))

-- all six reasons against potentials are ruled out
pub nothing_applies : (inst pot : Fields) → is_potentials_file pot.kind ≡ true → nodes_of pot ≡ nodes_of inst
    → has_wanted inst.kind pot ≡ true
    → ((index : ℕ) → AppliesToPotentials inst pot (MultiplierNotFixed index) → ⊥)
    → ((index : ℕ) → AppliesToPotentials inst pot (MultiplierRepeated index) → ⊥)
    → ((i j : ℕ) → AppliesToPotentials inst pot (DualInfeasible i j) → ⊥) → (reason : Reason)
    → AppliesToPotentials inst pot reason → ⊥
nothing_applies inst pot sort size wanted fixed once good reason applies =
    none_before inst pot past_all (λ low. sort) (λ low. size) (λ low. wanted) (λ low. fixed) (λ low. once) (λ low. good) reason
    (is_ranked reason) applies

-- each multiplier is on a fixed pair
pub none_unlisted : (inst pot : Fields) → AreListed (fixed_of inst) (multipliers_in pot) → (index : ℕ)
    → AppliesToPotentials inst pot (MultiplierNotFixed index) → ⊥
none_unlisted inst pot listed index applies =
    applies.1.applies.1 (listed (index - 1) (0, 0, pos 0) (omega (arith, applies.1.applies.0.0, applies.1.applies.0.1)))

-- no two multipliers are on the same pair
pub none_repeated : (n : ℕ) (inst pot : Fields) → AreOnPairs n (multipliers_in pot) → (index : ℕ)
    → AppliesToPotentials inst pot (MultiplierRepeated index) → ⊥
none_repeated n inst pot are index applies =
    let again = applies.1.applies.1 in
    let apart : is_same_pair (pair_at (multipliers_in pot) again.0) (pair_at (multipliers_in pot) index) ≡ false =
    are.differ (again.0 - 1) (index - 1) (0, 0, pos 0) (omega (arith, again.1, again.2))
    (omega (arith, applies.1.applies.0.0, applies.1.applies.0.1)) in
    false≢true (sym apart ∙ again.3)

-- the first multiplier that isn't on a fixed pair is the first reason
pub not_fixed : (inst pot : Fields) (fixed : List (ℕ × ℕ)) (triples : List (ℕ × ℕ × ℤ)) (index : ℕ) → fixed ≡ fixed_of inst
    → triples ≡ multipliers_in pot
    → inst.kind ≡ Some kinds.Tsp → is_potentials_file pot.kind ≡ true
    → nodes_of pot ≡ nodes_of inst → has_wanted (Some kinds.Tsp) pot ≡ true
    → IsFirstPlace (IsUnlisted fixed triples) triples index
    → IsFirstReason (AppliesToPotentials inst pot) (MultiplierNotFixed index)
not_fixed inst pot fixed triples index fixed_are triples_are kind sort size wanted first = record {
  applies = (kind, subst₂ (λ fs ts. IsFirstPlace (IsUnlisted fs ts) ts index) fixed_are triples_are first);
  none_before = none_before inst pot (rank_of (MultiplierNotFixed 1)) (λ low. sort) (λ low. size) (λ low. rw kind wanted)
      (λ low. absurd (omega (arith, low)))
      (λ low. absurd (omega (arith, low))) (λ low. absurd (omega (arith, low)));
}

-- if all are on fixed pairs, so is the first one on the pair of an earlier one
pub repeats : (inst pot : Fields) (fixed : List (ℕ × ℕ)) (triples : List (ℕ × ℕ × ℤ)) (index : ℕ) → fixed ≡ fixed_of inst
    → triples ≡ multipliers_in pot
    → inst.kind ≡ Some kinds.Tsp → is_potentials_file pot.kind ≡ true
    → nodes_of pot ≡ nodes_of inst → has_wanted (Some kinds.Tsp) pot ≡ true → AreListed fixed triples
    → IsFirstPlace (IsPairRepeated triples) triples index
    → IsFirstReason (AppliesToPotentials inst pot) (MultiplierRepeated index)
repeats inst pot fixed triples index fixed_are triples_are kind sort size wanted listed first = record {
  applies = (kind, subst (λ ts. IsFirstPlace (IsPairRepeated ts) ts index) triples_are first);
  none_before = none_before inst pot (rank_of (MultiplierRepeated 1)) (λ low. sort) (λ low. size) (λ low. rw kind wanted)
      (λ low. none_unlisted inst pot (subst₂ (λ fs ts. AreListed fs ts) fixed_are triples_are listed))
      (λ low. absurd (omega (arith, low)))
      (λ low. absurd (omega (arith, low)));
}

-- the findings if neither applies
pub multiplied : (inst pot : Fields) (fixed : List (ℕ × ℕ)) (triples : List (ℕ × ℕ × ℤ)) → fixed ≡ fixed_of inst
    → triples ≡ multipliers_in pot → nodes_of pot ≡ nodes_of inst
    → All (λ triple. IsNode (nodes_of pot) triple.0 × IsNode (nodes_of pot) triple.1) triples → AreListed fixed triples
    → AllPairs (λ s t. is_same_pair (pair_of s) (pair_of t) ≡ false) triples
    → AreOnPairs (nodes_of inst) (multipliers_in pot) × AreListed (fixed_of inst) (multipliers_in pot)
multiplied inst pot fixed triples fixed_are triples_are size nodes listed apart =
    let on_pairs : AreOnPairs (nodes_of pot) triples = record { nodes = nodes; differ = apart } in
    (subst₂ (λ n ts. AreOnPairs n ts) size triples_are on_pairs, subst₂ (λ fs ts. AreListed fs ts) fixed_are triples_are listed)

-- no reason applies to a certificate of a TSP whose multipliers are on different fixed pairs
pub none_of_tsp : (inst pot : Fields) → inst.kind ≡ Some kinds.Tsp → is_potentials_file pot.kind ≡ true
    → nodes_of pot ≡ nodes_of inst
    → has_wanted inst.kind pot ≡ true
    → AreOnPairs (nodes_of inst) (multipliers_in pot) → AreListed (fixed_of inst) (multipliers_in pot) → (reason : Reason)
    → AppliesToPotentials inst pot reason → ⊥
none_of_tsp inst pot kind sort size wanted on_pairs listed =
    nothing_applies inst pot sort size wanted (none_unlisted inst pot listed) (none_repeated (nodes_of inst) inst pot on_pairs)
    (λ i j applies. other (sym kind ∙ applies.0))
  where
    other : Some kinds.Tsp ≡ Some kinds.Atsp → ⊥
    other e = cc

-- potentials of another sort than the TYPE of the instance wants
pub kind_first : (inst pot : Fields) → is_potentials_file pot.kind ≡ true → nodes_of pot ≡ nodes_of inst
    → has_wanted inst.kind pot ≡ false
    → IsFirstReason (AppliesToPotentials inst pot) PotentialsKind
kind_first inst pot sort size other = record {
  applies = other;
  none_before = none_before inst pot (rank_of PotentialsKind) (λ low. sort) (λ low. size) (λ low. absurd (omega (arith, low)))
      (λ low. absurd (omega (arith, low)))
      (λ low. absurd (omega (arith, low))) (λ low. absurd (omega (arith, low)));
}

not_undirected : (kind : Option Kind) → kind ≡ Some kinds.Atsp → kind ≡ Some kinds.Tsp → ⊥
not_undirected kind atsp tsp = cc

-- the first pair that breaks the duals of an ATSP is the first reason
pub broken_first : (inst pot : Fields) (i j : ℕ) → inst.kind ≡ Some kinds.Atsp → is_potentials_file pot.kind ≡ true
    → nodes_of pot ≡ nodes_of inst
    → has_wanted (Some kinds.Atsp) pot ≡ true → BreaksDuals inst pot i j
    → IsFirstReason (AppliesToPotentials inst pot) (DualInfeasible i j)
broken_first inst pot i j kind sort size wanted broken = record {
  applies = (kind, broken);
  none_before = none_before inst pot (rank_of (DualInfeasible 1 2)) (λ low. sort) (λ low. size) (λ low. rw kind wanted)
      (λ low index applies. not_undirected inst.kind kind applies.0)
      (λ low index applies. not_undirected inst.kind kind applies.0) (λ low. absurd (omega (arith, low)));
}

-- a file has one list of potentials
one_list : (o : Option (List ℤ)) (xs ys : List ℤ) → o ≡ Some xs → o ≡ Some ys → xs ≡ ys
one_list o xs ys a b = sym (ap (λ p. unwrap_or p []) a) ∙ ap (λ p. unwrap_or p []) b

-- no pair breaks duals that give a bound
none_broken : (inst pot : Fields) (bound : ℤ) (i j : ℕ) → IsBoundByDuals inst pot bound → BreaksDuals inst pot i j → ⊥
none_broken inst pot bound i j good bad =
    let pair = bad.first in
    let fits = subst₂ (λ (rows columns : List ℤ). AreGood (nodes_of inst) (cost inst) (scale_in pot) rows columns)
    (one_list pot.row_potentials good.rows bad.rows good.rows_are bad.rows_are)
    (one_list pot.column_potentials good.columns bad.columns good.columns_are bad.columns_are) good.good in
    omega (arith, ints, pair.broken, fits i j pair.row pair.column pair.other)

-- no reason applies to duals that give a bound
pub none_of_atsp : (inst pot : Fields) (bound : ℤ) → inst.kind ≡ Some kinds.Atsp → is_potentials_file pot.kind ≡ true
    → nodes_of pot ≡ nodes_of inst
    → has_wanted (Some kinds.Atsp) pot ≡ true → IsCertified Potentials inst pot bound → (reason : Reason)
    → AppliesToPotentials inst pot reason → ⊥
none_of_atsp inst pot bound kind sort size wanted certified =
    let by_duals : IsBoundByDuals inst pot bound = subst (λ k. IsBoundBy Potentials k inst pot bound) kind certified.0 in
    nothing_applies inst pot sort size (rw kind wanted) (λ index applies. not_undirected inst.kind kind applies.0)
    (λ index applies. not_undirected inst.kind kind applies.0)
    (λ i j applies. none_broken inst pot bound i j by_duals applies.1)

-- ---- with those against the tour

pub tour_rank : (inst sol : Fields) (reason : Reason) → AppliesToTour inst sol reason
    → rank_of reason < rank_of (LengthClaimed (pos 0))
tour_rank inst sol NotASolution applies = omega arith
tour_rank inst sol TooFewNodes applies = omega arith
tour_rank inst sol (NotSymmetric i j) applies = omega arith
tour_rank inst sol Dimension applies = omega arith
tour_rank inst sol TourCount applies = omega arith
tour_rank inst sol TourLength applies = omega arith
tour_rank inst sol (NodeOutOfRange place) applies = omega arith
tour_rank inst sol (RepeatedNode place) applies = omega arith
tour_rank inst sol (FixedEdgeUnused index) applies = omega arith
tour_rank inst sol reason applies = absurd applies

pub routes_rank : (inst sol : Fields) (reason : Reason) → AppliesToRoutes inst sol reason
    → rank_of reason < rank_of (LengthClaimed (pos 0))
routes_rank inst sol NotASolution applies = omega arith
routes_rank inst sol TooFewNodes applies = omega arith
routes_rank inst sol Dimension applies = omega arith
routes_rank inst sol (NodeOutOfRange place) applies = omega arith
routes_rank inst sol (RepeatedNode place) applies = omega arith
routes_rank inst sol DepotCount applies = omega arith
routes_rank inst sol DepotDemand applies = omega arith
routes_rank inst sol FixedEdgesInRoutes applies = omega arith
routes_rank inst sol (DepotInRoute place) applies = omega arith
routes_rank inst sol (Unserved node) applies = omega arith
routes_rank inst sol (Overload route) applies = omega arith
routes_rank inst sol reason applies = absurd applies

-- ---- those against a certificate are judged last

potentials_rank : (inst cert : Fields) (reason : Reason) → AppliesToPotentials inst cert reason
    → rank_of NotPotentials ≤ rank_of reason
potentials_rank inst cert NotPotentials applies = omega arith
potentials_rank inst cert PotentialsDimension applies = omega arith
potentials_rank inst cert PotentialsKind applies = omega arith
potentials_rank inst cert (MultiplierNotFixed index) applies = omega arith
potentials_rank inst cert (MultiplierRepeated index) applies = omega arith
potentials_rank inst cert (DualInfeasible i j) applies = omega arith
potentials_rank inst cert reason applies = absurd applies

pub branches_rank : (inst cert : Fields) (reason : Reason) → AppliesToBranches inst cert reason
    → rank_of NotBranches ≤ rank_of reason
branches_rank inst cert NotBranches applies = omega arith
branches_rank inst cert BranchesDimension applies = omega arith
branches_rank inst cert (BadFamily index) applies = omega arith
branches_rank inst cert (BadMemory node) applies = omega arith
branches_rank inst cert (BadRow index) applies = omega arith
branches_rank inst cert (BadBranch index) applies = omega arith
branches_rank inst cert (BranchTwice index) applies = omega arith
branches_rank inst cert (BadLeaf index) applies = omega arith
branches_rank inst cert reason applies = absurd applies

pub q_routes_rank : (inst cert : Fields) (reason : Reason) → AppliesToQRoutes inst cert reason
    → rank_of NotBranches ≤ rank_of reason
q_routes_rank inst cert NotBranches applies = omega arith
q_routes_rank inst cert BranchesDimension applies = omega arith
q_routes_rank inst cert (BadFamily index) applies = omega arith
q_routes_rank inst cert (BadMemory node) applies = omega arith
q_routes_rank inst cert (BadRow index) applies = omega arith
q_routes_rank inst cert (BadBranch index) applies = omega arith
q_routes_rank inst cert (BadLeaf index) applies = omega arith
q_routes_rank inst cert TooManyLoads applies = omega arith
q_routes_rank inst cert (TooManyStates index) applies = omega arith
q_routes_rank inst cert reason applies = absurd applies

pub certificate_rank : (by : CertificateKind) (inst cert : Fields) (reason : Reason) → AppliesToCertificate by inst cert reason
    → rank_of NotPotentials ≤ rank_of reason
certificate_rank Potentials inst cert reason applies = potentials_rank inst cert reason applies
certificate_rank Branches inst cert reason applies =
    let from : rank_of NotBranches ≤ rank_of reason =
    tree_either inst.kind (λ Applies. (reason : Reason) → Applies reason → rank_of NotBranches ≤ rank_of reason) inst cert
    (branches_rank inst cert) (q_routes_rank inst cert) reason applies in
    omega (arith, from)

-- ---- reasons against a solution, of one TYPE, and then against a certificate

-- a reason against the solution or the certificate
abbrev pub Both : (Reason → Type 0) → CertificateKind → Fields → Fields → Reason → Type 0
Both Own by inst cert reason = Own reason ⊎ AppliesToCertificate by inst cert reason

-- those against the solution are judged before a length that is claimed
abbrev pub AreOwn : (Reason → Type 0) → Type 0
AreOwn Own = (reason : Reason) → Own reason → rank_of reason < rank_of (LengthClaimed (pos 0))

-- the first of them is the first of all
pub own_first : (Own : Reason → Type 0) (by : CertificateKind) (inst cert : Fields) (reason : Reason) → AreOwn Own
    → IsFirstReason Own reason → IsFirstReason (Both Own by inst cert) reason
own_first Own by inst cert reason own first = record {
  applies = inl first.applies;
  none_before = λ other low applies. by_side other low applies;
}
  where
    by_side : (other : Reason) → rank_of other < rank_of reason → Both Own by inst cert other → ⊥
    by_side other low (inl applies) = first.none_before other low applies
    by_side other low (inr applies) =
        omega (arith, low, own reason first.applies, certificate_rank by inst cert other applies)

-- if none applies to the solution, the first against the certificate is the first of all
pub certificate_first : (Own : Reason → Type 0) (by : CertificateKind) (inst cert : Fields) (reason : Reason)
    → ((other : Reason) → Own other → ⊥)
    → IsFirstReason (AppliesToCertificate by inst cert) reason → IsFirstReason (Both Own by inst cert) reason
certificate_first Own by inst cert reason none first = record {
  applies = inr first.applies;
  none_before = λ other low applies. by_side other low applies;
}
  where
    by_side : (other : Reason) → rank_of other < rank_of reason → Both Own by inst cert other → ⊥
    by_side other low (inl applies) = none other applies
    by_side other low (inr applies) = first.none_before other low applies

pub none_at_all : (Own : Reason → Type 0) (by : CertificateKind) (inst cert : Fields) → ((other : Reason) → Own other → ⊥)
    → ((other : Reason) → AppliesToCertificate by inst cert other → ⊥) → (reason : Reason) → Both Own by inst cert reason → ⊥
none_at_all Own by inst cert own certificate reason (inl applies) = own reason applies
none_at_all Own by inst cert own certificate reason (inr applies) = certificate reason applies
