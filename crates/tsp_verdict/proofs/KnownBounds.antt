-- For src/solution_verdict.rt: the verdict on a solution by what was found of all solutions of its instance, with a
-- certificate or without. Proofs in tsp_judge use it, too.
use Rattle.tsp_verdict.proofs.Prelude.{◌≡◌, Some, inl, inr, Option, None, ℕ, refl, sym, subst, ◌∙◌, ◌<◌, ◌≤◌, true, false, ap, arith, false≢true, ◌⊎◌, ℤ, IsTrue, MatchOption, option_map, Kind, Fields, is_tour_file, BoundsTours, HasNoTour, IsLeastRoutes, problem_of, routing_of, capacity_of, rank_of, CertificateKind, Reason, TooFewNodes, NotSymmetric, DepotCount, DepotDemand, FixedEdgesInRoutes, LengthClaimed, NotASolution, Dimension, NotPotentials, Verdict, Ok, Err, BoundVerdict}
use Rattle.tsp_format.specs.declared.kinds.Kind.TheVariants as kinds
use Rattle.tsp_routing.specs.PlanLinks.{HasNoPlan}
use Rattle.tsp_report.specs.Verdicts.{is_yes}
use Rattle.tsp_report.specs.declared.verdict.Verdict.TheVariants as verdicts
use Rattle.tsp_verdict.proofs.FirstReasons.{HasTours, of_tours, of_routing, tour_rank, routes_rank, own_first, certificate_first, none_at_all, certified_tour, certified_routes, certificate_rank, for_tours}
use Rattle.tsp_verdict.specs.Certified.{AppliesToTouring, AppliesToRouting, AppliesToInstance, NoneAgainstInstance, AppliesToBounded, IsBoundVerdict, AppliesToCertificate, FindsBound, BoundsSolutionsBy, BoundsSolutions, IsCertifiedVerdict, IsCertifiedVerdictBy, NoneAgainstTouring, is_bounded, HasNoSolutionBy}
use Rattle.tsp_verdict.specs.SolutionVerdict.{IsVerdictBy, IsVerdictOn, IsAsClaimed, IsOtherClaimed, HasLength, HasNoLength, IsVerdictWith, IsFoundWith, IsLeastKnownBy, IsAsFound}
use Rattle.tsp_verdict.specs.SolutionReasons.{IsFirstReason, AppliesToRoutes, AppliesToTour, IsRoutesVerdict, IsTourVerdict, total_of, tours_of, NoneOfTourBefore, NoneOfTourBeforeRepeats, NoneOfRoutesBeforeRepeats}
use Rattle.tsp_verdict.specs.states.TourKnownBounds.{with_found, against_instance, KnowsInstance}

-- a reason against the instance is one against each tour too, or against all routes
pub against_tour : (inst sol : Fields) (reason : Reason) → AppliesToTouring inst reason → AppliesToTour inst sol reason
against_tour inst sol TooFewNodes applies = applies
against_tour inst sol (NotSymmetric i j) applies = applies
against_tour inst sol reason applies = absurd applies

pub against_routes : (inst sol : Fields) (reason : Reason) → AppliesToRouting inst reason → AppliesToRoutes inst sol reason
against_routes inst sol TooFewNodes applies = applies
against_routes inst sol DepotCount applies = applies
against_routes inst sol DepotDemand applies = applies
against_routes inst sol FixedEdgesInRoutes applies = applies
against_routes inst sol reason applies = absurd applies

-- so none applies to the instance if none does to the solution
pub none_of_tour : (inst sol : Fields) → HasTours inst → ((reason : Reason) → AppliesToTour inst sol reason → ⊥)
    → NoneAgainstInstance inst
none_of_tour inst sol kind none reason applies = none reason (against_tour inst sol reason (of_tours inst reason kind applies))

pub none_of_routes : (inst sol : Fields) → inst.kind ≡ Some kinds.Cvrp
    → ((reason : Reason) → AppliesToRoutes inst sol reason → ⊥) → NoneAgainstInstance inst
none_of_routes inst sol cvrp none reason applies =
    none reason (against_routes inst sol reason (of_routing inst reason cvrp applies))

first_of_certificate : (by : CertificateKind) (inst cert : Fields) (reason : Reason) → NoneAgainstInstance inst
    → IsFirstReason (AppliesToBounded by inst cert) reason → IsFirstReason (AppliesToCertificate by inst cert) reason
first_of_certificate by inst cert reason none first = record {
  applies = by_side first.applies;
  none_before = λ other low applies. first.none_before other low (inr applies);
}
  where
    by_side : AppliesToInstance inst reason ⊎ AppliesToCertificate by inst cert reason
        → AppliesToCertificate by inst cert reason
    by_side (inl applies) = absurd (none reason applies)
    by_side (inr applies) = applies

-- if no reason applies to the instance, what was found is what the certificate gives
pub found_by_certificate : (by : CertificateKind) (inst cert : Fields) (found : BoundVerdict) → NoneAgainstInstance inst
    → IsBoundVerdict by inst cert found → FindsBound by inst cert found
found_by_certificate by inst cert (Ok (Some bound)) none is = (λ reason applies. is.0 reason (inr applies), is.1)
found_by_certificate by inst cert (Ok None) none is = (λ reason applies. is.0 reason (inr applies), is.1, is.2)
found_by_certificate by inst cert (Err reason) none is = first_of_certificate by inst cert reason none is

-- ---- what was found says whether a reason applies to an instance of tours

instance_rank : (inst : Fields) (reason : Reason) → AppliesToTouring inst reason → rank_of reason < rank_of Dimension
instance_rank inst TooFewNodes applies = omega arith
instance_rank inst (NotSymmetric i j) applies = omega arith
instance_rank inst reason applies = absurd applies

-- the first of all is the first against the instance, if it comes before those against the certificate
of_instance : (by : CertificateKind) (inst cert : Fields) (reason : Reason) → HasTours inst → rank_of reason < rank_of NotPotentials
    → IsFirstReason (AppliesToBounded by inst cert) reason
    → IsFirstReason (AppliesToTouring inst) reason
of_instance by inst cert reason kind early first = record {
  applies = by_side first.applies;
  none_before = λ other low applies. first.none_before other low (inl (for_tours inst other kind applies));
}
  where
    by_side : AppliesToInstance inst reason ⊎ AppliesToCertificate by inst cert reason → AppliesToTouring inst reason
    by_side (inl applies) = of_tours inst reason kind applies
    by_side (inr applies) = absurd (omega (arith, early, certificate_rank by inst cert reason applies))

-- none applies to the instance, if the first of all comes after those
after_instance : (by : CertificateKind) (inst cert : Fields) (reason : Reason) → HasTours inst → rank_of Dimension ≤ rank_of reason
    → IsFirstReason (AppliesToBounded by inst cert) reason → NoneAgainstTouring inst
after_instance by inst cert reason kind late first =
    λ other applies. first.none_before other (omega (arith, late, instance_rank inst other applies))
    (inl (for_tours inst other kind applies))

-- whether the file is a solution is judged of that alone
no_solution : (by : CertificateKind) (inst cert : Fields) → HasTours inst
    → AppliesToInstance inst NotASolution ⊎ AppliesToCertificate by inst cert NotASolution → ⊥
no_solution by inst cert kind (inl applies) = of_tours inst NotASolution kind applies
no_solution by inst cert kind (inr applies) = omega (arith, certificate_rank by inst cert NotASolution applies)

reason_alone : (inst : Fields) (reason : Reason) → IsFirstReason (AppliesToTouring inst) reason
    → KnowsInstance inst (Some (Err reason))
reason_alone inst TooFewNodes first = first
reason_alone inst (NotSymmetric i j) first = first
reason_alone inst reason first = absurd first.applies

reason_by : (by : CertificateKind) (inst cert : Fields) (reason : Reason) → HasTours inst
    → IsFirstReason (AppliesToBounded by inst cert) reason
    → KnowsInstance inst (Some (Err reason))
reason_by by inst cert TooFewNodes kind first = of_instance by inst cert TooFewNodes kind (omega arith) first
reason_by by inst cert (NotSymmetric i j) kind first = of_instance by inst cert (NotSymmetric i j) kind (omega arith) first
reason_by by inst cert NotASolution kind first = absurd (no_solution by inst cert kind first.applies)
reason_by by inst cert reason kind first = after_instance by inst cert reason kind (omega arith) first

first_of_tours : (inst : Fields) (reason : Reason) → HasTours inst → IsFirstReason (AppliesToInstance inst) reason
    → IsFirstReason (AppliesToTouring inst) reason
first_of_tours inst reason kind first = record {
  applies = of_tours inst reason kind first.applies;
  none_before = λ other low applies. first.none_before other low (for_tours inst other kind applies);
}

-- what was found of tours has the reason against the instance, if one applies
pub knows_instance : (given : Option (CertificateKind × Fields)) (inst : Fields) (found : Option BoundVerdict) → HasTours inst
    → IsFoundWith given inst found → KnowsInstance inst found
knows_instance None inst None kind b = λ reason applies. b reason (for_tours inst reason kind applies)
knows_instance None inst (Some (Ok bound)) kind b = absurd b
knows_instance None inst (Some (Err reason)) kind b = reason_alone inst reason (first_of_tours inst reason kind b)
knows_instance (Some given) inst None kind b = absurd b
knows_instance (Some given) inst (Some (Ok (Some bound))) kind b = λ reason applies. b.0 reason (inl (for_tours inst reason kind applies))
knows_instance (Some given) inst (Some (Ok None)) kind b = λ reason applies. b.0 reason (inl (for_tours inst reason kind applies))
knows_instance (Some given) inst (Some (Err reason)) kind b = reason_by given.0 inst given.1 reason kind b

-- if it has none, none applies to the instance
pub none_known : (inst : Fields) (found : Option BoundVerdict) (reason : Option Reason) → reason ≡ against_instance found → reason ≡ None
    → KnowsInstance inst found → NoneAgainstTouring inst
none_known inst found reason is none knows =
    subst (λ (it : Option Reason). MatchOption it (NoneAgainstTouring inst)
    (λ reason. IsFirstReason (AppliesToTouring inst) reason)) (sym is ∙ none) knows

-- the one that it has is the first
pub first_known : (inst : Fields) (found : Option BoundVerdict) (reason : Option Reason) (first : Reason)
    → reason ≡ against_instance found → reason ≡ Some first → KnowsInstance inst found
    → IsFirstReason (AppliesToTouring inst) first
first_known inst found reason first is some knows =
    subst (λ (it : Option Reason). MatchOption it (NoneAgainstTouring inst) (λ r. IsFirstReason (AppliesToTouring inst) r))
    (sym is ∙ some) knows

-- of a file of tours, it is the first reason against the solution
pub first_of_file : (inst sol : Fields) (reason : Reason) → is_tour_file sol.kind ≡ true
    → IsFirstReason (AppliesToTouring inst) reason → IsFirstReason (AppliesToTour inst sol) reason
first_of_file inst sol TooFewNodes is first = record {
  applies = first.applies;
  none_before = λ other low applies. before other low applies;
}
  where
    before : (other : Reason) → rank_of other < rank_of TooFewNodes → AppliesToTour inst sol other → ⊥
    before NotASolution low applies = false≢true (sym applies ∙ is)
    before other low applies = absurd (omega (arith, low))
first_of_file inst sol (NotSymmetric i j) is first = record {
  applies = first.applies;
  none_before = λ other low applies. before other low applies;
}
  where
    before : (other : Reason) → rank_of other < rank_of (NotSymmetric i j) → AppliesToTour inst sol other → ⊥
    before NotASolution low applies = false≢true (sym applies ∙ is)
    before TooFewNodes low applies = first.none_before TooFewNodes low applies
    before other low applies = absurd (omega (arith, low))
first_of_file inst sol reason is first = absurd first.applies

-- ---- the reasons before those against the tours

-- if no reason applies to the instance, none up to the dimension applies to the solution
pub up_to_dimension : (inst sol : Fields) → is_tour_file sol.kind ≡ true → NoneAgainstTouring inst
    → NoneOfTourBefore inst sol Dimension
up_to_dimension inst sol is none NotASolution low applies = false≢true (sym applies ∙ is)
up_to_dimension inst sol is none TooFewNodes low applies = none TooFewNodes applies
up_to_dimension inst sol is none (NotSymmetric i j) low applies = none (NotSymmetric i j) applies
up_to_dimension inst sol is none reason low applies = absurd (omega (arith, low))

-- ---- a length that is claimed

pub refused_alone : (claimed : Option ℤ) (inst sol : Fields) (verdict : Verdict) → HasNoLength verdict
    → IsVerdictOn inst sol verdict → IsVerdictWith None claimed inst sol verdict
refused_alone None inst sol verdict none v = v
refused_alone (Some claim) inst sol (verdicts.Tour length_is bound) none v = absurd none
refused_alone (Some claim) inst sol (verdicts.Routes length_is routes least bound) none v = absurd none
refused_alone (Some claim) inst sol (verdicts.No reason) none v = inl v

pub other_alone : (claimed : Option ℤ) (inst sol : Fields) (verdict : Verdict) (found : ℤ) → HasLength verdict found
    → IsOtherClaimed claimed found → IsVerdictOn inst sol verdict
    → IsVerdictWith None claimed inst sol (verdicts.No (LengthClaimed found))
other_alone None inst sol verdict found has other v = absurd other
other_alone (Some claim) inst sol verdict found has other v = inr (inl (found, (verdict, v, has), other, refl))

pub accepted_alone : (claimed : Option ℤ) (inst sol : Fields) (verdict : Verdict) (found : ℤ) → HasLength verdict found
    → IsAsClaimed claimed found → IsVerdictOn inst sol verdict
    → IsVerdictWith None claimed inst sol verdict
accepted_alone None inst sol verdict found has claims v = v
accepted_alone (Some claim) inst sol (verdicts.Tour length_is bound) found has claims v = (v, claims ∙ has)
accepted_alone (Some claim) inst sol (verdicts.Routes length_is routes least bound) found has claims v = (v, claims ∙ has)
accepted_alone (Some claim) inst sol (verdicts.No reason) found has claims v = absurd has

-- a verdict on a tour is the verdict on the solution
pub on_a_tour : (inst sol : Fields) (verdict : Verdict) → HasTours inst → IsTourVerdict inst sol verdict → IsVerdictOn inst sol verdict
on_a_tour inst sol verdict (inl tsp) v = subst (λ kind. IsVerdictBy kind inst sol verdict) (sym tsp) v
on_a_tour inst sol verdict (inr atsp) v = subst (λ kind. IsVerdictBy kind inst sol verdict) (sym atsp) v

-- a verdict on routes is the verdict on the solution
pub on_routes : (inst sol : Fields) (verdict : Verdict) → inst.kind ≡ Some kinds.Cvrp → IsRoutesVerdict inst sol verdict
    → IsVerdictOn inst sol verdict
on_routes inst sol verdict cvrp v = subst (λ kind. IsVerdictBy kind inst sol verdict) (sym cvrp) v

-- ---- with a certificate: a rejected solution keeps its reason

certified_refusal : (kind : Option Kind) (by : CertificateKind) (inst sol cert : Fields) (reason : Reason)
    → IsVerdictBy kind inst sol (verdicts.No reason) → IsCertifiedVerdictBy kind by inst sol cert (verdicts.No reason)
certified_refusal (Some kinds.Tsp) by inst sol cert reason first =
    own_first (AppliesToTour inst sol) by inst cert reason (tour_rank inst sol) first
certified_refusal (Some kinds.Atsp) by inst sol cert reason first =
    own_first (AppliesToTour inst sol) by inst cert reason (tour_rank inst sol) first
certified_refusal (Some kinds.Cvrp) by inst sol cert reason first =
    own_first (AppliesToRoutes inst sol) by inst cert reason (routes_rank inst sol) first
certified_refusal (Some kinds.Tour) by inst sol cert reason first = absurd first
certified_refusal (Some kinds.Potentials) by inst sol cert reason first = absurd first
certified_refusal (Some kinds.Branches) by inst sol cert reason first = absurd first
certified_refusal None by inst sol cert reason first = absurd first

still_refused : (by : CertificateKind) (inst sol cert : Fields) (claimed : Option ℤ) (reason : Reason)
    → IsVerdictWith None claimed inst sol (verdicts.No reason) → IsVerdictWith (Some (by, cert)) claimed inst sol (verdicts.No reason)
still_refused by inst sol cert None reason v = certified_refusal inst.kind by inst sol cert reason v
still_refused by inst sol cert (Some claim) reason (inl own) = inl own
still_refused by inst sol cert (Some claim) reason (inr (inl other)) = inr (inl other)
still_refused by inst sol cert (Some claim) reason (inr (inr none)) = absurd none.1

-- ---- a tour

pub certificate_refused : (by : CertificateKind) (inst sol cert : Fields) (claimed : Option ℤ) (found : ℤ) (reason : Reason)
    → HasTours inst
    → IsTourVerdict inst sol (verdicts.Tour found None) → IsAsClaimed claimed found → FindsBound by inst cert (Err reason)
    → IsVerdictWith (Some (by, cert)) claimed inst sol (verdicts.No reason)
certificate_refused by inst sol cert None found reason kind v claims first = certified_tour by inst sol cert (verdicts.No reason)
    kind (certificate_first (AppliesToTour inst sol) by inst cert reason v.0 first)
certificate_refused by inst sol cert (Some claim) found reason kind v claims first =
    inr (inr ((verdicts.Tour found None, on_a_tour inst sol (verdicts.Tour found None) kind v, claims), first))

below_tours : (inst : Fields) (bound : ℤ) → HasTours inst → BoundsSolutions inst bound → BoundsTours (problem_of inst) bound
below_tours inst bound (inl tsp) below = subst (λ kind. BoundsSolutionsBy kind inst bound) tsp below
below_tours inst bound (inr atsp) below = subst (λ kind. BoundsSolutionsBy kind inst bound) atsp below

certified : (by : CertificateKind) (inst sol cert : Fields) (found bound : ℤ) → HasTours inst
    → IsTourVerdict inst sol (verdicts.Tour found None)
    → FindsBound by inst cert (Ok (Some bound))
    → IsCertifiedVerdict by inst sol cert (verdicts.Tour found (Some bound))
certified by inst sol cert found bound kind v b = certified_tour by inst sol cert (verdicts.Tour found (Some bound)) kind (
  none_at_all (AppliesToTour inst sol) by inst cert v.0 b.0,
  record {
    tour = v.1.0;
    only = v.1.1;
    tour_of = v.1.2;
    measured = v.1.3;
    least = bound;
    bound_is = refl;
    of_certificate = b.1.0;
    below_tours = below_tours inst bound kind b.1.1;
    sized = b.1.2;
  },
)

pub tour_bounded : (by : CertificateKind) (inst sol cert : Fields) (claimed : Option ℤ) (found bound : ℤ) → HasTours inst
    → IsTourVerdict inst sol (verdicts.Tour found None) → IsAsClaimed claimed found
    → FindsBound by inst cert (Ok (Some bound))
    → IsVerdictWith (Some (by, cert)) claimed inst sol (verdicts.Tour found (Some bound))
tour_bounded by inst sol cert None found bound kind v claims b = certified by inst sol cert found bound kind v b
tour_bounded by inst sol cert (Some claim) found bound kind v claims b = (certified by inst sol cert found bound kind v b, claims)

without_tour : (inst : Fields) → HasTours inst → HasNoSolutionBy inst.kind inst → HasNoTour (problem_of inst)
without_tour inst (inl tsp) none = subst (λ kind. HasNoSolutionBy kind inst) tsp none
without_tour inst (inr atsp) none = subst (λ kind. HasNoSolutionBy kind inst) atsp none

tour_with : (by : CertificateKind) (inst sol cert : Fields) (claimed : Option ℤ) (length : ℤ) (found : BoundVerdict) → HasTours inst
    → IsTourVerdict inst sol (verdicts.Tour length None) → IsAsClaimed claimed length → FindsBound by inst cert found
    → IsVerdictWith (Some (by, cert)) claimed inst sol (with_found (verdicts.Tour length None) (Some found))
tour_with by inst sol cert claimed length (Ok (Some bound)) kind v claims b =
    tour_bounded by inst sol cert claimed length bound kind v claims b
tour_with by inst sol cert claimed length (Ok None) kind v claims b = absurd (without_tour inst kind b.2 v.1.0 v.1.2)
tour_with by inst sol cert claimed length (Err reason) kind v claims b =
    certificate_refused by inst sol cert claimed length reason kind v claims b

-- ---- routes

pub routes_uncertified : (by : CertificateKind) (inst sol cert : Fields) (claimed : Option ℤ) (found : ℤ) (count fewest : ℕ)
    (reason : Reason) → inst.kind ≡ Some kinds.Cvrp
    → IsRoutesVerdict inst sol (verdicts.Routes found count fewest None) → IsAsClaimed claimed found
    → FindsBound by inst cert (Err reason)
    → IsVerdictWith (Some (by, cert)) claimed inst sol (verdicts.No reason)
routes_uncertified by inst sol cert None found count fewest reason cvrp v claims first =
    certified_routes by inst sol cert (verdicts.No reason) cvrp
    (certificate_first (AppliesToRoutes inst sol) by inst cert reason v.0 first)
routes_uncertified by inst sol cert (Some claim) found count fewest reason cvrp v claims first =
    let own = on_routes inst sol (verdicts.Routes found count fewest None) cvrp v in
    inr (inr ((verdicts.Routes found count fewest None, own, claims), first))

certified_plan : (by : CertificateKind) (inst sol cert : Fields) (found : ℤ) (count fewest : ℕ) (bound : ℤ)
    → inst.kind ≡ Some kinds.Cvrp
    → IsRoutesVerdict inst sol (verdicts.Routes found count fewest None)
    → FindsBound by inst cert (Ok (Some bound))
    → IsCertifiedVerdict by inst sol cert (verdicts.Routes found count fewest (Some bound))
certified_plan by inst sol cert found count fewest bound cvrp v b =
    certified_routes by inst sol cert (verdicts.Routes found count fewest (Some bound)) cvrp (
      none_at_all (AppliesToRoutes inst sol) by inst cert v.0 b.0,
      record {
        planned = v.1;
        least = bound;
        bound_is = refl;
        of_certificate = b.1.0;
        below_plans = subst (λ kind. BoundsSolutionsBy kind inst bound) cvrp b.1.1;
        sized = b.1.2;
      },
    )

pub routes_bounded : (by : CertificateKind) (inst sol cert : Fields) (claimed : Option ℤ) (found : ℤ) (count fewest : ℕ) (bound : ℤ)
    → inst.kind ≡ Some kinds.Cvrp
    → IsRoutesVerdict inst sol (verdicts.Routes found count fewest None) → IsAsClaimed claimed found
    → FindsBound by inst cert (Ok (Some bound))
    → IsVerdictWith (Some (by, cert)) claimed inst sol (verdicts.Routes found count fewest (Some bound))
routes_bounded by inst sol cert None found count fewest bound cvrp v claims b =
    certified_plan by inst sol cert found count fewest bound cvrp v b
routes_bounded by inst sol cert (Some claim) found count fewest bound cvrp v claims b =
    (certified_plan by inst sol cert found count fewest bound cvrp v b, claims)

plan_with : (by : CertificateKind) (inst sol cert : Fields) (claimed : Option ℤ) (length : ℤ) (count fewest : ℕ) (found : BoundVerdict)
    → inst.kind ≡ Some kinds.Cvrp → IsRoutesVerdict inst sol (verdicts.Routes length count fewest None) → IsAsClaimed claimed length
    → FindsBound by inst cert found
    → IsVerdictWith (Some (by, cert)) claimed inst sol (with_found (verdicts.Routes length count fewest None) (Some found))
plan_with by inst sol cert claimed length count fewest (Ok (Some bound)) cvrp v claims b =
    routes_bounded by inst sol cert claimed length count fewest bound cvrp v claims b
plan_with by inst sol cert claimed length count fewest (Ok None) cvrp v claims b =
    let none : HasNoPlan (routing_of inst) = subst (λ kind. HasNoSolutionBy kind inst) cvrp b.2 in
    absurd (none (tours_of sol) (record { plan = v.1.plan_of; each = v.1.filled }))
plan_with by inst sol cert claimed length count fewest (Err reason) cvrp v claims b =
    routes_uncertified by inst sol cert claimed length count fewest reason cvrp v claims b

-- ---- either

-- an accepted tour is one of an instance of tours, without a bound
pub record IsOwnTour (inst sol : Fields) (claimed : Option ℤ) (length : ℤ) (bound : Option ℤ) : Type 0 where
  pub kind : HasTours inst
  pub own : IsTourVerdict inst sol (verdicts.Tour length None)
  pub alone : bound ≡ None
  pub claims : IsAsClaimed claimed length

own_tour_by : (kind : Option Kind) (inst sol : Fields) (length : ℤ) (bound : Option ℤ) → inst.kind ≡ kind
    → IsVerdictBy kind inst sol (verdicts.Tour length bound) → HasTours inst × IsTourVerdict inst sol (verdicts.Tour length bound)
own_tour_by (Some kinds.Tsp) inst sol length bound is v = (inl is, v)
own_tour_by (Some kinds.Atsp) inst sol length bound is v = (inr is, v)
own_tour_by (Some kinds.Cvrp) inst sol length bound is v = absurd v
own_tour_by (Some kinds.Tour) inst sol length bound is v = absurd v
own_tour_by (Some kinds.Potentials) inst sol length bound is v = absurd v
own_tour_by (Some kinds.Branches) inst sol length bound is v = absurd v
own_tour_by None inst sol length bound is v = absurd v

own_tour : (claimed : Option ℤ) (inst sol : Fields) (length : ℤ) (bound : Option ℤ)
    → IsVerdictWith None claimed inst sol (verdicts.Tour length bound) → IsOwnTour inst sol claimed length bound
own_tour None inst sol length bound v =
    let by = own_tour_by inst.kind inst sol length bound refl v in
    record { kind = by.0; own = (by.1.0, by.1.1, refl); alone = by.1.2; claims = tt }
own_tour (Some claim) inst sol length bound v =
    let by = own_tour_by inst.kind inst sol length bound refl v.0 in
    record { kind = by.0; own = (by.1.0, by.1.1, refl); alone = by.1.2; claims = v.1 }

-- accepted routes are a plan of an instance of routes, without a bound
pub record AreOwnRoutes (inst sol : Fields) (claimed : Option ℤ) (length : ℤ) (count fewest : ℕ) (bound : Option ℤ) : Type 0 where
  pub kind : inst.kind ≡ Some kinds.Cvrp
  pub own : IsRoutesVerdict inst sol (verdicts.Routes length count fewest None)
  pub alone : bound ≡ None
  pub claims : IsAsClaimed claimed length

own_routes_by : (kind : Option Kind) (inst sol : Fields) (length : ℤ) (count fewest : ℕ) (bound : Option ℤ) → inst.kind ≡ kind
    → IsVerdictBy kind inst sol (verdicts.Routes length count fewest bound)
    → (inst.kind ≡ Some kinds.Cvrp) × IsRoutesVerdict inst sol (verdicts.Routes length count fewest bound)
own_routes_by (Some kinds.Tsp) inst sol length count fewest bound is v = absurd v
own_routes_by (Some kinds.Atsp) inst sol length count fewest bound is v = absurd v
own_routes_by (Some kinds.Cvrp) inst sol length count fewest bound is v = (is, v)
own_routes_by (Some kinds.Tour) inst sol length count fewest bound is v = absurd v
own_routes_by (Some kinds.Potentials) inst sol length count fewest bound is v = absurd v
own_routes_by (Some kinds.Branches) inst sol length count fewest bound is v = absurd v
own_routes_by None inst sol length count fewest bound is v = absurd v

own_routes : (claimed : Option ℤ) (inst sol : Fields) (length : ℤ) (count fewest : ℕ) (bound : Option ℤ)
    → IsVerdictWith None claimed inst sol (verdicts.Routes length count fewest bound)
    → AreOwnRoutes inst sol claimed length count fewest bound
own_routes None inst sol length count fewest bound v =
    let by = own_routes_by inst.kind inst sol length count fewest bound refl v in
    record { kind = by.0; own = (by.1.0, by.1.1, refl); alone = by.1.2; claims = tt }
own_routes (Some claim) inst sol length count fewest bound v =
    let by = own_routes_by inst.kind inst sol length count fewest bound refl v.0 in
    record { kind = by.0; own = (by.1.0, by.1.1, refl); alone = by.1.2; claims = v.1 }

-- a tour, by what the certificate gives; a tour by itself if nothing was found
tour_found : (given : Option (CertificateKind × Fields)) (claimed : Option ℤ) (inst sol : Fields) (length : ℤ) (found : Option BoundVerdict)
    → IsOwnTour inst sol claimed length None → IsFoundWith given inst found
    → IsVerdictWith given claimed inst sol (with_found (verdicts.Tour length None) found)
tour_found None claimed inst sol length None own b =
    accepted_alone claimed inst sol (verdicts.Tour length None) length refl own.claims (on_a_tour inst sol (verdicts.Tour length None) own.kind own.own)
tour_found None claimed inst sol length (Some (Ok bound)) own b = absurd b
tour_found None claimed inst sol length (Some (Err reason)) own b = absurd (none_of_tour inst sol own.kind own.own.0 reason b.applies)
tour_found (Some given) claimed inst sol length None own b = absurd b
tour_found (Some given) claimed inst sol length (Some found) own b =
    tour_with given.0 inst sol given.1 claimed length found own.kind own.own own.claims
    (found_by_certificate given.0 inst given.1 found (none_of_tour inst sol own.kind own.own.0) b)

plan_found : (given : Option (CertificateKind × Fields)) (claimed : Option ℤ) (inst sol : Fields) (length : ℤ) (count fewest : ℕ)
    (found : Option BoundVerdict) → AreOwnRoutes inst sol claimed length count fewest None → IsFoundWith given inst found
    → IsVerdictWith given claimed inst sol (with_found (verdicts.Routes length count fewest None) found)
plan_found None claimed inst sol length count fewest None own b =
    accepted_alone claimed inst sol (verdicts.Routes length count fewest None) length refl own.claims
    (on_routes inst sol (verdicts.Routes length count fewest None) own.kind own.own)
plan_found None claimed inst sol length count fewest (Some (Ok bound)) own b = absurd b
plan_found None claimed inst sol length count fewest (Some (Err reason)) own b =
    absurd (none_of_routes inst sol own.kind own.own.0 reason b.applies)
plan_found (Some given) claimed inst sol length count fewest None own b = absurd b
plan_found (Some given) claimed inst sol length count fewest (Some found) own b =
    plan_with given.0 inst sol given.1 claimed length count fewest found own.kind own.own own.claims
    (found_by_certificate given.0 inst given.1 found (none_of_routes inst sol own.kind own.own.0) b)

refused_found : (given : Option (CertificateKind × Fields)) (claimed : Option ℤ) (inst sol : Fields) (reason : Reason)
    → IsVerdictWith None claimed inst sol (verdicts.No reason) → IsVerdictWith given claimed inst sol (verdicts.No reason)
refused_found None claimed inst sol reason v = v
refused_found (Some given) claimed inst sol reason v = still_refused given.0 inst sol given.1 claimed reason v

-- the verdict on a solution, by the verdict without a certificate and by what was found of all solutions
pub judged_with : (given : Option (CertificateKind × Fields)) (claimed : Option ℤ) (inst sol : Fields) (verdict : Verdict)
    (found : Option BoundVerdict) → IsVerdictWith None claimed inst sol verdict → IsFoundWith given inst found
    → IsVerdictWith given claimed inst sol (with_found verdict found)
judged_with given claimed inst sol (verdicts.Tour length bound) found v b =
    let own = own_tour claimed inst sol length bound v in
    subst (λ (it : Option ℤ). IsVerdictWith given claimed inst sol (with_found (verdicts.Tour length it) found)) (sym own.alone)
    (tour_found given claimed inst sol length found (record { kind = own.kind; own = own.own; alone = refl; claims = own.claims }) b)
judged_with given claimed inst sol (verdicts.Routes length count fewest bound) found v b =
    let own = own_routes claimed inst sol length count fewest bound v in
    subst (λ (it : Option ℤ). IsVerdictWith given claimed inst sol (with_found (verdicts.Routes length count fewest it) found)) (sym own.alone)
    (plan_found given claimed inst sol length count fewest found
    (record { kind = own.kind; own = own.own; alone = refl; claims = own.claims }) b)
judged_with given claimed inst sol (verdicts.No reason) found v b = refused_found given claimed inst sol reason v

-- a rejected solution needs no certificate
pub refused_with : (given : Option (CertificateKind × Fields)) (claimed : Option ℤ) (inst sol : Fields) (verdict : Verdict)
    → is_yes verdict ≡ false → IsVerdictWith None claimed inst sol verdict → IsVerdictWith given claimed inst sol verdict
refused_with given claimed inst sol (verdicts.Tour length bound) refused v = absurd (false≢true (sym refused))
refused_with given claimed inst sol (verdicts.Routes length count fewest bound) refused v = absurd (false≢true (sym refused))
refused_with given claimed inst sol (verdicts.No reason) refused v = refused_found given claimed inst sol reason v

-- nor does one without a length, whatever is claimed
pub kept_refusal : (given : Option (CertificateKind × Fields)) (claimed : Option ℤ) (inst sol : Fields) (verdict : Verdict)
    → HasNoLength verdict → IsVerdictOn inst sol verdict → IsVerdictWith given claimed inst sol verdict
kept_refusal given claimed inst sol (verdicts.Tour length bound) none v = absurd none
kept_refusal given claimed inst sol (verdicts.Routes length count fewest bound) none v = absurd none
kept_refusal given claimed inst sol (verdicts.No reason) none v =
    refused_found given claimed inst sol reason (refused_alone claimed inst sol (verdicts.No reason) tt v)

either_kind : (kind : Option Kind) → (kind ≡ Some kinds.Tsp) ⊎ (kind ≡ Some kinds.Atsp) → kind ≡ Some kinds.Cvrp → ⊥
either_kind kind (inl tsp) cvrp = cc
either_kind kind (inr atsp) cvrp = cc

-- no reason applies to a tour that is accepted, nor to accepted routes
pub none_before_yes : (claimed : Option ℤ) (inst sol : Fields) (verdict : Verdict) → HasTours inst → is_yes verdict ≡ true
    → IsVerdictWith None claimed inst sol verdict → NoneOfTourBeforeRepeats inst sol
none_before_yes claimed inst sol (verdicts.Tour length bound) kind is v =
    λ place reason low applies. (own_tour claimed inst sol length bound v).own.0 reason applies
none_before_yes claimed inst sol (verdicts.Routes length count fewest bound) kind is v =
    absurd (either_kind inst.kind kind (own_routes claimed inst sol length count fewest bound v).kind)
none_before_yes claimed inst sol (verdicts.No reason) kind is v = absurd (false≢true is)

pub none_before_routes : (claimed : Option ℤ) (inst sol : Fields) (verdict : Verdict) → inst.kind ≡ Some kinds.Cvrp → is_yes verdict ≡ true
    → IsVerdictWith None claimed inst sol verdict → NoneOfRoutesBeforeRepeats inst sol
none_before_routes claimed inst sol (verdicts.Tour length bound) cvrp is v =
    absurd (either_kind inst.kind (own_tour claimed inst sol length bound v).kind cvrp)
none_before_routes claimed inst sol (verdicts.Routes length count fewest bound) cvrp is v =
    λ place reason low applies. (own_routes claimed inst sol length count fewest bound v).own.0 reason applies
none_before_routes claimed inst sol (verdicts.No reason) cvrp is v = absurd (false≢true is)

-- ---- what the verdict has of it

-- the least number of routes is one number
pub same_least : (total capacity : ℤ) (a b : ℕ) → IsLeastRoutes total capacity a → IsLeastRoutes total capacity b → a ≡ b
same_least total capacity a b first second = omega (arith, first.none_less b second.enough, second.none_less a first.enough)

least_of_tours : (inst : Fields) (least : Option ℕ) → HasTours inst → IsLeastKnownBy inst.kind inst least → least ≡ None
least_of_tours inst least (inl tsp) is = subst (λ kind. IsLeastKnownBy kind inst least) tsp is
least_of_tours inst least (inr atsp) is = subst (λ kind. IsLeastKnownBy kind inst least) atsp is

pub least_of_routes : (inst : Fields) (least : Option ℕ) (own : ℕ) → IsLeastRoutes (total_of inst) (capacity_of inst) own
    → IsLeastKnownBy (Some kinds.Cvrp) inst least → least ≡ Some own
least_of_routes inst None own own_is is = absurd is
least_of_routes inst (Some least) own own_is is = ap Some (same_least (total_of inst) (capacity_of inst) least own is own_is)

-- the bound and the least number of routes are those that were found
pub as_found : (given : Option (CertificateKind × Fields)) (claimed : Option ℤ) (inst sol : Fields) (verdict : Verdict)
    (least : Option ℕ) (found : Option BoundVerdict) → IsVerdictWith None claimed inst sol verdict
    → IsLeastKnownBy inst.kind inst least → IsFoundWith given inst found → IsAsFound (with_found verdict found) least found
as_found given claimed inst sol (verdicts.Tour length bound) least None v is b =
    let own = own_tour claimed inst sol length bound v in
    (least_of_tours inst least own.kind is, sym (ap (option_map (λ b. Ok (Some b))) own.alone))
as_found given claimed inst sol (verdicts.Tour length bound) least (Some (Ok (Some found))) v is b =
    (least_of_tours inst least (own_tour claimed inst sol length bound v).kind is, refl)
as_found (Some given) claimed inst sol (verdicts.Tour length bound) least (Some (Ok None)) v is b =
    let own = own_tour claimed inst sol length bound v in absurd (without_tour inst own.kind b.2 own.own.1.0 own.own.1.2)
as_found None claimed inst sol (verdicts.Tour length bound) least (Some (Ok None)) v is b = absurd b
as_found given claimed inst sol (verdicts.Tour length bound) least (Some (Err reason)) v is b = tt
as_found given claimed inst sol (verdicts.Routes length count fewest bound) least None v is b =
    let own = own_routes claimed inst sol length count fewest bound v in (
      least_of_routes inst least fewest own.own.1.least_is (subst (λ kind. IsLeastKnownBy kind inst least) own.kind is),
      sym (ap (option_map (λ b. Ok (Some b))) own.alone),
    )
as_found given claimed inst sol (verdicts.Routes length count fewest bound) least (Some (Ok (Some found))) v is b =
    let own = own_routes claimed inst sol length count fewest bound v in
    (least_of_routes inst least fewest own.own.1.least_is (subst (λ kind. IsLeastKnownBy kind inst least) own.kind is), refl)
as_found (Some given) claimed inst sol (verdicts.Routes length count fewest bound) least (Some (Ok None)) v is b =
    let own = own_routes claimed inst sol length count fewest bound v in
    let none : HasNoPlan (routing_of inst) = subst (λ kind. HasNoSolutionBy kind inst) own.kind b.2 in
    absurd (none (tours_of sol) (record { plan = own.own.1.plan_of; each = own.own.1.filled }))
as_found None claimed inst sol (verdicts.Routes length count fewest bound) least (Some (Ok None)) v is b = absurd b
as_found given claimed inst sol (verdicts.Routes length count fewest bound) least (Some (Err reason)) v is b = tt
as_found given claimed inst sol (verdicts.No reason) least found v is b = tt

-- tours have a bound by each certificate
pub bounded_so : (by : CertificateKind) (inst : Fields) → HasTours inst → IsTrue (is_bounded by inst.kind)
bounded_so by inst (inl tsp) = subst (λ kind. IsTrue (is_bounded by kind)) (sym tsp) refl
bounded_so by inst (inr atsp) = subst (λ kind. IsTrue (is_bounded by kind)) (sym atsp) refl
