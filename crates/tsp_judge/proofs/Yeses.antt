-- For src/check_run.rt and src/bound_run.rt: what a run that ends with `yes` means for the files that it has read.
-- tsp_c imports it, too.
use Rattle.tsp_judge.proofs.Prelude.{◌≡◌, Result, Ok, ℕ, [], length, Bool, true, false, Option, Some, None, Err, refl, sym, subst, inl, inr, arith, ◌≢◌, ◌<◌, eqb, List, ◌∷◌, ap, ◌∙◌, ℤ, pos, negsuc, ◌≤◌, ◌^◌, unsigned_abs, ◌⊎◌, ◌≤ℤ◌, IsTrue, unwrap_or, if◌then◌else◌, ReadTrace, IsUnread, Sink, IsUnwritten, Fields, nodes_of, IsFile, most_taken, IsProblem, depot_of, problem_of, routing_of, depots_of, IsGapSized, IsSized, report_of, is_yes, CertificateKind, is_bounded, IsBoundFitting, IsCertifiedTourVerdict, IsCertifiedRoutesVerdict, IsCertifiedVerdictBy, kind_of, AppliesToCertificateBy, AppliesToCertificate, IsCertifiedVerdict, is_judged, IsVerdictBy, IsUnclaimedVerdict, IsVerdictWith, strict_verdict, IsVerdictAsked, HasLength, IsAsClaimed, strict_reason}
use Rattle.std.proofs.lemmas.Bool.{false≢true, cases_lt}
use Rattle.std.proofs.lemmas.Bool.Decides.{eqb_tells}
use Rattle.std.proofs.lemmas.Int.{ints}
use Rattle.tsp_format.specs.declared.kinds.Kind.{Kind}
use Rattle.tsp_format.specs.declared.kinds.Kind.TheVariants as kinds
use Rattle.tsp_file.specs.Cost.{cost}
use Rattle.tsp_file.specs.Rules.{is_instance, is_tour_file, is_potentials_file, is_branches_file}
use Rattle.tsp_theory.specs.Tour.{length_of, RoutingProblem, IsPlan, IsCustomer, plan_length}
use Rattle.tsp_report.specs.declared.task.CertificateKind.TheVariants.{Potentials, Branches}
use Rattle.tsp_report.specs.declared.verdict.Reason.{Reason}
use Rattle.tsp_report.specs.declared.verdict.Reason.TheVariants.{NotASolution, TooFewNodes, DepotCount, NotPotentials, NotBranches}
use Rattle.tsp_report.specs.declared.verdict.Verdict.{Verdict}
use Rattle.tsp_report.specs.declared.verdict.Verdict.TheVariants as verdicts
use Rattle.tsp_verdict.specs.SolutionReasons.{tours_of, AppliesToRoutes, IsPlanned, IsRoutesVerdict, IsTourVerdict}
use Rattle.tsp_judge.specs.Accepted.{IsAcceptedTour, AreOnlyRoutes, AreAcceptedRoutes, IsTourWithBound, AreRoutesWithBound, IsAccepted}
use Rattle.tsp_judge.specs.CheckRun.{ReadsFile, Given, IsUnreadIn, IsFileIn, ReadsGiven, AreRead, JudgesFiles, EndsWithout, IsRun, acceptance, SaysYes, IsRunOf}
use Rattle.tsp_judge.specs.declared.check_run.Judged.{Judged}
use Rattle.tsp_judge.specs.declared.run_status.RunFault.{RunFault}
use Rattle.tsp_judge.specs.declared.run_status.RunFault.TheVariants.{File, WrongKind, Write, OutOfMemory, Relayout}
use Rattle.tsp_verdict.proofs.Unjudged.{accepted_before, judged_whole}

pub one_value : {T E : Type 0} (r : Result T E) (a b : T) → r ≡ Ok a → r ≡ Ok b → a ≡ b
one_value r a b first second = cc

-- ---- how a check of an instance and a solution ends

pub none_taken : length {A = ℕ} [] ≤ most_taken
none_taken = omega arith

-- ---- a bound that fits

pub few : (z : ℤ) → IsBoundFitting z → unsigned_abs z ≤ 2 ^ 126
few (pos n) small = omega (arith, ints, small.0, small.1)
few (negsuc n) small = omega (arith, ints, small.0, small.1)

no_bound : (bound : Option ℤ) → bound ≡ None → IsGapSized bound
no_bound None e = tt
no_bound (Some b) e = absurd cc

sized_by : (kind : Option Kind) (instance solution : Fields) (verdict : Verdict) → IsVerdictBy kind instance solution verdict → IsSized verdict
sized_by (Some kinds.Tsp) instance solution (verdicts.Tour length bound) v = no_bound bound v.2
sized_by (Some kinds.Tsp) instance solution (verdicts.Routes length routes least bound) v = absurd v
sized_by (Some kinds.Tsp) instance solution (verdicts.No reason) v = tt
sized_by (Some kinds.Atsp) instance solution (verdicts.Tour length bound) v = no_bound bound v.2
sized_by (Some kinds.Atsp) instance solution (verdicts.Routes length routes least bound) v = absurd v
sized_by (Some kinds.Atsp) instance solution (verdicts.No reason) v = tt
sized_by (Some kinds.Cvrp) instance solution (verdicts.Tour length bound) v = absurd v
sized_by (Some kinds.Cvrp) instance solution (verdicts.Routes length routes least bound) v = no_bound bound v.2
sized_by (Some kinds.Cvrp) instance solution (verdicts.No reason) v = tt
sized_by (Some kinds.Tour) instance solution verdict v = absurd v
sized_by (Some kinds.Potentials) instance solution verdict v = absurd v
sized_by (Some kinds.Branches) instance solution verdict v = absurd v
sized_by None instance solution verdict v = absurd v

of_tours : (by : CertificateKind) (instance solution certificate : Fields) (verdict : Verdict) → IsCertifiedTourVerdict by instance solution certificate verdict → IsSized verdict
of_tours by instance solution certificate (verdicts.Tour length bound) v = subst IsGapSized (sym v.1.bound_is) (few v.1.least v.1.sized)
of_tours by instance solution certificate (verdicts.Routes length routes least bound) v = absurd v
of_tours by instance solution certificate (verdicts.No reason) v = tt

of_routes : (by : CertificateKind) (instance solution certificate : Fields) (verdict : Verdict) → IsCertifiedRoutesVerdict by instance solution certificate verdict → IsSized verdict
of_routes by instance solution certificate (verdicts.Routes length routes least bound) v = subst IsGapSized (sym v.1.bound_is) (few v.1.least v.1.sized)
of_routes by instance solution certificate (verdicts.Tour length bound) v = absurd v
of_routes by instance solution certificate (verdicts.No reason) v = tt

certified : (kind : Option Kind) (by : CertificateKind) (instance solution certificate : Fields) (verdict : Verdict) → IsCertifiedVerdictBy kind by instance solution certificate verdict
    → IsSized verdict
certified (Some kinds.Cvrp) by instance solution certificate verdict v = of_routes by instance solution certificate verdict v
certified (Some kinds.Tsp) by instance solution certificate verdict v = of_tours by instance solution certificate verdict v
certified (Some kinds.Atsp) by instance solution certificate verdict v = of_tours by instance solution certificate verdict v
certified (Some kinds.Tour) by instance solution certificate verdict v = of_tours by instance solution certificate verdict v
certified (Some kinds.Potentials) by instance solution certificate verdict v = of_tours by instance solution certificate verdict v
certified (Some kinds.Branches) by instance solution certificate verdict v = of_tours by instance solution certificate verdict v
certified None by instance solution certificate verdict v = of_tours by instance solution certificate verdict v

unclaimed : (certificate : Option (CertificateKind × Fields)) (instance solution : Fields) (verdict : Verdict) → IsUnclaimedVerdict certificate instance solution verdict → IsSized verdict
unclaimed None instance solution verdict v = sized_by instance.kind instance solution verdict v
unclaimed (Some given) instance solution verdict v = certified instance.kind given.0 instance solution given.1 verdict v

pub sized : (certificate : Option (CertificateKind × Fields)) (claimed : Option ℤ) (instance solution : Fields) (verdict : Verdict)
    → IsVerdictWith certificate claimed instance solution verdict → IsSized verdict
sized certificate None instance solution verdict v = unclaimed certificate instance solution verdict v
sized certificate (Some claim) instance solution (verdicts.Tour length bound) v = unclaimed certificate instance solution (verdicts.Tour length bound) v.0
sized certificate (Some claim) instance solution (verdicts.Routes length routes least bound) v = unclaimed certificate instance solution (verdicts.Routes length routes least bound) v.0
sized certificate (Some claim) instance solution (verdicts.No reason) v = tt

-- if lines that aren't judged are a reason too
pub asked_sized : (strict : Bool) (certificate : Option (CertificateKind × Fields)) (claimed : Option ℤ) (instance solution : Fields) (verdict : Verdict)
    → IsVerdictAsked strict certificate claimed instance solution verdict → IsSized verdict
asked_sized strict certificate claimed instance solution verdict asked =
    subst IsSized (sym asked.2) (kept (strict_reason strict instance) asked.0 (sized certificate claimed instance solution asked.0 asked.1))
  where
    kept : (strict : Option Reason) (plain : Verdict) → IsSized plain → IsSized (strict_verdict strict plain)
    kept None plain is = is
    kept (Some reason) (verdicts.Tour length bound) is = tt
    kept (Some reason) (verdicts.Routes length routes least bound) is = tt
    kept (Some reason) (verdicts.No other) is = tt

-- ---- the TYPE

pub bounded_none : (by : CertificateKind) (kind : Option Kind) → is_instance kind ≡ false → is_bounded by kind ≡ false
bounded_none by (Some kinds.Tsp) none = absurd (false≢true (sym none))
bounded_none by (Some kinds.Atsp) none = absurd (false≢true (sym none))
bounded_none by (Some kinds.Cvrp) none = absurd (false≢true (sym none))
bounded_none by (Some kinds.Tour) none = refl
bounded_none by (Some kinds.Potentials) none = refl
bounded_none by (Some kinds.Branches) none = refl
bounded_none by None none = refl

pub none_judged : (certificate : Option (CertificateKind × Fields)) (kind : Option Kind) → is_instance kind ≡ false → is_judged certificate kind ≡ false
none_judged None kind none = none
none_judged (Some given) kind none = bounded_none given.0 kind none

-- ---- the files

pub first_stops : (strict : Bool) (given : Given) (claimed : Option ℤ) (first second : ReadTrace) (sink : Sink) (fault : RunFault) → ReadsFile 1 first (Err fault) → IsUnread second → IsUnreadIn given
    → IsUnwritten sink → EndsWithout given claimed strict first second sink fault
first_stops strict given claimed first second sink (File place fault) stops two three unwritten = (unwritten, inl (stops.0, stops.1, two, three))
first_stops strict given claimed first second sink WrongKind stops two three unwritten = absurd stops
first_stops strict given claimed first second sink (Write fault) stops two three unwritten = absurd stops
first_stops strict given claimed first second sink OutOfMemory stops two three unwritten = absurd stops
first_stops strict given claimed first second sink (Relayout fault) stops two three unwritten = absurd stops

pub second_stops : (strict : Bool) (given : Given) (claimed : Option ℤ) (first second : ReadTrace) (instance : Fields) (sink : Sink) (fault : RunFault) → IsFile first instance
    → ReadsFile 2 second (Err fault) → IsUnreadIn given → IsUnwritten sink → EndsWithout given claimed strict first second sink fault
second_stops strict given claimed first second instance sink (File place fault) one stops three unwritten =
    (unwritten, inr (inl (stops.0, (instance, one), stops.1, three)))
second_stops strict given claimed first second instance sink WrongKind one stops three unwritten = absurd stops
second_stops strict given claimed first second instance sink (Write fault) one stops three unwritten = absurd stops
second_stops strict given claimed first second instance sink OutOfMemory one stops three unwritten = absurd stops
second_stops strict given claimed first second instance sink (Relayout fault) one stops three unwritten = absurd stops

pub third_stops : (strict : Bool) (given : Given) (claimed : Option ℤ) (first second : ReadTrace) (instance solution : Fields) (sink : Sink) (fault : RunFault) → IsFile first instance
    → IsFile second solution → ReadsGiven 3 given (Err fault) → IsUnwritten sink → EndsWithout given claimed strict first second sink fault
third_stops strict None claimed first second instance solution sink fault one two stops unwritten = absurd stops
third_stops strict (Some third) claimed first second instance solution sink (File place fault) one two stops unwritten =
    (unwritten, inr (inr (third, refl, stops.0, (instance, one), (solution, two), stops.1)))
third_stops strict (Some third) claimed first second instance solution sink WrongKind one two stops unwritten = absurd stops
third_stops strict (Some third) claimed first second instance solution sink (Write fault) one two stops unwritten = absurd stops
third_stops strict (Some third) claimed first second instance solution sink OutOfMemory one two stops unwritten = absurd stops
third_stops strict (Some third) claimed first second instance solution sink (Relayout fault) one two stops unwritten = absurd stops

-- ---- files that were read

pub are_read : (given : Given) (first second : ReadTrace) (instance solution : Fields) (certificate : Option (CertificateKind × Fields)) → IsFile first instance → IsFile second solution
    → IsFileIn given certificate → AreRead given first second instance solution certificate
are_read given first second instance solution certificate one two three = record { first_file = one; second_file = two; third_file = three }

-- a run of which no verdict comes
pub ends_without : (strict : Bool) (given : Given) (claimed : Option ℤ) (first second : ReadTrace) (instance solution : Fields) (certificate : Option (CertificateKind × Fields)) (sink : Sink) (fault : RunFault)
    → AreRead given first second instance solution certificate → JudgesFiles certificate claimed strict instance solution sink (Err fault)
    → EndsWithout given claimed strict first second sink fault
ends_without strict given claimed first second instance solution certificate sink (File place fault) read judges = absurd judges
ends_without strict given claimed first second instance solution certificate sink WrongKind read judges = (instance, solution, certificate, read, judges)
ends_without strict given claimed first second instance solution certificate sink (Write fault) read judges = (instance, solution, certificate, read, judges)
ends_without strict given claimed first second instance solution certificate sink OutOfMemory read judges = (instance, solution, certificate, read, judges)
ends_without strict given claimed first second instance solution certificate sink (Relayout fault) read judges = (instance, solution, certificate, read, judges)

-- ---- what the line `yes` of a check means

-- ---- the TYPE of a file

a_file_of_tours : (kind : Option Kind) → (is_tour_file kind ≡ false → ⊥) → kind ≡ Some kinds.Tour
a_file_of_tours (Some kinds.Tsp) not = absurd (not refl)
a_file_of_tours (Some kinds.Atsp) not = absurd (not refl)
a_file_of_tours (Some kinds.Cvrp) not = absurd (not refl)
a_file_of_tours (Some kinds.Tour) not = refl
a_file_of_tours (Some kinds.Potentials) not = absurd (not refl)
a_file_of_tours (Some kinds.Branches) not = absurd (not refl)
a_file_of_tours None not = absurd (not refl)

potentials : (kind : Option Kind) → (is_potentials_file kind ≡ false → ⊥) → kind ≡ Some kinds.Potentials
potentials (Some kinds.Tsp) not = absurd (not refl)
potentials (Some kinds.Atsp) not = absurd (not refl)
potentials (Some kinds.Cvrp) not = absurd (not refl)
potentials (Some kinds.Tour) not = absurd (not refl)
potentials (Some kinds.Potentials) not = refl
potentials (Some kinds.Branches) not = absurd (not refl)
potentials None not = absurd (not refl)

tree : (kind : Option Kind) → (is_branches_file kind ≡ false → ⊥) → kind ≡ Some kinds.Branches
tree (Some kinds.Tsp) not = absurd (not refl)
tree (Some kinds.Atsp) not = absurd (not refl)
tree (Some kinds.Cvrp) not = absurd (not refl)
tree (Some kinds.Tour) not = absurd (not refl)
tree (Some kinds.Potentials) not = absurd (not refl)
tree (Some kinds.Branches) not = refl
tree None not = absurd (not refl)

pub of_type : (by : CertificateKind) (instance certificate : Fields) → ((reason : Reason) → AppliesToCertificate by instance certificate reason → ⊥)
    → certificate.kind ≡ Some (kind_of by)
of_type Potentials instance certificate none = potentials certificate.kind (λ other. none NotPotentials other)
of_type Branches instance certificate none = tree certificate.kind (λ other. none NotBranches (not_branches instance.kind other))
  where
    not_branches : (kind : Option Kind) → is_branches_file certificate.kind ≡ false → AppliesToCertificateBy Branches kind instance certificate NotBranches
    not_branches (Some kinds.Tsp) other = other
    not_branches (Some kinds.Atsp) other = other
    not_branches (Some kinds.Cvrp) other = other
    not_branches (Some kinds.Tour) other = other
    not_branches (Some kinds.Potentials) other = other
    not_branches (Some kinds.Branches) other = other
    not_branches None other = other

-- the TYPEs whose solutions are tours
abbrev pub IsTspOrAtsp : Option Kind → Type 0
IsTspOrAtsp kind = (kind ≡ Some kinds.Tsp) ⊎ (kind ≡ Some kinds.Atsp)

-- a TYPE whose problem has tours, with a direction or without
pub type_of_tours : (directed : Bool) (kind : Option Kind) → kind ≡ Some (if directed then kinds.Atsp else kinds.Tsp) → IsTspOrAtsp kind
type_of_tours true kind is = inr is
type_of_tours false kind is = inl is

-- a TYPE whose solutions have a bound
abbrev pub IsBoundedType : Option Kind → Type 0
IsBoundedType kind = IsTspOrAtsp kind ⊎ (kind ≡ Some kinds.Cvrp)

pub types_bounded : (by : CertificateKind) (kind : Option Kind) → IsTrue (is_bounded by kind) → IsBoundedType kind
types_bounded by (Some kinds.Tsp) is = inl (inl refl)
types_bounded by (Some kinds.Atsp) is = inl (inr refl)
types_bounded by (Some kinds.Cvrp) is = inr refl
types_bounded by (Some kinds.Tour) is = absurd (false≢true is)
types_bounded by (Some kinds.Potentials) is = absurd (false≢true is)
types_bounded by (Some kinds.Branches) is = absurd (false≢true is)
types_bounded by None is = absurd (false≢true is)

-- ---- a claim: a solution accepted with it is accepted without it too, with the claimed length

tour_as_claimed : (certificate : Option (CertificateKind × Fields)) (claimed : Option ℤ) (instance solution : Fields) (length : ℤ) (bound : Option ℤ)
    → IsVerdictWith certificate claimed instance solution (verdicts.Tour length bound)
    → IsUnclaimedVerdict certificate instance solution (verdicts.Tour length bound) × IsAsClaimed claimed length
tour_as_claimed certificate None instance solution length bound v = (v, tt)
tour_as_claimed certificate (Some claim) instance solution length bound v = (v.0, v.1)

routes_as_claimed : (certificate : Option (CertificateKind × Fields)) (claimed : Option ℤ) (instance solution : Fields) (length : ℤ) (routes least : ℕ) (bound : Option ℤ)
    → IsVerdictWith certificate claimed instance solution (verdicts.Routes length routes least bound)
    → IsUnclaimedVerdict certificate instance solution (verdicts.Routes length routes least bound) × IsAsClaimed claimed length
routes_as_claimed certificate None instance solution length routes least bound v = (v, tt)
routes_as_claimed certificate (Some claim) instance solution length routes least bound v = (v.0, v.1)

-- a length that is as claimed is the claimed one
claim_is : (claimed : Option ℤ) (length measured : ℤ) → IsAsClaimed claimed length → length ≡ measured → (claim : ℤ) → claimed ≡ Some claim → claim ≡ measured
claim_is None length measured claims same claim is = absurd cc
claim_is (Some other) length measured claims same claim is = sym (ap (λ o. unwrap_or o (pos 0)) is) ∙ claims ∙ same

-- tours that aren't none are a field of their file
present : (o : Option (List (List ℕ))) (tours : List (List ℕ)) → unwrap_or o [] ≡ tours → (tours ≡ [] → ⊥) → o ≡ Some tours
present None tours is some = absurd (some (sym is))
present (Some held) tours is some = ap (λ ts. Some ts) is

pub one_tour : (solution : Fields) (tour : List ℕ) → tours_of solution ≡ tour ∷ [] → solution.tours ≡ Some (tour ∷ [])
one_tour solution tour only = present solution.tours (tour ∷ []) only (λ none. cc)

-- ---- without a certificate

an_accepted_tour : (claimed : Option ℤ) (instance solution : Fields) (length : ℤ) (bound : Option ℤ) → IsProblem instance → IsTspOrAtsp instance.kind
    → IsTourVerdict instance solution (verdicts.Tour length bound) → IsAsClaimed claimed length
    → IsAcceptedTour claimed instance solution (report_of instance (verdicts.Tour length bound))
an_accepted_tour claimed instance solution length bound problem type v claims = record {
  problem = problem_of instance;
  tour = v.1.0;
  only_tour = record {
    of_instance = problem.of_tours type;
    solution_type = a_file_of_tours solution.kind (λ other. v.0 NotASolution other);
    only = one_tour solution v.1.0 v.1.1;
    is_tour = v.1.2;
    as_claimed = claim_is claimed length (length_of (cost instance) v.1.0) claims v.1.3;
  };
  printed = ap (λ l. report_of instance (verdicts.Tour l bound)) v.1.3
      ∙ ap (λ o. report_of instance (verdicts.Tour (length_of (cost instance) v.1.0) o)) v.2;
}

-- a plan serves some customer, so that the file lists routes
served_by_none : (problem : RoutingProblem) → 2 ≤ problem.nodes → IsPlan problem [] → ⊥
served_by_none problem some plan = by_depot (eqb_tells problem.depot 1)
  where
    none_served : (node : ℕ) → IsCustomer problem.nodes problem.depot node → ⊥
    none_served node customer = let found = plan.served node customer in omega (arith, found.1)

    by_depot : ((eqb problem.depot 1 ≡ true) × (problem.depot ≡ 1)) ⊎ ((eqb problem.depot 1 ≡ false) × (problem.depot ≢ 1)) → ⊥
    by_depot (inl first) = none_served 2 ((omega arith, some), λ is. omega (arith, is, first.1))
    by_depot (inr other) = none_served 1 ((omega arith, omega (arith, some)), λ is. other.1 (sym is))

-- one depot, if no reason applies
pub one_depot : (count : ℕ) → (count ≢ 1 → ⊥) → count ≡ 1
one_depot count not = by_test (eqb_tells count 1)
  where
    by_test : ((eqb count 1 ≡ true) × (count ≡ 1)) ⊎ ((eqb count 1 ≡ false) × (count ≢ 1)) → count ≡ 1
    by_test (inl is) = is.1
    by_test (inr other) = absurd (not other.1)

-- plan: no reason applies, so there is one depot and a customer; a plan serves it, so the file lists routes
-- (`served_by_none`)
pub only_routes : (claimed : Option ℤ) (instance solution : Fields) (length_is : ℤ) (count least : ℕ) → IsProblem instance → instance.kind ≡ Some kinds.Cvrp
    → ((reason : Reason) → AppliesToRoutes instance solution reason → ⊥) → IsPlanned instance (tours_of solution) length_is count least
    → IsAsClaimed claimed length_is → AreOnlyRoutes claimed instance solution (routing_of instance) (tours_of solution) least
only_routes claimed instance solution length_is count least problem type none planned claims =
    let depot : length (depots_of instance) ≡ 1 = one_depot (length (depots_of instance)) (λ other. none DepotCount other) in
    let some : 2 ≤ nodes_of instance = not_fewer (nodes_of instance) (λ few. none TooFewNodes few) in
    record {
      of_instance = problem.of_routes type depot;
      solution_type = a_file_of_tours solution.kind (λ other. none NotASolution other);
      all = present solution.tours (tours_of solution) refl
          (λ empty. served_by_none (routing_of instance) some (subst (IsPlan (routing_of instance)) empty planned.plan_of));
      is_plan = planned.plan_of;
      least_is = planned.least_is;
      none_fewer = planned.none_fewer;
      as_claimed = claim_is claimed length_is (plan_length (cost instance) (depot_of instance) (tours_of solution)) claims planned.measured;
    }
  where
    not_fewer : (n : ℕ) → (n < 2 → ⊥) → 2 ≤ n
    not_fewer n not = by_test (cases_lt n 2)
      where
        by_test : (n < 2) ⊎ (2 ≤ n) → 2 ≤ n
        by_test (inl few) = absurd (not few)
        by_test (inr some) = some

-- the report on routes that are accepted
routes_printed : (instance solution : Fields) (length_is : ℤ) (count least : ℕ) (bound other : Option ℤ) → IsPlanned instance (tours_of solution) length_is count least
    → bound ≡ other → report_of instance (verdicts.Routes length_is count least bound)
    ≡ report_of instance (verdicts.Routes (plan_length (cost instance) (depot_of instance) (tours_of solution)) (length (tours_of solution)) least other)
routes_printed instance solution length_is count least bound other planned same =
    ap (λ l. report_of instance (verdicts.Routes l count least bound)) planned.measured
    ∙ ap (λ c. report_of instance (verdicts.Routes (plan_length (cost instance) (depot_of instance) (tours_of solution)) c least bound)) planned.counted
    ∙ ap (λ b. report_of instance (verdicts.Routes (plan_length (cost instance) (depot_of instance) (tours_of solution)) (length (tours_of solution)) least b)) same

accepted_routes : (claimed : Option ℤ) (instance solution : Fields) (length_is : ℤ) (count least : ℕ) (bound : Option ℤ) → IsProblem instance → instance.kind ≡ Some kinds.Cvrp
    → IsRoutesVerdict instance solution (verdicts.Routes length_is count least bound) → IsAsClaimed claimed length_is
    → AreAcceptedRoutes claimed instance solution (report_of instance (verdicts.Routes length_is count least bound))
accepted_routes claimed instance solution length_is count least bound problem type v claims = record {
  problem = routing_of instance;
  routes = tours_of solution;
  least = least;
  only_routes = only_routes claimed instance solution length_is count least problem type v.0 v.1 claims;
  printed = routes_printed instance solution length_is count least bound None v.1 v.2;
}

tour_by_type : (kind : Option Kind) (claimed : Option ℤ) (instance solution : Fields) (length : ℤ) (bound : Option ℤ) → IsProblem instance → kind ≡ instance.kind
    → IsVerdictBy kind instance solution (verdicts.Tour length bound) → IsAsClaimed claimed length
    → IsAcceptedTour claimed instance solution (report_of instance (verdicts.Tour length bound))
tour_by_type (Some kinds.Tsp) claimed instance solution length bound problem same v claims =
    an_accepted_tour claimed instance solution length bound problem (inl (sym same)) v claims
tour_by_type (Some kinds.Atsp) claimed instance solution length bound problem same v claims =
    an_accepted_tour claimed instance solution length bound problem (inr (sym same)) v claims
tour_by_type (Some kinds.Cvrp) claimed instance solution length bound problem same v claims = absurd v
tour_by_type (Some kinds.Tour) claimed instance solution length bound problem same v claims = absurd v
tour_by_type (Some kinds.Potentials) claimed instance solution length bound problem same v claims = absurd v
tour_by_type (Some kinds.Branches) claimed instance solution length bound problem same v claims = absurd v
tour_by_type None claimed instance solution length bound problem same v claims = absurd v

routes_by_type : (kind : Option Kind) (claimed : Option ℤ) (instance solution : Fields) (length : ℤ) (count least : ℕ) (bound : Option ℤ) → IsProblem instance → kind ≡ instance.kind
    → IsVerdictBy kind instance solution (verdicts.Routes length count least bound) → IsAsClaimed claimed length
    → AreAcceptedRoutes claimed instance solution (report_of instance (verdicts.Routes length count least bound))
routes_by_type (Some kinds.Tsp) claimed instance solution length count least bound problem same v claims = absurd v
routes_by_type (Some kinds.Atsp) claimed instance solution length count least bound problem same v claims = absurd v
routes_by_type (Some kinds.Cvrp) claimed instance solution length count least bound problem same v claims =
    accepted_routes claimed instance solution length count least bound problem (sym same) v claims
routes_by_type (Some kinds.Tour) claimed instance solution length count least bound problem same v claims = absurd v
routes_by_type (Some kinds.Potentials) claimed instance solution length count least bound problem same v claims = absurd v
routes_by_type (Some kinds.Branches) claimed instance solution length count least bound problem same v claims = absurd v
routes_by_type None claimed instance solution length count least bound problem same v claims = absurd v

-- ---- with a certificate

bounded_tour : (by : CertificateKind) (claimed : Option ℤ) (instance solution certificate : Fields) (length : ℤ) (bound : Option ℤ) → IsProblem instance
    → IsTspOrAtsp instance.kind → IsCertifiedTourVerdict by instance solution certificate (verdicts.Tour length bound) → IsAsClaimed claimed length
    → IsTourWithBound by claimed instance solution certificate (report_of instance (verdicts.Tour length bound))
bounded_tour by claimed instance solution certificate length bound problem tours v claims =
    let b = v.1 in
    record {
      problem = problem_of instance;
      tour = b.tour;
      only_tour = record {
        of_instance = problem.of_tours tours;
        solution_type = a_file_of_tours solution.kind (λ other. v.0 NotASolution (inl other));
        only = one_tour solution b.tour b.only;
        is_tour = b.tour_of;
        as_claimed = claim_is claimed length (length_of (cost instance) b.tour) claims b.measured;
      };
      bound = b.least;
      certificate_type = of_type by instance certificate (λ reason applies. v.0 reason (inr applies));
      of_certificate = b.of_certificate;
      printed = ap (λ l. report_of instance (verdicts.Tour l bound)) b.measured
          ∙ ap (λ o. report_of instance (verdicts.Tour (length_of (cost instance) b.tour) o)) b.bound_is;
      below_tours = b.below_tours;
      optimal = λ same other is. subst (λ l. l ≤ℤ length_of (cost instance) other) (sym same) (b.below_tours other is);
    }

bounded_routes : (by : CertificateKind) (claimed : Option ℤ) (instance solution certificate : Fields) (length_is : ℤ) (count fewest : ℕ) (bound : Option ℤ) → IsProblem instance
    → instance.kind ≡ Some kinds.Cvrp → IsCertifiedRoutesVerdict by instance solution certificate (verdicts.Routes length_is count fewest bound) → IsAsClaimed claimed length_is
    → AreRoutesWithBound by claimed instance solution certificate (report_of instance (verdicts.Routes length_is count fewest bound))
bounded_routes by claimed instance solution certificate length_is count fewest bound problem type v claims =
    let b = v.1 in
    let length_of_all : List (List ℕ) → ℤ = plan_length (cost instance) (depot_of instance) in
    record {
      problem = routing_of instance;
      routes = tours_of solution;
      least = fewest;
      only_routes = only_routes claimed instance solution length_is count fewest problem type (λ reason applies. v.0 reason (inl applies)) b.planned claims;
      filled = record { plan = b.planned.plan_of; each = b.planned.filled };
      bound = b.least;
      certificate_type = of_type by instance certificate (λ reason applies. v.0 reason (inr applies));
      of_certificate = b.of_certificate;
      printed = routes_printed instance solution length_is count fewest bound (Some b.least) b.planned b.bound_is;
      below_plans = b.below_plans;
      optimal = λ same other is. subst (λ l. l ≤ℤ length_of_all other) (sym same) (b.below_plans other is);
    }

-- plan: by the TYPE: tours or routes
bounded_by_type : (by : CertificateKind) (claimed : Option ℤ) (instance solution certificate : Fields) (verdict : Verdict) (length : ℤ) → IsProblem instance → IsBoundedType instance.kind
    → IsCertifiedVerdict by instance solution certificate verdict → HasLength verdict length → IsAsClaimed claimed length
    → IsAccepted (Some (by, certificate)) claimed instance solution (report_of instance verdict)
bounded_by_type by claimed instance solution certificate (verdicts.Tour found bound) length problem (inl (inl tsp)) v has claims =
    inl (bounded_tour by claimed instance solution certificate found bound problem (inl tsp)
    (subst (λ k. IsCertifiedVerdictBy k by instance solution certificate (verdicts.Tour found bound)) tsp v) (subst (IsAsClaimed claimed) has claims))
bounded_by_type by claimed instance solution certificate (verdicts.Tour found bound) length problem (inl (inr atsp)) v has claims =
    inl (bounded_tour by claimed instance solution certificate found bound problem (inr atsp)
    (subst (λ k. IsCertifiedVerdictBy k by instance solution certificate (verdicts.Tour found bound)) atsp v) (subst (IsAsClaimed claimed) has claims))
bounded_by_type by claimed instance solution certificate (verdicts.Tour found bound) length problem (inr cvrp) v has claims =
    absurd (subst (λ k. IsCertifiedVerdictBy k by instance solution certificate (verdicts.Tour found bound)) cvrp v)
bounded_by_type by claimed instance solution certificate (verdicts.Routes found count least bound) length problem (inl (inl tsp)) v has claims =
    absurd (subst (λ k. IsCertifiedVerdictBy k by instance solution certificate (verdicts.Routes found count least bound)) tsp v)
bounded_by_type by claimed instance solution certificate (verdicts.Routes found count least bound) length problem (inl (inr atsp)) v has claims =
    absurd (subst (λ k. IsCertifiedVerdictBy k by instance solution certificate (verdicts.Routes found count least bound)) atsp v)
bounded_by_type by claimed instance solution certificate (verdicts.Routes found count least bound) length problem (inr cvrp) v has claims =
    inr (bounded_routes by claimed instance solution certificate found count least bound problem cvrp
    (subst (λ k. IsCertifiedVerdictBy k by instance solution certificate (verdicts.Routes found count least bound)) cvrp v) (subst (IsAsClaimed claimed) has claims))
bounded_by_type by claimed instance solution certificate (verdicts.No reason) length problem type v has claims = absurd has

-- ---- either

pub accepted : (certificate : Option (CertificateKind × Fields)) (claimed : Option ℤ) (instance solution : Fields) (verdict : Verdict) → IsProblem instance
    → IsTrue (is_judged certificate instance.kind) → IsVerdictWith certificate claimed instance solution verdict → true ≡ is_yes verdict
    → IsAccepted certificate claimed instance solution (report_of instance verdict)
accepted None claimed instance solution (verdicts.Tour length bound) problem type v is =
    let c = tour_as_claimed None claimed instance solution length bound v in
    inl (tour_by_type instance.kind claimed instance solution length bound problem refl c.0 c.1)
accepted None claimed instance solution (verdicts.Routes length count least bound) problem type v is =
    let c = routes_as_claimed None claimed instance solution length count least bound v in
    inr (routes_by_type instance.kind claimed instance solution length count least bound problem refl c.0 c.1)
accepted (Some given) claimed instance solution (verdicts.Tour length bound) problem type v is =
    let c = tour_as_claimed (Some given) claimed instance solution length bound v in
    bounded_by_type given.0 claimed instance solution given.1 (verdicts.Tour length bound) length problem (types_bounded given.0 instance.kind type) c.0 refl c.1
accepted (Some given) claimed instance solution (verdicts.Routes length count least bound) problem type v is =
    let c = routes_as_claimed (Some given) claimed instance solution length count least bound v in
    bounded_by_type given.0 claimed instance solution given.1 (verdicts.Routes length count least bound) length problem (types_bounded given.0 instance.kind type) c.0 refl c.1
accepted certificate claimed instance solution (verdicts.No reason) problem type v is = absurd (false≢true (sym is))

-- ---- the run

says_yes : (given : Given) (claimed : Option ℤ) (strict : Bool) (first second : ReadTrace) (sink : Sink) (judged : Judged) → IsProblem judged.instance
    → IsRun given claimed strict first second sink (Ok judged) → true ≡ is_yes judged.verdict → SaysYes given claimed strict first second sink
says_yes given claimed strict first second sink judged problem run is =
    let asked = run.1.1 in
    let same = accepted_before (strict_reason strict judged.instance) asked.0 (subst (λ v. is_yes v ≡ true) asked.2 (sym is)) in
    record {
      instance = judged.instance;
      solution = judged.solution;
      certificate = judged.certificate;
      report = report_of judged.instance judged.verdict;
      read = run.0;
      written = run.1.2;
      meaning = accepted judged.certificate claimed judged.instance judged.solution judged.verdict problem run.1.0
          (subst (IsVerdictWith judged.certificate claimed judged.instance judged.solution) (sym (asked.2 ∙ same.0)) asked.1) is;
      all_judged = judged_whole strict judged.instance same.1;
    }

-- the whole contract of a run with a verdict, and of one without
pub run_of : (strict : Bool) (given : Given) (claimed : Option ℤ) (first second : ReadTrace) (sink : Sink) (judged : Judged) → IsProblem judged.instance
    → IsRun given claimed strict first second sink (Ok judged) → IsRunOf given claimed strict first second sink (Ok judged)
run_of strict given claimed first second sink judged problem run = (
  run,
  (
    (judged.instance, judged.solution, judged.certificate, judged.verdict, run.0, run.1, refl),
    λ is. says_yes given claimed strict first second sink judged problem run (sym (one_value (acceptance (Ok judged)) _ _ refl is)),
  ),
)

pub fault_of_run : (strict : Bool) (given : Given) (claimed : Option ℤ) (first second : ReadTrace) (sink : Sink) (fault : RunFault) → EndsWithout given claimed strict first second sink fault
    → IsRunOf given claimed strict first second sink (Err fault)
fault_of_run strict given claimed first second sink fault ends = (ends, (ends, λ is. absurd cc))
