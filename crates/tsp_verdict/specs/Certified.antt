-- Circle 3 of docs/trust.md.
-- What a certificate does to a verdict, by TYPE: its bound, the reasons against it, and the verdicts on a tour, on
-- routes, and on an instance alone. Accepted.antt in tsp_judge uses `kind_of` and `IsBoundOf`; src/certificate.rt,
-- src/known_bound.rt and src/solution_verdict.rt promise the rest. tsp_c imports it, too.
use Rattle.tsp_verdict.specs.Prelude.{ℕ, Bool, true, false, List, [], Option, None, Some, ℤ, pos, neg_ℤ, length, IsFromTo, IsFirstAsymmetric, Kind, cost, fixed_of, Fields, nodes_of, length_of, BoundsTours, HasNoTour, demand_of, problem_of, routing_of, IsTourOf, depots_of, demands_of, depot_of, rank_of, CertificateKind, Reason, MultiplierNotFixed, BadFamily, TooFewNodes, NotSymmetric, DepotCount, DepotDemand, FixedEdgesInRoutes, Verdict, Ok, Err, BoundVerdict}
use Rattle.std.specs.Prelude.{◌≡◌, ◌⊎◌, ◌∷◌, ◌^◌, ◌≢◌, ◌<◌, ◌≤◌}
use Rattle.tsp_format.specs.declared.kinds.Kind.TheVariants as kinds
use Rattle.tsp_routing.specs.PlanLinks.{BoundsPlans, HasNoPlan}
use Rattle.tsp_report.specs.declared.task.CertificateKind.TheVariants.{Potentials, Branches}
use Rattle.tsp_report.specs.declared.verdict.Verdict.TheVariants as verdicts
use Rattle.tsp_verdict.specs.Certificates.{AppliesToPotentials, IsBoundByNodes, IsBoundByDuals, AppliesToQRoutes, HasBoundByQRoutes, AppliesToBranches, IsBoundByBranches, HasNoBoundByBranches}
use Rattle.tsp_verdict.specs.SolutionReasons.{NoneBefore, IsFirstReason, tours_of, AppliesToTour, AppliesToRoutes, IsPlanned}

-- ---- by the certificate, and by the TYPE of the instance

-- the TYPE of its file
abbrev pub kind_of : CertificateKind → Kind
kind_of Potentials = kinds.Potentials
kind_of Branches = kinds.Branches

-- the TYPEs of instances whose solutions it bounds
abbrev pub is_bounded : CertificateKind → Option Kind → Bool
is_bounded by (Some kinds.Tsp) = true
is_bounded by (Some kinds.Atsp) = true
is_bounded Branches (Some kinds.Cvrp) = true
is_bounded by other = false

-- the bound that it gives for tours or routes of an instance of this TYPE
abbrev pub IsBoundBy : CertificateKind → Option Kind → Fields → Fields → ℤ → Type 0
IsBoundBy Potentials (Some kinds.Tsp) instance certificate bound = IsBoundByNodes instance certificate bound
IsBoundBy Potentials (Some kinds.Atsp) instance certificate bound = IsBoundByDuals instance certificate bound
IsBoundBy Branches (Some kinds.Tsp) instance certificate bound = IsBoundByBranches instance certificate bound
IsBoundBy Branches (Some kinds.Atsp) instance certificate bound = IsBoundByBranches instance certificate bound
IsBoundBy Branches (Some kinds.Cvrp) instance certificate bound = HasBoundByQRoutes instance certificate (Some bound)
IsBoundBy by other instance certificate bound = ⊥

-- the bound that it gives for the instance
abbrev pub IsBoundOf : CertificateKind → Fields → Fields → ℤ → Type 0
IsBoundOf by instance certificate bound = IsBoundBy by instance.kind instance certificate bound

-- The certificate gives no bound: no leaf of its tree has one. Potentials and duals always give one.
abbrev pub HasNoBoundBy : CertificateKind → Option Kind → Fields → Fields → Type 0
HasNoBoundBy Branches (Some kinds.Tsp) instance certificate = HasNoBoundByBranches instance certificate
HasNoBoundBy Branches (Some kinds.Atsp) instance certificate = HasNoBoundByBranches instance certificate
HasNoBoundBy Branches (Some kinds.Cvrp) instance certificate = HasBoundByQRoutes instance certificate None
HasNoBoundBy by other instance certificate = ⊥

-- it gives no bound for the instance
abbrev pub HasNoBound : CertificateKind → Fields → Fields → Type 0
HasNoBound by instance certificate = HasNoBoundBy by instance.kind instance certificate

-- when a reason applies to the certificate, for an instance of this TYPE; reasons of tours, of routes and of other
-- certificates never do
abbrev pub AppliesToCertificateBy : CertificateKind → Option Kind → Fields → Fields → Reason → Type 0
AppliesToCertificateBy Potentials kind instance certificate reason = AppliesToPotentials instance certificate reason
AppliesToCertificateBy Branches (Some kinds.Cvrp) instance certificate reason = AppliesToQRoutes instance certificate reason
AppliesToCertificateBy Branches other instance certificate reason = AppliesToBranches instance certificate reason

-- when a reason applies to the certificate
abbrev pub AppliesToCertificate : CertificateKind → Fields → Fields → Reason → Type 0
AppliesToCertificate by instance certificate reason = AppliesToCertificateBy by instance.kind instance certificate reason

-- ---- the solutions of an instance, by its TYPE

-- no tour of the instance, or no filled plan, is shorter than the bound
abbrev pub BoundsSolutionsBy : Option Kind → Fields → ℤ → Type 0
BoundsSolutionsBy (Some kinds.Cvrp) instance bound = BoundsPlans (routing_of instance) bound
BoundsSolutionsBy other instance bound = BoundsTours (problem_of instance) bound

-- no solution of the instance is shorter than the bound
abbrev pub BoundsSolutions : Fields → ℤ → Type 0
BoundsSolutions instance bound = BoundsSolutionsBy instance.kind instance bound

-- the instance has no tour, or no filled plan
abbrev pub HasNoSolutionBy : Option Kind → Fields → Type 0
HasNoSolutionBy (Some kinds.Cvrp) instance = HasNoPlan (routing_of instance)
HasNoSolutionBy other instance = HasNoTour (problem_of instance)

-- the instance has no solution
abbrev pub HasNoSolution : Fields → Type 0
HasNoSolution instance = HasNoSolutionBy instance.kind instance

-- the rank of the first reason against the certificate that needs memory
abbrev pub first_with_memory : CertificateKind → ℕ
first_with_memory Potentials = rank_of (MultiplierNotFixed 1)
first_with_memory Branches = rank_of (BadFamily 1)

-- no reason applies to the certificate that is found without memory
abbrev pub NoneWithoutMemory : CertificateKind → Fields → Fields → Type 0
NoneWithoutMemory by instance certificate = NoneBefore (AppliesToCertificate by instance certificate) (first_with_memory by)

-- ---- its bound

-- a bound so small that sums with it fit 128 bits
abbrev pub IsBoundFitting : ℤ → Type 0
IsBoundFitting bound = IsFromTo (neg_ℤ (pos (2 ^ 100))) (pos (2 ^ 100)) bound

-- the certificate's bound, which no solution is below
abbrev pub IsCertified : CertificateKind → Fields → Fields → ℤ → Type 0
IsCertified by instance certificate bound = IsBoundOf by instance certificate bound × BoundsSolutions instance bound
    × IsBoundFitting bound

-- What a certificate gives for an instance to which no reason applies: a bound, or that there is no solution, or the
-- first reason against the certificate.
abbrev pub FindsBound : CertificateKind → Fields → Fields → BoundVerdict → Type 0
FindsBound by instance certificate (Ok (Some bound)) =
    ((reason : Reason) → AppliesToCertificate by instance certificate reason → ⊥) × IsCertified by instance certificate bound
FindsBound by instance certificate (Ok None) =
    ((reason : Reason) → AppliesToCertificate by instance certificate reason → ⊥) × HasNoBound by instance certificate
    × HasNoSolution instance
FindsBound by instance certificate (Err reason) = IsFirstReason (AppliesToCertificate by instance certificate) reason

-- ---- the verdict on a tour

-- when a reason applies to the tour or to the certificate
abbrev pub AppliesToCertified : CertificateKind → Fields → Fields → Fields → Reason → Type 0
AppliesToCertified by instance solution certificate reason = AppliesToTour instance solution reason
    ⊎ AppliesToCertificate by instance certificate reason

-- the first such reason
abbrev pub IsFirstAgainstCertified : CertificateKind → Fields → Fields → Fields → Reason → Type 0
IsFirstAgainstCertified by instance solution certificate reason = IsFirstReason
    (AppliesToCertified by instance solution certificate) reason

-- Accepted: the only tour is a tour of the instance, of this length, and the bound is the certificate's. Every tour of
-- the instance is at least as long as the bound, so a tour of this length is a shortest one.
pub record IsCertifiedTour (by : CertificateKind) (instance solution certificate : Fields) (length_is : ℤ)
    (bound : Option ℤ) : Type 0 where
  pub tour : List ℕ
  pub only : tours_of solution ≡ tour ∷ []
  pub tour_of : IsTourOf instance tour
  pub measured : length_is ≡ length_of (cost instance) tour
  pub least : ℤ
  pub bound_is : bound ≡ Some least
  pub of_certificate : IsBoundOf by instance certificate least
  pub below_tours : BoundsTours (problem_of instance) least
  pub sized : IsBoundFitting least

-- No: the first reason that applies. Tour: no reason applies, and the tour is accepted with the bound.
abbrev pub IsCertifiedTourVerdict : CertificateKind → Fields → Fields → Fields → Verdict → Type 0
IsCertifiedTourVerdict by instance solution certificate (verdicts.No reason) = IsFirstAgainstCertified by instance solution
    certificate reason
IsCertifiedTourVerdict by instance solution certificate (verdicts.Tour length_is bound) =
    ((reason : Reason) → AppliesToCertified by instance solution certificate reason → ⊥)
    × IsCertifiedTour by instance solution certificate length_is bound
IsCertifiedTourVerdict by instance solution certificate (verdicts.Routes length_is routes least bound) = ⊥

-- ---- the verdict on routes

-- when a reason applies to the routes or to the certificate
abbrev pub AppliesToCertifiedRoutes : CertificateKind → Fields → Fields → Fields → Reason → Type 0
AppliesToCertifiedRoutes by instance solution certificate reason = AppliesToRoutes instance solution reason
    ⊎ AppliesToCertificate by instance certificate reason

-- Accepted: the routes are a plan, as without a certificate, and the bound is the certificate's. Every filled plan of
-- the instance is at least as long as the bound.
pub record AreCertifiedRoutes (by : CertificateKind) (instance solution certificate : Fields) (length_is : ℤ) (routes fewest : ℕ)
    (bound : Option ℤ) : Type 0 where
  pub planned : IsPlanned instance (tours_of solution) length_is routes fewest
  pub least : ℤ
  pub bound_is : bound ≡ Some least
  pub of_certificate : IsBoundOf by instance certificate least
  pub below_plans : BoundsPlans (routing_of instance) least
  pub sized : IsBoundFitting least

-- No: the first reason that applies. Routes: no reason applies, and they are accepted with the bound.
abbrev pub IsCertifiedRoutesVerdict : CertificateKind → Fields → Fields → Fields → Verdict → Type 0
IsCertifiedRoutesVerdict by instance solution certificate (verdicts.No reason) =
    IsFirstReason (AppliesToCertifiedRoutes by instance solution certificate) reason
IsCertifiedRoutesVerdict by instance solution certificate (verdicts.Routes length_is routes fewest bound) =
    ((reason : Reason) → AppliesToCertifiedRoutes by instance solution certificate reason → ⊥)
    × AreCertifiedRoutes by instance solution certificate length_is routes fewest bound
IsCertifiedRoutesVerdict by instance solution certificate (verdicts.Tour length_is bound) = ⊥

-- ---- the verdict, by the TYPE of the instance

-- the verdict for an instance of this TYPE
abbrev pub IsCertifiedVerdictBy : Option Kind → CertificateKind → Fields → Fields → Fields → Verdict → Type 0
IsCertifiedVerdictBy (Some kinds.Cvrp) by instance solution certificate verdict =
    IsCertifiedRoutesVerdict by instance solution certificate verdict
IsCertifiedVerdictBy other by instance solution certificate verdict =
    IsCertifiedTourVerdict by instance solution certificate verdict

-- the verdict on a solution with a certificate
abbrev pub IsCertifiedVerdict : CertificateKind → Fields → Fields → Fields → Verdict → Type 0
IsCertifiedVerdict by instance solution certificate verdict =
    IsCertifiedVerdictBy instance.kind by instance solution certificate verdict

-- ---- the verdict on an instance and a certificate without a solution

-- When a reason applies to an instance, whatever the tour: the two against a tour that are about its instance. No other
-- reason does.
abbrev pub AppliesToTouring : Fields → Reason → Type 0
AppliesToTouring instance TooFewNodes = nodes_of instance < 3
AppliesToTouring instance (NotSymmetric i j) = (instance.kind ≡ Some kinds.Tsp)
    × IsFirstAsymmetric (nodes_of instance) (cost instance) (i, j)
AppliesToTouring instance reason = ⊥

-- no such reason applies
abbrev pub NoneAgainstTouring : Fields → Type 0
NoneAgainstTouring instance = (reason : Reason) → AppliesToTouring instance reason → ⊥

-- When a reason applies to an instance, whatever the routes: those against routes that are about their instance. No
-- other reason does.
abbrev pub AppliesToRouting : Fields → Reason → Type 0
AppliesToRouting instance TooFewNodes = nodes_of instance < 2
AppliesToRouting instance DepotCount = length (depots_of instance) ≢ 1
AppliesToRouting instance DepotDemand = demand_of (demands_of instance) (depot_of instance) ≢ pos 0
AppliesToRouting instance FixedEdgesInRoutes = 1 ≤ length (fixed_of instance)
AppliesToRouting instance reason = ⊥

-- no such reason applies
abbrev pub NoneAgainstRouting : Fields → Type 0
NoneAgainstRouting instance = (reason : Reason) → AppliesToRouting instance reason → ⊥

-- when a reason applies to an instance of this TYPE, whatever the solution
abbrev pub AppliesToInstanceBy : Option Kind → Fields → Reason → Type 0
AppliesToInstanceBy (Some kinds.Cvrp) instance reason = AppliesToRouting instance reason
AppliesToInstanceBy other instance reason = AppliesToTouring instance reason

-- when a reason applies to the instance, whatever the solution
abbrev pub AppliesToInstance : Fields → Reason → Type 0
AppliesToInstance instance reason = AppliesToInstanceBy instance.kind instance reason

-- no such reason applies
abbrev pub NoneAgainstInstance : Fields → Type 0
NoneAgainstInstance instance = (reason : Reason) → AppliesToInstance instance reason → ⊥

-- when a reason applies to the instance or to the certificate
abbrev pub AppliesToBounded : CertificateKind → Fields → Fields → Reason → Type 0
AppliesToBounded by instance certificate reason = AppliesToInstance instance reason
    ⊎ AppliesToCertificate by instance certificate reason

-- Bound: no reason applies, and this is the certificate's bound, which no solution is below. NoSolution: no reason
-- applies, and the instance has no solution. No: the first reason that applies.
abbrev pub IsBoundVerdict : CertificateKind → Fields → Fields → BoundVerdict → Type 0
IsBoundVerdict by instance certificate (Ok (Some bound)) =
    ((reason : Reason) → AppliesToBounded by instance certificate reason → ⊥) × IsCertified by instance certificate bound
IsBoundVerdict by instance certificate (Ok None) =
    ((reason : Reason) → AppliesToBounded by instance certificate reason → ⊥) × HasNoBound by instance certificate
    × HasNoSolution instance
IsBoundVerdict by instance certificate (Err reason) = IsFirstReason (AppliesToBounded by instance certificate) reason
