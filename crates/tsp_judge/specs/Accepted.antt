-- Circle 1 of docs/trust.md.
-- The six meanings of the line `yes`, over the files that were read and the report that was printed, and the meaning of
-- `optimal` in a comparison. The runs in CheckRun.antt and BoundRun.antt promise them, and so do the calls for C. A
-- change here changes what users are told, so have someone review it. example_check and tsp_c import it, too.
use Rattle.tsp_judge.specs.Prelude.{ℕ, List, [], length, Option, None, Some, ℤ, Fields, IsProblemOf, IsRoutingOf, report_of, bound_report_of, CertificateKind, kind_of, IsBoundOf, Result, Ok, Err}
use Rattle.std.specs.Prelude.{◌≡◌, ◌⊎◌, ◌≤◌, ◌∷◌, ◌≤ℤ◌}
use Rattle.tsp_format.specs.Nodes.{nodes_to}
use Rattle.tsp_format.specs.declared.kinds.Kind.{Kind}
use Rattle.tsp_format.specs.declared.kinds.Kind.TheVariants as kinds
use Rattle.tsp_theory.specs.Tour.{sum_int_by, length_of, RoutingProblem, IsPlan, plan_length, IsLeastRoutes, Problem, IsTour, BoundsTours, HasNoTour}
use Rattle.tsp_routing.specs.PlanLinks.{IsFilledPlan, BoundsPlans, HasNoPlan}
use Rattle.tsp_report.specs.declared.verdict.Reason.{Reason}
use Rattle.tsp_report.specs.declared.verdict.Verdict.TheVariants.{Tour, Routes}

-- The solution's only tour visits every node of the instance once and uses every fixed edge. If a length is claimed, it
-- is the tour's.
pub record IsOnlyTour (claimed : Option ℤ) (instance solution : Fields) (problem : Problem) (tour : List ℕ) : Type 0 where
  pub of_instance : IsProblemOf instance problem
  pub solution_type : solution.kind ≡ Some kinds.Tour
  pub only : solution.tours ≡ Some (tour ∷ [])
  pub is_tour : IsTour problem tour
  pub as_claimed : (claim : ℤ) → claimed ≡ Some claim → claim ≡ length_of problem.cost tour

-- A tour: it is the solution's only one, and its length is printed.
pub record IsAcceptedTour (claimed : Option ℤ) (instance solution : Fields) (report : List ℕ) : Type 0 where
  pub problem : Problem
  pub tour : List ℕ
  pub only_tour : IsOnlyTour claimed instance solution problem tour
  pub printed : report ≡ report_of instance (Tour (length_of problem.cost tour) None)

-- The solution's routes serve every customer of the instance once and within the capacity. `least` is the least number
-- of routes that carry all demands: no plan of routes has fewer. If a length is claimed, it is that of the routes.
pub record AreOnlyRoutes (claimed : Option ℤ) (instance solution : Fields) (problem : RoutingProblem) (routes : List (List ℕ))
    (least : ℕ) : Type 0 where
  pub of_instance : IsRoutingOf instance problem
  pub solution_type : solution.kind ≡ Some kinds.Tour
  pub all : solution.tours ≡ Some routes
  pub is_plan : IsPlan problem routes
  pub least_is : IsLeastRoutes (sum_int_by problem.demand (nodes_to problem.nodes)) problem.capacity least
  pub none_fewer : (other : List (List ℕ)) → IsPlan problem other → least ≤ length other
  pub as_claimed : (claim : ℤ) → claimed ≡ Some claim → claim ≡ plan_length problem.cost problem.depot routes

-- Routes: their length, their number and the least number are printed.
pub record AreAcceptedRoutes (claimed : Option ℤ) (instance solution : Fields) (report : List ℕ) : Type 0 where
  pub problem : RoutingProblem
  pub routes : List (List ℕ)
  pub least : ℕ
  pub only_routes : AreOnlyRoutes claimed instance solution problem routes least
  pub printed : report ≡ report_of instance (Routes (plan_length problem.cost problem.depot routes) (length routes) least None)

-- A tour with a certificate: it is the solution's only one; its length and the certificate's bound are printed. No tour
-- of the instance is shorter than the bound. So if the length equals the bound, no tour is shorter than this one.
pub record IsTourWithBound (by : CertificateKind) (claimed : Option ℤ) (instance solution certificate : Fields) (report : List ℕ)
    : Type 0 where
  pub problem : Problem
  pub tour : List ℕ
  pub only_tour : IsOnlyTour claimed instance solution problem tour
  pub bound : ℤ
  pub certificate_type : certificate.kind ≡ Some (kind_of by)
  pub of_certificate : IsBoundOf by instance certificate bound
  pub printed : report ≡ report_of instance (Tour (length_of problem.cost tour) (Some bound))
  pub below_tours : BoundsTours problem bound
  pub optimal : length_of problem.cost tour ≡ bound → (other : List ℕ) → IsTour problem other
      → length_of problem.cost tour ≤ℤ length_of problem.cost other

-- Routes with a certificate: its bound is printed too. No plan of the instance without empty routes is shorter than the
-- bound. So if the length equals the bound, no such plan is shorter than this one, which has no empty routes either.
pub record AreRoutesWithBound (by : CertificateKind) (claimed : Option ℤ) (instance solution certificate : Fields) (report : List ℕ)
    : Type 0 where
  pub problem : RoutingProblem
  pub routes : List (List ℕ)
  pub least : ℕ
  pub only_routes : AreOnlyRoutes claimed instance solution problem routes least
  pub filled : IsFilledPlan problem routes
  pub bound : ℤ
  pub certificate_type : certificate.kind ≡ Some (kind_of by)
  pub of_certificate : IsBoundOf by instance certificate bound
  pub printed : report
      ≡ report_of instance (Routes (plan_length problem.cost problem.depot routes) (length routes) least (Some bound))
  pub below_plans : BoundsPlans problem bound
  pub optimal : plan_length problem.cost problem.depot routes ≡ bound → (other : List (List ℕ)) → IsFilledPlan problem other
      → plan_length problem.cost problem.depot routes ≤ℤ plan_length problem.cost problem.depot other

-- no tour of the instance, or no plan without empty routes, is shorter than the bound
abbrev pub BoundsAll : Fields → ℤ → Type 0
BoundsAll instance bound = ((problem : Problem) × IsProblemOf instance problem × BoundsTours problem bound)
    ⊎ ((problem : RoutingProblem) × IsRoutingOf instance problem × BoundsPlans problem bound)

-- the instance has no tour, or no such plan
abbrev pub HasNone : Fields → Type 0
HasNone instance = ((problem : Problem) × IsProblemOf instance problem × HasNoTour problem)
    ⊎ ((problem : RoutingProblem) × IsRoutingOf instance problem × HasNoPlan problem)

-- A bound without a solution: the certificate's bound is printed, and no solution of the instance is shorter.
pub record IsAcceptedBound (by : CertificateKind) (instance certificate : Fields) (bound : ℤ) (report : List ℕ) : Type 0 where
  pub certificate_type : certificate.kind ≡ Some (kind_of by)
  pub of_certificate : IsBoundOf by instance certificate bound
  pub printed : report ≡ bound_report_of instance (Ok (Some bound))
  pub below : BoundsAll instance bound

-- With the line `bound none`: the instance has no solution.
pub record IsShownUnsolvable (by : CertificateKind) (instance certificate : Fields) (report : List ℕ) : Type 0 where
  pub certificate_type : certificate.kind ≡ Some (kind_of by)
  pub printed : report ≡ bound_report_of instance (Ok None)
  pub none : HasNone instance

-- The meaning of `yes` in a check: without a certificate, or with one.
abbrev pub IsAccepted : Option (CertificateKind × Fields) → Option ℤ → Fields → Fields → List ℕ → Type 0
IsAccepted None claimed instance solution report =
    IsAcceptedTour claimed instance solution report ⊎ AreAcceptedRoutes claimed instance solution report
IsAccepted (Some given) claimed instance solution report =
    IsTourWithBound given.0 claimed instance solution given.1 report
    ⊎ AreRoutesWithBound given.0 claimed instance solution given.1 report

-- The meaning of `yes` in a bound without a solution.
abbrev pub IsAcceptedAlone : CertificateKind → Fields → Fields → Result (Option ℤ) Reason → List ℕ → Type 0
IsAcceptedAlone by instance certificate (Ok (Some bound)) report = IsAcceptedBound by instance certificate bound report
IsAcceptedAlone by instance certificate (Ok None) report = IsShownUnsolvable by instance certificate report
IsAcceptedAlone by instance certificate (Err reason) report = ⊥

-- ---- the meaning of the length and the bound on a line of `tsp compare`

-- The solution's only tour visits every node of the instance once, uses every fixed edge, and has this length. No tour
-- of the instance is shorter than the bound.
pub record IsBoundedTour (instance solution : Fields) (length_is bound : ℤ) : Type 0 where
  pub problem : Problem
  pub of_instance : IsProblemOf instance problem
  pub tour : List ℕ
  pub only : solution.tours ≡ Some (tour ∷ [])
  pub is_tour : IsTour problem tour
  pub measured : length_is ≡ length_of problem.cost tour
  pub below_tours : (other : List ℕ) → IsTour problem other → bound ≤ℤ length_of problem.cost other

-- The solution's routes serve every customer of the instance once and within the capacity, none of them is empty, and
-- they have this length. No plan of the instance without empty routes is shorter than the bound.
pub record AreBoundedRoutes (instance solution : Fields) (length_is bound : ℤ) : Type 0 where
  pub problem : RoutingProblem
  pub of_instance : IsRoutingOf instance problem
  pub routes : List (List ℕ)
  pub all : solution.tours ≡ Some routes
  pub filled : IsFilledPlan problem routes
  pub measured : length_is ≡ plan_length problem.cost problem.depot routes
  pub below_plans : (other : List (List ℕ)) → IsFilledPlan problem other → bound ≤ℤ plan_length problem.cost problem.depot other
