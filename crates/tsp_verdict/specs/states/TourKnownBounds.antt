-- What is known before a solution is judged: the costs that its tours are judged by (`AreTourCosts`, for
-- `src/tour.rt`), and what was found for all solutions, as a reason against the instance (`against_instance`, for
-- `src/known_bound.rt`) and in a verdict (`with_found`, for `src/solution_verdict.rt`). You may change it with the
-- code, because `IsVerdictWith` defines the verdict.
use Rattle.tsp_verdict.specs.Prelude.{Option, None, Some, MatchOption, IsSymmetric, cost, Fields, Reason, TooFewNodes, NotSymmetric, Verdict, Ok, Err, BoundVerdict}
use Rattle.std.specs.Prelude.{◌≡◌}
use Rattle.tsp_format.specs.declared.kinds.Kind.TheVariants as kinds
use Rattle.tsp_cost.specs.states.Views.{IsViewOf, ShowsSymmetric}
use Rattle.tsp_report.specs.declared.verdict.Verdict.TheVariants.{Tour, Routes, No}
use Rattle.tsp_verdict.specs.Certified.{AppliesToTouring, NoneAgainstTouring}
use Rattle.tsp_verdict.specs.SolutionReasons.{IsFirstReason}
use Rattle.tsp_verdict.specs.declared.tour.TourCosts.{TourCosts}
use Rattle.tsp_verdict.specs.declared.tour.TourCosts.TheVariants.{Undirected, Directed}

-- the reason that was found against all tours, if it is one against the instance
abbrev pub against_instance : Option BoundVerdict → Option Reason
against_instance (Some (Err TooFewNodes)) = Some TooFewNodes
against_instance (Some (Err (NotSymmetric i j))) = Some (NotSymmetric i j)
against_instance found = None

-- it is the first one against the instance; without it none applies to the instance
abbrev pub KnowsInstance : Fields → Option BoundVerdict → Type 0
KnowsInstance instance found = MatchOption (against_instance found) (NoneAgainstTouring instance)
    (λ reason. IsFirstReason (AppliesToTouring instance) reason)

-- ---- the costs of an instance of TYPE TSP or ATSP while its tours are judged: a view of it

-- the costs are those of the instance; under TYPE TSP they are the same in both directions
abbrev pub AreTourCosts : Fields → TourCosts → Type 0
AreTourCosts instance (Undirected view) = (instance.kind ≡ Some kinds.Tsp) × ShowsSymmetric instance view × IsSymmetric (cost instance)
AreTourCosts instance (Directed view) = (instance.kind ≡ Some kinds.Atsp) × IsViewOf instance view

-- under TYPE TSP the costs are the same in both directions
abbrev pub IsSymmetricTsp : Fields → Type 0
IsSymmetricTsp instance = instance.kind ≡ Some kinds.Tsp → IsSymmetric (cost instance)

-- ---- the verdict on a solution by what was found for all solutions

-- an accepted solution has the bound, or is rejected with the reason against the certificate
abbrev pub with_found : Verdict → Option BoundVerdict → Verdict
with_found (Tour length own) (Some (Ok bound)) = Tour length bound
with_found (Tour length own) (Some (Err reason)) = No reason
with_found (Routes length routes least own) (Some (Ok bound)) = Routes length routes least bound
with_found (Routes length routes least own) (Some (Err reason)) = No reason
with_found verdict found = verdict
