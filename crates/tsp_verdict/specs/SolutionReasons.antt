-- The verdict on a tour or on routes without a certificate: the first reason that applies, in the order in which
-- reasons are judged. src/tour.rt and src/routes.rt find it. The line `no` rests on it, and `yes` doesn't, so it is in
-- no circle of docs/trust.md. example_check and tsp_judge import it, too.
use Rattle.tsp_verdict.specs.Prelude.{concat, All, Contains, ℕ, Bool, List, length, slice_index, slice_index_or, [], unwrap_or, false, None, Some, ℤ, pos, nodes_to, IsFirstAsymmetric, cost, fixed_of, Fields, nodes_of, is_tour_file, Uses, length_of, load_of, IsCustomer, demand_of, plan_length, IsLeastRoutes, is_directed, IsTourOf, demands_of, depot_of, IsPlanOf, depots_of, capacity_of, rank_of, Reason, NotASolution, TooFewNodes, NotSymmetric, Dimension, TourCount, TourLength, NodeOutOfRange, RepeatedNode, FixedEdgeUnused, DepotCount, DepotDemand, FixedEdgesInRoutes, DepotInRoute, Unserved, Overload, Verdict}
use Rattle.std.specs.Prelude.{◌≡◌, ◌-◌, ◌<◌, ◌≤◌, ◌≢◌, ◌∷◌, ◌<ℤ◌}
use Rattle.tsp_format.specs.declared.kinds.Kind.TheVariants as kinds
use Rattle.tsp_theory.specs.First.{IsFirst, IsFirstPlace}
use Rattle.tsp_report.specs.declared.verdict.Verdict.TheVariants as verdicts

-- the node at a place of a list of nodes
abbrev pub node_at : List ℕ → ℕ → ℕ
node_at nodes place = slice_index nodes (place - 1)

-- P holds at none of the first `count` places
abbrev pub HoldsAtNone : (ℕ → Type 0) → ℕ → Type 0
HoldsAtNone P count = (place : ℕ) → 1 ≤ place → place ≤ count → P place → ⊥

-- the node at the place is larger than n
abbrev pub IsLarger : ℕ → List ℕ → ℕ → Type 0
IsLarger n nodes place = n < node_at nodes place

-- the node at the place is this one
abbrev pub IsAt : ℕ → List ℕ → ℕ → Type 0
IsAt node nodes place = node_at nodes place ≡ node

-- the node at the place is at an earlier place too
abbrev pub IsAtEarlierPlace : List ℕ → ℕ → Type 0
IsAtEarlierPlace nodes place = (earlier : ℕ) × (1 ≤ earlier) × (earlier < place) × (node_at nodes earlier ≡ node_at nodes place)

-- the pair at the place isn't used by the nodes
abbrev pub IsUnused : Bool → List ℕ → List (ℕ × ℕ) → ℕ → Type 0
IsUnused directed nodes pairs place = Uses directed nodes (slice_index_or pairs (place - 1) (0, 0)) → ⊥

-- ---- the first of the reasons that apply, in the order in which they are judged

-- none of the reasons applies whose rank is below this one
abbrev pub NoneBefore : (Reason → Type 0) → ℕ → Type 0
NoneBefore Applies rank = (reason : Reason) → rank_of reason < rank → Applies reason → ⊥

-- the reason applies, and none that is judged before it
abbrev pub IsFirstReason : (Reason → Type 0) → Reason → Type 0
IsFirstReason Applies reason = IsFirst rank_of Applies (λ earlier. Applies earlier → ⊥) reason

-- ---- the tours or routes of a solution's file, and all nodes of these

-- the tours, or routes; if a file has none, a reason applies before they are judged
abbrev pub tours_of : Fields → List (List ℕ)
tours_of f = unwrap_or f.tours []

-- the nodes of all tours, one after the other
abbrev pub visited : Fields → List ℕ
visited f = concat (tours_of f)

-- ---- the verdict on a tour without a certificate

-- When a reason applies to a tour: those of the files, of the tour and of the nodes of it. No other reason does.
abbrev pub AppliesToTour : Fields → Fields → Reason → Type 0
AppliesToTour instance solution NotASolution = is_tour_file solution.kind ≡ false
AppliesToTour instance solution TooFewNodes = nodes_of instance < 3
AppliesToTour instance solution (NotSymmetric i j) = (instance.kind ≡ Some kinds.Tsp)
    × IsFirstAsymmetric (nodes_of instance) (cost instance) (i, j)
AppliesToTour instance solution Dimension = (n : ℕ) × (solution.dimension ≡ Some n) × (n ≢ nodes_of instance)
AppliesToTour instance solution TourCount = length (tours_of solution) ≢ 1
AppliesToTour instance solution TourLength = length (visited solution) ≢ nodes_of instance
AppliesToTour instance solution (NodeOutOfRange place) = IsFirstPlace (IsLarger (nodes_of instance) (visited solution))
    (visited solution) place
AppliesToTour instance solution (RepeatedNode place) = IsFirstPlace (IsAtEarlierPlace (visited solution))
    (visited solution) place
AppliesToTour instance solution (FixedEdgeUnused index) =
    IsFirstPlace (IsUnused (is_directed instance.kind) (visited solution) (fixed_of instance)) (fixed_of instance) index
AppliesToTour instance solution reason = ⊥

-- none of the reasons applies that are judged before this one
abbrev pub NoneOfTourBefore : Fields → Fields → Reason → Type 0
NoneOfTourBefore instance solution reason = NoneBefore (AppliesToTour instance solution) (rank_of reason)

-- the reason is the first one that applies
abbrev pub IsFirstAgainstTour : Fields → Fields → Reason → Type 0
IsFirstAgainstTour instance solution reason = IsFirstReason (AppliesToTour instance solution) reason

-- No: the first reason that applies. Tour: no reason applies, the solution's only tour is a tour of the instance, and
-- this is its length, without a bound.
abbrev pub IsTourVerdict : Fields → Fields → Verdict → Type 0
IsTourVerdict instance solution (verdicts.No reason) = IsFirstAgainstTour instance solution reason
IsTourVerdict instance solution (verdicts.Tour length bound) =
    ((reason : Reason) → AppliesToTour instance solution reason → ⊥)
    × ((tour : List ℕ) × (tours_of solution ≡ tour ∷ []) × IsTourOf instance tour × (length ≡ length_of (cost instance) tour))
    × (bound ≡ None)
IsTourVerdict instance solution (verdicts.Routes length routes least bound) = ⊥

-- No reason applies that comes before those about the nodes of the tour.
abbrev pub NoneOfTourBeforeNodes : Fields → Fields → Type 0
NoneOfTourBeforeNodes instance solution = (place : ℕ) → NoneOfTourBefore instance solution (NodeOutOfRange place)

-- No reason up to `NodeOutOfRange` applies: they are found without memory.
abbrev pub NoneOfTourBeforeRepeats : Fields → Fields → Type 0
NoneOfTourBeforeRepeats instance solution = (place : ℕ) → NoneOfTourBefore instance solution (RepeatedNode place)

-- ---- plans of routes of an instance

-- the sum of all demands
abbrev pub total_of : Fields → ℤ
total_of f = load_of (demands_of f) (nodes_to (nodes_of f))

-- all nodes of the solution are customers of the instance
abbrev pub AreCustomers : Fields → Fields → Type 0
AreCustomers instance solution = All (IsCustomer (nodes_of instance) (depot_of instance)) (visited solution)

-- ---- the verdict on routes without a certificate

-- the least customer that isn't among the nodes
abbrev pub IsFirstUnserved : ℕ → ℕ → List ℕ → ℕ → Type 0
IsFirstUnserved n depot nodes node = IsFirst (λ k. k) (λ k. IsCustomer n depot k × (Contains nodes k → ⊥))
    (λ k. IsCustomer n depot k → Contains nodes k) node

-- the demands of the route sum to more than the capacity
abbrev pub IsOverloaded : List ℤ → ℤ → List (List ℕ) → ℕ → Type 0
IsOverloaded demands capacity routes place = capacity <ℤ load_of demands (slice_index_or routes (place - 1) [])

-- When a reason applies to routes: those of the files, the depot, the nodes and the loads. No other reason does.
abbrev pub AppliesToRoutes : Fields → Fields → Reason → Type 0
AppliesToRoutes instance solution NotASolution = is_tour_file solution.kind ≡ false
AppliesToRoutes instance solution TooFewNodes = nodes_of instance < 2
AppliesToRoutes instance solution Dimension = (n : ℕ) × (solution.dimension ≡ Some n) × (n ≢ nodes_of instance)
AppliesToRoutes instance solution (NodeOutOfRange place) = IsFirstPlace (IsLarger (nodes_of instance) (visited solution))
    (visited solution) place
AppliesToRoutes instance solution (RepeatedNode place) = IsFirstPlace (IsAtEarlierPlace (visited solution))
    (visited solution) place
AppliesToRoutes instance solution DepotCount = length (depots_of instance) ≢ 1
AppliesToRoutes instance solution DepotDemand = demand_of (demands_of instance) (depot_of instance) ≢ pos 0
AppliesToRoutes instance solution FixedEdgesInRoutes = 1 ≤ length (fixed_of instance)
AppliesToRoutes instance solution (DepotInRoute place) = IsFirstPlace (IsAt (depot_of instance) (visited solution))
    (visited solution) place
AppliesToRoutes instance solution (Unserved node) = IsFirstUnserved (nodes_of instance) (depot_of instance)
    (visited solution) node
AppliesToRoutes instance solution (Overload route) =
    IsFirstPlace (IsOverloaded (demands_of instance) (capacity_of instance) (tours_of solution)) (tours_of solution) route
AppliesToRoutes instance solution reason = ⊥

-- none of the reasons applies that are judged before this one
abbrev pub NoneOfRoutesBefore : Fields → Fields → Reason → Type 0
NoneOfRoutesBefore instance solution reason = NoneBefore (AppliesToRoutes instance solution) (rank_of reason)

-- the reason is the first one that applies
abbrev pub IsFirstAgainstRoutes : Fields → Fields → Reason → Type 0
IsFirstAgainstRoutes instance solution reason = IsFirstReason (AppliesToRoutes instance solution) reason

-- Accepted routes: they are a plan of the instance, without empty routes, of this length and number. No plan at all has
-- fewer routes than the least number that carries all demands.
pub record IsPlanned (instance : Fields) (plan : List (List ℕ)) (length_is : ℤ) (routes least : ℕ) : Type 0 where
  pub plan_of : IsPlanOf instance plan
  pub filled : All (λ route. route ≢ []) plan
  pub measured : length_is ≡ plan_length (cost instance) (depot_of instance) plan
  pub counted : routes ≡ length plan
  pub least_is : IsLeastRoutes (total_of instance) (capacity_of instance) least
  pub none_fewer : (other : List (List ℕ)) → IsPlanOf instance other → least ≤ length other

-- No: the first reason that applies. Routes: no reason applies, and the routes of the solution are a plan, without a
-- bound.
abbrev pub IsRoutesVerdict : Fields → Fields → Verdict → Type 0
IsRoutesVerdict instance solution (verdicts.No reason) = IsFirstAgainstRoutes instance solution reason
IsRoutesVerdict instance solution (verdicts.Routes length_is routes least bound) =
    ((reason : Reason) → AppliesToRoutes instance solution reason → ⊥)
    × IsPlanned instance (tours_of solution) length_is routes least × (bound ≡ None)
IsRoutesVerdict instance solution (verdicts.Tour length_is bound) = ⊥

-- No reason applies that comes before those about the nodes of the routes.
abbrev pub NoneOfRoutesBeforePlaces : Fields → Fields → Type 0
NoneOfRoutesBeforePlaces instance solution = (place : ℕ) → NoneOfRoutesBefore instance solution (DepotInRoute place)

-- No reason up to `NodeOutOfRange` applies: they are found without memory.
abbrev pub NoneOfRoutesBeforeRepeats : Fields → Fields → Type 0
NoneOfRoutesBeforeRepeats instance solution = (place : ℕ) → NoneOfRoutesBefore instance solution (RepeatedNode place)
