-- Circle 3 of docs/trust.md.
-- Runs: walks with memory. A run doesn't come back to a customer that it remembers (ng-routes), and it pays where it
-- serves most of a small set (limited-memory subset rows). RunBounds.antt bounds a leaf by the least run, which
-- src/run_steps.rt finds step by step by these rules. Sources: R. Baldacci, A. Mingozzi and R. Roberti, New route
-- relaxation and pricing strategies for the vehicle routing problem, 2011; M. Jepsen, B. Petersen, S. Spoorendonk and
-- D. Pisinger, Subset-row inequalities applied to the vehicle-routing problem with time windows, 2008; D. Pecin, A.
-- Pessoa, M. Poggi and E. Uchoa, Improved branch-cut-and-price for capacitated vehicle routing, 2017.
use Rattle.tsp_routing.specs.Prelude.{ℕ, Bool, true, false, not, List, [], length, ℤ, pos, All, AllPairs, sum_int_by, length_of, RoutingProblem, IsCustomer, IsPlan, plan_length, has}
use Rattle.std.specs.Prelude.{◌≡◌, ◌≢◌, ◌+◌, ◌/◌, ◌≤◌, ◌==◌, ◌&&◌, ◌||◌, if◌then◌else◌, ◌∷◌, ◌+ℤ◌, ◌*ℤ◌, ◌≤ℤ◌}
use Rattle.tsp_format.specs.Steps.{SubsetRow}
use Rattle.tsp_routing.specs.PlanLinks.{IsRoutable, IsFilledPlan, AreUnits, load_in, capacity_in_parts}

-- whether a customer keeps the parity of a row
abbrev pub keeps : SubsetRow → ℕ → Bool
keeps row customer = has row.set customer || has row.further customer

-- What runs depend on: the nodes 1 to `nodes`, one of them the depot; the load of each customer, and the most that a
-- route carries; the weights of links; the customers that each customer remembers; and rows, each with its charge.
pub record RunRules : Type 0 where
  pub nodes : ℕ
  pub depot : ℕ
  pub load : ℕ → ℕ
  pub room : ℕ
  pub weight : ℕ → ℕ → ℤ
  pub near : ℕ → List ℕ
  pub rows : List (SubsetRow × ℤ)

-- The state of a run after a customer: the load so far, that customer, the customers that are remembered, and the rows
-- whose parity is kept and odd.
pub record RunState : Type 0 where
  pub load : ℕ
  pub last : ℕ
  pub seen : ℕ → Bool
  pub odd : SubsetRow → Bool

-- the state after the first customer
abbrev pub first_state : RunRules → ℕ → RunState
first_state rules first = record { load = rules.load first; last = first; seen = λ customer. false; odd = λ row. has row.set first }

-- The state after one more customer. It remembers those that it knew, and the one before it, as far as they are near; a
-- row that it keeps is odd if one of two holds: it was odd, or the customer is in its set.
abbrev pub next_state : RunRules → RunState → ℕ → RunState
next_state rules state next = record {
  load = state.load + rules.load next;
  last = next;
  seen = λ customer. (state.seen customer || (customer == state.last)) && has (rules.near next) customer;
  odd = λ row. keeps row next && (if has row.set next then not (state.odd row) else state.odd row);
}

-- A run may go on to this customer: it isn't the last one nor one that the run remembers, and the route can carry it.
pub record MayServe (rules : RunRules) (state : RunState) (next : ℕ) : Type 0 where
  pub customer : IsCustomer rules.nodes rules.depot next
  pub other : state.last ≢ next
  pub unseen : state.seen next ≡ false
  pub within : state.load + rules.load next ≤ rules.room

-- a step to a customer in the set of an odd row is charged
abbrev pub is_charged : SubsetRow → RunState → ℕ → Bool
is_charged row state next = state.odd row && has row.set next

-- the charges of a step
abbrev pub charged : RunRules → RunState → ℕ → ℤ
charged rules state next = sum_int_by (λ priced. if is_charged priced.0 state next then priced.1 else pos 0) rules.rows

-- a run may go on through these customers, one after the other
abbrev pub IsRunRest : RunRules → RunState → List ℕ → Type 0
IsRunRest rules state [] = Unit {0}
IsRunRest rules state (next ∷ rest) = MayServe rules state next × IsRunRest rules (next_state rules state next) rest

-- the weight from a state through these customers and back to the depot, with the charges
abbrev pub rest_weight : RunRules → RunState → List ℕ → ℤ
rest_weight rules state [] = rules.weight state.last rules.depot
rest_weight rules state (next ∷ rest) =
    (rules.weight state.last next +ℤ charged rules state next) +ℤ rest_weight rules (next_state rules state next) rest

-- a run: customers, one at least, that a route can carry, none of which the run remembers when it comes to it
abbrev pub IsRunUnder : RunRules → List ℕ → Type 0
IsRunUnder rules [] = ⊥
IsRunUnder rules (first ∷ rest) =
    IsCustomer rules.nodes rules.depot first × (rules.load first ≤ rules.room) × IsRunRest rules (first_state rules first) rest

-- the weight of a run from the depot and back, with the charges
abbrev pub run_weight : RunRules → List ℕ → ℤ
run_weight rules [] = pos 0
run_weight rules (first ∷ rest) = rules.weight rules.depot first +ℤ rest_weight rules (first_state rules first) rest

-- ---- how often a row is charged

-- how often from a state on
abbrev pub charges_from : RunRules → SubsetRow → RunState → List ℕ → ℕ
charges_from rules row state [] = 0
charges_from rules row state (next ∷ rest) =
    (if is_charged row state next then 1 else 0) + charges_from rules row (next_state rules state next) rest

-- how often on a run
abbrev pub charges : RunRules → SubsetRow → List ℕ → ℕ
charges rules row [] = 0
charges rules row (first ∷ rest) = charges_from rules row (first_state rules first) rest

-- how often on all routes of a plan
abbrev pub plan_charges : RunRules → SubsetRow → List (List ℕ) → ℕ
plan_charges rules row [] = 0
plan_charges rules row (route ∷ routes) = charges rules row route + plan_charges rules row routes

-- how many of these customers are in the set
abbrev pub count_in : List ℕ → List ℕ → ℕ
count_in set [] = 0
count_in set (customer ∷ customers) = (if has set customer then 1 else 0) + count_in set customers

-- half of the set, rounded down: so often is a row charged at most
abbrev pub half : SubsetRow → ℕ
half row = length row.set / 2

-- the charges of all rows, each as often as that
abbrev pub halves_total : List (SubsetRow × ℤ) → ℤ
halves_total rows = sum_int_by (λ priced. pos (half priced.0) *ℤ priced.1) rows

-- no charge is below 0
abbrev pub AreCharges : List (SubsetRow × ℤ) → Type 0
AreCharges rows = All (λ priced. pos 0 ≤ℤ priced.1) rows

-- ---- the theorems

-- Customers of which none comes twice, and that a route can carry, are a run: it remembers none but earlier ones.
abbrev pub ApartCustomersAreRuns : Type 0
ApartCustomersAreRuns = (rules : RunRules) (nodes : List ℕ) → nodes ≢ [] → All (IsCustomer rules.nodes rules.depot) nodes
    → AllPairs (λ a b. a ≢ b) nodes → sum_int_by (λ node. pos (rules.load node)) nodes ≤ℤ pos rules.room → IsRunUnder rules nodes

-- So each route of a filled plan is a run, by loads in units.
abbrev pub RoutesAreRuns : Type 0
RoutesAreRuns = (problem : RoutingProblem) (unit light : ℕ) (weight : ℕ → ℕ → ℤ) (near : ℕ → List ℕ) (rows : List (SubsetRow × ℤ))
    (routes : List (List ℕ))
    → IsRoutable problem → AreUnits problem unit light → IsFilledPlan problem routes
    → All (IsRunUnder (record {
      nodes = problem.nodes;
      depot = problem.depot;
      load = load_in problem unit light;
      room = capacity_in_parts problem unit light;
      weight = weight;
      near = near;
      rows = rows;
    })) routes

-- The weight of a run is that of its links, and each row's charge as often as the row is charged.
abbrev pub RunsWeighLinksAndCharges : Type 0
RunsWeighLinksAndCharges = (rules : RunRules) (nodes : List ℕ) → nodes ≢ []
    → run_weight rules nodes
    ≡ length_of rules.weight (rules.depot ∷ nodes) +ℤ sum_int_by (λ priced. pos (charges rules priced.0 nodes) *ℤ priced.1) rules.rows

-- A row is charged at most once for every two customers in its set.
abbrev pub RowsAreChargedForTwo : Type 0
RowsAreChargedForTwo = (rules : RunRules) (row : SubsetRow) (nodes : List ℕ) → charges rules row nodes ≤ count_in row.set nodes / 2

-- All routes of a plan together are charged for a row at most half as often as its set has customers.
abbrev pub PlansAreChargedHalf : Type 0
PlansAreChargedHalf = (rules : RunRules) (row : SubsetRow) (problem : RoutingProblem) (routes : List (List ℕ))
    → IsPlan problem routes → plan_charges rules row routes ≤ half row

-- So all routes weigh at most what their links do, and each row's charge half as often as its set has customers.
abbrev pub PlansWeighAtMost : Type 0
PlansWeighAtMost = (rules : RunRules) (problem : RoutingProblem) (routes : List (List ℕ)) → AreCharges rules.rows
    → IsFilledPlan problem routes
    → sum_int_by (run_weight rules) routes ≤ℤ (plan_length rules.weight rules.depot routes +ℤ halves_total rules.rows)
