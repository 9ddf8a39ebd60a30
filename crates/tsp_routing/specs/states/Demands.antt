-- The demands of a CVRP as code holds them: within the limits of files (`AreDemands`), rounded down to units
-- (`AreUnitLoads`), and by node (`load_at`). `src/demands.rt` promises them, and most files of this crate name them.
-- The middle part is the table of q-routes while `src/least_q_route.rt` fills it, and may follow that code.
use Rattle.tsp_routing.specs.Prelude.{Vec, All, ℕ, length, ℤ, pos, List, slice_index_or, neg_ℤ, most_nodes, most_demand, most_capacity, IsNode, IsFromTo, RoutingProblem, demand_of, IsCustomer}
use Rattle.std.specs.Prelude.{◌≡◌, ◌≤◌, ◌==◌, if◌then◌else◌, ◌⊎◌, ◌+◌, ◌*◌, ◌<◌, ◌+ℤ◌, ◌≤ℤ◌}
use Rattle.tsp_routing.specs.PlanLinks.{is_light, AreUnits, load_in, capacity_in_parts}
use Rattle.tsp_routing.specs.QRoutes.{QRouteEntry, IsLow, IsMet}
use Rattle.tsp_routing.specs.declared.demands.Demands.{Demands}
use Rattle.tsp_routing.specs.declared.least_q_route.Onward.{Onward}
use Rattle.tsp_routing.specs.declared.demands.UnitLoads.{UnitLoads}

-- ---- the routing problem of a depot, demands and a capacity, with any costs

-- the routing problem with these costs
abbrev pub loads_problem : Demands → (ℕ → ℕ → ℤ) → RoutingProblem
loads_problem loads cost = record {
  nodes = loads.nodes;
  cost = cost;
  depot = loads.depot;
  demand = demand_of loads.demands.now;
  capacity = loads.capacity;
}

-- the depot is a node, and the demands and the capacity are within the limits of files
pub record AreDemands (loads : Demands) : Type 0 where
  pub few : loads.nodes ≤ most_nodes
  pub depot_in : IsNode loads.nodes loads.depot
  pub each : length loads.demands.now ≡ loads.nodes
  pub demands_are : All (IsFromTo (pos 0) (pos most_demand)) loads.demands.now
  pub capacity_is : IsFromTo (pos 1) (pos most_capacity) loads.capacity

-- a number of each node but the depot, which has 0
abbrev pub of_others : ℕ → (ℕ → ℤ) → ℕ → ℤ
of_others depot f x = if x == depot then pos 0 else f x

-- ---- rows of the table by load, in memory

-- the load of a node, in the list of all loads
abbrev pub load_at : List ℕ → ℕ → ℕ
load_at loads node = slice_index_or loads node 0

-- the weights between nodes are at most this in size
abbrev pub AreLinks : ℕ → ℕ → (ℕ → ℕ → ℤ) → Type 0
AreLinks link n w = (i j : ℕ) → IsNode n i → IsNode n j → IsFromTo (neg_ℤ (pos link)) (pos link) (w i j)

-- the entry that a value of `Onward` is; `value` gives its sums as integers
abbrev pub onward_entry : {S : Type 0} → (S → ℤ) → Onward S → QRouteEntry
onward_entry value onward = record { least = value onward.least; next = onward.next; other = value onward.other }

-- the entry of a node in a row
abbrev pub entry_at : {S : Type 0} → (S → ℤ) → List (Onward S) → Onward S → ℕ → QRouteEntry
entry_at value row default node = onward_entry value (slice_index_or row node default)

-- the number is the weight of a walk, of at most this size; or it is far from those, and says that there is no walk
abbrev pub IsNearOrFar : ℕ → ℕ → ℤ → Type 0
IsNearOrFar half size number = (number ≤ℤ pos size) ⊎ (pos (2 * half) ≤ℤ (number +ℤ pos size))

-- how large a number of an entry is
abbrev pub IsEntryNumber : ℕ → ℕ → ℤ → Type 0
IsEntryNumber half size number =
    (neg_ℤ (pos size) ≤ℤ number) × (number ≤ℤ pos (2 * half)) × IsNearOrFar half size number

-- how large both numbers of an entry are
pub record IsEntrySized (half size : ℕ) (entry : QRouteEntry) : Type 0 where
  pub least : IsEntryNumber half size entry.least
  pub other : IsEntryNumber half size entry.other

-- a row with an entry for 0 and for each node, all of this size
pub record IsRowSized {S : Type 0} (value : S → ℤ) (half nodes size : ℕ) (row : List (Onward S)) : Type 0 where
  pub places : length row ≡ nodes + 1
  pub sizes : All (λ onward. IsEntrySized half size (onward_entry value onward)) row

-- rows whose size grows with the load by that of a link
abbrev pub AreRowsSized : {S : Type 0} → (S → ℤ) → ℕ → ℕ → ℕ → List (Vec (Onward S)) → Type 0
AreRowsSized {S} value half link nodes table = (load : ℕ) (default : Vec (Onward S)) → load < length table
    → IsRowSized value half nodes ((load + 1) * link) (slice_index_or table load default).items

-- each entry of a row is at most the weight of any rest of a walk from its node
abbrev pub IsRowLow : {S : Type 0} → (S → ℤ) → ℕ → ℕ → (ℕ → ℕ → ℤ) → (ℕ → ℕ) → ℕ → List (Onward S) → Type 0
IsRowLow {S} value n depot w load left row = (node : ℕ) (default : Onward S) → IsCustomer n depot node
    → IsLow n depot w load left node (entry_at value row default node)

-- the same of the rows of all loads from 0 on
abbrev pub AreRowsLow : {S : Type 0} → (S → ℤ) → ℕ → ℕ → (ℕ → ℕ → ℤ) → (ℕ → ℕ) → List (Vec (Onward S)) → Type 0
AreRowsLow {S} value n depot w load table = (left : ℕ) (default : Vec (Onward S)) → left < length table
    → IsRowLow value n depot w load left (slice_index_or table left default).items

-- the numbers of each entry are the weights of rests of walks
abbrev pub IsRowMet : {S : Type 0} → (S → ℤ) → ℕ → ℕ → ℕ → (ℕ → ℕ → ℤ) → (ℕ → ℕ) → ℕ → List (Onward S) → Type 0
IsRowMet {S} value half n depot w load left row = (node : ℕ) (default : Onward S) → IsCustomer n depot node
    → IsMet half n depot w load left node (entry_at value row default node)

-- the same of the rows of all loads from 0 on
abbrev pub AreRowsMet : {S : Type 0} → (S → ℤ) → ℕ → ℕ → ℕ → (ℕ → ℕ → ℤ) → (ℕ → ℕ) → List (Vec (Onward S)) → Type 0
AreRowsMet {S} value half n depot w load table = (left : ℕ) (default : Vec (Onward S)) → left < length table
    → IsRowMet value half n depot w load left (slice_index_or table left default).items

-- an entry after one next node more was tried: that is the best now, or the second, or neither
abbrev pub IsChosen : QRouteEntry → ℕ → ℤ → QRouteEntry → Type 0
IsChosen best next weight new =
    ((new.least ≡ weight) × (new.next ≡ next) × (new.other ≡ best.least))
    ⊎ (((new.least ≡ best.least) × (new.next ≡ best.next) × (new.other ≡ weight))
    ⊎ ((new.least ≡ best.least) × (new.next ≡ best.next) × (new.other ≡ best.other)))

-- ---- the loads of all nodes and the capacity of a route, in parts of units

-- 1 for a customer that demands less than a unit, else 0
abbrev pub light_in : RoutingProblem → ℕ → ℕ → ℤ
light_in problem unit node = of_others problem.depot (is_light problem unit) node

-- the loads and the capacity are those of PlanLinks.antt
pub record AreUnitLoads (demands : Demands) (unit : ℕ) (units : UnitLoads) : Type 0 where
  pub are : (cost : ℕ → ℕ → ℤ) → AreUnits (loads_problem demands cost) unit units.light
  pub places : length units.loads.items ≡ demands.nodes + 1
  pub loads_are : (cost : ℕ → ℕ → ℤ) (node : ℕ) → IsNode demands.nodes node
      → load_at units.loads.items node ≡ load_in (loads_problem demands cost) unit units.light node
  pub room_is : (cost : ℕ → ℕ → ℤ) → units.room ≡ capacity_in_parts (loads_problem demands cost) unit units.light
