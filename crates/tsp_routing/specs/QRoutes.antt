-- Circle 3 of docs/trust.md.
-- The least q-route: a walk from the depot and back within the capacity. Bounds rest on the first part. The second part
-- is the table by which src/least_q_route.rt finds the least weight.
use Rattle.tsp_routing.specs.Prelude.{All, AllByRecursion, Option, Some, None, ℤ, ℕ, List, [], pos, sum_int_by, length_of, RoutingProblem, IsCustomer, links_to}
use Rattle.std.specs.Prelude.{◌≡◌, ◌≤ℤ◌, ◌≢◌, ◌∷◌, ◌⊎◌, ◌*◌, ◌≤◌, ◌==◌, if◌then◌else◌, ◌+ℤ◌}
use Rattle.tsp_theory.specs.Tree.{weight_of}
use Rattle.tsp_routing.specs.PlanLinks.{IsRoutable, IsFilledPlan, AreUnits, load_in, capacity_in_parts}

-- Some: the least number of an element of which P holds. None: P holds of no element.
abbrev pub IsLeastAmong : {X : Type 0} → (X → Type 0) → (X → ℤ) → Option ℤ → Type 0
IsLeastAmong {X} P f (Some least) = ((x : X) × P x × (least ≡ f x)) × ((x : X) → P x → least ≤ℤ f x)
IsLeastAmong {X} P f None = (x : X) → P x → ⊥

-- ---- walks: lists of customers that load no more than a route may

-- the first of these nodes isn't this one
abbrev pub BeginsOther : ℕ → List ℕ → Type 0
BeginsOther node [] = Unit {0}
BeginsOther node (next ∷ rest) = node ≢ next

-- neither the first nor the second of these nodes is this one
abbrev pub IsStraightFrom : ℕ → List ℕ → Type 0
IsStraightFrom node [] = Unit {0}
IsStraightFrom node (next ∷ rest) = (node ≢ next) × BeginsOther node rest

-- each node differs from the next one and from the one after that
abbrev pub IsStraight : List ℕ → Type 0
IsStraight [] = Unit {0}
IsStraight (node ∷ rest) = IsStraightFrom node rest × IsStraight rest

-- customers, one at least, whose loads sum to at most `room`; a customer may come again, but neither next nor right
-- after the next one
pub record IsQRoute (n depot : ℕ) (load : ℕ → ℕ) (room : ℕ) (nodes : List ℕ) : Type 0 where
  pub some : nodes ≢ []
  pub customers : All (IsCustomer n depot) nodes
  pub within : sum_int_by (λ node. pos (load node)) nodes ≤ℤ pos room
  pub straight : IsStraight nodes

-- no walk from the depot and back weighs less than `each`
abbrev pub IsBelowQRoutes : ℕ → ℕ → (ℕ → ℕ) → ℕ → (ℕ → ℕ → ℤ) → ℤ → Type 0
IsBelowQRoutes n depot load room w each =
    (nodes : List ℕ) → IsQRoute n depot load room nodes → each ≤ℤ length_of w (depot ∷ nodes)

-- ---- the theorem

-- Each route of a filled plan is such a walk, by loads in units.
abbrev pub RoutesAreQRoutes : Type 0
RoutesAreQRoutes = (problem : RoutingProblem) (unit light : ℕ) (routes : List (List ℕ))
    → IsRoutable problem → AreUnits problem unit light → IsFilledPlan problem routes
    → All (IsQRoute problem.nodes problem.depot (load_in problem unit light) (capacity_in_parts problem unit light)) routes

-- ---- the table of the dynamic programme over walks

-- the weight from a node through others back to the depot
abbrev pub onward_weight : (ℕ → ℕ → ℤ) → ℕ → ℕ → List ℕ → ℤ
onward_weight w depot node rest = weight_of w (links_to depot node rest)

-- the rest of a walk from a customer through others, whose loads sum to at most `left`
pub record IsQRouteRest (n depot : ℕ) (load : ℕ → ℕ) (left node : ℕ) (rest : List ℕ) : Type 0 where
  pub customers : AllByRecursion (IsCustomer n depot) (node ∷ rest)
  pub within : sum_int_by (λ other. pos (load other)) (node ∷ rest) ≤ℤ pos left
  pub straight : IsStraight (node ∷ rest)

-- the node that comes next: the first of the rest, or the depot
abbrev pub first_or_depot : ℕ → List ℕ → ℕ
first_or_depot depot [] = depot
first_or_depot depot (next ∷ rest) = next

-- An entry: the least weight of the rests of walks from a node; the node that comes next on such a rest; and the least
-- weight of the rests on which another node comes next.
pub record QRouteEntry : Type 0 where
  pub least : ℤ
  pub next : ℕ
  pub other : ℤ

-- the least weight of a rest for a walk that came from `from`: it doesn't go back there at once
abbrev pub least_from : QRouteEntry → ℕ → ℤ
least_from entry from = if entry.next == from then entry.other else entry.least

-- The entry is no more than the weight of a rest on which `next` comes next: its least weight is no more, nor is its
-- other one, if that is about such rests.
abbrev pub IsAtMost : QRouteEntry → ℕ → ℤ → Type 0
IsAtMost entry next weight = (entry.least ≤ℤ weight) × (next ≢ entry.next → entry.other ≤ℤ weight)

-- the entry is no more than a step back to the depot, or a step to a customer up to `last` and the entry there
pub record IsEntryBelowTo (n depot : ℕ) (w : ℕ → ℕ → ℤ) (known : ℕ → QRouteEntry) (node last : ℕ) (entry : QRouteEntry) : Type 0 where
  pub back : IsAtMost entry depot (w node depot)
  pub on : (next : ℕ) → IsCustomer n depot next → node ≢ next → next ≤ last
      → IsAtMost entry next (w node next +ℤ least_from (known next) node)

-- the number is no more than any step from the depot to a customer and the entry there
abbrev pub IsStartBelow : ℕ → ℕ → (ℕ → ℕ → ℤ) → (ℕ → QRouteEntry) → ℤ → Type 0
IsStartBelow n depot w known each = (next : ℕ) → IsCustomer n depot next → each ≤ℤ (w depot next +ℤ (known next).least)

-- the entry is no more than the weight of any rest of a walk from the node
abbrev pub IsLow : ℕ → ℕ → (ℕ → ℕ → ℤ) → (ℕ → ℕ) → ℕ → ℕ → QRouteEntry → Type 0
IsLow n depot w load left node entry = (rest : List ℕ) → IsQRouteRest n depot load left node rest
    → IsAtMost entry (first_or_depot depot rest) (onward_weight w depot node rest)

-- ---- entries that are the weights of walks

-- A number up to `half` is the weight of a walk; one above it, which is near twice `half`, says that there is no walk.
abbrev pub IsReal : ℕ → ℤ → Type 0
IsReal half number = number ≤ℤ pos half

-- the number is that of a step from the node back to the depot, or to this customer and by its entry
abbrev pub IsStepTo : ℕ → ℕ → ℕ → (ℕ → ℕ → ℤ) → (ℕ → QRouteEntry) → ℕ → ℕ → ℤ → Type 0
IsStepTo half n depot w known node next number =
    ((next ≡ depot) × (number ≡ w node depot))
    ⊎ (IsCustomer n depot next × (node ≢ next) × (number ≡ w node next +ℤ least_from (known next) node)
    × (IsReal half number → IsReal half (least_from (known next) node)))

-- both numbers of the entry are those of such steps, to customers up to `last`
pub record IsEntryMetTo (half n depot : ℕ) (w : ℕ → ℕ → ℤ) (known : ℕ → QRouteEntry) (node last : ℕ) (entry : QRouteEntry) : Type 0 where
  pub least : IsStepTo half n depot w known node entry.next entry.least
  pub other : (entry.other ≡ pos (2 * half))
      ⊎ ((next : ℕ) × (next ≢ entry.next) × IsStepTo half n depot w known node next entry.other)
  pub tried : (entry.next ≡ depot) ⊎ (entry.next ≤ last)

-- some rest of a walk has the least weight, with the entry's next node; and some has the other weight, with another
-- next node
pub record IsMet (half n depot : ℕ) (w : ℕ → ℕ → ℤ) (load : ℕ → ℕ) (left node : ℕ) (entry : QRouteEntry) : Type 0 where
  pub least : IsReal half entry.least → (rest : List ℕ) × IsQRouteRest n depot load left node rest
      × (first_or_depot depot rest ≡ entry.next) × (entry.least ≡ onward_weight w depot node rest)
  pub other : IsReal half entry.other → (rest : List ℕ) × IsQRouteRest n depot load left node rest
      × (first_or_depot depot rest ≢ entry.next) × (entry.other ≡ onward_weight w depot node rest)

-- the number is that of a step from the depot to a customer, or says that there is none
abbrev pub IsStartMet : ℕ → ℕ → ℕ → (ℕ → ℕ → ℤ) → (ℕ → QRouteEntry) → ℤ → Type 0
IsStartMet half n depot w known each = (each ≡ pos (2 * half))
    ⊎ ((next : ℕ) × IsCustomer n depot next × (each ≡ w depot next +ℤ (known next).least)
    × (IsReal half each → IsReal half (known next).least))
