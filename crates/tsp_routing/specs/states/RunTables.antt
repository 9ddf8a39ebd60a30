-- The tables that label setting reads: the weights of links by node (`link_in`), and the least weight of a way home by
-- the load that a route can still carry (`AreHomeRows`). `src/run_leaf.rt` makes them, and `src/run_steps.rt` and
-- `src/run_bound.rt` read them. You may change their layout with the code, but not the ways home: `IsCompletion`
-- defines these, and they decide which certificates are accepted.
use Rattle.tsp_routing.specs.Prelude.{Vec, ℕ, List, [], map, length, slice_index_or, ℤ, pos, neg_ℤ, IsNode, IsFromTo, IsCustomer, least_at}
use Rattle.std.specs.Prelude.{◌≡◌, ◌+◌, ◌-◌, ◌*◌, ◌^◌, ◌≤◌, ◌<◌, ◌+ℤ◌, ◌≤ℤ◌, ◌⊎◌, ◌≢◌}
use Rattle.tsp_routing.specs.PlanBounds.{most_link}
use Rattle.tsp_routing.specs.Runs.{RunRules}
use Rattle.tsp_format.specs.Steps.{SubsetRow}
use Rattle.tsp_routing.specs.KeptStates.{IsCompletion}
use Rattle.tsp_routing.specs.states.Demands.{load_at}

-- ---- the weights of links, as rows by node

-- the lists that these vectors have
abbrev pub item_lists : {X : Type 0} → List (Vec X) → List (List X)
item_lists {X} vectors = map (λ (v : Vec X). v.items) vectors

-- the row of a node
abbrev pub row_in : List (Vec ℤ) → ℕ → List ℤ
row_in rows node = slice_index_or (item_lists rows) (node - 1) []

-- the weight of a link
abbrev pub link_in : List (Vec ℤ) → ℕ → ℕ → ℤ
link_in rows from to = least_at (row_in rows from) to

-- a row for each of the nodes 1..n, with a place for each node and one more, and weights within their limit
pub record AreLinkRows (n : ℕ) (rows : List (Vec ℤ)) : Type 0 where
  pub many : length rows ≡ n
  pub places : (node : ℕ) → IsNode n node → length (row_in rows node) ≡ n + 1
  pub sizes : (i j : ℕ) → IsNode n i → IsNode n j → IsFromTo (neg_ℤ (pos most_link)) (pos most_link) (link_in rows i j)

-- the rules of runs by loads and weights in memory
abbrev pub rules_by : ℕ → ℕ → List ℕ → ℕ → List (Vec ℤ) → (ℕ → List ℕ) → List (SubsetRow × ℤ) → RunRules
rules_by nodes depot loads room rows near subset_rows = record {
  nodes = nodes;
  depot = depot;
  load = load_at loads;
  room = room;
  weight = link_in rows;
  near = near;
  rows = subset_rows;
}

-- ---- the table of ways home

-- the number of a node in a row of the table, by what a route can still carry
abbrev pub home_in : List (Vec ℤ) → ℕ → ℕ → ℤ
home_in table left node = slice_index_or (slice_index_or (item_lists table) left []) node (pos 0)

-- each number of a row is the completion of its customer, at the load that leaves so much room
abbrev pub IsHomeRow : RunRules → ℕ → List ℤ → Type 0
IsHomeRow rules left row = (load node : ℕ) → load + left ≡ rules.room → IsCustomer rules.nodes rules.depot node
    → IsCompletion rules load node (slice_index_or row node (pos 0))

-- the same of all rows
abbrev pub AreHomeRows : RunRules → List (Vec ℤ) → Type 0
AreHomeRows rules table = (left : ℕ) → left < length table → IsHomeRow rules left (slice_index_or (item_lists table) left [])

-- a row has a place for each node and one more, and its numbers are no larger than so many links
pub record IsHomeRowSized (n links : ℕ) (row : List ℤ) : Type 0 where
  pub places : length row ≡ n + 1
  pub sizes : (node : ℕ) → IsNode n node
      → (neg_ℤ (pos (links * most_link)) ≤ℤ slice_index_or row node (pos 0)) × (slice_index_or row node (pos 0) ≤ℤ pos most_link)

-- the same of all rows, whose size grows by one link
abbrev pub AreHomeRowsSized : ℕ → List (Vec ℤ) → Type 0
AreHomeRowsSized n table = (left : ℕ) → left < length table
    → IsHomeRowSized n (left + 1) (slice_index_or (item_lists table) left [])

-- ---- the numbers of one row of the table, while it is made

-- more than any way home weighs: there is none
abbrev pub no_way : ℤ
no_way = pos (2 ^ 100)

-- what a way home from a customer weighs if a route that can still carry this much serves the customer next
abbrev pub IsOnward : ℕ → ℕ → List ℕ → ℕ → List (Vec ℤ) → ℕ → ℤ → Type 0
IsOnward n depot loads left table next number =
    (IsCustomer n depot next × (load_at loads next ≤ left) × (number ≡ home_in table (left - load_at loads next) next))
    ⊎ ((number ≡ no_way) × (IsCustomer n depot next → load_at loads next ≤ left → ⊥))

-- the same of a list with a number for each node
abbrev pub AreOnwards : ℕ → ℕ → List ℕ → ℕ → List (Vec ℤ) → List ℤ → Type 0
AreOnwards n depot loads left table onward = (next : ℕ) → IsNode n next
    → IsOnward n depot loads left table next (slice_index_or onward next (pos 0))

-- the number is no larger than so many links, or it says that there is no way
abbrev pub IsOnwardSized : ℕ → ℤ → Type 0
IsOnwardSized links number = (neg_ℤ (pos (links * most_link)) ≤ℤ number) × ((number ≤ℤ pos most_link) ⊎ (number ≡ no_way))

-- the same of a list with a number for each node, and one more
pub record AreOnwardsSized (n links : ℕ) (onward : List ℤ) : Type 0 where
  pub places : length onward ≡ n + 1
  pub sizes : (next : ℕ) → IsNode n next → IsOnwardSized links (slice_index_or onward next (pos 0))

-- the number is no more than a step back to the depot, or a step to a node up to `last` and on
pub record IsWayBelowTo (depot : ℕ) (rows : List (Vec ℤ)) (onward : List ℤ) (node last : ℕ) (number : ℤ) : Type 0 where
  pub back : number ≤ℤ link_in rows node depot
  pub on : (next : ℕ) → IsNode last next → node ≢ next → number ≤ℤ (link_in rows node next +ℤ slice_index_or onward next (pos 0))

-- the number is that of a step back to the depot, or of a step to a node up to `last` and on
abbrev pub IsWayMetTo : ℕ → List (Vec ℤ) → List ℤ → ℕ → ℕ → ℤ → Type 0
IsWayMetTo depot rows onward node last number = (number ≡ link_in rows node depot)
    ⊎ ((next : ℕ) × IsNode last next × (node ≢ next) × (number ≡ link_in rows node next +ℤ slice_index_or onward next (pos 0)))
