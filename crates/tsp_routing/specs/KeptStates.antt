-- Circle 3 of docs/trust.md.
-- Kept states: the states of runs that label setting has to keep, by completion bounds. The completions are plain: a
-- way home may visit customers in any order, also back and forth between two of them. The number of kept states decides
-- whether a certificate is accepted; src/kept_states.rt counts them.
use Rattle.tsp_routing.specs.Prelude.{ℕ, false, List, [], length, Some, ℤ, All, AllPairs, IsCustomer}
use Rattle.std.specs.Prelude.{◌≡◌, ◌⊎◌, ◌↔◌, ◌≤◌, ◌+◌, ◌∷◌, ◌+ℤ◌, ◌≤ℤ◌, ◌<ℤ◌}
use Rattle.tsp_routing.specs.QRoutes.{IsLeastAmong}
use Rattle.tsp_routing.specs.Runs.{RunRules, RunState, first_state, next_state, MayServe, charged, IsRunRest, rest_weight, IsRunUnder, run_weight, AreCharges}
use Rattle.tsp_routing.specs.RunBounds.{IsLeastRun}

-- the same rules without memory and without rows
abbrev pub forgetful : RunRules → RunRules
forgetful rules = record rules { near = λ customer. []; rows = [] }

-- a state that remembers nothing
abbrev pub bare_state : ℕ → ℕ → RunState
bare_state load last = record { load = load; last = last; seen = λ customer. false; odd = λ row. false }

-- a way home from a customer, at a load: customers that the route can still carry, each another one than the one before
abbrev pub IsWayHome : RunRules → ℕ → ℕ → List ℕ → Type 0
IsWayHome rules load last rest = IsRunRest (forgetful rules) (bare_state load last) rest

abbrev pub home_weight : RunRules → ℕ → ℕ → List ℕ → ℤ
home_weight rules load last rest = rest_weight (forgetful rules) (bare_state load last) rest

-- the completion: what the cheapest way home weighs
abbrev pub IsCompletion : RunRules → ℕ → ℕ → ℤ → Type 0
IsCompletion rules load last least = IsLeastAmong (IsWayHome rules load last) (home_weight rules load last) (Some least)

-- a state with this weight so far is kept: some way home ends below the limit
abbrev pub IsKeptState : RunRules → ℤ → RunState → ℤ → Type 0
IsKeptState rules limit state weight =
    (rest : List ℕ) × IsWayHome rules state.load state.last rest
    × ((weight +ℤ home_weight rules state.load state.last rest) <ℤ limit)

-- the state is kept, and so are those of going on through these customers
abbrev pub AreKeptFrom : RunRules → ℤ → RunState → ℤ → List ℕ → Type 0
AreKeptFrom rules limit state weight [] = IsKeptState rules limit state weight
AreKeptFrom rules limit state weight (next ∷ rest) = IsKeptState rules limit state weight × MayServe rules state next
    × AreKeptFrom rules limit (next_state rules state next)
    (weight +ℤ (rules.weight state.last next +ℤ charged rules state next)) rest

-- a kept start: the beginning of a run whose states are all kept
abbrev pub IsKeptStart : RunRules → ℤ → List ℕ → Type 0
IsKeptStart rules limit [] = ⊥
IsKeptStart rules limit (first ∷ rest) = IsCustomer rules.nodes rules.depot first × (rules.load first ≤ rules.room)
    × AreKeptFrom rules limit (first_state rules first) (rules.weight rules.depot first) rest

-- the state after a start
abbrev pub state_after : RunRules → RunState → List ℕ → RunState
state_after rules state [] = state
state_after rules state (next ∷ rest) = state_after rules (next_state rules state next) rest

abbrev pub end_state : RunRules → List ℕ → RunState
end_state rules [] = bare_state 0 rules.depot
end_state rules (first ∷ rest) = state_after rules (first_state rules first) rest

-- two states are the same: in load, customer, memory, and the parities of all rows
pub record AreSameStates (rules : RunRules) (a b : RunState) : Type 0 where
  pub load : a.load ≡ b.load
  pub last : a.last ≡ b.last
  pub seen : (customer : ℕ) → a.seen customer ≡ b.seen customer
  pub odd : All (λ priced. a.odd priced.0 ≡ b.odd priced.0) rules.rows

-- there are this many kept states: starts that are kept, no two of which end in the same state
abbrev pub HasKeptStates : RunRules → ℤ → ℕ → Type 0
HasKeptStates rules limit count = (starts : List (List ℕ)) × (length starts ≡ count) × All (IsKeptStart rules limit) starts
    × AllPairs (λ a b. AreSameStates rules (end_state rules a) (end_state rules b) → ⊥) starts

-- the most kept states of a leaf
abbrev pub most_states : ℕ
most_states = 10000000

-- there are more kept states than a leaf may have
abbrev pub HasTooManyStates : RunRules → ℤ → Type 0
HasTooManyStates rules limit = HasKeptStates rules limit (most_states + 1)

-- the lesser of a limit and of the least weight of a run that is a kept start
pub record IsLeastKeptRun (rules : RunRules) (limit each : ℤ) : Type 0 where
  pub within : each ≤ℤ limit
  pub below : (nodes : List ℕ) → IsKeptStart rules limit nodes → each ≤ℤ run_weight rules nodes
  pub met : (each ≡ limit) ⊎ ((nodes : List ℕ) × IsKeptStart rules limit nodes × (each ≡ run_weight rules nodes))

-- ---- the theorems

-- If there is a completion, a state is kept exactly if its weight so far and the completion are below the limit.
abbrev pub CompletionsTellKeptStates : Type 0
CompletionsTellKeptStates = (rules : RunRules) (limit : ℤ) (state : RunState) (weight least : ℤ)
    → IsCompletion rules state.load state.last least → (IsKeptState rules limit state weight ↔ ((weight +ℤ least) <ℤ limit))

-- No rest of a run weighs less than the completion.
abbrev pub CompletionsAreBelowRests : Type 0
CompletionsAreBelowRests = (rules : RunRules) (state : RunState) (rest : List ℕ) (least : ℤ) → AreCharges rules.rows
    → IsCompletion rules state.load state.last least → IsRunRest rules state rest → least ≤ℤ rest_weight rules state rest

-- A run below the limit is a kept start, and a kept start is a run.
abbrev pub RunsBelowAreKept : Type 0
RunsBelowAreKept = (rules : RunRules) (limit : ℤ) (nodes : List ℕ) → AreCharges rules.rows
    → (IsRunUnder rules nodes → run_weight rules nodes <ℤ limit → IsKeptStart rules limit nodes)
    × (IsKeptStart rules limit nodes → IsRunUnder rules nodes)

-- So only kept starts matter for the least run.
abbrev pub KeptStartsGiveLeastRuns : Type 0
KeptStartsGiveLeastRuns = (rules : RunRules) (limit each : ℤ) → AreCharges rules.rows
    → (IsLeastKeptRun rules limit each ↔ IsLeastRun rules limit each)

-- From equal states runs go on alike, so the least weight so far is enough for each of them.
abbrev pub EqualStatesGoOnAlike : Type 0
EqualStatesGoOnAlike = (rules : RunRules) (a b : RunState) (rest : List ℕ) → AreSameStates rules a b → IsRunRest rules a rest
    → IsRunRest rules b rest × (rest_weight rules a rest ≡ rest_weight rules b rest)
