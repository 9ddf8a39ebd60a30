-- Starts of runs by their last customer and the earlier ones, the one before it first: so a start with one customer
-- more has this one as its own. Label setting finds starts in this order; KeptStates.antt defines them from their first
-- customer, and laws in src/laws.rt tie the two. In no circle of docs/trust.md.
use Rattle.std.specs.Prelude.{◌≡◌, ℕ, ◌+◌, ◌≤◌, List, [], ◌∷◌, ℤ, ◌+ℤ◌}
use Rattle.tsp_theory.specs.Tour.{IsCustomer}
use Rattle.tsp_routing.specs.Runs.{RunRules, RunState, first_state, next_state, MayServe, charged, rest_weight, run_weight}
use Rattle.tsp_routing.specs.KeptStates.{IsKeptState, IsKeptStart, end_state}

-- the state after a start
abbrev pub start_state : RunRules → ℕ → List ℕ → RunState
start_state rules last [] = first_state rules last
start_state rules last (before ∷ earlier) = next_state rules (start_state rules before earlier) last

-- what one more customer adds to the weight
abbrev pub step_weight : RunRules → RunState → ℕ → ℤ
step_weight rules state next = rules.weight state.last next +ℤ charged rules state next

-- the weight so far
abbrev pub start_weight : RunRules → ℕ → List ℕ → ℤ
start_weight rules last [] = rules.weight rules.depot last
start_weight rules last (before ∷ earlier) =
    start_weight rules before earlier +ℤ step_weight rules (start_state rules before earlier) last

-- a kept start: each of its customers may be served after the earlier ones, and all of its states are kept
abbrev pub IsStart : RunRules → ℤ → ℕ → List ℕ → Type 0
IsStart rules limit last [] = IsCustomer rules.nodes rules.depot last × (rules.load last ≤ rules.room)
    × IsKeptState rules limit (first_state rules last) (rules.weight rules.depot last)
IsStart rules limit last (before ∷ earlier) = IsStart rules limit before earlier
    × MayServe rules (start_state rules before earlier) last
    × IsKeptState rules limit (next_state rules (start_state rules before earlier) last)
    (start_weight rules before earlier +ℤ step_weight rules (start_state rules before earlier) last)

-- ---- the theorems

-- A kept start is one by its last customer, with the same end and weight; and the other way round.
abbrev pub KeptStartsAreStarts : Type 0
KeptStartsAreStarts = (rules : RunRules) (limit : ℤ) (nodes : List ℕ) → IsKeptStart rules limit nodes
    → (last : ℕ) × (earlier : List ℕ) × IsStart rules limit last earlier × (start_state rules last earlier ≡ end_state rules nodes)
    × (start_weight rules last earlier +ℤ rules.weight (start_state rules last earlier).last rules.depot ≡ run_weight rules nodes)

abbrev pub StartsAreKeptStarts : Type 0
StartsAreKeptStarts = (rules : RunRules) (limit : ℤ) (last : ℕ) (earlier : List ℕ) → IsStart rules limit last earlier
    → (nodes : List ℕ) × IsKeptStart rules limit nodes × (start_state rules last earlier ≡ end_state rules nodes)
    × (start_weight rules last earlier +ℤ rules.weight (start_state rules last earlier).last rules.depot ≡ run_weight rules nodes)
