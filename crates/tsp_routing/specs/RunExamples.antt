-- Small rules on which runs, charges and the bound of a leaf are evaluated. Only for src/examples.rt and its lemmas.
use Rattle.tsp_routing.specs.Prelude.{ℕ, Bool, List, [], ℤ, pos, negsuc, RoutingProblem, LeafNumbers}
use Rattle.std.specs.Prelude.{◌≡◌, ◌∷◌, if◌then◌else◌, ◌==◌}
use Rattle.tsp_cases.specs.Examples.{cost_in}
use Rattle.tsp_routing.specs.Runs.{RunRules, IsRunUnder, run_weight}
use Rattle.tsp_format.specs.Steps.{SubsetRow}
use Rattle.tsp_routing.specs.RunBounds.{IsRunBound}
use Rattle.tsp_routing.specs.Memories.{keys_of, is_member_of, memory_word, memory_of}
use Rattle.tsp_routing.specs.Starts.{start_state, start_weight}

-- the set 2 3 4, whose parity no other customer keeps
abbrev pub of_three : SubsetRow
of_three = record { set = 2 ∷ 3 ∷ 4 ∷ []; further = [] }

-- the same set, whose parity customer 5 keeps too
abbrev pub of_three_kept : SubsetRow
of_three_kept = record { set = 2 ∷ 3 ∷ 4 ∷ []; further = 5 ∷ [] }

-- a set of four customers
abbrev pub of_four : SubsetRow
of_four = record { set = 2 ∷ 3 ∷ 4 ∷ 5 ∷ []; further = [] }

-- the row with this set, whose parity these further customers keep
abbrev pub given_row : List ℕ → List ℕ → SubsetRow
given_row set further = record { set = set; further = further }

-- Five nodes with the depot 1: each customer loads 1 and a route carries 4, each link weighs 10, customer 3 remembers
-- customer 2, and the row charges 7.
abbrev pub five_nodes : SubsetRow → RunRules
five_nodes row = record {
  nodes = 5;
  depot = 1;
  load = λ node. 1;
  room = 4;
  weight = λ i j. pos 10;
  near = λ node. if node == 3 then 2 ∷ [] else [];
  rows = (row, pos 7) ∷ [];
}

-- these customers are a run, and they aren't
abbrev pub AreRun : List ℕ → Type 0
AreRun nodes = IsRunUnder (five_nodes of_three) nodes

abbrev pub AreNoRun : List ℕ → Type 0
AreNoRun nodes = AreRun nodes → ⊥

-- the run of these customers weighs this much, if the row's parity isn't kept by customer 5, and if it is
abbrev pub RunWeighs : List ℕ → ℤ → Type 0
RunWeighs nodes weight = run_weight (five_nodes of_three) nodes ≡ weight

abbrev pub KeptRunWeighs : List ℕ → ℤ → Type 0
KeptRunWeighs nodes weight = run_weight (five_nodes of_three_kept) nodes ≡ weight

-- a customer keeps these keys: the numbers of customers, and 6 for the row
abbrev pub KeepsKeys : ℕ → List ℕ → Type 0
KeepsKeys customer keys = keys_of 5 (five_nodes of_three).near (five_nodes of_three).rows customer ≡ keys

-- whether a key is that of the row, and the row has this customer in its set
abbrev pub HasMember : ℕ → ℕ → Bool → Type 0
HasMember key customer is_member = is_member_of 5 (five_nodes of_three).rows customer key ≡ is_member

-- the word of the memory after a start, by its last customer and the ones before, the latest first
abbrev pub HasWord : ℕ → List ℕ → ℕ → Type 0
HasWord last earlier word = memory_word (memory_of (five_nodes of_three) (start_state (five_nodes of_three) last earlier)) ≡ word

-- the weight of a start
abbrev pub StartWeighs : ℕ → List ℕ → ℤ → Type 0
StartWeighs last earlier weight = start_weight (five_nodes of_three) last earlier ≡ weight

-- a rectangle of 3 by 4 with the depot 1, where each other node demands 4 and a route carries two of these
abbrev pub rectangle_problem : RoutingProblem
rectangle_problem = record {
  nodes = 4;
  cost = cost_in ((3 ∷ 5 ∷ 4 ∷ []) ∷ (4 ∷ 5 ∷ []) ∷ (3 ∷ []) ∷ []);
  depot = 1;
  demand = λ node. if node == 1 then pos 0 else pos 4;
  capacity = pos 8;
}

-- potentials under which a run of one customer weighs 0, and one of two customers -6 at the least
abbrev pub lone_customers : LeafNumbers
lone_customers = record { potentials = pos 0 ∷ negsuc 2 ∷ negsuc 4 ∷ negsuc 3 ∷ []; multipliers = [] }

-- the bound of the rectangle by these potentials, if the row of all three customers has this charge
abbrev pub RectangleHas : ℤ → ℤ → Type 0
RectangleHas charge bound =
    IsRunBound rectangle_problem (pos 1) 1 0 [] [] lone_customers (λ node. []) ((of_three, charge) ∷ []) bound
