-- The multipliers of fixed pairs, listed at both nodes of each pair (`IsTable`), and what such a list takes off the
-- weight of a pair (`lowered_by`). Only `src/multipliers_by_node.rt`, which makes the lists, and `src/weights.rt` and
-- `src/boxes.rt`, which lower weights by them, use these definitions. You may change the lists with the code, because
-- `weight_less` defines the weights. tsp_branch imports it, too.
use Rattle.tsp_bound.specs.Prelude.{All, AllPairs, ℕ, List, slice_index_or, [], length, ℤ, pos, most_multiplier, IsNode, IsFromTo}
use Rattle.std.specs.Global.{Vec}
use Rattle.std.specs.Prelude.{◌≡◌, ◌≢◌, ◌+◌, ◌≤◌, ◌==◌, if◌then◌else◌, ◌∷◌, ◌++◌}
use Rattle.tsp_theory.specs.Tour.{sum_int_by}

-- the node at the index k; 0 beyond the list's end
abbrev pub node_in : List ℕ → ℕ → ℕ
node_in nodes k = slice_index_or nodes k 0

-- ---- multipliers of pairs, listed by node

-- of a triple whose pair has the node: the other node, and the number; of any other triple nothing
abbrev pub said_of : ℕ → ℕ × ℕ × ℤ → List (ℕ × ℤ)
said_of node triple =
    if triple.0 == node then (triple.1, triple.2) ∷ [] else (if triple.1 == node then (triple.0, triple.2) ∷ [] else [])

-- the same for each triple, in order
abbrev pub all_said_of : ℕ → List (ℕ × ℕ × ℤ) → List (ℕ × ℤ)
all_said_of node [] = []
all_said_of node (triple ∷ triples) = said_of node triple ++ all_said_of node triples

-- for each node from 0 to n the list of its other nodes and numbers
pub record IsTable (n : ℕ) (triples : List (ℕ × ℕ × ℤ)) (lists : List (Vec (ℕ × ℤ))) : Type 0 where
  pub count : length lists ≡ n + 1
  pub said : (node : ℕ) (default : Vec (ℕ × ℤ)) → node ≤ n → (slice_index_or lists node default).items ≡ all_said_of node triples

-- ---- the numbers on the pairs of one node

-- by how much the weight between that one node and `node` is lowered
abbrev pub lowered_by : List (ℕ × ℤ) → ℕ → ℤ
lowered_by lowerings node = sum_int_by (λ lowering. if lowering.0 == node then lowering.1 else pos 0) lowerings

-- nodes of 1..n, none twice, with numbers of multipliers
pub record AreLowerings (n : ℕ) (lowerings : List (ℕ × ℤ)) : Type 0 where
  pub each : All (λ lowering. IsNode n lowering.0 × IsFromTo (pos 0) (pos most_multiplier) lowering.1) lowerings
  pub once : AllPairs (λ a b. a.0 ≢ b.0) lowerings
