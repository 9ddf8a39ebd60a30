-- What loops over the tours or routes of a solution have found so far: marks of the nodes that were seen (`Marked`),
-- the next node on a cycle (`AreNext`), and sums of costs. Only `src/tour.rt` and `src/routes.rt` use them. You may
-- change them with the code, because reasons and lengths are defined without them.
use Rattle.tsp_verdict.specs.Prelude.{All, flat_map, ℕ, Bool, true, false, List, length, slice_index, slice_index_or, [], map, ℤ, pos, most_tour_nodes, most_weight, Fields, is_tour_file, Follows}
use Rattle.std.specs.Global.{Vec}
use Rattle.std.specs.Prelude.{◌≡◌, ◌+◌, ◌<◌, ◌≤◌, ◌≢◌, ◌*◌, ◌+ℤ◌, ◌≤ℤ◌}
use Rattle.tsp_verdict.specs.SolutionReasons.{node_at, IsAtEarlierPlace, visited, tours_of}

-- the marked nodes are those at the first `count` places, and none of these comes twice
pub record Marked (nodes : List ℕ) (seen : List Bool) (count : ℕ) : Type 0 where
  pub marked : (place : ℕ) → 1 ≤ place → place ≤ count → slice_index_or seen (node_at nodes place) false ≡ true
  pub only : (node : ℕ) → slice_index_or seen node false ≡ true → (place : ℕ) × (1 ≤ place) × (place ≤ count)
      × (node_at nodes place ≡ node)
  pub once : (place : ℕ) → 1 ≤ place → place ≤ count → IsAtEarlierPlace nodes place → ⊥

-- the list `nodes` has the nodes of `piece` after its first `before` ones
pub record StandsAfter (before : ℕ) (nodes piece : List ℕ) : Type 0 where
  pub inside : (before + length piece) ≤ length nodes
  pub same : (k : ℕ) → k < length piece → slice_index nodes (before + k) ≡ slice_index piece k

-- ---- the table of the next node on a cycle

-- at the index of each node of the cycle the table has the next one, elsewhere 0
pub record AreNext (cycle next : List ℕ) : Type 0 where
  pub follows : (a b : ℕ) → Follows cycle (a, b) → slice_index next a ≡ b
  pub only : (a b : ℕ) → 1 ≤ b → slice_index next a ≡ b → Follows cycle (a, b)

-- ---- the tours or routes of a solution, as vectors of nodes

-- the nodes of several vectors, one after the other
abbrev pub nodes_in : List (Vec ℕ) → List ℕ
nodes_in routes = flat_map (λ route. route.items) routes

-- these are the tours of the solution, within the limits of files
pub record AreToursOf (solution : Fields) (tours : List (Vec ℕ)) : Type 0 where
  pub sort : is_tour_file solution.kind ≡ true
  pub value : map (λ (tour : Vec ℕ). tour.items) tours ≡ tours_of solution
  pub nodes : nodes_in tours ≡ visited solution
  pub range : All (λ node. 1 ≤ node) (nodes_in tours)
  pub filled : All (λ tour. tour ≢ []) (tours_of solution)
  pub few : length tours ≤ most_tour_nodes
  pub size : length (nodes_in tours) ≤ most_tour_nodes

-- ---- how large a sum of costs is

-- a sum of `count` costs, each within the limit of weights
pub record IsSumOf (count : ℕ) (sum : ℤ) : Type 0 where
  pub low : pos 0 ≤ℤ (sum +ℤ pos (most_weight * count))
  pub high : sum ≤ℤ pos (most_weight * count)
