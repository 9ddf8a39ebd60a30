-- Rows of the weights of a leaf for routes (`AreKeptRows`), how large its multipliers are together, and the sum that
-- they give back (`numbers_total`). Only `src/leaf_weights.rt`, `src/plan_leaf.rt` and `src/plan_tree.rt` use them. You
-- may change the rows with the code, because `q_route_weight` defines the weights; `IsPlanStep` is a range that proofs
-- in tsp_verdict show for each file.
use Rattle.tsp_routing.specs.Prelude.{Vec, ℕ, List, length, slice_index_or, ℤ, pos, neg_ℤ, [], IsNode, IsFromTo, Step, Branch, Leaf, least_at, Decision, set_crossings}
use Rattle.std.specs.Prelude.{◌≡◌, ◌+◌, ◌<◌, ◌≤◌, ◌∷◌, ◌+ℤ◌, ◌^◌}
use Rattle.tsp_cases.specs.declared.family.Crossings.{Crossings}
use Rattle.tsp_routing.specs.PlanBounds.{most_link, low_of, high_of, least_times}
use Rattle.tsp_routing.specs.PlanVerdicts.{most_of_multipliers}

-- a row of the weights from a node, each at the index of the other node and within its limit
pub record IsWeightRow (n : ℕ) (w : ℕ → ℤ) (row : List ℤ) : Type 0 where
  pub places : length row ≡ n + 1
  pub values : (x : ℕ) → IsNode n x → least_at row x ≡ w x
  pub sizes : (x : ℕ) → IsNode n x → IsFromTo (neg_ℤ (pos most_link)) (pos most_link) (least_at row x)

-- the rows of the first `count` nodes
pub record AreFirstRows (n : ℕ) (w : ℕ → ℕ → ℤ) (count : ℕ) (rows : List (Vec ℤ)) : Type 0 where
  pub many : length rows ≡ count
  pub each : (k : ℕ) (default : Vec ℤ) → k < count → IsWeightRow n (w (k + 1)) (slice_index_or rows k default).items

-- the rows of all nodes, or no row at all
abbrev pub AreKeptRows : ℕ → (ℕ → ℕ → ℤ) → List (Vec ℤ) → Type 0
AreKeptRows n w rows = 1 ≤ length rows → AreFirstRows n w n rows

-- ---- how large the multipliers of the sets are that two nodes cross

-- the multipliers of the sets that two nodes of 1..n cross sum to no more than the limit
abbrev pub AreSignedCrossings : ℕ → List ℤ → List (List (List ℕ)) → Type 0
AreSignedCrossings n multipliers families = (i j : ℕ) → IsNode n i → IsNode n j
    → IsFromTo (neg_ℤ (pos most_of_multipliers)) (pos most_of_multipliers) (set_crossings multipliers families i j)

-- ---- the sum that the multipliers of sets give back, over the numbers of the code

-- a multiplier of at least 0 times the least number of crossings, one below 0 times the most, added over the sets
abbrev pub numbers_total : List Decision → ℕ → ℕ → List Crossings → List ℤ → ℤ
numbers_total case own place [] multipliers = pos 0
numbers_total case own place (crossed ∷ others) [] = pos 0
numbers_total case own place (crossed ∷ others) (multiplier ∷ multipliers) =
    least_times (low_of place case crossed.least) (high_of place case own) multiplier
    +ℤ numbers_total case own (place + 1) others multipliers

-- ---- the ranges of the steps of a certificate for routes

-- a branch has a number t from 1 to n; a leaf has fewer than 2^32 differences
abbrev pub IsPlanStep : ℕ → Step → Type 0
IsPlanStep n (Branch first second) = IsNode n second
IsPlanStep n (Leaf changes) = length changes < 2 ^ 32
