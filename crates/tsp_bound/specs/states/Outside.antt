-- The nodes outside the tree that Prim's algorithm grows, in a list in any order: each has its nearest node inside, and
-- the weight of the edge to it. Only `src/prim.rt` uses these definitions, and you may change them with the algorithm.
use Rattle.tsp_bound.specs.Prelude.{ℕ, List, length, slice_index, ℤ, IsInner, least_at, IsNearer}
use Rattle.std.specs.Prelude.{◌≡◌, ◌<◌, ◌+◌, ◌≤ℤ◌}

-- the nodes 3 to n, in order
pub record AreFromThree (n : ℕ) (nodes : List ℕ) : Type 0 where
  pub count : 2 + length nodes ≡ n
  pub each : (k : ℕ) → k < length nodes → slice_index nodes k ≡ k + 3

-- the nearest grown node and its weight, for each listed node, once `next` is grown
abbrev pub AreBroughtNearer : ℕ → (ℕ → ℤ) → List ℕ → List ℕ → List ℤ → List ℕ → List ℤ → Type 0
AreBroughtNearer next weight nodes old_near old_least new_near new_least = (k : ℕ) → k < length nodes
    → IsNearer (weight (slice_index nodes k)) next (slice_index old_near k) (least_at old_least k) (slice_index new_near k)
    (least_at new_least k)

-- the listed nodes are of 2..n
abbrev pub AreInner : ℕ → List ℕ → Type 0
AreInner n nodes = (k : ℕ) → k < length nodes → IsInner n (slice_index nodes k)

-- an index whose weight no other one is below
pub record IsLeastPlace (least : List ℤ) (place : ℕ) : Type 0 where
  pub inside : place < length least
  pub none_less : (k : ℕ) → k < length least → least_at least place ≤ℤ least_at least k
