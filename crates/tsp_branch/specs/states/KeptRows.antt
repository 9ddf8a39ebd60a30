-- Rows of weights without potentials, kept from leaf to leaf and always those of the present leaf (`HoldsRows`), and
-- the memory that each leaf overwrites (`IsScratch`). `src/kept_rows.rt` promises them, and
-- `src/tour_verdict.rt` brings them from leaf to leaf. Kept rows affect only speed, so they may follow the code.
use Rattle.tsp_branch.specs.Prelude.{Vec, w64, int_wrap, ℕ, List, length, slice_index_or, ℤ, pos, neg_ℤ, IsNode, IsFromTo, is_same_pair, least_at, IsMoved}
use Rattle.std.specs.Prelude.{◌≡◌, ◌≢◌, ◌+◌, ◌<◌, ◌≤◌, if◌then◌else◌, ◌+ℤ◌, ◌*ℤ◌}
use Rattle.tsp_format.specs.Limits.{most_weight}
use Rattle.tsp_branch.specs.declared.kept_rows.KeptRows.{KeptRows}
use Rattle.tsp_branch.specs.declared.kept_rows.Scratch.{Scratch}
use Rattle.tsp_cases.specs.declared.sets.SetPlace.{SetPlace}
use Rattle.tsp_cases.specs.states.Sets.{places_with, inside_both, multipliers_at, AreSmallMultipliers}

-- the entry of two nodes: their cost times the scale, twice the multipliers of the sets that have both, and the mark
abbrev pub kept_weight : ℤ → List (List (List ℕ)) → (ℕ → ℕ → ℤ) → (ℕ → ℕ → ℤ) → List ℤ → ℕ → ℕ → ℤ
kept_weight scale families cost marks multipliers i x =
    ((scale *ℤ cost i x) +ℤ inside_both multipliers families (places_with 0 families i) x) +ℤ marks i x

-- the marks of no decision
abbrev pub unmarked : ℕ → ℕ → ℤ
unmarked i x = pos 0

-- a pair of two different nodes of 1..n
abbrev pub AreTwoNodes : ℕ → ℕ × ℕ → Type 0
AreTwoNodes n pair = IsNode n pair.0 × IsNode n pair.1 × (pair.0 ≢ pair.1)

-- a number at the two nodes of a pair, in either order; elsewhere 0
abbrev pub added_between : ℕ × ℕ → ℤ → ℕ → ℕ → ℤ
added_between pair number i x = if is_same_pair pair (i, x) then number else pos 0

-- the row of a node: an entry for 0 and for each node, which is what is left of the weight in 64 bits; and the costs
-- are within their limits
pub record IsKeptRow (n : ℕ) (cost weight : ℕ → ℤ) (row : List ℤ) : Type 0 where
  pub long : length row ≡ n + 1
  pub weights : (x : ℕ) → IsNode n x → int_wrap w64 (least_at row x) ≡ int_wrap w64 (weight x)
  pub costs : (x : ℕ) → IsNode n x → IsFromTo (neg_ℤ (pos most_weight)) (pos most_weight) (cost x)

-- the rows of the first `count` nodes
pub record AreRows (n : ℕ) (cost weight : ℕ → ℕ → ℤ) (count : ℕ) (rows : List (Vec ℤ)) : Type 0 where
  pub many : length rows ≡ count
  pub each : (k : ℕ) (default : Vec ℤ) → k < count
      → IsKeptRow n (cost (k + 1)) (weight (k + 1)) (slice_index_or rows k default).items

-- the rows of all nodes, or no row at all
abbrev pub AreRowsIfAny : ℕ → (ℕ → ℕ → ℤ) → (ℕ → ℕ → ℤ) → List (Vec ℤ) → Type 0
AreRowsIfAny n cost weight rows = 1 ≤ length rows → AreRows n cost weight n rows

-- rows to each of which the sets of its node have added their multipliers
pub record AreAdded (multipliers : List ℤ) (families : List (List (List ℕ))) (by_node : List (Vec SetPlace))
    (old new : List (Vec ℤ)) : Type 0 where
  pub many : length new ≡ length old
  pub long : (k : ℕ) (a b : Vec ℤ) → k < length old
      → length (slice_index_or new k a).items ≡ length (slice_index_or old k b).items
  pub moved : (k x : ℕ) (a b : Vec ℤ) (c : Vec SetPlace) → k < length old
      → IsMoved (inside_both multipliers families (slice_index_or by_node (k + 1) c).items x)
      (least_at (slice_index_or old k b).items x) (least_at (slice_index_or new k a).items x)

-- rows of which one has a number added at one entry
pub record IsAddedAt (row place : ℕ) (number : ℤ) (old new : List (Vec ℤ)) : Type 0 where
  pub many : length new ≡ length old
  pub others : (k : ℕ) (a b : Vec ℤ) → k < length old → k ≢ row → slice_index_or new k a ≡ slice_index_or old k b
  pub long : (a b : Vec ℤ) → length (slice_index_or new row a).items ≡ length (slice_index_or old row b).items
  pub here : (a b : Vec ℤ) → least_at (slice_index_or new row a).items place
      ≡ int_wrap w64 (least_at (slice_index_or old row b).items place +ℤ number)
  pub beside : (x : ℕ) (a b : Vec ℤ) → x ≢ place
      → least_at (slice_index_or new row a).items x ≡ least_at (slice_index_or old row b).items x

-- numbers that are the differences of two lists, entry by entry
abbrev pub AreDifferences : List ℤ → List ℤ → List ℤ → Type 0
AreDifferences old new differences = (k : ℕ) → least_at new k ≡ least_at old k +ℤ least_at differences k

-- for each node what is left in 64 bits of 0 less the multipliers of its sets
pub record AreEnds (n : ℕ) (multipliers : List ℤ) (families : List (List (List ℕ))) (ends : List ℤ) : Type 0 where
  pub places : length ends ≡ n + 1
  pub taken : (x : ℕ) → IsNode n x
      → int_wrap w64 (least_at ends x) ≡ int_wrap w64 (neg_ℤ (multipliers_at multipliers families x))

-- the fields of `KeptRows`: the multipliers that the rows and ends are for, the ends, and the rows if any;
-- `differences` is memory for changes of multipliers
pub record HoldsRows (n family_count : ℕ) (scale : ℤ) (families : List (List (List ℕ))) (cost marks : ℕ → ℕ → ℤ)
    (kept : KeptRows) : Type 0 where
  pub multipliers : length kept.multipliers.items ≡ family_count
  pub differences : length kept.differences.items ≡ family_count
  pub small : AreSmallMultipliers kept.multipliers.items
  pub ends : AreEnds n kept.multipliers.items families kept.ends.items
  pub rows : AreRowsIfAny n cost (kept_weight scale families cost marks kept.multipliers.items) kept.rows.items

-- ---- the memory that a pass over the leaves writes over: `Scratch` (`src/kept_rows.rt`)

-- A potential for each node and a multiplier for each family. `row` and `moved` have a number for each node at its
-- index, and one at 0. In `moved`, `fill_moved` (src/sets.rt) puts the potential of each node less the multipliers of
-- its sets.
pub record IsScratch (n family_count : ℕ) (room : Scratch) : Type 0 where
  pub potentials : length room.potentials.items ≡ n
  pub multipliers : length room.multipliers.items ≡ family_count
  pub row : length room.row.items ≡ n + 1
  pub moved : length room.moved.items ≡ n + 1
