-- What is found on the way to the judgement on the memories and subset rows of a certificate: all are good, or the
-- first bad one (`AreMemoriesJudged`). `src/judged_memory.rt` promises it, and `src/plan_tree.rt` says in these words
-- what a valid file ensures (`AreListsOf`, `AreRowsOf`). `IsGoodMemory` defines which are good, so the rest may follow
-- the code. tsp_verdict imports it, too.
use Rattle.tsp_routing.specs.Prelude.{Vec, All, ℕ, Bool, true, List, [], map, take, length, slice_index_or, Option, Some, None, IsNode, IsCustomer, has}
use Rattle.std.specs.Prelude.{◌≡◌, ◌+◌, ◌≤◌, ◌<◌, ◌++◌, if◌then◌else◌}
use Rattle.tsp_format.specs.Steps.{SubsetRow}
use Rattle.tsp_routing.specs.RunTrees.{owner_of, near_of, IsGoodList, AreGoodLists, IsFirstBadList, AreGoodRows, IsFirstBadRow, rows_kept, IsGoodMemory, IsBadMemory}
use Rattle.tsp_format.specs.declared.steps.RowSets.{RowSets}
use Rattle.tsp_routing.specs.declared.judged_memory.JudgedMemory.{JudgedMemory}
use Rattle.tsp_routing.specs.declared.judged_memory.JudgedMemory.TheVariants as judged
use Rattle.tsp_routing.specs.declared.judged_memory.JudgedRows.{JudgedRows}
use Rattle.tsp_routing.specs.declared.judged_memory.JudgedRows.TheVariants as judged_rows
use Rattle.tsp_routing.specs.states.MemoryTables.{near_in}
use Rattle.tsp_format.specs.states.TreeSteps.{subset_row_of}
use Rattle.tsp_routing.specs.states.RunTables.{item_lists}

-- lists of the nodes 1..n, none empty
abbrev pub AreListsOf : ℕ → List (Vec ℕ) → Type 0
AreListsOf n lists = All (λ (list : Vec ℕ). (1 ≤ length list.items) × All (IsNode n) list.items) lists

-- rows of the nodes 1..n
abbrev pub AreRowsOf : ℕ → List RowSets → Type 0
AreRowsOf n rows = All (λ (row : RowSets). All (IsNode n) row.set.items × All (IsNode n) row.further.items) rows

-- None: all lists are good. Some: the customer of the first bad one.
abbrev pub AreListsJudged : ℕ → ℕ → List (List ℕ) → Option ℕ → Type 0
AreListsJudged n depot lists None = AreGoodLists n depot lists
AreListsJudged n depot lists (Some customer) = IsFirstBadList n depot lists customer

-- Good: all rows are good, and how many rows each node keeps. Bad: the number of the first bad row.
abbrev pub AreRowsJudged : ℕ → ℕ → List SubsetRow → JudgedRows → Type 0
AreRowsJudged n depot rows (judged_rows.Good counts) = AreGoodRows n depot rows × (length counts.items ≡ n + 1)
    × ((node : ℕ) → node ≤ n → slice_index_or counts.items node 0 ≡ rows_kept rows node)
AreRowsJudged n depot rows (judged_rows.Bad first) = IsFirstBadRow n depot rows first

-- a table with what each node remembers
pub record IsNearTable (n : ℕ) (lists : List (List ℕ)) (near : List (Vec ℕ)) : Type 0 where
  pub places : length near ≡ n + 1
  pub are : (node : ℕ) → node ≤ n → near_in near node ≡ near_of lists node

-- Some: the first customer up to a node that keeps more than 64 by the table and the counts. None: there is none.
abbrev pub IsKeptWithin : List (Vec ℕ) → List ℕ → ℕ → Type 0
IsKeptWithin near counts node = length (near_in near node) + slice_index_or counts node 0 ≤ 64

abbrev pub IsFirstFullIn : ℕ → ℕ → List (Vec ℕ) → List ℕ → Option ℕ → Type 0
IsFirstFullIn n depot near counts None = (customer : ℕ) → IsCustomer n depot customer → IsKeptWithin near counts customer
IsFirstFullIn n depot near counts (Some full) = IsCustomer n depot full × (IsKeptWithin near counts full → ⊥)
    × ((earlier : ℕ) → IsCustomer n depot earlier → earlier < full → IsKeptWithin near counts earlier)

-- the judgement on all of it
abbrev pub AreMemoriesJudged : ℕ → ℕ → List (List ℕ) → List SubsetRow → JudgedMemory → Type 0
AreMemoriesJudged n depot lists rows (judged.Good near) = IsGoodMemory n depot lists rows × IsNearTable n lists near.items
AreMemoriesJudged n depot lists rows (judged.BadMemory customer) = IsBadMemory n depot lists rows customer
AreMemoriesJudged n depot lists rows (judged.BadRow row) = AreGoodLists n depot lists × IsFirstBadRow n depot rows row

-- the nodes whose flag stands are the first ones of lists
pub record AreOwners (lists : List (List ℕ)) (count : ℕ) (owners : List Bool) : Type 0 where
  pub found : (node : ℕ) → slice_index_or owners node true ≡ true → node < length owners
      → (place : ℕ) × (place < count) × (owner_of (slice_index_or lists place []) ≡ node)
  pub are : (place : ℕ) → place < count → slice_index_or owners (owner_of (slice_index_or lists place [])) true ≡ true
