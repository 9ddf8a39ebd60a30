-- The verdict on the leaves of a certificate with memories or subset rows (`IsRunLeafVerdict`), from a pass over their
-- numbers and one over their bounds, and what the subset rows give back at a leaf (`halves_with`). Only
-- `src/run_verdict.rt` and `src/run_bound.rt` use them. `IsPlanVerdict` defines the whole verdict, so a new reason
-- begins there.
use Rattle.std.specs.Prelude.{◌≡◌, ◌+◌, ◌≤◌, ◌<◌, ◌*◌, ◌^◌, [], ◌∷◌, pos, ◌+ℤ◌, ◌*ℤ◌}
use Rattle.tsp_format.specs.Steps.{SubsetRow}
use Rattle.tsp_format.specs.declared.steps.RowSets.{RowSets}
use Rattle.tsp_format.specs.states.TreeSteps.{subset_row_of}
use Rattle.tsp_cases.specs.declared.family.Crossings.{Crossings}
use Rattle.tsp_cases.specs.declared.judged.TreeVerdict.{TreeVerdict}
use Rattle.tsp_cases.specs.declared.judged.TreeVerdict.TheVariants as verdict
use Rattle.tsp_routing.specs.PlanVerdicts.{most_entries}
use Rattle.tsp_routing.specs.Prelude.{Vec, ℕ, List, map, length, ℤ, Step, LeafNumbers, families_with, AreGoodLeavesBy, IsFirstBadLeafBy, listed_steps}
use Rattle.tsp_routing.specs.RunBounds.{leaf_rules}
use Rattle.tsp_routing.specs.RunTrees.{near_of, placed_steps, AreGoodRunLeaves, IsFirstBadRunLeaf, RunTree, AreFewNumbers, IsRunTreeBound}
use Rattle.tsp_routing.specs.RunVerdicts.{AreFewLeaves, IsFirstFullLeaf}
use Rattle.tsp_routing.specs.Runs.{half, halves_total}
use Rattle.tsp_routing.specs.declared.demands.Demands.{Demands}
use Rattle.tsp_routing.specs.declared.memories.MemoryKey.{MemoryKey}
use Rattle.tsp_routing.specs.declared.run_verdict.RunScratch.{RunScratch}
use Rattle.tsp_routing.specs.states.Demands.{loads_problem}
use Rattle.tsp_routing.specs.states.Judged.{entries_in}
use Rattle.tsp_routing.specs.states.MemoryTables.{AreMemoriesOf}
use Rattle.tsp_routing.specs.states.RunTables.{item_lists}

-- a potential for each node, and a number for each family and each row
pub record IsRunScratch (n numbers : ℕ) (room : RunScratch) : Type 0 where
  pub potentials : length room.potentials.items ≡ n
  pub multipliers : length room.multipliers.items ≡ numbers

-- what all leaves share, by what the judge has of it
abbrev pub tree_in : Demands → (ℕ → ℕ → ℤ) → ℤ → ℕ → ℕ → List Crossings → List (List (List ℕ)) → List (Vec ℕ) → List RowSets → RunTree
tree_in demands cost scale unit light crossed families lists rows = record {
  problem = loads_problem demands cost;
  scale = scale;
  unit = unit;
  light = light;
  family_count = length crossed;
  families = families_with crossed families;
  lists = item_lists lists;
  row_count = length rows;
  rows = map subset_row_of rows;
}

-- the tables are those of every leaf, whatever its rows charge
abbrev pub AreTablesFor : RunTree → ℕ → List (Vec MemoryKey) → List (Vec ℕ) → Type 0
AreTablesFor tree count keys places = (numbers : LeafNumbers) (rows : List (SubsetRow × ℤ))
    → map (λ (row : SubsetRow × ℤ). row.0) rows ≡ tree.rows
    → AreMemoriesOf (leaf_rules tree.problem tree.scale tree.unit tree.light tree.families numbers (near_of tree.lists) rows)
    count keys places

-- If no leaf has more kept states than are allowed: the least bound of a leaf. Otherwise: the first leaf that has.
-- These steps have places of numbers.
abbrev pub AreRunsJudged : RunTree → List Step → TreeVerdict → Type 0
AreRunsJudged tree steps (verdict.TooManyStates leaf) =
    IsFirstBadLeafBy (AreFewNumbers tree) tree.problem.nodes (tree.family_count + tree.row_count) steps leaf
AreRunsJudged tree steps (verdict.Bound found) =
    AreGoodLeavesBy (AreFewNumbers tree) tree.problem.nodes (tree.family_count + tree.row_count) steps
    × IsRunTreeBound tree (listed_steps tree.problem.nodes (tree.family_count + tree.row_count) steps) found
AreRunsJudged tree steps other = ⊥

-- the verdict on the leaves, if families, memories and branches are good
abbrev pub IsRunLeafVerdict : RunTree → List Step → TreeVerdict → Type 0
IsRunLeafVerdict tree steps (verdict.BadLeaf leaf) =
    IsFirstBadRunLeaf tree.problem.nodes tree.family_count tree.row_count steps leaf
IsRunLeafVerdict tree steps verdict.TooManyLoads =
    AreGoodRunLeaves tree.problem.nodes tree.family_count tree.row_count steps
    × (most_entries < entries_in tree.problem tree.unit tree.light)
IsRunLeafVerdict tree steps (verdict.TooManyStates leaf) =
    AreGoodRunLeaves tree.problem.nodes tree.family_count tree.row_count steps
    × (entries_in tree.problem tree.unit tree.light ≤ most_entries) × IsFirstFullLeaf tree steps leaf
IsRunLeafVerdict tree steps (verdict.Bound found) =
    AreGoodRunLeaves tree.problem.nodes tree.family_count tree.row_count steps
    × (entries_in tree.problem tree.unit tree.light ≤ most_entries) × AreFewLeaves tree steps
    × IsRunTreeBound tree (listed_steps tree.problem.nodes (tree.family_count + tree.row_count)
    (placed_steps tree.problem.nodes tree.family_count steps)) found
IsRunLeafVerdict tree steps other = ⊥

-- ---- what rows give back

-- half of each set as often as its row charges
abbrev pub halves_with : List SubsetRow → List ℤ → ℤ
halves_with [] charges = pos 0
halves_with (row ∷ rows) [] = pos 0
halves_with (row ∷ rows) (charge ∷ charges) = (pos (half row) *ℤ charge) +ℤ halves_with rows charges

-- a set whose customers can be counted
abbrev pub IsSmallRow : RowSets → Type 0
IsSmallRow row = length row.set.items ≤ 2 ^ 33

-- That is what rows give back.
abbrev pub HalvesAreTotal : Type 0
HalvesAreTotal = (rows : List (SubsetRow × ℤ))
    → halves_with (map (λ (row : SubsetRow × ℤ). row.0) rows) (map (λ (row : SubsetRow × ℤ). row.1) rows) ≡ halves_total rows
