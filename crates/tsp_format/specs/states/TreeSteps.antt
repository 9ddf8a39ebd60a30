-- The steps of a tree of cases and the subset rows that code holds as vectors (`TreeStep`, `RowSets`), as the lists
-- that definitions talk about (`Step`, `SubsetRow`). The contracts of all code that holds a certificate use them:
-- `tsp_read/src/tree_sections.rt` makes the steps, `tsp_file/src/file.rt` returns them, and tsp_branch and tsp_routing
-- judge them. A new field or variant of the two types also goes here. More crates above import it.
use Rattle.std.specs.Prelude.{List, map}
use Rattle.tsp_format.specs.declared.steps.RowSets.{RowSets}
use Rattle.tsp_format.specs.declared.steps.TreeStep.{TreeStep}
use Rattle.tsp_format.specs.declared.steps.TreeStep.TheVariants as listed
use Rattle.tsp_format.specs.Steps.{Step, Branch, Leaf, SubsetRow}

-- one step
abbrev pub step_of : TreeStep → Step
step_of (listed.Branch first second) = Branch first second
step_of (listed.Leaf changes) = Leaf changes.items

-- all steps of a tree
abbrev pub steps_of : List TreeStep → List Step
steps_of steps = map step_of steps

-- one row
abbrev pub subset_row_of : RowSets → SubsetRow
subset_row_of row = record { set = row.set.items; further = row.further.items }

-- all rows
abbrev pub subset_rows_of : List RowSets → List SubsetRow
subset_rows_of rows = map subset_row_of rows
