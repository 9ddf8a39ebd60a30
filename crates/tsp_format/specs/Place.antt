-- Circle 3 of docs/trust.md.
-- The place of a pair among the cells of a layout, as a formula, by which src/layout.rt looks up a cost. It is proved
-- to be the place in the order of Nodes.antt, so nobody has to check the arithmetic. Crates above import it, too.
use Rattle.std.specs.Prelude.{ℕ, ◌+◌, ◌-◌, ◌*◌, ◌/◌, Bool, ◌&&◌, ◌==◌, Option}
use Rattle.std.specs.List.{position}
use Rattle.tsp_format.specs.declared.layout.Layout.{Layout}
use Rattle.tsp_format.specs.declared.layout.Layout.TheVariants.{FullMatrix, UpperRow, LowerRow, UpperDiagRow, LowerDiagRow, UpperCol, LowerCol, UpperDiagCol, LowerDiagCol}
use Rattle.tsp_format.specs.Nodes.{cells}

-- whether a cell is this pair
abbrev pub is_same_cell : ℕ × ℕ → ℕ × ℕ → Bool
is_same_cell pair cell = (cell.0 == pair.0) && (cell.1 == pair.1)

-- the place of a pair among the cells, counted from 0, if it is one of them
unfoldable pub place_of : Layout → ℕ → ℕ × ℕ → Option ℕ
place_of layout n pair = position (is_same_cell pair) (cells layout n)

-- The same place by arithmetic, as code finds it: above the diagonal, by rows. A layout by columns has (i, j) where the
-- mirrored layout by rows has (j, i).
abbrev pub upper_place : ℕ → ℕ → ℕ → ℕ
upper_place n i j = (i - 1) * n - i * (i - 1) / 2 + (j - i - 1)

-- below the diagonal, by rows
abbrev pub lower_place : ℕ → ℕ → ℕ
lower_place i j = (i - 1) * (i - 2) / 2 + (j - 1)

-- above the diagonal and on it
abbrev pub upper_diag_place : ℕ → ℕ → ℕ → ℕ
upper_diag_place n i j = (i - 1) * (n + 1) - i * (i - 1) / 2 + (j - i)

-- below the diagonal and on it
abbrev pub lower_diag_place : ℕ → ℕ → ℕ
lower_diag_place i j = i * (i - 1) / 2 + (j - 1)

-- the place of a cell (i, j) over n nodes, in each layout
abbrev pub place_by_table : Layout → ℕ → ℕ → ℕ → ℕ
place_by_table FullMatrix n i j = (i - 1) * n + (j - 1)
place_by_table UpperRow n i j = upper_place n i j
place_by_table LowerRow n i j = lower_place i j
place_by_table UpperDiagRow n i j = upper_diag_place n i j
place_by_table LowerDiagRow n i j = lower_diag_place i j
place_by_table UpperCol n i j = lower_place j i
place_by_table LowerCol n i j = upper_place n j i
place_by_table UpperDiagCol n i j = lower_diag_place j i
place_by_table LowerDiagCol n i j = upper_diag_place n j i
