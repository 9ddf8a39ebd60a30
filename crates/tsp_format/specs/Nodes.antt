-- Circle 1 of docs/trust.md.
-- The nodes 1 to n of a problem, and the cells of each layout of a matrix, in the order in which a file lists them.
-- src/layout.rt promises this order, and the cost that a listed weight means is found by it. Almost every definition
-- and contract above that names a node uses `IsNode`. Crates above import it, too.
use Rattle.std.specs.List.{range_with_len, filter, flat_map}
use Rattle.std.specs.Prelude.{ℕ, ◌≤◌, List, ◌+◌, ◌-◌, ◌*◌, ◌/◌, Bool, true, false, map, nat_lt, nat_le, if◌then◌else◌}
use Rattle.tsp_format.specs.declared.layout.Layout.{Layout}
use Rattle.tsp_format.specs.declared.layout.Layout.TheVariants.{FullMatrix, UpperRow, LowerRow, UpperDiagRow, LowerDiagRow, UpperCol, LowerCol, UpperDiagCol, LowerDiagCol}

-- the nodes 1, 2, .., n
unfoldable pub nodes_to : ℕ → List ℕ
nodes_to n = range_with_len 1 n

abbrev pub IsNode : ℕ → ℕ → Type 0
IsNode n i = (1 ≤ i) × (i ≤ n)

-- ---- the cells of a layout

-- whether the layout lists the pair: all pairs, i < j, i > j, i <= j or i >= j
abbrev pub is_listed : Layout → ℕ × ℕ → Bool
is_listed FullMatrix (i, j) = true
is_listed UpperRow (i, j) = nat_lt i j
is_listed LowerRow (i, j) = nat_lt j i
is_listed UpperDiagRow (i, j) = nat_le i j
is_listed LowerDiagRow (i, j) = nat_le j i
is_listed UpperCol (i, j) = nat_lt i j
is_listed LowerCol (i, j) = nat_lt j i
is_listed UpperDiagCol (i, j) = nat_le i j
is_listed LowerDiagCol (i, j) = nat_le j i

-- whether the cells are listed by columns; otherwise they are by rows
abbrev pub goes_by_columns : Layout → Bool
goes_by_columns UpperCol = true
goes_by_columns LowerCol = true
goes_by_columns UpperDiagCol = true
goes_by_columns LowerDiagCol = true
goes_by_columns layout = false

-- the pairs of row k, or of column k for a layout by columns
abbrev pub pairs_of_line : Layout → ℕ → ℕ → List (ℕ × ℕ)
pairs_of_line layout n k = map (λ m. if goes_by_columns layout then (m, k) else (k, m)) (nodes_to n)

-- the cells of a matrix over the nodes 1..n, line by line
unfoldable pub cells : Layout → ℕ → List (ℕ × ℕ)
cells layout n = filter (is_listed layout) (flat_map (pairs_of_line layout n) (nodes_to n))

-- the cells of row k, or of column k
unfoldable pub cells_of_line : Layout → ℕ → ℕ → List (ℕ × ℕ)
cells_of_line layout n k = filter (is_listed layout) (pairs_of_line layout n k)

-- how many cells there are, by a table
abbrev pub cell_count_of : Layout → ℕ → ℕ
cell_count_of FullMatrix n = n * n
cell_count_of UpperRow n = n * (n - 1) / 2
cell_count_of LowerRow n = n * (n - 1) / 2
cell_count_of UpperDiagRow n = n * (n + 1) / 2
cell_count_of LowerDiagRow n = n * (n + 1) / 2
cell_count_of UpperCol n = n * (n - 1) / 2
cell_count_of LowerCol n = n * (n - 1) / 2
cell_count_of UpperDiagCol n = n * (n + 1) / 2
cell_count_of LowerDiagCol n = n * (n + 1) / 2

-- how many of them line k has, for k in 1..n, by a table
abbrev pub line_len_of : Layout → ℕ → ℕ → ℕ
line_len_of FullMatrix n k = n
line_len_of UpperRow n k = n - k
line_len_of LowerRow n k = k - 1
line_len_of UpperDiagRow n k = n - k + 1
line_len_of LowerDiagRow n k = k
line_len_of UpperCol n k = k - 1
line_len_of LowerCol n k = n - k
line_len_of UpperDiagCol n k = k
line_len_of LowerDiagCol n k = n - k + 1
