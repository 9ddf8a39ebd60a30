-- The loop of `have_few_row_nodes` in src/validity.rt.
use Rattle.tsp_file.proofs.Prelude.{◌≡◌, ◌≤◌, take, sum_by, most_family_nodes, subset_row_of, row_size}
use Rattle.tsp_file.proofs.validity.have_few_row_nodes.Given as goal

-- `total` is how many nodes the rows before this one have, and within the limit
abbrev pub invariant-rows : goal.invariant-rows
invariant-rows l =
    (l.total ≡ sum_by (λ row. row_size (subset_row_of row)) (take l.row-index l.rows)) × (l.total ≤ most_family_nodes)
