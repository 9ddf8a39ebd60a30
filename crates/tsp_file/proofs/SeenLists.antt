-- The lists of a memory and the subset rows of a draft: vectors in the code, lists in the definitions. For
-- src/validity.rt, which names them in `using(..)`.
use Rattle.tsp_file.proofs.Prelude.{◌≡◌, ℕ, List, length, map, refl, list_all-map, length-map, list_all, sum_by, ◌&&◌, nat_le, most_rows, most_family_nodes, subset_row_of, subset_rows_of, row_size}
use Rattle.std.specs.Global.{Vec}
use Rattle.tsp_format.specs.declared.steps.RowSets.{RowSets}
use Rattle.tsp_file.proofs.ValidFields.{sum_by_mapped}
use Rattle.tsp_file.specs.Validity.{is_set_of, are_memory_lists, is_row_of, are_subset_rows}

pub memories_seen : (n : ℕ) (lists : List (Vec ℕ)) → are_memory_lists n (map (λ list. list.items) lists)
    ≡ (list_all (λ list. is_set_of n list.items) lists && nat_le (sum_by (λ list. length list.items) lists) most_family_nodes)
memories_seen n lists =
    rw (list_all-map (is_set_of n) (λ (list : Vec ℕ). list.items) lists, sum_by_mapped (λ (l : List ℕ). length l) (λ (list : Vec ℕ). list.items) lists) refl

pub rows_seen : (n : ℕ) (rows : List RowSets) → are_subset_rows n (subset_rows_of rows)
    ≡ (nat_le (length rows) most_rows && list_all (λ row. is_row_of n (subset_row_of row)) rows
    && nat_le (sum_by (λ row. row_size (subset_row_of row)) rows) most_family_nodes)
rows_seen n rows =
    rw (length-map rows subset_row_of, list_all-map (is_row_of n) subset_row_of rows, sum_by_mapped row_size subset_row_of rows) refl
