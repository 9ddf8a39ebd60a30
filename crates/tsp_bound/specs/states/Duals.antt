-- The fields of `Duals`: the scale, and a number for each row and each column of the costs of an ATSP.
-- `src/potentials.rt` and `src/assignment.rt` promise what they hold and how they bound tours, and
-- `tsp_verdict/src/potentials_certificate.rt` fills them from a certificate. The bound is defined in tsp_theory,
-- without this file.
use Rattle.std.specs.Prelude.{ℕ, List, ℤ, ◌+ℤ◌, ◌*ℤ◌}
use Rattle.tsp_bound.specs.declared.potentials.Duals.{Duals}
use Rattle.tsp_theory.specs.Bounds.{entry}

abbrev pub dual_scale : Duals → ℤ
dual_scale d = d.scale

abbrev pub rows_of : Duals → List ℤ
rows_of d = d.rows.now

abbrev pub columns_of : Duals → List ℤ
columns_of d = d.columns.now

-- the number of row i and that of column j, added
abbrev pub dual_of : Duals → ℕ → ℕ → ℤ
dual_of d i j = entry (rows_of d) i +ℤ entry (columns_of d) j

-- the cost from i to j, times the scale
abbrev pub scaled : Duals → (ℕ → ℕ → ℤ) → ℕ → ℕ → ℤ
scaled d cost i j = dual_scale d *ℤ cost i j
