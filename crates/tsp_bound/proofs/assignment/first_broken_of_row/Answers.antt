-- The goals of `first_broken_of_row` in src/assignment.rt, which finds the first column that doesn't fit a row's dual:
-- its loop, what its calls require and what it ensures.
use Rattle.tsp_bound.proofs.Prelude.{ℕ, ◌-◌, ◌<◌, length, refl, arith, pos, ◌≤ℤ◌, slice_index_or, false≢true, most_potential, same_64}
use Rattle.tsp_bound.specs.states.Duals.{dual_of, scaled}
use Rattle.tsp_bound.proofs.LoweredWeights.{columns_passed, above_where_not}
use Rattle.tsp_bound.proofs.assignment.first_broken_of_row.Goals as goal
use Rattle.tsp_bound.proofs.assignment.first_broken_of_row.Goals.{else-not-fits-via-then-not-fits+else-i-j, else-not-fits-via-else-not-fits}

-- plan: column by column: the first that doesn't fit (`above_where_not`), or all do (`columns_passed`)
pub columns-init : goal.columns-init
columns-init g c = λ b low below other. absurd (omega (arith, low, below))

pub fits-requires-clause-number : goal.fits-requires-clause-number
fits-requires-clause-number g c =
    let d = c.args.d.now in
    let row_in : c.args.i - 1 < length d.rows.now = omega (arith, c.requires.row, c.requires.count) in
    same_64 most_potential (slice_index_or d.rows.now (c.args.i - 1) (pos 0)) (omega arith) (d.are.rows_are (c.args.i - 1) (pos 0) row_in)

pub columns-preserved : goal.columns-preserved
columns-preserved g c =
    let cost = g.C.Costs.at c.args.c.now in
    elim c.else-not-fits.branch [
      | else-not-fits-via-then-not-fits+else-i-j w ↦
          columns_passed (λ (b : ℕ). dual_of c.args.d.now c.args.i b ≤ℤ scaled c.args.d.now cost c.args.i b) c.args.i c.columns.j
          c.columns.invariant (λ other. absurd (other w.if-i-j.false))
      | else-not-fits-via-else-not-fits w ↦
          columns_passed (λ (b : ℕ). dual_of c.args.d.now c.args.i b ≤ℤ scaled c.args.d.now cost c.args.i b) c.args.i c.columns.j
          c.columns.invariant (λ other. w.if-not-fits.ensures.0 refl)
    ]

pub returns-then-i-j : goal.returns-then-i-j
returns-then-i-j g c =
    let d = c.args.d.now in
    let cost = g.C.Costs.at c.args.c.now in
    let broken = above_where_not (dual_of d c.args.i c.columns.j) (scaled d cost c.args.i c.columns.j) (λ fit. false≢true (c.if-not-fits.ensures.1 fit)) in
    ((c.columns.auto.j, omega (arith, c.columns-test.true, c.count-j-end.ensures.value)), c.if-i-j.true, broken, c.columns.invariant)

pub returns : goal.returns
returns g c = λ j column other. c.columns.invariant j column.0 (omega (arith, column.1, c.columns-test.false, c.count-j-end.ensures.value)) other
