-- The goals of `fill_band` in src/relayout.rt, which fills the cells of a band across the diagonal: its loop, what its
-- calls require and what it ensures.
use Rattle.tsp_file.proofs.Prelude.{◌≡◌, ◌+◌, ◌<◌, ◌≤◌, ⊎_elim, inl, inr, arith, cases_lt}
use Rattle.tsp_file.proofs.Spread.{fills_more}
use Rattle.tsp_file.proofs.relayout.fill_band.Goals as goal

-- plan: one row more of the band has its costs (`fills_more`)
pub rows-init : goal.rows-init
rows-init c = record {
  size = c.requires.size;
  costs = λ cost even side. ((λ i j row column had. had), (λ i j row column none. absurd (omega (arith, row.0, none.0))));
}

pub rows-preserved : goal.rows-preserved
rows-preserved c = record {
  size = c.fill_in_band.ensures.size;
  costs = λ cost even side. fills_more c.args.above cost c.args.nodes c.args.weights.now.items c.rows.weights.items
      c.fill_in_band.new.weights.items (λ i j. (i < c.rows.row) × (c.args.left ≤ j) × (j < c.args.left + 64))
      (λ i j. (i ≡ c.rows.row) × (c.args.left ≤ j) × (j < c.args.left + 64))
      (λ i j. (i < c.rows.row + 1) × (c.args.left ≤ j) × (j < c.args.left + 64)) side
      (c.rows.invariant.costs cost even side) (c.fill_in_band.ensures.costs cost even)
      (λ i j row column all. ⊎_elim (λ done. inl (done, all.1, all.2)) (λ here. inr (omega (arith, here, all.0), all.1, all.2))
      (cases_lt i c.rows.row));
}

pub returns-clause-costs : goal.returns-clause-costs
returns-clause-costs c = λ cost even side.
    let filled = c.rows.invariant.costs cost even side in
    (filled.0, λ i j row column band. filled.1 i j row column (omega (arith, row.1, c.rows-test.false), band.0, band.1))

pub fill_in_band-requires-clause-row : goal.fill_in_band-requires-clause-row
fill_in_band-requires-clause-row c = (c.rows.auto.row, omega (arith, c.rows-test.true))

pub fill_in_band-requires-clause-size : goal.fill_in_band-requires-clause-size
fill_in_band-requires-clause-size c = c.rows.invariant.size

pub returns-clause-size : goal.returns-clause-size
returns-clause-size c = c.rows.invariant.size
