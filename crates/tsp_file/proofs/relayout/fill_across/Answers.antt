-- The goals of `fill_across` in src/relayout.rt, which fills the cells across the diagonal: its loop, what its calls
-- require and what it ensures.
use Rattle.tsp_file.proofs.Prelude.{◌≡◌, ◌∙◌, ◌+◌, ◌*◌, ◌<◌, ◌≤◌, true, false, ⊎_elim, inl, inr, arith, cases_lt}
use Rattle.tsp_file.proofs.Spread.{fills_more}
use Rattle.tsp_file.proofs.relayout.fill_across.Goals as goal

pub bands-init : goal.bands-init
bands-init c = record {
  size = c.requires.size;
  costs = λ cost even side. ((λ i j row column had. had), (λ i j row column none. absurd (omega (arith, column.0, none))));
}

-- plan: one band of columns more has its costs on the other side of the diagonal (`fills_more`)
pub bands-preserved : goal.bands-preserved
bands-preserved c = record {
  size = c.fill_band.ensures.size;
  costs = λ cost even side. fills_more c.args.above cost c.args.nodes c.args.weights.now.items c.bands.weights.items
      c.fill_band.new.weights.items (λ i j. j < c.bands.band * 64 + 1)
      (λ i j. (c.bands.band * 64 + 1 ≤ j) × (j < c.bands.band * 64 + 1 + 64))
      (λ i j. j < (c.bands.band + 1) * 64 + 1) side (c.bands.invariant.costs cost even side) (c.fill_band.ensures.costs cost even)
      (λ i j row column all. ⊎_elim (λ done. inl done) (λ here. inr (here, omega (arith, all)))
      (cases_lt j (c.bands.band * 64 + 1)));
}

pub fill_band-requires-clause-size : goal.fill_band-requires-clause-size
fill_band-requires-clause-size c = c.bands.invariant.size

pub returns-clause-size : goal.returns-clause-size
returns-clause-size c = c.bands.invariant.size
