-- The goals of `cost` in src/matrix.rt, of the trait `Costs` for `Matrix`: what it ensures. It returns a cell of the
-- matrix.
use Rattle.tsp_cost.proofs.Prelude.{◌<◌, length, sym, ◌∙◌, arith, pos, slice_index_or, cost_of_cell, weight_read}
use Rattle.tsp_format.specs.declared.layout.Layout.TheVariants.{FullMatrix}
use Rattle.tsp_cost.proofs.matrix.MatrixCosts.cost.Goals as goal

-- plan: the weight at the cell's place is its cost (`cost_of_cell`)
pub returns-clause-value : goal.returns-clause-value
returns-clause-value c =
    let m = c.args.self.now in
    let inside : c.place.result < length m.weights.now = omega (arith, c.place.ensures.within, m.full) in
    weight_read (slice_index_or m.weights.now c.place.result (pos 0)) (m.sizes c.place.result (pos 0) inside)
    ∙ sym (cost_of_cell FullMatrix m.nodes m.weights.now c.args.i c.args.j c.place.result c.place.ensures.value)
