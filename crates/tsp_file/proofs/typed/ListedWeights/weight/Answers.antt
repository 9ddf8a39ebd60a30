-- The goals of `ListedWeights::weight` in src/typed.rt, which returns the weight of a pair in a full matrix: what it
-- ensures.
use Rattle.tsp_file.proofs.Prelude.{◌≡◌, ◌<◌, Some, length, sym, ap, ◌∙◌, arith, pos, slice_index_or, place_of, cells}
use Rattle.tsp_file.proofs.Relaid.{cost_of_cell, weight_read}
use Rattle.tsp_file.proofs.typed.ListedWeights.weight.Goals as goal

-- plan: the weight at the cell's place is its cost (`cost_of_cell`)
pub returns : goal.returns
returns c =
    let w = c.args.self.now in
    let filled = w.filled ∙ ap (λ layout. length (cells layout w.nodes)) c.requires.full in
    let inside : c.place.result < length w.weights.now = omega (arith, c.place.ensures.within, filled) in
    let here : place_of w.layout w.nodes (c.args.i, c.args.j) ≡ Some c.place.result =
    ap (λ layout. place_of layout w.nodes (c.args.i, c.args.j)) c.requires.full ∙ c.place.ensures.value in
    weight_read (slice_index_or w.weights.now c.place.result (pos 0)) (w.sizes c.place.result (pos 0) inside)
    ∙ sym (cost_of_cell w.layout w.nodes w.weights.now c.args.i c.args.j c.place.result here)
