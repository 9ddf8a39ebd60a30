-- The goals of `ListedWeights::cost` in src/typed.rt, which returns the weight of a pair, in either direction, or 0:
-- what it ensures.
use Rattle.tsp_file.proofs.Prelude.{◌≡◌, ◌<◌, None, length, sym, ◌∙◌, arith, pos, slice_index_or, place_of}
use Rattle.tsp_file.proofs.Relaid.{cost_of_cell, cost_mirrored, cost_unlisted, weight_read, no_cell}
use Rattle.tsp_file.proofs.typed.ListedWeights.cost.Goals as goal

-- plan: by the layout: it lists the cell (`cost_of_cell`), the mirrored one (`cost_mirrored`), or neither
-- (`cost_unlisted`)
pub returns-then-lists : goal.returns-then-lists
returns-then-lists c =
    let w = c.args.self.now in
    let inside : c.place.result < length w.weights.now = omega (arith, c.place.ensures.within, w.filled) in
    weight_read (slice_index_or w.weights.now c.place.result (pos 0)) (w.sizes c.place.result (pos 0) inside)
    ∙ sym (cost_of_cell w.layout w.nodes w.weights.now c.args.i c.args.j c.place.result c.place.ensures.value)

pub returns-then-lists-2 : goal.returns-then-lists-2
returns-then-lists-2 c =
    let w = c.args.self.now in
    let place = c.place-then-lists-2 in
    let inside : place.result < length w.weights.now = omega (arith, place.ensures.within, w.filled) in
    let out : place_of w.layout w.nodes (c.args.i, c.args.j) ≡ None =
    no_cell w.layout w.nodes c.args.i c.args.j (sym c.lists.ensures ∙ c.if-lists.false) in
    weight_read (slice_index_or w.weights.now place.result (pos 0)) (w.sizes place.result (pos 0) inside)
    ∙ sym (cost_mirrored w.layout w.nodes w.weights.now c.args.i c.args.j place.result out place.ensures.value)

pub returns : goal.returns
returns c =
    let w = c.args.self.now in
    sym (cost_unlisted w.layout w.nodes w.weights.now c.args.i c.args.j
    (no_cell w.layout w.nodes c.args.i c.args.j (sym c.lists.ensures ∙ c.if-lists.false))
    (no_cell w.layout w.nodes c.args.j c.args.i (sym c.lists-2.ensures ∙ c.if-lists-2.false)))
