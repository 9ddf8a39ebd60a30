-- The goals of `cost` in src/matrix.rt, of the trait `Costs` for `Triangle`: what it ensures. It returns the listed
-- weight of the pair, in either direction.
use Rattle.tsp_cost.proofs.Prelude.{◌≡◌, ◌<◌, ℕ, length, false, ap, sym, ◌∙◌, arith, pos, slice_index_or, is_listed, listed_cost, cost_of_cell, cost_unlisted, diagonal_unlisted, either_way, weight_read}
use Rattle.tsp_cost.proofs.matrix.TriangleCosts.cost.Goals as goal

-- plan: an unlisted diagonal costs 0 (`cost_unlisted`); else the weight at the place is the cell's (`cost_of_cell`)
pub returns-then-not-self-clause-value : goal.returns-then-not-self-clause-value
returns-then-not-self-clause-value c =
    let t = c.args.self.now in
    let i : ℕ = c.args.i in
    let j : ℕ = c.args.j in
    let out : is_listed t.layout (i, i) ≡ false = diagonal_unlisted t.layout i (sym t.diagonal_is ∙ c.if-not-self.true) in
    sym (ap (λ k. listed_cost t.layout t.nodes t.weights.now i k) (sym c.if-i-j.true)
    ∙ cost_unlisted t.layout t.nodes t.weights.now i i (t.unlisted i i out) (t.unlisted i i out))

pub returns-clause-value : goal.returns-clause-value
returns-clause-value c =
    let t = c.args.self.now in
    let cell = c.cell-row.result in
    let inside : c.place.result < length t.weights.now = omega (arith, c.place.ensures.within, t.filled) in
    weight_read (slice_index_or t.weights.now c.place.result (pos 0)) (t.sizes c.place.result (pos 0) inside)
    ∙ sym (cost_of_cell t.layout t.nodes t.weights.now cell.0 cell.1 c.place.result c.place.ensures.value)
    ∙ either_way (listed_cost t.layout t.nodes t.weights.now) t.even c.args.i c.args.j cell c.cell-row.ensures.pair
