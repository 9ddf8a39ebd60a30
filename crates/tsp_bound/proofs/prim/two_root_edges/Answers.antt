-- The goals of `two_root_edges` in src/prim.rt, which finds the two nodes nearest to node 1: what its calls require and
-- what it ensures.
use Rattle.tsp_bound.proofs.Prelude.{◌≡◌, ◌∙◌, ◌-◌, ℕ, List, length, subst, arith, ℤ, AreNearest, IsInner, least_at, nearest_by_row}
use Rattle.tsp_bound.proofs.prim.two_root_edges.Goals as goal

pub nearest_two-requires-clause-some : goal.nearest_two-requires-clause-some
nearest_two-requires-clause-some g c = omega (arith, c.fill.auto.row, c.requires.room, c.requires.some)

pub nearest_two-requires-clause-few : goal.nearest_two-requires-clause-few
nearest_two-requires-clause-few g c = omega (arith, c.fill.auto.row, c.requires.room, c.requires.few)

-- plan: the row of node 1 is filled in, and its two lightest entries are found (`nearest_by_row`)
pub returns : goal.returns
returns g c =
    let n = g.W.Weights.nodes c.args.w.now in
    let w = g.W.Weights.at c.args.w.now in
    let row : List ℤ = c.fill.new.row in
    let two = c.nearest_two.result in
    let inner = λ (x : ℕ) (h : IsInner n x). c.fill.ensures.values x (omega (arith, h.0), h.1) in
    let count : length row - 1 ≡ n = omega (arith, c.fill.auto.row, c.requires.room) in
    let nearest : AreNearest n (λ i j. least_at row j) c.nearest_two.result.0.node c.nearest_two.result.1.node =
    subst (λ (k : ℕ). AreNearest k (λ i j. least_at row j) c.nearest_two.result.0.node c.nearest_two.result.1.node) count c.nearest_two.ensures.nearest in
    record {
      nearest = nearest_by_row n w row two.0.node two.1.node inner nearest;
      first = c.nearest_two.ensures.first ∙ inner two.0.node nearest.first_in;
      second = c.nearest_two.ensures.second ∙ inner two.1.node nearest.second_in;
    }
