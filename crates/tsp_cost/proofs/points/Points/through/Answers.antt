-- The goals of `Points::through` in src/points.rt, which sums the costs along a block of nodes: its loop.
use Rattle.tsp_cost.proofs.Prelude.{◌≡◌, ◌≤◌, ℕ, suc, ◌+◌, ◌∷◌, sym, ap, ap₂, ◌∙◌, arith, to_z, of_z, add-one, ℤ, pos, neg_ℤ, slice_index_or, ◌≤ℤ◌, w64, ints, Point, distance}
use Rattle.tsp_cost.specs.states.Metrics.{weight_kind_of}
use Rattle.tsp_cost.specs.states.Views.{points_cost, points_place}
use Rattle.tsp_cost.proofs.Ways.{way_more, cost_fits, sum_more}
use Rattle.tsp_cost.proofs.points.Points.through.Goals as goal

-- plan: one node more is one way more (`way_more`), and the sum fits 64 bits (`cost_fits`)
pub nodes-preserved : goal.nodes-preserved
nodes-preserved g c =
    let place : ℕ → Point = points_place g.P.InSpace.place c.args.self.now in
    let cost : ℕ → ℕ → ℤ = points_cost g.P.InSpace.place c.args.self.now in
    let k : ℕ = c.nodes.k in
    let next : ℕ = slice_index_or c.args.nodes.now k 0 in
    let so_far : ℤ = to_z w64 c.nodes.sum-bits in
    let paid : ℤ = c.onward-sum.result in
    let behind : slice_index_or (c.args.from ∷ c.args.nodes.now) (k + 1) 0 ≡ next =
    ap (λ (i : ℕ). slice_index_or (c.args.from ∷ c.args.nodes.now) i 0) (add-one k) in
    let here : slice_index_or c.look_up.new.places k c.index-places-k.result ≡ place c.nodes.last =
    c.look_up.ensures.each k c.index-places-k.result (omega (arith, c.nodes-test.true))
    ∙ ap place (sym c.nodes.invariant.here) in
    let there : slice_index_or c.look_up.new.places (k + 1) c.index-places-k-in-nodes.result ≡ place next =
    c.look_up.ensures.each (k + 1) c.index-places-k-in-nodes.result (omega (arith, c.nodes-test.true)) ∙ ap place behind in
    let is : paid ≡ cost c.nodes.last next = c.onward-sum.ensures.value
    ∙ ap₂ (distance (weight_kind_of c.args.self.now.metric)) here there in
    let few : k ≤ 1000000 = omega (arith, c.nodes-test.true, c.requires.few) in
    let low : neg_ℤ (pos 1000000000000) ≤ℤ paid = omega (arith, ints, c.onward-sum.ensures.low) in
    let high : paid ≤ℤ pos 1000000000000 = omega (arith, ints, c.onward-sum.ensures.high) in
    let fits = cost_fits so_far paid k few c.nodes.invariant.size low high in
    record {
      node = c.requires.range k 0 c.nodes-test.true;
      here = sym behind;
      size = rw fits (sum_more so_far paid k c.nodes.invariant.size low high);
      so_far = rw (fits, is, add-one k)
          (way_more cost so_far c.args.from c.nodes.last k c.args.nodes.now c.nodes-test.true c.nodes.invariant.so_far);
    }
