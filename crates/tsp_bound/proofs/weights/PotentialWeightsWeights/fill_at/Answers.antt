-- The goals of `fill_at` in src/weights.rt, of the trait `Weights` of tsp_bound for `Weights`: what it ensures. It
-- writes the weights between a node and some nodes into a row.
use Rattle.tsp_bound.proofs.Prelude.{◌≡◌, ◌<◌, length, slice_index, ℕ, arith, ◌<ℤ◌, ints, least_at, most_64}
use Rattle.tsp_bound.specs.states.Potentials.{weight_under, triples_in, weight_less}
use Rattle.tsp_bound.specs.states.ByNode.{AreLowerings}
use Rattle.tsp_bound.proofs.LoweredWeights.{lowered_to}
use Rattle.tsp_bound.proofs.weights.PotentialWeightsWeights.fill_at.Goals as goal

-- plan: each weight that is asked for, less the multiplier of its pair, is the lowered weight (`lowered_to`)
pub returns : goal.returns
returns g c =
    let n = g.C.Costs.nodes c.args.self.now.c.now in
    let w = weight_under c.args.self.now.p.now (g.C.Costs.at c.args.self.now.c.now) in
    let v = weight_less c.args.self.now.p.now (triples_in c.args.self.now.m.now) (g.C.Costs.at c.args.self.now.c.now) in
    let lowerings = c.at.result.now in
    let are : AreLowerings n lowerings = rw (← c.args.self.now.over) c.at.ensures.are in
    let node : ℕ → ℕ = slice_index c.args.to.now in
    let both : (k : ℕ) → k < length c.args.to.now → (least_at c.take_lowerings.new.row (node k) ≡ v c.args.from (node k)) × (least_at c.take_lowerings.new.row (node k) <ℤ most_64) = λ k h.
    let first = c.weigh.ensures.values k h in
    let sum = c.at.ensures.sums (node k) in
    lowered_to n lowerings (node k) (least_at c.weigh.new.row (node k)) (least_at c.take_lowerings.new.row (node k)) (v c.args.from (node k)) are (c.weigh.ensures.sizes k h)
    (c.take_lowerings.ensures (node k)) (omega (arith, ints, first, sum)) in
    record {
      values = λ k h. (both k h).0;
      small = λ k h. (both k h).1;
    }
