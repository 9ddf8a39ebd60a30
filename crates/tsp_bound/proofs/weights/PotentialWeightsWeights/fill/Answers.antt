-- The goals of `fill` in src/weights.rt, of the trait `Weights` of tsp_bound for `Weights`: what it ensures. It writes
-- the weights between a node and each node into a row.
use Rattle.tsp_bound.proofs.Prelude.{◌≡◌, ℕ, arith, ◌<ℤ◌, ints, IsNode, least_at, most_64}
use Rattle.tsp_bound.specs.states.Potentials.{weight_under, triples_in, weight_less}
use Rattle.tsp_bound.specs.states.ByNode.{AreLowerings}
use Rattle.tsp_bound.proofs.LoweredWeights.{lowered_to}
use Rattle.tsp_bound.proofs.weights.PotentialWeightsWeights.fill.Goals as goal

-- plan: each weight of the row, less the multiplier of its pair, is the lowered weight (`lowered_to`)
pub returns : goal.returns
returns g c =
    let n = g.C.Costs.nodes c.args.self.now.c.now in
    let w = weight_under c.args.self.now.p.now (g.C.Costs.at c.args.self.now.c.now) in
    let v = weight_less c.args.self.now.p.now (triples_in c.args.self.now.m.now) (g.C.Costs.at c.args.self.now.c.now) in
    let lowerings = c.at.result.now in
    let are : AreLowerings n lowerings = rw (← c.args.self.now.over) c.at.ensures.are in
    let both : (x : ℕ) → IsNode n x → (least_at c.take_lowerings.new.row x ≡ v c.args.from x) × (least_at c.take_lowerings.new.row x <ℤ most_64) = λ x h.
    let first = c.weigh_all.ensures.values x h in
    let sum = c.at.ensures.sums x in
    lowered_to n lowerings x (least_at c.weigh_all.new.row x) (least_at c.take_lowerings.new.row x) (v c.args.from x) are (c.weigh_all.ensures.sizes x h) (c.take_lowerings.ensures x)
    (omega (arith, ints, first, sum)) in
    record {
      values = λ x h. (both x h).0;
      small = λ x h. (both x h).1;
    }
