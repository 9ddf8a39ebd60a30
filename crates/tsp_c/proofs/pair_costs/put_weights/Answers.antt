-- The goals of `put_weights` in src/pair_costs.rt, which puts the costs of pairs into a buffer: its loop.
use Rattle.tsp_c.proofs.Prelude.{◌∙◌, rules, FitsSigned, w64, to_z-of_z}
use Rattle.tsp_c.specs.NumberCalls.{pair_cost}
use Rattle.tsp_c.proofs.pair_costs.put_weights.Goals as goal

-- plan: the cost of the next pair fits 64 bits, so `put` writes it as it is, behind those before
pub pairs-preserved : goal.pairs-preserved
pairs-preserved c =
    let fits : FitsSigned w64 c.cost.result = search rules in
    c.put.ensures (pair_cost c.args.pairs.now c.args.instance.now) c.args.out.now
    (to_z-of_z w64 c.cost.result fits ∙ c.cost.ensures.value) c.pairs.invariant
