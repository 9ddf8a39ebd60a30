-- The goals of `light` in src/demands.rt, which is 1 for a customer that demands less than a unit: what it ensures.
use Rattle.std.proofs.Common.{arith}
use Rattle.tsp_routing.specs.states.Demands.{loads_problem}
use Rattle.tsp_routing.proofs.CutNeeds.{light_depot, light_some, light_none}
use Rattle.tsp_routing.proofs.demands.light.Goals as goal

-- plan: by whether it is the depot, and whether it demands a whole unit
pub returns-then-node-demands-clause-value : goal.returns-then-node-demands-clause-value
returns-then-node-demands-clause-value c = λ cost.
    light_depot (loads_problem c.args.demands.now cost) c.args.unit c.args.node c.if-node-demands.true

pub returns-then-whole_units-gt0-clause-value : goal.returns-then-whole_units-gt0-clause-value
returns-then-whole_units-gt0-clause-value c = λ cost.
    let units = c.whole_units.ensures.value cost in
    light_some (loads_problem c.args.demands.now cost) c.args.unit c.args.node c.if-node-demands.false
    (omega (arith, units, c.if-whole_units-gt0.true))

pub returns-clause-value : goal.returns-clause-value
returns-clause-value c = λ cost.
    let units = c.whole_units.ensures.value cost in
    light_none (loads_problem c.args.demands.now cost) c.args.unit c.args.node c.if-node-demands.false
    (omega (arith, units, c.if-whole_units-gt0.false))
