-- The goals of `count_light` in src/demands.rt, which counts the customers that demand less than a unit: its loop and
-- what it ensures.
use Rattle.tsp_routing.proofs.Prelude.{◌≡◌, ◌∙◌, ℕ, ap, arith, ints, nodes_to, sum_int_by}
use Rattle.tsp_routing.specs.PlanLinks.{is_light}
use Rattle.tsp_routing.specs.states.Demands.{loads_problem, light_in}
use Rattle.tsp_routing.proofs.CutNeeds.{others_sum, nodes_more, nodes_none}
use Rattle.tsp_routing.proofs.demands.count_light.Goals as goal

-- plan: the count so far is that of the nodes so far
pub nodes-init : goal.nodes-init
nodes-init c = record {
  few = omega arith;
  sum = λ cost. nodes_none (light_in (loads_problem c.args.demands.now cost) c.args.unit);
}

pub nodes-preserved : goal.nodes-preserved
nodes-preserved c =
    let few = c.light-count.ensures.few in
    let before = c.nodes.invariant.few in
    record {
      few = omega (arith, few, before);
      sum = λ cost.
          let own = c.light-count.ensures.value cost in
          let sum = c.nodes.invariant.sum cost in
          let more = nodes_more (light_in (loads_problem c.args.demands.now cost) c.args.unit) c.nodes.index in
          omega (arith, ints, own, sum, more, few, before);
    }

pub returns-clause-units : goal.returns-clause-units
returns-clause-units c = λ cost.
    let problem = loads_problem c.args.demands.now cost in
    let last : c.nodes.index ≡ c.args.demands.now.nodes = omega (arith, c.nodes-test.false, c.nodes.auto.index-end) in
    record {
      some = c.requires.unit;
      light_is = c.nodes.invariant.sum cost ∙ ap (λ (k : ℕ). sum_int_by (light_in problem c.args.unit) (nodes_to k)) last
          ∙ others_sum c.args.demands.now.nodes c.args.demands.now.depot (is_light problem c.args.unit) c.requires.demands.depot_in;
    }
