-- The goals of `least_of_q_routes` in src/plan_leaf.rt, which finds the least weight of a walk under a leaf's numbers:
-- the facts of the walks that it makes, and what it ensures.
use Rattle.tsp_routing.proofs.Prelude.{◌≡◌, ◌∙◌, ◌≤◌, ℕ, ℤ, List, length, ap, sym, subst, ◌-ℤ◌, length-map, Vec, weight_between, lists_of, lent_in, set_weight, families_with, sets_tell_combs}
use Rattle.std.proofs.lemmas.Result.{IfOk-weaker}
use Rattle.tsp_routing.specs.PlanLinks.{load_in, capacity_in_parts}
use Rattle.tsp_routing.specs.PlanBounds.{q_route_weight}
use Rattle.tsp_routing.specs.states.Demands.{loads_problem, load_at}
use Rattle.tsp_routing.proofs.RouteProducts.{least_same}
use Rattle.tsp_routing.proofs.CutNeeds.{loads_are_some}
use Rattle.tsp_routing.proofs.plan_leaf.least_of_q_routes.Goals as goal

-- plan: loads and weights of the code are those of the problem (`least_same`), for narrow sums and for others
pub invariant_of-q_routes : goal.invariant_of-q_routes
invariant_of-q_routes g c =
    let s = c.args.leaf.now.context.now in
    let n : ℕ = s.demands.nodes in
    let cost = g.C.Costs.at s.costs.now in
    let loads : c.deref-2.result.now ≡ s.units.now.loads.items = c.deref-2.ensures.value in
    record {
      few = s.are.few;
      depot_in = s.are.depot_in;
      by_node = ap length loads ∙ s.loads.places;
      some = λ node inside.
          subst (λ (k : ℕ). 1 ≤ k) (sym (ap (λ (ks : List ℕ). load_at ks node) loads ∙ s.loads.loads_are cost node inside.0))
          (loads_are_some (loads_problem s.demands cost) s.unit s.units.now.light node);
      same = c.of-weights.ensures.nodes ∙ s.same;
    }

pub invariant_of-q_routes-2 : goal.invariant_of-q_routes-2
invariant_of-q_routes-2 g c =
    let s = c.args.leaf.now.context.now in
    let n : ℕ = s.demands.nodes in
    let cost = g.C.Costs.at s.costs.now in
    let loads : c.deref-2.result.now ≡ s.units.now.loads.items = c.deref-2.ensures.value in
    record {
      few = s.are.few;
      depot_in = s.are.depot_in;
      by_node = ap length loads ∙ s.loads.places;
      some = λ node inside.
          subst (λ (k : ℕ). 1 ≤ k) (sym (ap (λ (ks : List ℕ). load_at ks node) loads ∙ s.loads.loads_are cost node inside.0))
          (loads_are_some (loads_problem s.demands cost) s.unit s.units.now.light node);
      same = c.of-weights.ensures.nodes ∙ s.same;
    }

pub returns-then-are_narrow-clause-least : goal.returns-then-are_narrow-clause-least
returns-then-are_narrow-clause-least g c =
    let leaf = c.args.leaf.now in
    let s = leaf.context.now in
    let n : ℕ = s.demands.nodes in
    let cost = g.C.Costs.at s.costs.now in
    let lists : List (List (List ℕ)) = lent_in s.families.now in
    let ps : List ℤ = leaf.potentials.now in
    let ms : List ℤ = leaf.multipliers.now in
    let own = c.of-weights.result in
    let loads : c.deref-2.result.now ≡ s.units.now.loads.items = c.deref-2.ensures.value in
    let lent_many = length-map s.families.now.lent.now (λ (f : Vec (Vec ℕ)). lists_of f.items) in
    let many : length s.crossed.now ≡ length lists = s.many ∙ sym lent_many in
    let long : length ms ≡ length lists = leaf.numbers.each_family ∙ many in
    let weights : (i j : ℕ) → set_weight own.scale own.potentials.now own.multipliers.now (lent_in own.families.now) (g.C.Costs.at own.costs.now) i j
    ≡ q_route_weight s.scale ps (families_with s.crossed.now lists) ms cost i j = λ i j. c.of-weights.ensures.weights i j
    ∙ ap (λ (z : ℤ). weight_between s.scale ps cost i j -ℤ z) (sym (sets_tell_combs s.crossed.now ms lists i j many long)) in
    IfOk-weaker c.least_q_route.result _ _ (λ found least. least_same n s.demands.depot (load_at c.deref-2.result.now)
    (load_in (loads_problem s.demands cost) s.unit s.units.now.light) s.units.now.room (capacity_in_parts (loads_problem s.demands cost) s.unit s.units.now.light) _
    (q_route_weight s.scale ps (families_with s.crossed.now lists) ms cost) found
    (λ x x_in. ap (λ (ks : List ℕ). load_at ks x) loads ∙ s.loads.loads_are cost x x_in) (s.loads.room_is cost) weights least)
    c.least_q_route.ensures.exact

pub returns-clause-least : goal.returns-clause-least
returns-clause-least g c =
    let leaf = c.args.leaf.now in
    let s = leaf.context.now in
    let n : ℕ = s.demands.nodes in
    let cost = g.C.Costs.at s.costs.now in
    let lists : List (List (List ℕ)) = lent_in s.families.now in
    let ps : List ℤ = leaf.potentials.now in
    let ms : List ℤ = leaf.multipliers.now in
    let own = c.of-weights.result in
    let loads : c.deref-2.result.now ≡ s.units.now.loads.items = c.deref-2.ensures.value in
    let lent_many = length-map s.families.now.lent.now (λ (f : Vec (Vec ℕ)). lists_of f.items) in
    let many : length s.crossed.now ≡ length lists = s.many ∙ sym lent_many in
    let long : length ms ≡ length lists = leaf.numbers.each_family ∙ many in
    let weights : (i j : ℕ) → set_weight own.scale own.potentials.now own.multipliers.now (lent_in own.families.now) (g.C.Costs.at own.costs.now) i j
    ≡ q_route_weight s.scale ps (families_with s.crossed.now lists) ms cost i j = λ i j. c.of-weights.ensures.weights i j
    ∙ ap (λ (z : ℤ). weight_between s.scale ps cost i j -ℤ z) (sym (sets_tell_combs s.crossed.now ms lists i j many long)) in
    IfOk-weaker c.least_q_route-2.result _ _ (λ found least. least_same n s.demands.depot (load_at c.deref-2.result.now)
    (load_in (loads_problem s.demands cost) s.unit s.units.now.light) s.units.now.room (capacity_in_parts (loads_problem s.demands cost) s.unit s.units.now.light) _
    (q_route_weight s.scale ps (families_with s.crossed.now lists) ms cost) found
    (λ x x_in. ap (λ (ks : List ℕ). load_at ks x) loads ∙ s.loads.loads_are cost x x_in) (s.loads.room_is cost) weights least)
    c.least_q_route-2.ensures.exact
