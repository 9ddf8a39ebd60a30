-- The goals of `least_leaf_run` in src/run_bound.rt, which finds the least weight of a run under a leaf's numbers: the facts
-- of the nodes that it makes, what its calls require, and what it ensures.
use Rattle.tsp_routing.proofs.Prelude.{◌≡◌, ◌∙◌, ◌-◌, ◌≤◌, ℕ, ℤ, List, length, pos, neg_ℤ, get_or, ap, sym, subst, arith, rules, FitsSigned, to_z, of_z, Option, Some, None, IsFromTo, ◌^◌, ◌-ℤ◌, ◌*ℤ◌, w64, w128, ints, to_z-of_z, length-map, Vec, IsNode, weight_between, entry, lists_of, lent_in, set_weight, families_with, sets_tell_combs}
use Rattle.std.specs.Prelude.{IfSome}
use Rattle.tsp_routing.specs.PlanLinks.{load_in, capacity_in_parts}
use Rattle.tsp_routing.specs.PlanBounds.{q_route_weight}
use Rattle.tsp_routing.specs.states.Demands.{loads_problem, load_at}
use Rattle.tsp_routing.specs.states.LeafWeights.{AreFirstRows}
use Rattle.tsp_routing.specs.states.RunTables.{link_in}
use Rattle.tsp_routing.specs.states.KeptLists.{IsLeastRunIfFew}
use Rattle.tsp_routing.proofs.LeastRuns.{found_alike, with_numbers, link_rows_are, links_are}
use Rattle.tsp_routing.proofs.CutNeeds.{loads_are_some}
use Rattle.tsp_routing.proofs.run_bound.least_leaf_run.Goals as goal

-- plan: loads and weights of the code are those of the problem
pub invariant_of-run_nodes : goal.invariant_of-run_nodes
invariant_of-run_nodes g c =
    let leaf = c.args.leaf.now in
    let s = leaf.context.now in
    let n : ℕ = s.demands.nodes in
    let cost = g.C.Costs.at s.costs.now in
    let own = c.of-weights.result in
    let w = set_weight own.scale own.potentials.now own.multipliers.now (lent_in own.families.now) (g.C.Costs.at own.costs.now) in
    let loads : c.deref.result.now ≡ s.units.now.loads.items = c.deref.ensures.value in
    let rows_are : AreFirstRows n w n c.deref-2.result.now =
    subst (AreFirstRows n w n) (sym c.deref-2.ensures.value)
    (subst (λ (k : ℕ). AreFirstRows k w k c.in_ok-rows.rows.items) (c.of-weights.ensures.nodes ∙ s.same) c.in_ok-rows.ensures) in
    record {
      few = s.are.few;
      depot_in = s.are.depot_in;
      by_node = ap length loads ∙ s.loads.places;
      some = λ node inside.
          subst (λ (k : ℕ). 1 ≤ k) (sym (ap (λ (ks : List ℕ). load_at ks node) loads ∙ s.loads.loads_are cost node inside.0))
          (loads_are_some (loads_problem s.demands cost) s.unit s.units.now.light node);
      fits = c.requires.few;
      links = link_rows_are n w c.deref-2.result.now rows_are;
    }

pub twice-limit-requires : goal.twice-limit-requires
twice-limit-requires g c =
    let leaf = c.args.leaf.now in
    let s = leaf.context.now in
    let depot = s.are.depot_in in
    let each = leaf.numbers.each_node in
    let own = leaf.numbers.potentials_are (s.demands.depot - 1) (pos 0) (omega (arith, depot.0, depot.1, each)) in
    (omega (arith, ints, own.0, own.1), omega (arith, ints, own.0, own.1))

pub returns-in_default-clause-exact : goal.returns-in_default-clause-exact
returns-in_default-clause-exact g c = λ near rows are priced signs.
    let leaf = c.args.leaf.now in
    let s = leaf.context.now in
    let n : ℕ = s.demands.nodes in
    let cost = g.C.Costs.at s.costs.now in
    let own = c.of-weights.result in
    let w = set_weight own.scale own.potentials.now own.multipliers.now (lent_in own.families.now) (g.C.Costs.at own.costs.now) in
    let loads : c.deref.result.now ≡ s.units.now.loads.items = c.deref.ensures.value in
    let rows_are : AreFirstRows n w n c.deref-2.result.now =
    subst (AreFirstRows n w n) (sym c.deref-2.ensures.value)
    (subst (λ (k : ℕ). AreFirstRows k w k c.in_ok-rows.rows.items) (c.of-weights.ensures.nodes ∙ s.same) c.in_ok-rows.ensures) in
    let lists : List (List (List ℕ)) = lent_in s.families.now in
    let ps : List ℤ = leaf.potentials.now in
    let ms : List ℤ = leaf.multipliers.now in
    let lent_many = length-map s.families.now.lent.now (λ (f : Vec (Vec ℕ)). lists_of f.items) in
    let many : length s.crossed.now ≡ length lists = s.many ∙ sym lent_many in
    let long : length ms ≡ length lists = leaf.numbers.each_family ∙ many in
    let weight = q_route_weight s.scale ps (families_with s.crossed.now lists) ms cost in
    let weights : (i j : ℕ) → IsNode n i → IsNode n j → link_in c.deref-2.result.now i j ≡ weight i j = λ i j first second.
    links_are n w c.deref-2.result.now rows_are i j first second ∙ c.of-weights.ensures.weights i j
    ∙ ap (λ (z : ℤ). weight_between s.scale ps cost i j -ℤ z) (sym (sets_tell_combs s.crossed.now ms lists i j many long)) in
    let depot = s.are.depot_in in
    let each = leaf.numbers.each_node in
    let potential = leaf.numbers.potentials_are (s.demands.depot - 1) (pos 0) (omega (arith, depot.0, depot.1, each)) in
    let value = c.twice-limit.ensures.value in
    let size = c.twice-limit.ensures.size in
    let limit : to_z w128 (of_z w128 c.twice-limit.result) ≡ pos 2 *ℤ entry ps s.demands.depot =
    omega (arith, ints, value, size.0, size.1, potential.0, potential.1) in
    let code_rules = with_numbers n s.demands.depot s.units.now.room near rows (load_at c.deref.result.now) (link_in c.deref-2.result.now) in
    let out = subst (IsLeastRunIfFew code_rules (to_z w128 (of_z w128 c.twice-limit.result))) c.in_default.is (c.in_ok-least.ensures.exact near rows (record {
      near = are.near;
      many = are.many;
      keys_are = are.keys_are;
      members_are = are.members_are;
      places_are = are.places_are;
    }) priced signs) in
    let load = load_in (loads_problem s.demands cost) s.unit s.units.now.light in
    let alike = found_alike n s.demands.depot s.units.now.room near rows depot (load_at c.deref.result.now) load
    (link_in c.deref-2.result.now) weight (λ node inside. ap (λ (ks : List ℕ). load_at ks node) loads ∙ s.loads.loads_are cost node inside) weights
    (to_z w128 (of_z w128 c.twice-limit.result)) None out in
    let whole =
    subst (λ (room : ℕ). IsLeastRunIfFew (with_numbers n s.demands.depot room near rows load weight) (pos 2 *ℤ entry ps s.demands.depot) None)
    (s.loads.room_is cost)
    (subst (λ (z : ℤ). IsLeastRunIfFew (with_numbers n s.demands.depot s.units.now.room near rows load weight) z None) limit alike) in
    whole

pub returns-clause-exact : goal.returns-clause-exact
returns-clause-exact g c = λ near rows are priced signs.
    let leaf = c.args.leaf.now in
    let s = leaf.context.now in
    let n : ℕ = s.demands.nodes in
    let cost = g.C.Costs.at s.costs.now in
    let own = c.of-weights.result in
    let w = set_weight own.scale own.potentials.now own.multipliers.now (lent_in own.families.now) (g.C.Costs.at own.costs.now) in
    let loads : c.deref.result.now ≡ s.units.now.loads.items = c.deref.ensures.value in
    let rows_are : AreFirstRows n w n c.deref-2.result.now =
    subst (AreFirstRows n w n) (sym c.deref-2.ensures.value)
    (subst (λ (k : ℕ). AreFirstRows k w k c.in_ok-rows.rows.items) (c.of-weights.ensures.nodes ∙ s.same) c.in_ok-rows.ensures) in
    let lists : List (List (List ℕ)) = lent_in s.families.now in
    let ps : List ℤ = leaf.potentials.now in
    let ms : List ℤ = leaf.multipliers.now in
    let lent_many = length-map s.families.now.lent.now (λ (f : Vec (Vec ℕ)). lists_of f.items) in
    let many : length s.crossed.now ≡ length lists = s.many ∙ sym lent_many in
    let long : length ms ≡ length lists = leaf.numbers.each_family ∙ many in
    let weight = q_route_weight s.scale ps (families_with s.crossed.now lists) ms cost in
    let weights : (i j : ℕ) → IsNode n i → IsNode n j → link_in c.deref-2.result.now i j ≡ weight i j = λ i j first second.
    links_are n w c.deref-2.result.now rows_are i j first second ∙ c.of-weights.ensures.weights i j
    ∙ ap (λ (z : ℤ). weight_between s.scale ps cost i j -ℤ z) (sym (sets_tell_combs s.crossed.now ms lists i j many long)) in
    let depot = s.are.depot_in in
    let each = leaf.numbers.each_node in
    let potential = leaf.numbers.potentials_are (s.demands.depot - 1) (pos 0) (omega (arith, depot.0, depot.1, each)) in
    let value = c.twice-limit.ensures.value in
    let size = c.twice-limit.ensures.size in
    let limit : to_z w128 (of_z w128 c.twice-limit.result) ≡ pos 2 *ℤ entry ps s.demands.depot =
    omega (arith, ints, value, size.0, size.1, potential.0, potential.1) in
    let code_rules = with_numbers n s.demands.depot s.units.now.room near rows (load_at c.deref.result.now) (link_in c.deref-2.result.now) in
    let out = subst (IsLeastRunIfFew code_rules (to_z w128 (of_z w128 c.twice-limit.result))) c.in-Some.is (c.in_ok-least.ensures.exact near rows (record {
      near = are.near;
      many = are.many;
      keys_are = are.keys_are;
      members_are = are.members_are;
      places_are = are.places_are;
    }) priced signs) in
    let load = load_in (loads_problem s.demands cost) s.unit s.units.now.light in
    let alike = found_alike n s.demands.depot s.units.now.room near rows depot (load_at c.deref.result.now) load
    (link_in c.deref-2.result.now) weight (λ node inside. ap (λ (ks : List ℕ). load_at ks node) loads ∙ s.loads.loads_are cost node inside) weights
    (to_z w128 (of_z w128 c.twice-limit.result)) (Some c.in-Some.least) out in
    let whole =
    subst (λ (room : ℕ). IsLeastRunIfFew (with_numbers n s.demands.depot room near rows load weight) (pos 2 *ℤ entry ps s.demands.depot) (Some c.in-Some.least))
    (s.loads.room_is cost)
    (subst (λ (z : ℤ). IsLeastRunIfFew (with_numbers n s.demands.depot s.units.now.room near rows load weight) z (Some c.in-Some.least)) limit alike) in
    let least_fits : FitsSigned w128 c.in-Some.least = search rules in
    (whole.0, rw (to_z-of_z w128 c.in-Some.least least_fits) whole.1)

pub returns-clause-size : goal.returns-clause-size
returns-clause-size g c = λ near rows are priced signs.
    let least_fits : FitsSigned w128 c.in-Some.least = search rules in
    rw (to_z-of_z w128 c.in-Some.least least_fits) (subst (λ (o : Option ℤ). IfSome o (IsFromTo (neg_ℤ (pos (2 ^ 83))) (pos (2 ^ 83)))) c.in-Some.is
    (c.in_ok-least.ensures.size near rows (record {
      near = are.near;
      many = are.many;
      keys_are = are.keys_are;
      members_are = are.members_are;
      places_are = are.places_are;
    }) priced signs))
