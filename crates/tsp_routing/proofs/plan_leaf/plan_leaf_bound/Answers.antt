-- The goals of `plan_leaf_bound` in src/plan_leaf.rt, which bounds a leaf at a case: the facts of the sum that it
-- makes, what its calls require, that nothing overflows, and what it ensures.
use Rattle.tsp_routing.proofs.Prelude.{◌≡◌, ◌≤◌, ◌∙◌, ◌+◌, ◌-◌, ◌*◌, ◌^◌, Option, neg_ℤ, most_nodes, IsFromTo, IsNode, ℕ, ℤ, List, length, refl, ap, ap₂, sym, subst, arith, rules, to_z, of_z, FitsSigned, pos, ◌-ℤ◌, ◌*ℤ◌, Vec, w64, w128, ints, to_z-of_z, length-map, entry, lists_of, families_with, as_leaf_numbers, lent_in, decisions_in}
use Rattle.std.specs.Prelude.{IfSome}
use Rattle.tsp_cases.specs.states.OpenCases.{IsOpenCase}
use Rattle.tsp_routing.specs.PlanBounds.{limits_total, IsPlanBound, IsLeastQRoute}
use Rattle.tsp_routing.specs.PlanLinks.{sum_of_customers}
use Rattle.tsp_routing.specs.states.Demands.{loads_problem}
use Rattle.tsp_routing.proofs.RouteProducts.{numbers_of_families}
use Rattle.tsp_routing.proofs.plan_leaf.plan_leaf_bound.Goals as goal

-- plan: the sum that is given back fits 128 bits, and is that of the families (`numbers_of_families`)
pub invariant_of-sum : goal.invariant_of-sum
invariant_of-sum g c =
    let leaf = c.args.leaf.now in
    let s = leaf.context.now in
    let fits : FitsSigned w64 s.scale = search rules in
    let some = s.some in
    let limits = c.limits_total-limits.ensures.size in
    let customers = c.customers_total.ensures.size in
    let depot = s.are.depot_in in
    let each = leaf.numbers.each_node in
    let own = leaf.numbers.potentials_are (s.demands.depot - 1) (pos 0) (omega (arith, depot.0, depot.1, each)) in
    record {
      scaled = rw (to_z-of_z w64 s.scale fits) s.scaled;
      some = omega (arith, some);
      few_nodes = s.are.few;
      back_size = (
        omega (arith, ints, limits.0, limits.1, customers.0, customers.1),
        omega (arith, ints, limits.0, limits.1, customers.0, customers.1),
      );
      own_size = (omega (arith, ints, own.0, own.1), omega (arith, ints, own.0, own.1));
      few = c.fewest.ensures.size;
    }

pub returns-clause-found : goal.returns-clause-found
returns-clause-found g c =
    let leaf = c.args.leaf.now in
    let s = leaf.context.now in
    let n : ℕ = s.demands.nodes in
    let cost = g.C.Costs.at s.costs.now in
    let problem = loads_problem s.demands cost in
    let lists : List (List (List ℕ)) = lent_in s.families.now in
    let ps : List ℤ = leaf.potentials.now in
    let ms : List ℤ = leaf.multipliers.now in
    let families = families_with s.crossed.now lists in
    let case = decisions_in c.args.case.now in
    let fits : FitsSigned w64 s.scale = search rules in
    let bound : ℤ = c.plan_bound.result in
    let bound_fits : FitsSigned w128 bound = search rules in
    let each_fits : FitsSigned w128 c.in-Some.each = search rules in
    let limits = c.limits_total-limits.ensures.size in
    let customers = c.customers_total.ensures.size in
    let depot = s.are.depot_in in
    let own = leaf.numbers.potentials_are (s.demands.depot - 1) (pos 0) (let each = leaf.numbers.each_node in omega (arith, depot.0, depot.1, each)) in
    let lent_many = length-map s.families.now.lent.now (λ (f : Vec (Vec ℕ)). lists_of f.items) in
    let many : length s.crossed.now ≡ length lists = s.many ∙ sym lent_many in
    let left : ℤ = c.limits_total-limits.result in
    let right : ℤ = c.customers_total.result in
    let back : to_z w128 (of_z w128 (to_z w128 (of_z w128 left) -ℤ to_z w128 (of_z w128 (pos 2 *ℤ to_z w128 (of_z w128 right)))))
    ≡ limits_total case (2 * (n - 1)) (n + 1) families ms -ℤ (pos 2 *ℤ sum_of_customers n s.demands.depot (entry ps)) =
    (let total : to_z w128 (of_z w128 (to_z w128 (of_z w128 left) -ℤ to_z w128 (of_z w128 (pos 2 *ℤ to_z w128 (of_z w128 right)))))
    ≡ left -ℤ (pos 2 *ℤ right) = omega (arith, ints, limits.0, limits.1, customers.0, customers.1) in total)
    ∙ ap₂ (λ (a b : ℤ). a -ℤ (pos 2 *ℤ b))
    (c.limits_total-limits.ensures.value ∙ sym (numbers_of_families case (2 * (n - 1)) (n + 1) s.crossed.now lists ms many))
    (c.customers_total.ensures.value ∙ ap (λ (k : ℕ). sum_of_customers k s.demands.depot (entry ps)) leaf.numbers.each_node) in
    record {
      each = c.in-Some.each;
      least = subst (IsLeastQRoute problem s.scale s.unit s.units.now.light families (as_leaf_numbers ps ms)) c.in-Some.is c.in_ok-found.ensures.least;
      bound_is = rw (to_z-of_z w128 bound bound_fits)
          (subst (λ (z : ℤ). IsPlanBound problem z ps families ms case c.in-Some.each bound) (to_z-of_z w64 s.scale fits)
          (subst (λ (e : ℤ). IsPlanBound problem (to_z w64 (of_z w64 s.scale)) ps families ms case e bound) (to_z-of_z w128 c.in-Some.each each_fits)
          (c.plan_bound.ensures.bound problem ps families ms case refl (c.fewest.ensures.fewest cost) back
          (omega (arith, ints, own.0, own.1)))));
    }

pub limits_total-limits-requires-clause-some : goal.limits_total-limits-requires-clause-some
limits_total-limits-requires-clause-some g c =
    let depot = c.args.leaf.now.context.now.are.depot_in in omega (arith, depot.0, depot.1)

pub limits_total-limits-requires-clause-nodes : goal.limits_total-limits-requires-clause-nodes
limits_total-limits-requires-clause-nodes g c = c.args.leaf.now.context.now.are.few

pub limits_total-limits-requires-clause-case : goal.limits_total-limits-requires-clause-case
limits_total-limits-requires-clause-case g c =
    subst (λ (k : ℕ). IsOpenCase (c.args.leaf.now.context.now.demands.nodes + k) c.args.case.now) (sym c.args.leaf.now.numbers.each_family)
    c.requires.case

pub limits_total-limits-requires-clause-direction : goal.limits_total-limits-requires-clause-direction
limits_total-limits-requires-clause-direction g c = c.requires.direction

pub limits_total-limits-requires-clause-as_many : goal.limits_total-limits-requires-clause-as_many
limits_total-limits-requires-clause-as_many g c = sym c.args.leaf.now.numbers.each_family

pub limits_total-limits-requires-clause-sizes : goal.limits_total-limits-requires-clause-sizes
limits_total-limits-requires-clause-sizes g c = c.args.leaf.now.numbers.sum

pub customers_total-requires-clause-few : goal.customers_total-requires-clause-few
customers_total-requires-clause-few g c =
    subst (λ (k : ℕ). k ≤ most_nodes) (sym c.args.leaf.now.numbers.each_node) c.args.leaf.now.context.now.are.few

pub customers_total-requires-clause-depot : goal.customers_total-requires-clause-depot
customers_total-requires-clause-depot g c =
    subst (λ (k : ℕ). IsNode k c.args.leaf.now.context.now.demands.depot) (sym c.args.leaf.now.numbers.each_node)
    c.args.leaf.now.context.now.are.depot_in

pub customers_total-requires-clause-potentials : goal.customers_total-requires-clause-potentials
customers_total-requires-clause-potentials g c = c.args.leaf.now.numbers.potentials_are

pub overflow_mul-sum : goal.overflow_mul-sum
overflow_mul-sum g c = let size = c.customers_total.ensures.size in omega (arith, ints, size.0, size.1)

pub overflow_sub-sum : goal.overflow_sub-sum
overflow_sub-sum g c =
    let limits = c.limits_total-limits.ensures.size in
    let customers = c.customers_total.ensures.size in omega (arith, ints, limits.0, limits.1, customers.0, customers.1)

pub bounds-leaf-context : goal.bounds-leaf-context
bounds-leaf-context g c =
    let depot = c.args.leaf.now.context.now.are.depot_in in
    let each = c.args.leaf.now.numbers.each_node in omega (arith, depot.0, depot.1, each)

pub fewest-requires : goal.fewest-requires
fewest-requires g c = record { demands = c.args.leaf.now.context.now.are }

pub overflow_sub-sum-2 : goal.overflow_sub-sum-2
overflow_sub-sum-2 g c = c.args.leaf.now.context.now.are.depot_in.0

pub plan_bound-requires : goal.plan_bound-requires
plan_bound-requires g c =
    let size = subst (λ (o : Option ℤ). IfSome o (IsFromTo (neg_ℤ (pos (2 ^ 83))) (pos (2 ^ 83)))) c.in-Some.is c.in_ok-found.ensures.size in
    let fits : FitsSigned w128 c.in-Some.each = search rules in
    rw (to_z-of_z w128 c.in-Some.each fits) size

pub returns-clause-size : goal.returns-clause-size
returns-clause-size g c =
    let fits : FitsSigned w128 c.plan_bound.result = search rules in
    rw (to_z-of_z w128 c.plan_bound.result fits) c.plan_bound.ensures.size

pub limits_total-limits-requires-clause-few_families : goal.limits_total-limits-requires-clause-few_families
limits_total-limits-requires-clause-few_families g c =
    subst (λ (k : ℕ). k ≤ 10000) (sym c.args.leaf.now.numbers.each_family) c.args.leaf.now.context.now.few_families

pub limits_total-limits-requires-clause-few : goal.limits_total-limits-requires-clause-few
limits_total-limits-requires-clause-few g c = c.args.leaf.now.context.now.few

pub returns-in_default-clause-found : goal.returns-in_default-clause-found
returns-in_default-clause-found g c =
    let leaf = c.args.leaf.now in
    let s = leaf.context.now in
    subst (IsLeastQRoute (loads_problem s.demands (g.C.Costs.at s.costs.now)) s.scale s.unit s.units.now.light
    (families_with s.crossed.now (lent_in s.families.now)) (as_leaf_numbers leaf.potentials.now leaf.multipliers.now)) c.in_default.is
    c.in_ok-found.ensures.least
