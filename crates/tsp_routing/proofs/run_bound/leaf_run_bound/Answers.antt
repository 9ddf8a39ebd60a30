-- The goals of `leaf_run_bound` in src/run_bound.rt, which bounds a leaf at a case by its least run: the facts of the sum
-- that it makes, what its calls require, and what it ensures.
use Rattle.tsp_routing.proofs.Prelude.{◌≡◌, ◌≤◌, ◌∙◌, ◌+◌, most_nodes, IsNode, ◌-◌, ◌*◌, ◌^◌, Option, neg_ℤ, IsFromTo, ℕ, ℤ, List, length, refl, ap, ap₂, sym, subst, arith, rules, to_z, of_z, FitsSigned, pos, ◌-ℤ◌, ◌*ℤ◌, Vec, w64, w128, ints, to_z-of_z, length-map, entry, lists_of, families_with, as_leaf_numbers, lent_in, decisions_in}
use Rattle.std.proofs.Math.Logic.{∥∥₁_elim}
use Rattle.std.proofs.Props.{props}
use Rattle.std.specs.Prelude.{IfSome}
use Rattle.tsp_cases.specs.states.OpenCases.{IsOpenCase}
use Rattle.tsp_routing.specs.PlanBounds.{limits_total}
use Rattle.tsp_routing.specs.PlanLinks.{sum_of_customers}
use Rattle.tsp_routing.specs.Runs.{halves_total}
use Rattle.tsp_format.specs.Steps.{SubsetRow}
use Rattle.tsp_routing.specs.RunBounds.{IsLeastRun, leaf_rules, IsRunBound}
use Rattle.tsp_routing.specs.states.Demands.{loads_problem}
use Rattle.tsp_routing.specs.states.KeptLists.{IsLeastRunIfFew}
use Rattle.tsp_routing.specs.states.RunJudged.{halves_with}
use Rattle.tsp_routing.proofs.RouteProducts.{numbers_of_families}
use Rattle.tsp_routing.proofs.LeastRuns.{halves_are_total}
use Rattle.tsp_routing.proofs.run_bound.leaf_run_bound.Goals as goal

-- plan: the sum that is given back fits 128 bits, and is that of the families and of the rows
pub invariant_of-sum : goal.invariant_of-sum
invariant_of-sum g c =
    let leaf = c.args.leaf.now in
    let s = leaf.context.now in
    let fits : FitsSigned w64 s.scale = search rules in
    let some = s.some in
    let limits = c.limits_total-limits.ensures.size in
    let customers = c.customers_total-customers.ensures.size in
    let halves = c.halves_of-halves.ensures.size in
    let depot = s.are.depot_in in
    let each = leaf.numbers.each_node in
    let own = leaf.numbers.potentials_are (s.demands.depot - 1) (pos 0) (omega (arith, depot.0, depot.1, each)) in
    record {
      scaled = rw (to_z-of_z w64 s.scale fits) s.scaled;
      some = omega (arith, some);
      few_nodes = s.are.few;
      back_size = (
        omega (arith, ints, limits.0, limits.1, customers.0, customers.1, halves.0, halves.1),
        omega (arith, ints, limits.0, limits.1, customers.0, customers.1, halves.0, halves.1),
      );
      own_size = (omega (arith, ints, own.0, own.1), omega (arith, ints, own.0, own.1));
      few = c.fewest.ensures.size;
    }

pub bound_of_runs-requires : goal.bound_of_runs-requires
bound_of_runs-requires g c =
    ∥∥₁_elim c.requires.rules (hlevel props) (λ given.
    let size = subst (λ (o : Option ℤ). IfSome o (IsFromTo (neg_ℤ (pos (2 ^ 83))) (pos (2 ^ 83)))) c.in-Some.is
    (c.in_ok-each.ensures.size given.0 given.1 given.2 given.3 given.4) in
    let fits : FitsSigned w128 c.in-Some.each = search rules in
    rw (to_z-of_z w128 c.in-Some.each fits) size)

pub returns-in_default-clause-bound : goal.returns-in_default-clause-bound
returns-in_default-clause-bound g c = λ near rows are sets priced signs.
    let leaf = c.args.leaf.now in
    let s = leaf.context.now in
    let problem = loads_problem s.demands (g.C.Costs.at s.costs.now) in
    let numbers = as_leaf_numbers leaf.potentials.now leaf.multipliers.now in
    let families = families_with s.crossed.now (lent_in s.families.now) in
    subst (IsLeastRunIfFew (leaf_rules problem s.scale s.unit s.units.now.light families numbers near rows)
    (pos 2 *ℤ entry leaf.potentials.now s.demands.depot)) c.in_default.is (c.in_ok-each.ensures.exact near rows are priced signs)

pub returns-clause-bound : goal.returns-clause-bound
returns-clause-bound g c = λ near rows are sets priced signs.
    let leaf = c.args.leaf.now in
    let s = leaf.context.now in
    let n : ℕ = s.demands.nodes in
    let cost = g.C.Costs.at s.costs.now in
    let problem = loads_problem s.demands cost in
    let lists : List (List (List ℕ)) = lent_in s.families.now in
    let ps : List ℤ = leaf.potentials.now in
    let ms : List ℤ = leaf.multipliers.now in
    let numbers = as_leaf_numbers ps ms in
    let families = families_with s.crossed.now lists in
    let case = decisions_in c.args.case.now in
    let fits : FitsSigned w64 s.scale = search rules in
    let bound : ℤ = c.bound_of_runs.result in
    let bound_fits : FitsSigned w128 bound = search rules in
    let each_fits : FitsSigned w128 c.in-Some.each = search rules in
    let limits = c.limits_total-limits.ensures.size in
    let customers = c.customers_total-customers.ensures.size in
    let halves = c.halves_of-halves.ensures.size in
    let depot = s.are.depot_in in
    let own = leaf.numbers.potentials_are (s.demands.depot - 1) (pos 0) (let each = leaf.numbers.each_node in omega (arith, depot.0, depot.1, each)) in
    let lent_many = length-map s.families.now.lent.now (λ (f : Vec (Vec ℕ)). lists_of f.items) in
    let many : length s.crossed.now ≡ length lists = s.many ∙ sym lent_many in
    let left = c.limits_total-limits.ensures.value ∙ sym (numbers_of_families case (2 * (n - 1)) (n + 1) s.crossed.now lists ms many) in
    let right = c.customers_total-customers.ensures.value
    ∙ ap (λ (k : ℕ). sum_of_customers k s.demands.depot (entry ps)) leaf.numbers.each_node in
    let half : c.halves_of-halves.result ≡ halves_total rows =
    c.halves_of-halves.ensures.value
    ∙ (sym (ap₂ (λ (xs : List SubsetRow) (gs : List ℤ). halves_with xs gs) sets priced) ∙ halves_are_total rows) in
    let l : ℤ = c.limits_total-limits.result in
    let r : ℤ = c.customers_total-customers.result in
    let h : ℤ = c.halves_of-halves.result in
    let limits_low = limits.0 in
    let limits_high = limits.1 in
    let customers_low = customers.0 in
    let customers_high = customers.1 in
    let halves_low = halves.0 in
    let halves_high = halves.1 in
    let inner : to_z w128 (of_z w128 (to_z w128 (of_z w128 l) -ℤ to_z w128 (of_z w128 (pos 2 *ℤ to_z w128 (of_z w128 r))))) ≡ l -ℤ (pos 2 *ℤ r) =
    omega (arith, ints, limits_low, limits_high, customers_low, customers_high) in
    let outer : to_z w128 (of_z w128 ((l -ℤ (pos 2 *ℤ r)) -ℤ to_z w128 (of_z w128 h))) ≡ (l -ℤ (pos 2 *ℤ r)) -ℤ h =
    omega (arith, ints, limits_low, limits_high, customers_low, customers_high, halves_low, halves_high) in
    let total : to_z w128 (of_z w128 (to_z w128 (of_z w128 (to_z w128 (of_z w128 l) -ℤ to_z w128 (of_z w128 (pos 2 *ℤ to_z w128 (of_z w128 r)))))
    -ℤ to_z w128 (of_z w128 h))) ≡ (l -ℤ (pos 2 *ℤ r)) -ℤ h =
    ap (λ (z : ℤ). to_z w128 (of_z w128 (z -ℤ to_z w128 (of_z w128 h)))) inner ∙ outer in
    let back : to_z w128 (of_z w128 (to_z w128 (of_z w128 (to_z w128 (of_z w128 l) -ℤ to_z w128 (of_z w128 (pos 2 *ℤ to_z w128 (of_z w128 r)))))
    -ℤ to_z w128 (of_z w128 h)))
    ≡ (limits_total case (2 * (n - 1)) (n + 1) families ms -ℤ (pos 2 *ℤ sum_of_customers n s.demands.depot (entry ps))) -ℤ halves_total rows =
    total ∙ ap₂ (λ (a b : ℤ). a -ℤ b) (ap₂ (λ (a b : ℤ). a -ℤ (pos 2 *ℤ b)) left right) half in
    let limit : ℤ = pos 2 *ℤ entry ps s.demands.depot in
    let given = subst (IsLeastRunIfFew (leaf_rules problem s.scale s.unit s.units.now.light families numbers near rows) limit) c.in-Some.is
    (c.in_ok-each.ensures.exact near rows are priced signs) in
    let least : IsLeastRun (leaf_rules problem s.scale s.unit s.units.now.light families numbers near rows) limit c.in-Some.each = given.1 in
    let scaled = subst (λ (z : ℤ). IsLeastRun (leaf_rules problem z s.unit s.units.now.light families numbers near rows) limit c.in-Some.each)
    (sym (to_z-of_z w64 s.scale fits)) least in
    let sized = subst (λ (e : ℤ). IsLeastRun (leaf_rules problem (to_z w64 (of_z w64 s.scale)) s.unit s.units.now.light families numbers near rows) limit e)
    (sym (to_z-of_z w128 c.in-Some.each each_fits)) scaled in
    let out = c.bound_of_runs.ensures.bound problem s.unit s.units.now.light families case numbers near rows refl
    back (omega (arith, ints, own.0, own.1)) sized in (
      given.0,
      rw (to_z-of_z w128 bound bound_fits)
          (subst (λ (z : ℤ). IsRunBound problem z s.unit s.units.now.light families case numbers near rows bound) (to_z-of_z w64 s.scale fits) out),
    )

pub limits_total-limits-requires-clause-some : goal.limits_total-limits-requires-clause-some
limits_total-limits-requires-clause-some g c =
    let depot = c.args.leaf.now.context.now.are.depot_in in omega (arith, depot.0, depot.1)

pub limits_total-limits-requires-clause-nodes : goal.limits_total-limits-requires-clause-nodes
limits_total-limits-requires-clause-nodes g c = c.args.leaf.now.context.now.are.few

pub limits_total-limits-requires-clause-case : goal.limits_total-limits-requires-clause-case
limits_total-limits-requires-clause-case g c =
    subst (λ (k : ℕ). IsOpenCase (c.args.leaf.now.context.now.demands.nodes + k) c.args.case.now) (sym c.args.leaf.now.numbers.each_family)
    c.requires.case

pub limits_total-limits-requires-clause-direction : goal.limits_total-limits-requires-clause-direction
limits_total-limits-requires-clause-direction g c = c.requires.direction

pub limits_total-limits-requires-clause-as_many : goal.limits_total-limits-requires-clause-as_many
limits_total-limits-requires-clause-as_many g c = sym c.args.leaf.now.numbers.each_family

pub limits_total-limits-requires-clause-sizes : goal.limits_total-limits-requires-clause-sizes
limits_total-limits-requires-clause-sizes g c = c.args.leaf.now.numbers.sum

pub customers_total-customers-requires-clause-few : goal.customers_total-customers-requires-clause-few
customers_total-customers-requires-clause-few g c =
    subst (λ (k : ℕ). k ≤ most_nodes) (sym c.args.leaf.now.numbers.each_node) c.args.leaf.now.context.now.are.few

pub customers_total-customers-requires-clause-depot : goal.customers_total-customers-requires-clause-depot
customers_total-customers-requires-clause-depot g c =
    subst (λ (k : ℕ). IsNode k c.args.leaf.now.context.now.demands.depot) (sym c.args.leaf.now.numbers.each_node)
    c.args.leaf.now.context.now.are.depot_in

pub customers_total-customers-requires-clause-potentials : goal.customers_total-customers-requires-clause-potentials
customers_total-customers-requires-clause-potentials g c = c.args.leaf.now.numbers.potentials_are

pub overflow_mul-sum : goal.overflow_mul-sum
overflow_mul-sum g c = let size = c.customers_total-customers.ensures.size in omega (arith, ints, size.0, size.1)

pub overflow_sub-sum : goal.overflow_sub-sum
overflow_sub-sum g c =
    let limits = c.limits_total-limits.ensures.size in
    let customers = c.customers_total-customers.ensures.size in omega (arith, ints, limits.0, limits.1, customers.0, customers.1)

pub bounds-leaf-context : goal.bounds-leaf-context
bounds-leaf-context g c =
    let depot = c.args.leaf.now.context.now.are.depot_in in
    let each = c.args.leaf.now.numbers.each_node in omega (arith, depot.0, depot.1, each)

pub fewest-requires : goal.fewest-requires
fewest-requires g c = record { demands = c.args.leaf.now.context.now.are }

pub halves_of-halves-requires-clause-many : goal.halves_of-halves-requires-clause-many
halves_of-halves-requires-clause-many g c = c.requires.many ∙ sym c.requires.rows

pub halves_of-halves-requires-clause-sets : goal.halves_of-halves-requires-clause-sets
halves_of-halves-requires-clause-sets g c = c.requires.sets

pub halves_of-halves-requires-clause-sizes : goal.halves_of-halves-requires-clause-sizes
halves_of-halves-requires-clause-sizes g c = c.requires.sizes

pub overflow_sub-sum-2 : goal.overflow_sub-sum-2
overflow_sub-sum-2 g c =
    let limits = c.limits_total-limits.ensures.size in
    let customers = c.customers_total-customers.ensures.size in
    let halves = c.halves_of-halves.ensures.size in
    omega (arith, ints, limits.0, limits.1, customers.0, customers.1, halves.0, halves.1)

pub overflow_sub-sum-3 : goal.overflow_sub-sum-3
overflow_sub-sum-3 g c = c.args.leaf.now.context.now.are.depot_in.0

pub returns-clause-size : goal.returns-clause-size
returns-clause-size g c =
    let fits : FitsSigned w128 c.bound_of_runs.result = search rules in
    rw (to_z-of_z w128 c.bound_of_runs.result fits) c.bound_of_runs.ensures.size

pub limits_total-limits-requires-clause-few_families : goal.limits_total-limits-requires-clause-few_families
limits_total-limits-requires-clause-few_families g c =
    subst (λ (k : ℕ). k ≤ 10000) (sym c.args.leaf.now.numbers.each_family) c.args.leaf.now.context.now.few_families

pub limits_total-limits-requires-clause-few : goal.limits_total-limits-requires-clause-few
limits_total-limits-requires-clause-few g c = c.args.leaf.now.context.now.few
