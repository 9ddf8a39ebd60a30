-- The goals of `verdict_on_routes` in src/routes.rt, which judges the routes of a solution: what its calls require and
-- what it ensures.
use Rattle.tsp_verdict.proofs.Prelude.{◌≡◌, ◌+◌, Bool, List, map, length, refl, sym, arith, rules, FitsSigned, vec_len, w64, to_z-of_z, Fields, nodes_of, DepotCount}
use Rattle.tsp_verdict.specs.SolutionReasons.{NoneOfRoutesBefore}
use Rattle.tsp_verdict.proofs.RouteVerdicts.{after_routing, customers_in, IsMarked, is_marked, repeated_first, unserved_first, all_served, none_unserved, overload_first, is_planned}
use Rattle.tsp_verdict.proofs.RouteFiles.{as_many}
use Rattle.tsp_verdict.proofs.routes.verdict_on_routes.Goals as goal

-- plan: by what is found first: a node twice, one unserved, an overload; else the plan is accepted (`is_planned`)
pub first_against_places-requires-clause-before : goal.first_against_places-requires-clause-before
first_against_places-requires-clause-before c =
    let before : NoneOfRoutesBefore c.args.inst.now c.args.sol.now DepotCount = search rules in
    λ place. after_routing c.args.inst.now c.args.sol.now before c.in-Ok.ensures.3 place

pub first_overload-requires-clause-range : goal.first_overload-requires-clause-range
first_overload-requires-clause-range c =
    customers_in c.args.inst.now c.args.sol.now _ (length c.routing-routing.result.demands.now) c.in-Some.ensures.nodes
    c.routing-routing.ensures.each c.in_default-first_against_places.ensures.0

pub plan_length-requires-clause-range : goal.plan_length-requires-clause-range
plan_length-requires-clause-range c =
    customers_in c.args.inst.now c.args.sol.now _ (nodes_of c.args.inst.now) c.in-Some.ensures.nodes refl c.in_default-first_against_places.ensures.0

pub returns-in-Some-mark_all : goal.returns-in-Some-mark_all
returns-in-Some-mark_all c = repeated_first c.args.inst.now c.args.sol.now _ c.in-Some-mark_all.place c.in-Some.ensures.nodes
    (c.in_default-first_against_places.ensures.1 0) c.in-Some-mark_all.ensures.marks

pub returns-in-Some-first_unmarked : goal.returns-in-Some-first_unmarked
returns-in-Some-first_unmarked c =
    let inst : Fields = c.args.inst.now in
    let sol : Fields = c.args.sol.now in
    let seen : List Bool = c.mark_all.new.seen.items in
    let wide : vec_len c.mark_all.new.seen ≡ nodes_of inst + 1 =
    omega (arith, c.in_default-mark_all.ensures.len, c.in_ok-seen.ensures.len, c.count.ensures.value) in
    let marked : IsMarked inst sol seen (vec_len c.mark_all.new.seen) =
    is_marked inst sol _ seen _ c.in-Some.ensures.nodes wide (c.in_default-first_against_places.ensures.1 0) c.in_default-mark_all.ensures.marks in
    unserved_first inst sol seen (vec_len c.mark_all.new.seen) c.in-Ok.depot c.in-Some-first_unmarked.node marked
    c.in-Ok.ensures.0 c.in-Some-first_unmarked.ensures

pub returns-in-Some-first_overload : goal.returns-in-Some-first_overload
returns-in-Some-first_overload c =
    let inst : Fields = c.args.inst.now in
    let sol : Fields = c.args.sol.now in
    let seen : List Bool = c.mark_all.new.seen.items in
    let wide : vec_len c.mark_all.new.seen ≡ nodes_of inst + 1 =
    omega (arith, c.in_default-mark_all.ensures.len, c.in_ok-seen.ensures.len, c.count.ensures.value) in
    let marked : IsMarked inst sol seen (vec_len c.mark_all.new.seen) =
    is_marked inst sol _ seen _ c.in-Some.ensures.nodes wide (c.in_default-first_against_places.ensures.1 0) c.in_default-mark_all.ensures.marks in
    let served = all_served inst sol seen (vec_len c.mark_all.new.seen) c.in-Ok.depot marked c.in-Ok.ensures.0
    c.in_default-first_unmarked.ensures in
    let fits : FitsSigned w64 c.routing-routing.result.capacity = search rules in
    let first = simp to_z-of_z at c.in-Some-first_overload.ensures in
    overload_first inst sol _ c.routing-routing.result.demands.now c.routing-routing.result.capacity
    c.in-Some-first_overload.route c.in-Some.ensures.value
    c.routing-routing.ensures.demands c.routing-routing.ensures.capacity
    (none_unserved inst sol marked.none served) first

pub returns : goal.returns
returns c =
    let inst : Fields = c.args.inst.now in
    let sol : Fields = c.args.sol.now in
    let seen : List Bool = c.mark_all.new.seen.items in
    let wide : vec_len c.mark_all.new.seen ≡ nodes_of inst + 1 =
    omega (arith, c.in_default-mark_all.ensures.len, c.in_ok-seen.ensures.len, c.count.ensures.value) in
    let marked : IsMarked inst sol seen (vec_len c.mark_all.new.seen) =
    is_marked inst sol _ seen _ c.in-Some.ensures.nodes wide (c.in_default-first_against_places.ensures.1 0) c.in_default-mark_all.ensures.marks in
    let served = all_served inst sol seen (vec_len c.mark_all.new.seen) c.in-Ok.depot marked c.in-Ok.ensures.0
    c.in_default-first_unmarked.ensures in
    let capacity_fits : FitsSigned w64 c.routing-routing.result.capacity = search rules in
    let length_fits : FitsSigned w64 c.plan_length.result = search rules in
    let within = simp to_z-of_z at c.in_default-first_overload.ensures in
    let least = simp to_z-of_z at c.least_routes.ensures in
    simp to_z-of_z (is_planned inst sol seen (vec_len c.mark_all.new.seen) (map (λ route. route.items) c.in-Some.routes.now)
    c.routing-routing.result.demands.now c.routing-routing.result.capacity c.in-Ok.depot c.plan_length.result
    (length c.in-Some.routes.now)
    c.least_routes.result
    c.in-Some.ensures.value c.routing-routing.ensures.demands c.routing-routing.ensures.each c.routing-routing.ensures.capacity
    c.in-Ok.ensures.0
    c.in_default-first_against_places.ensures.0 c.in-Some.ensures.filled marked served c.routing-routing.ensures.each_demand c.in-Ok.ensures.2
    within c.plan_length.ensures (sym (as_many c.in-Some.routes.now)) least)
