-- The goals of `first_against_places` in src/routes.rt, which finds the first reason that a single node shows: what it
-- ensures.
use Rattle.tsp_verdict.proofs.RouteVerdicts.{depot_first, no_depot, larger_first, customers}
use Rattle.tsp_verdict.proofs.routes.first_against_places.Goals as goal

-- plan: by what is found first: the depot in a route (`depot_first`), a node too large (`larger_first`), or neither
pub returns-in-Some : goal.returns-in-Some
returns-in-Some c =
    depot_first c.args.inst.now c.args.sol.now _ c.args.depot c.in-Some.place c.requires.routes.nodes c.requires.depot
    (c.requires.before 0) c.in-Some.ensures

pub returns-in-Some-first_larger_in : goal.returns-in-Some-first_larger_in
returns-in-Some-first_larger_in c =
    let none = no_depot c.args.inst.now c.args.sol.now _ c.args.depot c.requires.routes.nodes c.requires.depot
    (c.requires.before 0) c.in_default.ensures in
    larger_first c.args.inst.now c.args.sol.now _ c.count.result c.in-Some-first_larger_in.place c.requires.routes.nodes
    c.count.ensures.value none c.in-Some-first_larger_in.ensures

pub returns : goal.returns
returns c =
    let none = no_depot c.args.inst.now c.args.sol.now _ c.args.depot c.requires.routes.nodes c.requires.depot
    (c.requires.before 0) c.in_default.ensures in
    let found = customers c.args.inst.now c.args.sol.now _ c.count.result c.args.depot c.requires.routes.nodes
    c.count.ensures.value c.requires.depot none
    c.requires.routes.range c.in_default.ensures c.in_default-first_larger_in.ensures in
    (found.0, λ place. found.1)
