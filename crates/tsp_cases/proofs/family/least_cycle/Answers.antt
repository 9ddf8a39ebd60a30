-- The goals of `least_cycle` in src/family.rt, which finds the least length of a cycle through all parts: what it
-- ensures.
use Rattle.tsp_cases.proofs.Prelude.{ℕ, ◌-◌, ◌*◌, ◌≤◌, List, sym, subst, arith, pos}
use Rattle.tsp_cases.specs.Crossings.{IsLeastLength, cost_by_rows, as_whole, no_path, IsLeastSum}
use Rattle.tsp_cases.proofs.LeastCycles.{alone, small_costs, least_of_paths}
use Rattle.tsp_cases.proofs.family.least_cycle.Goals as goal

pub returns-then-between-eq1 : goal.returns-then-between-eq1
returns-then-between-eq1 c =
    subst (λ (n : ℕ). IsLeastLength n (as_whole (cost_by_rows n c.args.between.now.costs.now)) (pos c.from.result)) (sym c.if-between-eq1.true)
    (alone (cost_by_rows 1 c.args.between.now.costs.now) c.from.result c.from.ensures)

-- plan: by the number of parts: one alone has no cycle (`alone`); else the best cycle is a step from part 1 and a best
-- path through all others (`least_of_paths`)
pub returns : goal.returns
returns c =
    let n : ℕ = c.args.between.now.nodes in
    let more : 2 ≤ n = omega (arith, c.args.between.now.some, c.if-between-eq1.false) in
    let sum : IsLeastSum no_path c.args.between.now.costs.now c.deref.result.now 1 ((c.power-all.result - 1) * (n - 1)) (n - 1) c.least_sum.result = c.least_sum.ensures in
    let in_ways : IsLeastSum no_path c.args.between.now.costs.now c.in_ok-paths.paths.items 1 ((c.power-all.result - 1) * (n - 1)) (n - 1) c.least_sum.result =
    subst (λ (paths : List ℕ). IsLeastSum no_path c.args.between.now.costs.now paths 1 ((c.power-all.result - 1) * (n - 1)) (n - 1) c.least_sum.result) c.deref.ensures.value sum in
    least_of_paths n c.least_sum.result c.args.between.now.costs.now c.in_ok-paths.paths.items more c.args.between.now.few
    (small_costs c.args.between.now.costs.now c.args.between.now.small) c.in_ok-paths.ensures.long c.in_ok-paths.ensures.best
    (subst (λ (z : ℕ). IsLeastSum no_path c.args.between.now.costs.now c.in_ok-paths.paths.items 1 ((z - 1) * (n - 1)) (n - 1) c.least_sum.result) c.power-all.ensures in_ways)
