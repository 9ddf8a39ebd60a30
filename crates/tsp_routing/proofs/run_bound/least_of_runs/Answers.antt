-- The goals of `least_of_runs` in src/run_bound.rt, which makes the tables and finds the least run: what it ensures.
use Rattle.tsp_routing.proofs.Prelude.{◌≡◌, ◌≤◌, ◌+◌, ◌*◌, ◌^◌, Option, ℕ, ℤ, List, map, pos, neg_ℤ, arith, length, sym, subst, rules, FitsSigned, to_z, of_z, Vec, w128, ints, to_z-of_z}
use Rattle.std.specs.Prelude.{IfSome}
use Rattle.tsp_routing.specs.KeptStates.{most_states, HasTooManyStates}
use Rattle.tsp_routing.specs.RunBounds.{IsLeastRun}
use Rattle.tsp_routing.specs.Runs.{AreCharges}
use Rattle.tsp_format.specs.Steps.{SubsetRow}
use Rattle.tsp_routing.specs.declared.kept_states.KeptState.{KeptState}
use Rattle.tsp_routing.specs.declared.run_leaf.RunLeaf.{RunLeaf}
use Rattle.tsp_routing.specs.states.MemoryTables.{AreMemoriesOf}
use Rattle.tsp_routing.specs.states.RunTables.{rules_by, AreHomeRows}
use Rattle.tsp_routing.specs.states.KeptLists.{entry_count, AreStateRowsIfFew, rules_of, IsLeafOf, AreStateRows, AreSizedRows}
use Rattle.tsp_routing.proofs.KeptCounts.{table_few}
use Rattle.tsp_routing.proofs.LeastRuns.{least_runs_are_sized}
use Rattle.tsp_routing.proofs.run_bound.least_of_runs.Goals as goal

-- plan: ways home, then kept states, then the least of these
leaf_is : (leaf : RunLeaf) (near : ℕ → List ℕ) (rows : List (SubsetRow × ℤ))
    → AreMemoriesOf (rules_of leaf near rows) leaf.memories.now.count leaf.memories.now.keys.items leaf.memories.now.places.items
    → map (λ (row : SubsetRow × ℤ). row.1) rows ≡ leaf.charges.now → AreCharges rows
    → AreHomeRows (rules_of leaf near rows) leaf.homes.now → IsLeafOf leaf near rows
leaf_is leaf near rows memories priced signs homes =
    record { memories = memories; priced = priced; signs = signs; homes = homes }

pub returns-in_default-clause-exact : goal.returns-in_default-clause-exact
returns-in_default-clause-exact c = λ near rows are priced signs.
    let nodes = c.args.nodes.now in
    let rules = rules_by nodes.nodes nodes.depot nodes.loads.now nodes.room nodes.rows.now near rows in
    let homes = subst (AreHomeRows rules) (sym c.deref.ensures.value) (c.in_ok-homes.ensures.exact near rows) in
    let fits : FitsSigned w128 c.args.limit = search rules in
    let same = to_z-of_z w128 c.args.limit fits in
    subst (HasTooManyStates rules) same (subst (AreStateRowsIfFew rules (to_z w128 (of_z w128 c.args.limit))) c.in_default.is
    (c.in_ok-table.ensures.exact near rows (leaf_is _ near rows are priced signs homes)))

pub returns-clause-exact : goal.returns-clause-exact
returns-clause-exact c = λ near rows are priced signs.
    let nodes = c.args.nodes.now in
    let rules = rules_by nodes.nodes nodes.depot nodes.loads.now nodes.room nodes.rows.now near rows in
    let homes = subst (AreHomeRows rules) (sym c.deref.ensures.value) (c.in_ok-homes.ensures.exact near rows) in
    let fits : FitsSigned w128 c.args.limit = search rules in
    let same = to_z-of_z w128 c.args.limit fits in
    let table : List (Vec (Vec KeptState)) = c.in-Some.table.items in
    let states = subst (AreStateRowsIfFew rules (to_z w128 (of_z w128 c.args.limit))) c.in-Some.is
    (c.in_ok-table.ensures.exact near rows (leaf_is _ near rows are priced signs homes)) in
    let least = c.least_run.ensures near rows (leaf_is _ near rows are priced signs homes)
    (subst (AreStateRows rules (to_z w128 (of_z w128 c.args.limit))) (sym c.deref-3.ensures.value) states) in
    let counted = subst (λ (o : Option (Vec (Vec (Vec KeptState)))). IfSome o (λ (own : Vec (Vec (Vec KeptState))). entry_count own.items ≤ most_states))
    c.in-Some.is c.in_ok-table.ensures.few in
    let long = subst (λ (o : Option (Vec (Vec (Vec KeptState)))). IfSome o (λ (own : Vec (Vec (Vec KeptState))). length own.items ≡ nodes.room + 1))
    c.in-Some.is c.in_ok-table.ensures.long in
    let sizes = subst (λ (o : Option (Vec (Vec (Vec KeptState)))). IfSome o (λ (own : Vec (Vec (Vec KeptState))). AreSizedRows nodes.nodes own.items))
    c.in-Some.is c.in_ok-table.ensures.sizes in
    let few = table_few rules (to_z w128 (of_z w128 c.args.limit)) table (most_states + 1) are.near states long
    (λ load lt. (sizes load lt).places) (omega (arith, counted)) in
    let result_fits : FitsSigned w128 c.least_run.result = search rules in (
      subst (λ (z : ℤ). HasTooManyStates rules z → ⊥) same few,
      rw (to_z-of_z w128 c.least_run.result result_fits) (subst (λ (z : ℤ). IsLeastRun rules z c.least_run.result) same least),
    )

pub returns-clause-size : goal.returns-clause-size
returns-clause-size c = λ near rows are priced signs.
    let nodes = c.args.nodes.now in
    let rules = rules_by nodes.nodes nodes.depot nodes.loads.now nodes.room nodes.rows.now near rows in
    let homes = subst (AreHomeRows rules) (sym c.deref.ensures.value) (c.in_ok-homes.ensures.exact near rows) in
    let fits : FitsSigned w128 c.args.limit = search rules in
    let same = to_z-of_z w128 c.args.limit fits in
    let least = c.least_run.ensures near rows (leaf_is _ near rows are priced signs homes)
    (subst (AreStateRows rules (to_z w128 (of_z w128 c.args.limit))) (sym c.deref-3.ensures.value)
    (subst (AreStateRowsIfFew rules (to_z w128 (of_z w128 c.args.limit))) c.in-Some.is
    (c.in_ok-table.ensures.exact near rows (leaf_is _ near rows are priced signs homes)))) in
    let result_fits : FitsSigned w128 c.least_run.result = search rules in
    let least_is : IsLeastRun rules c.args.limit c.least_run.result = subst (λ (z : ℤ). IsLeastRun rules z c.least_run.result) same least in
    let small = c.requires.small.0 in
    let large = c.requires.small.1 in
    let low = least_runs_are_sized rules c.args.limit c.least_run.result (record {
      depot = nodes.depot_in;
      links = λ i j first second. (nodes.links.sizes i j first second).0;
      loads = nodes.some;
    }) signs small least_is in
    let high = least_is.within in
    let few = nodes.fits in
    rw (to_z-of_z w128 c.least_run.result result_fits) (omega (arith, ints, low, few), omega (arith, ints, high, large))
