-- The goals of `kept_list` in src/kept_states.rt, which makes the list of a load and a last customer: what it ensures.
use Rattle.std.proofs.Common.{◌≡◌, ◌<◌, ℕ, length, subst, sym, arith}
use Rattle.tsp_routing.specs.states.KeptLists.{rules_of, IsKeptList}
use Rattle.tsp_routing.proofs.KeptLists.{list_ends, no_list, no_customer, least_sized}
use Rattle.tsp_routing.proofs.kept_states.kept_list.Goals as goal

-- plan: no start ends with the depot, or with a customer that loads more; else the least of all entries
pub returns-then-last-leaf-clause-exact : goal.returns-then-last-leaf-clause-exact
returns-then-last-leaf-clause-exact c = λ near rows leaf_of states.
    subst (IsKeptList (rules_of c.args.leaf.now near rows) c.args.leaf.now.limit (length c.args.table.now) c.args.last)
    (sym c.new.ensures.items)
    (no_customer (rules_of c.args.leaf.now near rows) c.args.leaf.now.limit (length c.args.table.now) c.args.last
    (λ customer. customer.1 c.if-last-leaf.true))

pub returns-then-load-table-clause-exact : goal.returns-then-load-table-clause-exact
returns-then-load-table-clause-exact c = λ near rows leaf_of states.
    let load = c.load.ensures in
    subst (IsKeptList (rules_of c.args.leaf.now near rows) c.args.leaf.now.limit (length c.args.table.now) c.args.last)
    (sym c.new-then-load-table.ensures.items)
    (no_list (rules_of c.args.leaf.now near rows) c.args.leaf.now.limit (length c.args.table.now) c.args.last
    (omega (arith, load, c.if-load-table.true)))

pub returns-clause-exact : goal.returns-clause-exact
returns-clause-exact c = λ near rows leaf_of states.
    list_ends (rules_of c.args.leaf.now near rows) c.args.leaf.now.limit (length c.args.table.now) c.args.last c.in_ok-entries.entries.items
    c.in_ok-least.least.items (c.in_ok-entries.ensures.exact near rows leaf_of states) c.in_ok-least.ensures.least

pub returns-clause-sizes : goal.returns-clause-sizes
returns-clause-sizes c =
    least_sized (length c.args.table.now) c.in_ok-entries.entries.items c.in_ok-least.least.items c.in_ok-least.ensures.least
    c.in_ok-entries.ensures.sizes
