-- The goals of `add_from` in src/kept_states.rt, which adds the entries that go on from one customer: what its call requires
-- and what it ensures.
use Rattle.std.proofs.Common.{◌≡◌, ◌<◌, ◌+◌, ◌-◌, ℕ, length, sym, subst, arith, inl, inr}
use Rattle.tsp_routing.specs.states.Demands.{load_at}
use Rattle.tsp_routing.specs.states.KeptLists.{rules_of, IsKeptList, AreSizedEntries}
use Rattle.tsp_routing.proofs.KeptLists.{list_goes_on, list_skips}
use Rattle.tsp_routing.proofs.kept_states.add_from.Goals as goal

-- plan: no start goes on from the depot or from the customer itself; else from the list of the smaller load
pub returns-then-before-leaf-clause-exact : goal.returns-then-before-leaf-clause-exact
returns-then-before-leaf-clause-exact c = λ near rows leaf_of states h.
    list_skips (rules_of c.args.leaf.now near rows) c.args.leaf.now.limit (length c.args.table.now) c.args.before c.args.last
    c.args.entries.now.items (inl c.if-before-leaf.true) h

pub returns-then-before-last-clause-exact : goal.returns-then-before-last-clause-exact
returns-then-before-last-clause-exact c = λ near rows leaf_of states h.
    list_skips (rules_of c.args.leaf.now near rows) c.args.leaf.now.limit (length c.args.table.now) c.args.before c.args.last
    c.args.entries.now.items (inr c.if-before-last.true) h

pub add_nexts-requires-clause-sizes : goal.add_nexts-requires-clause-sizes
add_nexts-requires-clause-sizes c =
    let nodes = c.args.leaf.now.nodes.now in
    let load : ℕ = length c.args.table.now - c.load.result in
    let is = c.load.ensures in
    let one = nodes.some c.args.last c.requires.last in
    let lt : load < length c.args.table.now = omega (arith, is, one, c.requires.own) in
    let few = nodes.fits in (
      load,
      omega (arith, lt, few, c.requires.few),
      subst (AreSizedEntries load) (sym c.list_at-befores.ensures)
          ((c.requires.sizes load lt).sizes c.args.before (omega (arith, c.requires.before.1))),
    )

pub returns-clause-exact : goal.returns-clause-exact
returns-clause-exact c = λ near rows leaf_of states h.
    let leaf = c.args.leaf.now in
    let nodes = leaf.nodes.now in
    let rules = rules_of leaf near rows in
    let load : ℕ = length c.args.table.now - c.load.result in
    let is = c.load.ensures in
    let one = nodes.some c.args.last c.requires.last in
    let lt : load < length c.args.table.now = omega (arith, is, one, c.requires.own) in
    let sum : load + load_at nodes.loads.now c.args.last ≡ length c.args.table.now = omega (arith, is, c.requires.own) in
    let list : IsKeptList rules leaf.limit load c.args.before c.list_at-befores.result.now =
    subst (IsKeptList rules leaf.limit load c.args.before) (sym c.list_at-befores.ensures)
    (states load lt c.args.before) in
    list_goes_on rules leaf.limit (length c.args.table.now) load c.args.before c.args.last c.list_at-befores.result.now
    c.args.entries.now.items c.add_nexts.new.entries.items sum list
    (c.in_ok-add_nexts.ensures.adds near rows load leaf_of (omega (arith, sum, c.requires.few))) h

pub returns-clause-sizes : goal.returns-clause-sizes
returns-clause-sizes c = λ olds.
    let nodes = c.args.leaf.now.nodes.now in
    let load : ℕ = length c.args.table.now - c.load.result in
    let is = c.load.ensures in
    let one = nodes.some c.args.last c.requires.last in
    let lt : load < length c.args.table.now = omega (arith, is, one, c.requires.own) in
    c.in_ok-add_nexts.ensures.sizes load (length c.args.table.now) lt
    (subst (AreSizedEntries load) (sym c.list_at-befores.ensures)
    ((c.requires.sizes load lt).sizes c.args.before (omega (arith, c.requires.before.1)))) olds

pub returns-then-before-leaf-clause-sizes : goal.returns-then-before-leaf-clause-sizes
returns-then-before-leaf-clause-sizes c = λ sizes. sizes

pub returns-then-before-last-clause-sizes : goal.returns-then-before-last-clause-sizes
returns-then-before-last-clause-sizes c = λ sizes. sizes
