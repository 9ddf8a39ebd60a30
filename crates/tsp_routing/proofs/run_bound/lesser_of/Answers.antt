-- The goals of `lesser_of` in src/run_bound.rt, which compares a weight with that of an entry: what it ensures.
use Rattle.tsp_routing.proofs.Prelude.{◌≡◌, ◌+◌, ◌^◌, ℕ, ℤ, List, pos, neg_ℤ, ap, arith, rules, to_z, of_z, inr, ◌+ℤ◌, ◌≤ℤ◌, w128, ints, least_at}
use Rattle.tsp_routing.specs.states.RunTables.{link_in}
use Rattle.tsp_routing.proofs.run_bound.lesser_of.Goals as goal

-- plan: the sum is that of the entry and the link
pub returns-then-weight-begun-clause-own : goal.returns-then-weight-begun-clause-own
returns-then-weight-begun-clause-own c =
    let nodes = c.args.leaf.now.nodes.now in
    let link : ℤ = link_in nodes.rows.now c.args.last nodes.depot in
    let size = nodes.links.sizes c.args.last nodes.depot c.requires.last nodes.depot_in in
    let link_low = size.0 in
    let link_high = size.1 in
    let low = c.requires.size.0 in
    let high = c.requires.size.1 in
    let from = c.from.ensures in
    let own = c.weight_in-link.ensures in
    let row = ap (λ (xs : List ℤ). least_at xs nodes.depot) c.row.ensures.value in
    let sum : to_z w128 (of_z w128 (to_z w128 (of_z w128 c.args.entry.weight) +ℤ to_z w128 (of_z w128 c.from.result)))
    ≡ c.args.entry.weight +ℤ link =
    omega (arith, ints, link_low, link_high, low, high, from, own, row) in
    omega (arith, ints, sum)

pub returns-then-weight-begun-clause-met : goal.returns-then-weight-begun-clause-met
returns-then-weight-begun-clause-met c =
    let nodes = c.args.leaf.now.nodes.now in
    let link : ℤ = link_in nodes.rows.now c.args.last nodes.depot in
    let size = nodes.links.sizes c.args.last nodes.depot c.requires.last nodes.depot_in in
    let link_low = size.0 in
    let link_high = size.1 in
    let low = c.requires.size.0 in
    let high = c.requires.size.1 in
    let from = c.from.ensures in
    let own = c.weight_in-link.ensures in
    let row = ap (λ (xs : List ℤ). least_at xs nodes.depot) c.row.ensures.value in
    let sum : to_z w128 (of_z w128 (to_z w128 (of_z w128 c.args.entry.weight) +ℤ to_z w128 (of_z w128 c.from.result)))
    ≡ c.args.entry.weight +ℤ link =
    omega (arith, ints, link_low, link_high, low, high, from, own, row) in
    inr sum

pub returns-else-weight-begun-clause-own : goal.returns-else-weight-begun-clause-own
returns-else-weight-begun-clause-own c =
    let nodes = c.args.leaf.now.nodes.now in
    let link : ℤ = link_in nodes.rows.now c.args.last nodes.depot in
    let size = nodes.links.sizes c.args.last nodes.depot c.requires.last nodes.depot_in in
    let link_low = size.0 in
    let link_high = size.1 in
    let low = c.requires.size.0 in
    let high = c.requires.size.1 in
    let from = c.from.ensures in
    let own = c.weight_in-link.ensures in
    let row = ap (λ (xs : List ℤ). least_at xs nodes.depot) c.row.ensures.value in
    let sum : to_z w128 (of_z w128 (to_z w128 (of_z w128 c.args.entry.weight) +ℤ to_z w128 (of_z w128 c.from.result)))
    ≡ c.args.entry.weight +ℤ link =
    omega (arith, ints, link_low, link_high, low, high, from, own, row) in
    let above : c.args.begun.least ≤ℤ to_z w128 (of_z w128 (to_z w128 (of_z w128 c.args.entry.weight) +ℤ to_z w128 (of_z w128 c.from.result))) =
    search (rules, ints) in
    omega (arith, ints, sum, above)
