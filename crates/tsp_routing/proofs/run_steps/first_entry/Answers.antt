-- The goals of `first_entry` in src/run_steps.rt, which makes the entry of a start of one customer: what its call
-- requires and what it ensures.
use Rattle.tsp_routing.proofs.Prelude.{◌≡◌, ◌+◌, ◌*◌, ◌^◌, ◌≤◌, ℕ, ℤ, List, true, false, pos, neg_ℤ, sym, ap, ◌∙◌, subst, arith, rules, ◌+ℤ◌, ◌≤ℤ◌, ◌<ℤ◌, ints, least_at}
use Rattle.tsp_routing.specs.Runs.{first_state}
use Rattle.tsp_routing.specs.KeptStates.{IsCompletion}
use Rattle.tsp_routing.specs.states.Demands.{load_at}
use Rattle.tsp_routing.specs.states.RunTables.{link_in}
use Rattle.tsp_routing.specs.states.KeptLists.{rules_of}
use Rattle.tsp_routing.proofs.KeptStarts.{completions_tell_kept_states}
use Rattle.tsp_routing.proofs.run_steps.first_entry.Goals as goal

-- plan: by the completion
pub is_below-requires-clause-home : goal.is_below-requires-clause-home
is_below-requires-clause-home c =
    let leaf = c.args.leaf.now in
    let nodes = leaf.nodes.now in
    let first : ℕ = c.args.first in
    let left : ℕ = c.args.left in
    let sizes = (leaf.sizes left (omega (arith, leaf.long, c.requires.left))).sizes first c.requires.first.0 in
    let home_low = sizes.0 in
    let home_high = sizes.1 in
    let home_is = c.home_at-home.ensures in
    let few = nodes.fits in
    (omega (arith, ints, home_low, home_high, home_is, few, c.requires.left), omega (arith, ints, home_low, home_high, home_is, few, c.requires.left))

pub returns-then-not-is_below-clause-exact : goal.returns-then-not-is_below-clause-exact
returns-then-not-is_below-clause-exact c = λ near rows leaf_of full kept.
    let leaf = c.args.leaf.now in
    let nodes = leaf.nodes.now in
    let first : ℕ = c.args.first in
    let left : ℕ = c.args.left in
    let sizes = (leaf.sizes left (omega (arith, leaf.long, c.requires.left))).sizes first c.requires.first.0 in
    let home_low = sizes.0 in
    let home_high = sizes.1 in
    let home_is = c.home_at-home.ensures in
    let few = nodes.fits in
    let link_size = nodes.links.sizes nodes.depot first nodes.depot_in c.requires.first.0 in
    let link_low = link_size.0 in
    let link_high = link_size.1 in
    let from = c.from-weight.ensures in
    let row = c.weight_in.ensures in
    let same = ap (λ (xs : List ℤ). least_at xs first) c.row.ensures.value in
    let completion : IsCompletion (rules_of leaf near rows) (load_at nodes.loads.now first) first c.home_at-home.result =
    subst (IsCompletion (rules_of leaf near rows) (load_at nodes.loads.now first) first) (sym home_is)
    (leaf_of.homes left (omega (arith, leaf.long, c.requires.left)) (load_at nodes.loads.now first) first full c.requires.first) in
    let limit_low = leaf.small.0 in
    let limit_high = leaf.small.1 in
    let tells = completions_tell_kept_states (rules_of leaf near rows) leaf.limit (first_state (rules_of leaf near rows) first)
    (link_in nodes.rows.now nodes.depot first) c.home_at-home.result completion in
    let off : c.is_below.result ≡ false = search rules in
    let beyond = c.is_below.ensures.beyond off in
    let under = tells.0 kept in
    omega (arith, ints, under, beyond, link_low, link_high, from, row, same, home_low, home_high, home_is, few, c.requires.left, limit_low, limit_high)

pub returns-clause-exact : goal.returns-clause-exact
returns-clause-exact c = λ near rows leaf_of full.
    let leaf = c.args.leaf.now in
    let nodes = leaf.nodes.now in
    let first : ℕ = c.args.first in
    let left : ℕ = c.args.left in
    let sizes = (leaf.sizes left (omega (arith, leaf.long, c.requires.left))).sizes first c.requires.first.0 in
    let home_low = sizes.0 in
    let home_high = sizes.1 in
    let home_is = c.home_at-home.ensures in
    let few = nodes.fits in
    let link_size = nodes.links.sizes nodes.depot first nodes.depot_in c.requires.first.0 in
    let link_low = link_size.0 in
    let link_high = link_size.1 in
    let from = c.from-weight.ensures in
    let row = c.weight_in.ensures in
    let same = ap (λ (xs : List ℤ). least_at xs first) c.row.ensures.value in
    let completion : IsCompletion (rules_of leaf near rows) (load_at nodes.loads.now first) first c.home_at-home.result =
    subst (IsCompletion (rules_of leaf near rows) (load_at nodes.loads.now first) first) (sym home_is)
    (leaf_of.homes left (omega (arith, leaf.long, c.requires.left)) (load_at nodes.loads.now first) first full c.requires.first) in
    let limit_low = leaf.small.0 in
    let limit_high = leaf.small.1 in
    let tells = completions_tell_kept_states (rules_of leaf near rows) leaf.limit (first_state (rules_of leaf near rows) first)
    (link_in nodes.rows.now nodes.depot first) c.home_at-home.result completion in
    let on : c.is_below.result ≡ true = search rules in
    let under = c.is_below.ensures.below on in (
      tells.1 (omega (arith, ints, under, link_low, link_high, from, row, same, home_low, home_high, home_is, few, c.requires.left, limit_low, limit_high)),
      c.first-word.ensures (rules_of leaf near rows) (sym leaf.same) leaf_of.memories,
      omega (arith, ints, link_low, link_high, from, row, same, home_low, home_high, home_is, few, c.requires.left, limit_low, limit_high),
    )
