-- The goals of `add_nexts` in src/run_steps.rt, which adds the entries that go on from those of a list: what its calls
-- require and what it ensures.
use Rattle.tsp_routing.proofs.Prelude.{◌≡◌, ℤ, List, false, ◌-ℤ◌, length, rules, get_or, subst, arith, ◌≤ℤ◌, ints, take_all, All-get_or}
use Rattle.tsp_routing.specs.declared.kept_states.KeptState.{KeptState}
use Rattle.tsp_routing.specs.states.KeptLists.{rules_of, AddsNexts}
use Rattle.tsp_routing.proofs.KeptLists.{adds_nothing}
use Rattle.tsp_routing.proofs.NextEntries.{none_beyond}
use Rattle.tsp_routing.proofs.run_steps.add_nexts.Goals as goal

-- plan: no entry goes on if even the floor weighs too much
pub most_before-most-requires-clause-home : goal.most_before-most-requires-clause-home
most_before-most-requires-clause-home c =
    let leaf = c.args.leaf.now in
    let serving = c.args.serving in
    let sizes = (leaf.sizes serving.left (omega (arith, leaf.long, c.requires.left))).sizes serving.last c.requires.last.0 in
    let home_low = sizes.0 in
    let home_high = sizes.1 in
    let home_is = c.requires.home in
    let few = leaf.nodes.now.fits in
    (omega (arith, ints, home_low, home_high, home_is, few, c.requires.left), omega (arith, ints, home_low, home_high, home_is, few, c.requires.left))

pub returns-then-not-is_light-clause-adds : goal.returns-then-not-is_light-clause-adds
returns-then-not-is_light-clause-adds c = λ near rows load leaf_of full.
    let leaf = c.args.leaf.now in
    let serving = c.args.serving in
    let befores : List KeptState = c.args.befores.now in
    let off : c.is_light.result ≡ false = search rules in
    let sizes = (leaf.sizes serving.left (omega (arith, leaf.long, c.requires.left))).sizes serving.last c.requires.last.0 in
    let home_low = sizes.0 in
    let home_high = sizes.1 in
    let home_is = c.requires.home in
    let few = leaf.nodes.now.fits in
    let link = leaf.nodes.now.links.sizes serving.before serving.last c.requires.before.0 c.requires.last.0 in
    let link_low = link.0 in
    let link_high = link.1 in
    let link_is = c.requires.link in
    let limit_low = leaf.small.0 in
    let limit_high = leaf.small.1 in
    let ends = c.most_before-most.ensures in
    let most_is : c.most_before-most.result ≡ (leaf.limit -ℤ serving.link) -ℤ serving.home =
    omega (arith, ints, ends, limit_low, limit_high) in
    subst (λ (xs : List KeptState). AddsNexts (rules_of leaf near rows) leaf.limit load serving.before serving.last xs
    c.args.entries.now.items c.args.entries.now.items) (take_all (length befores) befores (omega arith))
    (adds_nothing (rules_of leaf near rows) leaf.limit load serving.before serving.last serving.left befores c.args.entries.now.items
    (length befores) (omega arith) full
    (λ index default state lt remembers at full.
    none_beyond leaf near rows state (get_or befores index default).weight c.most_before-most.result serving.link serving.home serving.before
    serving.last serving.left leaf_of at full c.requires.last c.requires.left c.requires.link c.requires.home most_is
    (let beyond = c.is_light.ensures off in
    let above = All-get_or (λ (e : KeptState). c.args.floor ≤ℤ e.weight) befores index default lt c.requires.floor in
    omega (
      arith,
      ints,
      beyond,
      above,
      most_is,
      limit_low,
      limit_high,
      link_low,
      link_high,
      link_is,
      home_low,
      home_high,
      home_is,
      few,
      c.requires.left,
    ))))
