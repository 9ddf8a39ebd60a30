-- The goals of `next_entry` in src/run_steps.rt, which makes the entry of the next state: what its calls require and what
-- it ensures.
use Rattle.tsp_routing.proofs.Prelude.{◌≡◌, ◌+◌, ◌*◌, ◌^◌, ◌≤◌, ℕ, ℤ, true, false, pos, neg_ℤ, get_or, refl, sym, ap, ◌∙◌, subst, arith, rules, ◌+ℤ◌, ◌≤ℤ◌, ◌<ℤ◌, ints, IsNode}
use Rattle.tsp_routing.specs.Runs.{charged, next_state}
use Rattle.tsp_routing.specs.KeptStates.{IsCompletion}
use Rattle.tsp_routing.specs.states.Demands.{load_at}
use Rattle.tsp_routing.specs.states.RunTables.{link_in}
use Rattle.tsp_routing.specs.states.KeptLists.{rules_of, steps_in}
use Rattle.tsp_routing.proofs.NextEntries.{none_if_seen, none_at_last, next_is}
use Rattle.tsp_routing.proofs.RunSteps.{IsStepOf, step_remembers, step_pays}
use Rattle.tsp_routing.proofs.run_steps.next_entry.Goals as goal

-- plan: by which test ends the step, or none
pub is_below-requires-clause-home : goal.is_below-requires-clause-home
is_below-requires-clause-home c =
    let leaf = c.args.leaf.now in
    let serving = c.args.serving in
    let sizes = (leaf.sizes serving.left (omega (arith, leaf.long, c.requires.left))).sizes serving.last c.requires.last.0 in
    let home_low = sizes.0 in
    let home_high = sizes.1 in
    let home_is = c.requires.home in
    let few = leaf.nodes.now.fits in
    (omega (arith, ints, home_low, home_high, home_is, few, c.requires.left), omega (arith, ints, home_low, home_high, home_is, few, c.requires.left))

pub step_charge-charge-requires : goal.step_charge-charge-requires
step_charge-charge-requires c = c.requires.table.few_paid

pub returns-then-tells-clause-exact : goal.returns-then-tells-clause-exact
returns-then-tells-clause-exact c = λ near rows state leaf_of remembers at full.
    let leaf = c.args.leaf.now in
    let serving = c.args.serving in
    let rules = rules_of leaf near rows in
    let same = sym leaf.same in
    none_if_seen rules leaf.limit state c.args.entry.weight serving.last c.tells.result c.requires.last.0.1
    (c.tells.ensures rules state same leaf_of.memories remembers at) c.if-tells.true

pub returns-then-not-is_below-clause-exact : goal.returns-then-not-is_below-clause-exact
returns-then-not-is_below-clause-exact c = λ near rows state leaf_of remembers at full.
    let leaf = c.args.leaf.now in
    let serving = c.args.serving in
    let sizes = (leaf.sizes serving.left (omega (arith, leaf.long, c.requires.left))).sizes serving.last c.requires.last.0 in
    let home_low = sizes.0 in
    let home_high = sizes.1 in
    let home_is = c.requires.home in
    let few = leaf.nodes.now.fits in
    let rules = rules_of leaf near rows in
    let same = sym leaf.same in
    let is : IsStepOf rules state c.args.entry.word serving.before serving.last leaf.memories.now.nodes leaf.memories.now.count
    leaf.memories.now.keys.items leaf.memories.now.places.items leaf.charges.now (steps_in leaf serving.before serving.last) =
    record {
      tables = leaf.memories.now.tables;
      same = same;
      are = leaf_of.memories;
      remembers = remembers;
      at = at;
      last_node = subst (λ (n : ℕ). IsNode n serving.before) same c.requires.before.0;
      next_node = subst (λ (n : ℕ). IsNode n serving.last) same c.requires.last.0;
      steps_are = refl;
    } in
    let link : rules.weight state.last serving.last ≡ serving.link =
    ap (λ (v : ℕ). link_in leaf.nodes.now.rows.now v serving.last) at ∙ sym c.requires.link in
    let completion : IsCompletion rules (state.load + load_at leaf.nodes.now.loads.now serving.last) serving.last serving.home =
    subst (IsCompletion rules (state.load + load_at leaf.nodes.now.loads.now serving.last) serving.last) (sym home_is)
    (leaf_of.homes serving.left (omega (arith, leaf.long, c.requires.left))
    (state.load + load_at leaf.nodes.now.loads.now serving.last) serving.last full c.requires.last) in
    let limit_low = leaf.small.0 in
    let limit_high = leaf.small.1 in
    let off : c.is_below.result ≡ false = search rules in
    let beyond = c.is_below.ensures.beyond off in
    let value = c.weight_after-weight.ensures.value in
    let low = c.weight_after-weight.ensures.size.0 in
    let high = c.weight_after-weight.ensures.size.1 in
    let weight_low = c.requires.size.0 in
    let weight_high = c.requires.size.1 in
    let charge_low = c.step_charge-charge.ensures.size.0 in
    let charge_high = c.step_charge-charge.ensures.size.1 in
    none_at_last rules leaf.limit state c.args.entry.weight serving.link c.step_charge-charge.result serving.home serving.last link
    (step_pays rules state c.args.entry.word serving.before serving.last leaf.memories.now.nodes leaf.memories.now.count
    leaf.memories.now.keys.items leaf.memories.now.places.items leaf.charges.now (steps_in leaf serving.before serving.last) c.step_charge-charge.result is leaf_of.priced
    (λ bits few_bits word_is. c.step_charge-charge.ensures.charge (steps_in leaf serving.before serving.last) bits c.requires.table few_bits
    word_is)) completion
    (omega (
      arith,
      ints,
      beyond,
      value,
      low,
      high,
      weight_low,
      weight_high,
      charge_low,
      charge_high,
      home_low,
      home_high,
      home_is,
      few,
      c.requires.left,
      limit_low,
      limit_high,
    ))

pub returns-clause-exact : goal.returns-clause-exact
returns-clause-exact c = λ near rows state leaf_of remembers at full.
    let leaf = c.args.leaf.now in
    let serving = c.args.serving in
    let sizes = (leaf.sizes serving.left (omega (arith, leaf.long, c.requires.left))).sizes serving.last c.requires.last.0 in
    let home_low = sizes.0 in
    let home_high = sizes.1 in
    let home_is = c.requires.home in
    let few = leaf.nodes.now.fits in
    let rules = rules_of leaf near rows in
    let same = sym leaf.same in
    let is : IsStepOf rules state c.args.entry.word serving.before serving.last leaf.memories.now.nodes leaf.memories.now.count
    leaf.memories.now.keys.items leaf.memories.now.places.items leaf.charges.now (steps_in leaf serving.before serving.last) =
    record {
      tables = leaf.memories.now.tables;
      same = same;
      are = leaf_of.memories;
      remembers = remembers;
      at = at;
      last_node = subst (λ (n : ℕ). IsNode n serving.before) same c.requires.before.0;
      next_node = subst (λ (n : ℕ). IsNode n serving.last) same c.requires.last.0;
      steps_are = refl;
    } in
    let link : rules.weight state.last serving.last ≡ serving.link =
    ap (λ (v : ℕ). link_in leaf.nodes.now.rows.now v serving.last) at ∙ sym c.requires.link in
    let completion : IsCompletion rules (state.load + load_at leaf.nodes.now.loads.now serving.last) serving.last serving.home =
    subst (IsCompletion rules (state.load + load_at leaf.nodes.now.loads.now serving.last) serving.last) (sym home_is)
    (leaf_of.homes serving.left (omega (arith, leaf.long, c.requires.left))
    (state.load + load_at leaf.nodes.now.loads.now serving.last) serving.last full c.requires.last) in
    let limit_low = leaf.small.0 in
    let limit_high = leaf.small.1 in
    let on : c.is_below.result ≡ true = search rules in
    let under = c.is_below.ensures.below on in
    let value = c.weight_after-weight.ensures.value in
    let low = c.weight_after-weight.ensures.size.0 in
    let high = c.weight_after-weight.ensures.size.1 in
    let weight_low = c.requires.size.0 in
    let weight_high = c.requires.size.1 in
    let charge_low = c.step_charge-charge.ensures.size.0 in
    let charge_high = c.step_charge-charge.ensures.size.1 in
    next_is rules leaf.limit state c.args.entry.weight serving.link c.step_charge-charge.result serving.home serving.last
    c.tells.result _ c.requires.last (λ same_node. c.requires.other (sym at ∙ same_node)) (omega (arith, full))
    (c.tells.ensures rules state same leaf_of.memories remembers at) c.if-tells.false link
    (step_pays rules state c.args.entry.word serving.before serving.last leaf.memories.now.nodes leaf.memories.now.count
    leaf.memories.now.keys.items leaf.memories.now.places.items leaf.charges.now (steps_in leaf serving.before serving.last) c.step_charge-charge.result is leaf_of.priced
    (λ bits few_bits word_is. c.step_charge-charge.ensures.charge (steps_in leaf serving.before serving.last) bits c.requires.table few_bits
    word_is)) completion
    (omega (
      arith,
      ints,
      under,
      value,
      low,
      high,
      weight_low,
      weight_high,
      charge_low,
      charge_high,
      home_low,
      home_high,
      home_is,
      few,
      c.requires.left,
      limit_low,
      limit_high,
    ))
    (step_remembers rules state c.args.entry.word serving.before serving.last leaf.memories.now.nodes leaf.memories.now.count
    leaf.memories.now.keys.items leaf.memories.now.places.items leaf.charges.now (steps_in leaf serving.before serving.last) c.step_word-word.result is
    (λ bits few_bits word_is. c.step_word-word.ensures (steps_in leaf serving.before serving.last) bits c.requires.table few_bits word_is))
    (omega (arith, ints, value, low, high, weight_low, weight_high, charge_low, charge_high))
