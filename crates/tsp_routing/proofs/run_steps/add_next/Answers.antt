-- The goals of `add_next` in src/run_steps.rt, which adds the entry of the next state: what it ensures.
use Rattle.tsp_routing.proofs.Prelude.{◌≡◌, ◌++◌, ◌^◌, ℕ, ℤ, false, rules, List, [], ◌∷◌, pos, neg_ℤ, refl, sym, inl, inr, ◌+ℤ◌, ◌≤ℤ◌, ints, arith, append-nil, All-nil, All-cons, IsFromTo}
use Rattle.tsp_routing.specs.declared.kept_states.KeptState.{KeptState}
use Rattle.tsp_routing.proofs.NextEntries.{none_beyond}
use Rattle.tsp_routing.proofs.run_steps.add_next.Goals as goal

-- plan: no entry if the weight is too large; else by whether there is a next entry
pub returns-then-not-is_light-clause-adds : goal.returns-then-not-is_light-clause-adds
returns-then-not-is_light-clause-adds c = λ near rows state leaf_of remembers at full.
    let leaf = c.args.leaf.now in
    let serving = c.args.serving in
    let off : c.is_light.result ≡ false = search rules in
    let sizes = (leaf.sizes serving.left (omega (arith, leaf.long, c.requires.left))).sizes serving.last c.requires.last.0 in
    let home_low = sizes.0 in
    let home_high = sizes.1 in
    let home_is = c.requires.home in
    let few = leaf.nodes.now.fits in
    let link = leaf.nodes.now.links.sizes serving.before serving.last c.requires.before.0 c.requires.last.0 in
    let link_low = link.0 in
    let link_high = link.1 in
    let link_is = c.requires.link in
    let limit_low = leaf.small.0 in
    let limit_high = leaf.small.1 in
    let weight_low = c.requires.size.0 in
    let weight_high = c.requires.size.1 in
    let ends = c.requires.most in
    let beyond = c.is_light.ensures off in
    let over : c.args.most ≤ℤ c.args.before.weight =
    omega (
      arith,
      ints,
      beyond,
      ends,
      limit_low,
      limit_high,
      link_low,
      link_high,
      link_is,
      home_low,
      home_high,
      home_is,
      few,
      c.requires.left,
      weight_low,
      weight_high,
    ) in
    inl (
      refl,
      none_beyond leaf near rows state c.args.before.weight c.args.most serving.link serving.home serving.before serving.last serving.left
          leaf_of at full c.requires.last c.requires.left c.requires.link c.requires.home c.requires.most over,
    )

pub returns-then-not-is_light-clause-grows : goal.returns-then-not-is_light-clause-grows
returns-then-not-is_light-clause-grows c =
    let weight : ℤ = c.args.before.weight in (
      [],
      sym (append-nil c.args.entries.now.items),
      All-nil (λ (next : KeptState). IsFromTo (weight +ℤ neg_ℤ (pos (2 ^ 72))) (weight +ℤ pos (2 ^ 72)) next.weight),
    )

pub returns-in_default-clause-adds : goal.returns-in_default-clause-adds
returns-in_default-clause-adds c = λ near rows state leaf_of remembers at full.
    inl (refl, c.in_default.ensures.exact near rows state leaf_of remembers at full)

pub returns-in_default-clause-grows : goal.returns-in_default-clause-grows
returns-in_default-clause-grows c =
    let weight : ℤ = c.args.before.weight in (
      [],
      sym (append-nil c.args.entries.now.items),
      All-nil (λ (next : KeptState). IsFromTo (weight +ℤ neg_ℤ (pos (2 ^ 72))) (weight +ℤ pos (2 ^ 72)) next.weight),
    )

pub returns-clause-adds : goal.returns-clause-adds
returns-clause-adds c = λ near rows state leaf_of remembers at full.
    inr (c.in-Some.next, c.in_ok-push.ensures.items, c.in-Some.ensures.exact near rows state leaf_of remembers at full)

pub returns-clause-grows : goal.returns-clause-grows
returns-clause-grows c =
    let weight : ℤ = c.args.before.weight in
    let P : KeptState → Type 0 = λ next. IsFromTo (weight +ℤ neg_ℤ (pos (2 ^ 72))) (weight +ℤ pos (2 ^ 72)) next.weight in
    (c.in-Some.next ∷ [], c.in_ok-push.ensures.items, All-cons P c.in-Some.next [] c.in-Some.ensures.size (All-nil P))
