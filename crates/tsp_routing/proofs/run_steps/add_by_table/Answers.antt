-- The goals of `add_by_table` in src/run_steps.rt, which adds the entries that go on from those of a list by a table: its
-- loop, what its call requires and what it ensures.
use Rattle.tsp_routing.proofs.Prelude.{◌+◌, ◌*◌, ◌^◌, ℕ, List, pos, neg_ℤ, sym, subst, arith, ints, take_all, All-get_or, IsFromTo}
use Rattle.tsp_routing.specs.declared.kept_states.KeptState.{KeptState}
use Rattle.tsp_routing.specs.states.KeptLists.{rules_of, AddsNexts}
use Rattle.tsp_routing.proofs.KeptLists.{adds_more, adds_none, sizes_go_on}
use Rattle.tsp_routing.proofs.run_steps.add_by_table.Goals as goal

-- plan: one more entry goes on, and what was added stays
pub befores-init : goal.befores-init
befores-init c = record {
  adds = λ near rows load leaf_of full.
      adds_none (rules_of c.args.leaf.now near rows) c.args.leaf.now.limit load c.args.serving.before c.args.serving.last c.args.entries.now.items;
  sizes = λ load next less befores olds. olds;
}

pub add_next-requires-clause-size : goal.add_next-requires-clause-size
add_next-requires-clause-size c =
    let entry : KeptState = c.entry_at-entry.result in
    let load : ℕ = c.requires.sizes.0 in
    let small = c.requires.sizes.1 in
    let size : IsFromTo (neg_ℤ (pos ((load + 1) * 2 ^ 72))) (pos ((load + 1) * 2 ^ 72)) entry.weight =
    subst (λ (e : KeptState). IsFromTo (neg_ℤ (pos ((load + 1) * 2 ^ 72))) (pos ((load + 1) * 2 ^ 72)) e.weight) (sym c.entry_at-entry.ensures)
    (All-get_or (λ (e : KeptState). IsFromTo (neg_ℤ (pos ((load + 1) * 2 ^ 72))) (pos ((load + 1) * 2 ^ 72)) e.weight)
    c.args.befores.now c.befores.index entry c.befores-test.true c.requires.sizes.2) in
    let low = size.0 in
    let high = size.1 in
    (omega (arith, ints, small, low), omega (arith, ints, small, high))

pub befores-preserved : goal.befores-preserved
befores-preserved c =
    let leaf = c.args.leaf.now in
    let serving = c.args.serving in
    let entry : KeptState = c.entry_at-entry.result in
    let befores : List KeptState = c.args.befores.now in
    let h = c.befores.invariant in
    let grows = c.in_ok-add_next.ensures.grows in
    record {
      adds = λ near rows load leaf_of full.
          adds_more (rules_of leaf near rows) leaf.limit load serving.before serving.last serving.left befores _ _ _ grows.0 c.befores.index
          entry c.befores-test.true c.entry_at-entry.ensures full
          (λ state remembers at full. c.in_ok-add_next.ensures.adds near rows state leaf_of remembers at full) grows.1
          (h.adds near rows load leaf_of full);
      sizes = λ load next less sized olds.
          sizes_go_on load next entry.weight _ _ grows.0 less
          (subst (λ (e : KeptState). IsFromTo (neg_ℤ (pos ((load + 1) * 2 ^ 72))) (pos ((load + 1) * 2 ^ 72)) e.weight) (sym c.entry_at-entry.ensures)
          (All-get_or (λ (e : KeptState). IsFromTo (neg_ℤ (pos ((load + 1) * 2 ^ 72))) (pos ((load + 1) * 2 ^ 72)) e.weight)
          befores c.befores.index entry c.befores-test.true sized))
          grows.1 grows.2 (h.sizes load next less sized olds);
    }

pub returns-clause-adds : goal.returns-clause-adds
returns-clause-adds c = λ near rows load leaf_of full.
    let befores : List KeptState = c.args.befores.now in
    subst (λ (xs : List KeptState). AddsNexts (rules_of c.args.leaf.now near rows) c.args.leaf.now.limit load c.args.serving.before
    c.args.serving.last xs c.args.entries.now.items c.befores.entries.items) (take_all c.befores.index befores c.befores-test.false) (c.befores.invariant.adds near rows load leaf_of full)
