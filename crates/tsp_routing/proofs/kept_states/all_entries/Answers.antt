-- The goals of `all_entries` in src/kept_states.rt, which goes through the customers before: its loop and what it ensures.
use Rattle.std.proofs.Common.{◌≡◌, ◌+◌, ◌-◌, ℕ, length, subst, arith}
use Rattle.tsp_routing.specs.states.KeptLists.{rules_of, IsKeptListTo}
use Rattle.tsp_routing.proofs.kept_states.all_entries.Goals as goal

-- plan: one customer before more
pub befores-init : goal.befores-init
befores-init c = record {
  entries = λ near rows leaf_of states. c.in_ok-entries.ensures.exact near rows leaf_of;
  sizes = c.in_ok-entries.ensures.sizes;
}

pub befores-preserved : goal.befores-preserved
befores-preserved c =
    let h = c.befores.invariant in
    let at : c.befores.index ≡ c.befores.index + 1 - 1 = omega arith in
    record {
      entries = λ near rows leaf_of states. c.in_ok-add_from.ensures.exact near rows leaf_of states
          (subst (λ (k : ℕ). IsKeptListTo (rules_of c.args.leaf.now near rows) c.args.leaf.now.limit (length c.args.table.now) c.args.last k
          c.befores.entries.items) at (h.entries near rows leaf_of states));
      sizes = c.in_ok-add_from.ensures.sizes h.sizes;
    }

pub returns-clause-exact : goal.returns-clause-exact
returns-clause-exact c = λ near rows leaf_of states.
    let end : c.befores.index ≡ c.args.leaf.now.nodes.now.nodes = omega (arith, c.befores-test.false, c.befores.auto.index-end) in
    subst (λ (k : ℕ). IsKeptListTo (rules_of c.args.leaf.now near rows) c.args.leaf.now.limit (length c.args.table.now) c.args.last k
    c.befores.entries.items) end (c.befores.invariant.entries near rows leaf_of states)
