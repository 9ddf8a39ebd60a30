-- The goals of `least_of_list` in src/run_bound.rt, which goes through a list: its loop, what its call requires and what
-- it ensures.
use Rattle.tsp_routing.proofs.Prelude.{◌≡◌, ◌<◌, ◌+◌, ◌*◌, ◌^◌, ℕ, ℤ, List, take, pos, neg_ℤ, length, get_or, sym, subst, arith, inl, inr, ◌⊎◌, ◌≤ℤ◌, ints, take_all, All-nil, All-get_or, IsFromTo}
use Rattle.tsp_routing.specs.declared.kept_states.KeptState.{KeptState}
use Rattle.tsp_routing.specs.states.RunTables.{link_in}
use Rattle.tsp_routing.specs.states.KeptLists.{IsBelowEntries, IsMetBy}
use Rattle.tsp_routing.proofs.LeastRuns.{below_one_more}
use Rattle.tsp_routing.proofs.run_bound.least_of_list.Goals as goal

-- plan: one entry more
pub lesser_of-found-requires-clause-size : goal.lesser_of-found-requires-clause-size
lesser_of-found-requires-clause-size c =
    let entry : KeptState = c.entry_at-entry.result in
    let load : ℕ = c.requires.sizes.0 in
    let small = c.requires.sizes.1 in
    let size : IsFromTo (neg_ℤ (pos ((load + 1) * 2 ^ 72))) (pos ((load + 1) * 2 ^ 72)) entry.weight =
    subst (λ (e : KeptState). IsFromTo (neg_ℤ (pos ((load + 1) * 2 ^ 72))) (pos ((load + 1) * 2 ^ 72)) e.weight) (sym c.entry_at-entry.ensures)
    (All-get_or (λ (e : KeptState). IsFromTo (neg_ℤ (pos ((load + 1) * 2 ^ 72))) (pos ((load + 1) * 2 ^ 72)) e.weight)
    c.args.entries.now c.entries.index entry c.entries-test.true c.requires.sizes.2) in
    let low = size.0 in
    let high = size.1 in
    (omega (arith, ints, small, low), omega (arith, ints, small, high))

pub entries-preserved : goal.entries-preserved
entries-preserved c =
    let nodes = c.args.leaf.now.nodes.now in
    let link : ℤ = link_in nodes.rows.now c.args.last nodes.depot in
    let h = c.entries.invariant in
    let own = c.lesser_of-found.ensures in
    record {
      keeps = let before = h.keeps in let less = own.keeps in omega (arith, ints, before, less);
      below = below_one_more c.args.entries.now c.entries.index c.entry_at-entry.result c.entries.found.least c.lesser_of-found.result.least link
          c.entries-test.true c.entry_at-entry.ensures own.keeps own.own h.below;
      met = elim own.met [
        | inl same ↦ subst (λ (z : ℤ). (z ≡ c.args.begun.least) ⊎ IsMetBy z link c.args.entries.now) (sym same) h.met
        | inr is ↦ inr (c.entry_at-entry.result, (c.entries.index, c.entries-test.true, sym c.entry_at-entry.ensures), is)
      ];
    }

pub returns-clause-below : goal.returns-clause-below
returns-clause-below c =
    let nodes = c.args.leaf.now.nodes.now in
    subst (IsBelowEntries c.entries.found.least (link_in nodes.rows.now c.args.last nodes.depot))
    (take_all c.entries.index c.args.entries.now c.entries-test.false) c.entries.invariant.below
