-- The goals of `least_of` in src/kept_states.rt, which sorts entries and keeps the least ones: what its call requires and what
-- it ensures.
use Rattle.std.proofs.Common.{List, rules, subst, sym}
use Rattle.std.proofs.lemmas.List.Sorted.{IsNonDecreasingBy-from_sort_by_key}
use Rattle.tsp_routing.specs.declared.kept_states.KeptState.{KeptState}
use Rattle.tsp_routing.specs.states.KeptLists.{AreLeastOf, AreInOrder}
use Rattle.tsp_routing.proofs.KeptLists.{least_of_sorted, in_order}
use Rattle.tsp_routing.proofs.kept_states.least_of.Goals as goal

-- plan: the sorted entries are the same ones, in order
pub least_in-requires : goal.least_in-requires
least_in-requires c =
    let sorted : List KeptState = c.sort_unstable_by_key.new.self.items in
    record {
      order = subst AreInOrder (sym c.deref.ensures.value)
          (in_order sorted (IsNonDecreasingBy-from_sort_by_key (λ (entry : KeptState). entry.word) _
          c.sort_unstable_by_key.ensures.sorted (λ a r q k. search rules)));
    }

pub returns-clause-least : goal.returns-clause-least
returns-clause-least c =
    least_of_sorted c.args.entries.items c.sort_unstable_by_key.new.self.items c.in_ok-least.least.items c.sort_unstable_by_key.ensures.permutation
    (subst (λ (xs : List KeptState). AreLeastOf xs c.in_ok-least.least.items) c.deref.ensures.value c.in_ok-least.ensures.least)
