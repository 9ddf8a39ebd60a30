-- The goals of `least_in` in src/kept_states.rt, which keeps the least entries: its loop and what it ensures.
use Rattle.tsp_routing.proofs.Prelude.{List, [], take, sym, subst, arith, take_all, ◌≤◌, ℕ}
use Rattle.tsp_routing.specs.declared.kept_states.KeptState.{KeptState}
use Rattle.tsp_routing.specs.states.KeptLists.{AreLeastOf}
use Rattle.tsp_routing.proofs.KeptLists.{least_of_none, least_more, AreLeastTo, ends_more, rising_more}
use Rattle.tsp_routing.proofs.kept_states.least_in.Goals as goal

-- plan: an entry is added, or another one stands for it
pub entries-init : goal.entries-init
entries-init c = subst (λ (xs : List KeptState). AreLeastTo c.args.entries.now xs 0) (sym c.new-least.ensures.items) (record {
  least = least_of_none;
  rising = λ i j d less inside. absurd (omega (arith, inside));
  ends = λ d some. absurd (omega (arith, some));
})

pub entries-preserved : goal.entries-preserved
entries-preserved c =
    let h = c.entries.invariant in
    let entries : List KeptState = c.args.entries.now in
    let old : List KeptState = c.entries.least.items in
    let new : List KeptState = c.add_least.new.least.items in
    let added = c.in_ok-add_least.ensures in
    record {
      least = least_more entries old new c.entries.index c.entry_at.result c.entries-test.true c.entry_at.ensures added h.least;
      rising = rising_more entries old new c.entries.index c.entry_at.result c.entries-test.true c.entry_at.ensures added c.requires.order h;
      ends = λ d some. ends_more entries old new c.entries.index c.entry_at.result c.entries-test.true c.entry_at.ensures added d;
    }

pub returns-clause-least : goal.returns-clause-least
returns-clause-least c =
    subst (λ (xs : List KeptState). AreLeastOf xs c.entries.least.items)
    (take_all c.entries.index c.args.entries.now c.entries-test.false) c.entries.invariant.least
