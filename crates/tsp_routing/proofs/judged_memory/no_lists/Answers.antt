-- The goals of `no_lists` in src/judged_memory.rt, which makes empty lists: its loop and what it ensures.
use Rattle.tsp_routing.proofs.Prelude.{◌≡◌, ◌++◌, ◌∙◌, ℕ, List, [], ◌∷◌, length, get_or, ap, sym, subst, arith, length-append, Vec}
use Rattle.tsp_routing.specs.states.RunTables.{item_lists}
use Rattle.tsp_routing.proofs.JudgedLists.{none_pushed}
use Rattle.tsp_routing.proofs.judged_memory.no_lists.Goals as goal

-- plan: one list more
pub lists-init : goal.lists-init
lists-init c = record {
  long = ap (λ (xs : List (Vec ℕ)). length xs) c.new-lists.ensures.items;
  none = λ node. ap (λ (xs : List (Vec ℕ)). get_or (item_lists xs) node []) c.new-lists.ensures.items;
}

pub lists-preserved : goal.lists-preserved
lists-preserved c =
    let lists : List (Vec ℕ) = c.lists.lists.items in
    let own : Vec ℕ = c.new.result in
    let pushed : c.push.new.list.items ≡ lists ++ own ∷ [] = c.in_ok-push.ensures.items in
    let long = length-append lists (own ∷ []) in
    let h = c.lists.invariant in
    record {
      long = ap (λ (xs : List (Vec ℕ)). length xs) pushed ∙ omega (arith, long, h.long);
      none = subst (λ (xs : List (Vec ℕ)). (node : ℕ) → get_or (item_lists xs) node [] ≡ []) (sym pushed)
          (none_pushed lists own c.new.ensures.items h.none);
    }

pub returns-clause-long : goal.returns-clause-long
returns-clause-long c =
    let long = c.lists.invariant.long in
    let most = c.lists.auto.index-end in
    let end = c.lists-test.false in omega (arith, long, most, end)

pub returns-clause-none : goal.returns-clause-none
returns-clause-none c = c.lists.invariant.none
