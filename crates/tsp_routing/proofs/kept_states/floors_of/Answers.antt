-- The goals of `floors_of` in src/kept_states.rt, which finds the floor of each list: its loop and what it ensures.
use Rattle.tsp_routing.proofs.Prelude.{◌≡◌, ◌++◌, ◌∙◌, ℤ, List, [], ◌∷◌, pos, length, get_or, ap, sym, subst, arith, rules, FitsSigned, Vec, w128, to_z-of_z, get_or-map, length-append, length-map}
use Rattle.tsp_routing.specs.declared.kept_states.KeptState.{KeptState}
use Rattle.tsp_routing.specs.states.KeptLists.{IsFloor}
use Rattle.tsp_routing.specs.states.RunTables.{item_lists}
use Rattle.tsp_routing.proofs.Floors.{floors_one_more}
use Rattle.tsp_routing.proofs.kept_states.floors_of.Goals as goal

-- plan: the floors so far, and one more
pub lists-preserved : goal.lists-preserved
lists-preserved c =
    let floors : List ℤ = c.lists.floors.items in
    let own : ℤ = c.floor_of.result in
    let fits : FitsSigned w128 own = search rules in
    let pushed : c.push.new.list.items ≡ floors ++ own ∷ [] =
    c.in_ok-push.ensures.items ∙ ap (λ (z : ℤ). floors ++ z ∷ []) (to_z-of_z w128 own fits) in
    let long = length-append floors (own ∷ []) in
    let h = c.lists.invariant in
    let lists : List (Vec KeptState) = c.args.lists.now in
    let here : get_or (item_lists lists) c.lists.index [] ≡ c.as_slice.result.now =
    get_or-map (λ (v : Vec KeptState). v.items) lists c.lists.index c.index-lists-index.result [] c.lists-test.true
    ∙ (ap (λ (v : Vec KeptState). v.items) (sym c.index-lists-index.is) ∙ sym c.as_slice.ensures.value) in
    record {
      long = ap (λ (xs : List ℤ). length xs) pushed ∙ omega (arith, long, h.long);
      below = λ last lt.
          subst (λ (xs : List ℤ). IsFloor (get_or (item_lists lists) last []) (get_or xs last (pos 0))) (sym pushed)
          (floors_one_more (item_lists lists) floors own c.lists.index h.long h.below
          (subst (λ (xs : List KeptState). IsFloor xs own) (sym here) c.floor_of.ensures) last lt);
    }

pub lists-init : goal.lists-init
lists-init c = record {
  long = ap (λ (xs : List ℤ). length xs) c.in_ok-floors.ensures.items;
  below = λ last lt. absurd (omega (arith, lt));
}

pub returns : goal.returns
returns c =
    let wide = length-map c.args.lists.now (λ (v : Vec KeptState). v.items) in
    let long = c.lists.invariant.long in
    let most = c.lists.auto.index-end in
    let end = c.lists-test.false in
    record {
      places = omega (arith, wide, long, most, end);
      below = λ last lt. c.lists.invariant.below last (omega (arith, lt, wide, end));
    }
