-- The goals of `sets_by_node` in src/sets.rt, which lists at each node the sets that have it: its loop and what it
-- ensures.
use Rattle.tsp_cases.proofs.Prelude.{◌≤◌, ◌<◌, ◌++◌, ℕ, List, length, get_or, ap, sym, ◌∙◌, arith, Vec, drop_all, append-nil}
use Rattle.tsp_cases.specs.Crossings.{lists_of, families_in}
use Rattle.tsp_cases.specs.states.Sets.{places_in, places_with}
use Rattle.tsp_cases.proofs.SetSums.{family_listed}
use Rattle.tsp_cases.proofs.sets.sets_by_node.Goals as goal

-- plan: the sets of one family more are in the lists of their nodes (`family_listed`)
pub families-preserved : goal.families-preserved
families-preserved c =
    let number : ℕ = c.families.number in
    let own : Vec (Vec ℕ) = c.index-families-number.result in
    let said = c.in_ok-place_family.ensures in
    record {
      count = said.0 ∙ c.families.invariant.count;
      said = λ x a most.
          let below : x < length c.families.lists.items = omega (arith, most, c.families.invariant.count) in
          let new = said.1 x a a below ∙ ap (λ (ss : List (Vec ℕ)). (get_or c.families.lists.items x a).items ++ places_in number 0 (lists_of ss) x)
          (c.deref.ensures.value ∙ ap (λ (f : Vec (Vec ℕ)). f.items) (sym c.index-families-number.is)) in
          family_listed number c.args.families.now.lent.now x own (get_or c.families.lists.items x a).items _ _ c.families-test.true c.index-families-number.is new
          (c.families.invariant.said x a most);
    }

pub returns : goal.returns
returns c =
    let families : List (Vec (Vec ℕ)) = c.args.families.now.lent.now in
    let past : length families ≤ c.families.number = omega (arith, c.families-test.false) in
    record {
      count = c.families.invariant.count;
      said = λ x a most.
          sym (append-nil (get_or c.families.lists.items x a).items)
          ∙ ap (λ (fs : List (Vec (Vec ℕ))). (get_or c.families.lists.items x a).items ++ places_with c.families.number (families_in fs) x) (sym (drop_all c.families.number families past))
          ∙ c.families.invariant.said x a most;
    }
