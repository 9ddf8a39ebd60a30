-- The goals of `place_family` in src/sets.rt, which puts a family's sets into the lists of their nodes: its loop and
-- what it ensures.
use Rattle.tsp_cases.proofs.Prelude.{◌≤◌, ◌<◌, ◌++◌, ℕ, List, length, get_or, ap, sym, ◌∙◌, arith, Vec, drop_all, append-nil}
use Rattle.tsp_cases.specs.Crossings.{lists_of}
use Rattle.tsp_cases.specs.states.Sets.{place_at, times, places_in}
use Rattle.tsp_cases.proofs.SetSums.{set_listed}
use Rattle.tsp_cases.proofs.sets.place_family.Goals as goal

-- plan: one set of the family more is in the lists of its nodes (`set_listed`)
pub sets-preserved : goal.sets-preserved
sets-preserved c =
    let number : ℕ = c.sets.number in
    let own : Vec ℕ = c.index-sets-number.result in
    let said = c.in_ok-place_set.ensures in
    record {
      count = said.0 ∙ c.sets.invariant.count;
      said = λ x a b below.
          let inside : x < length c.sets.lists.items = omega (arith, below, c.sets.invariant.count) in
          let new = said.1 x a a inside ∙ ap (λ ns. (get_or c.sets.lists.items x a).items ++ times (place_at c.args.family number) ns x) c.deref.ensures.value in
          set_listed c.args.family number c.args.sets.now x own (get_or c.sets.lists.items x a).items _ _ c.sets-test.true c.index-sets-number.is new (c.sets.invariant.said x a b below);
    }

pub returns : goal.returns
returns c =
    let sets : List (Vec ℕ) = c.args.sets.now in
    let past : length sets ≤ c.sets.number = omega (arith, c.sets-test.false) in (
      c.sets.invariant.count,
      λ x a b below.
          sym (append-nil (get_or c.sets.lists.items x a).items)
          ∙ ap (λ (ss : List (Vec ℕ)). (get_or c.sets.lists.items x a).items ++ places_in c.args.family c.sets.number (lists_of ss) x) (sym (drop_all c.sets.number sets past))
          ∙ c.sets.invariant.said x a b below,
    )
