-- The goals of `take_multipliers` in src/sets.rt, which takes multipliers off the nodes of their sets: its loop and
-- what it ensures.
use Rattle.tsp_cases.proofs.Prelude.{◌≡◌, ◌≤◌, ◌<◌, ◌+◌, ℕ, ℤ, List, drop, length, get_or, refl, ap, sym, subst, inl, ◌∙◌, arith, to_z, of_z, w64, Vec, pos, neg_ℤ, ◌+ℤ◌, ◌-ℤ◌, ints, drop_all, sum_int_by, least_at, IsMoved, moved_on}
use Rattle.tsp_cases.specs.Crossings.{lists_of, families_in}
use Rattle.tsp_cases.specs.states.Sets.{added, summed_from}
use Rattle.tsp_cases.proofs.SetSums.{all_less, multipliers_left}
use Rattle.tsp_cases.proofs.sets.take_multipliers.Goals as goal

-- plan: the multiplier of one family more is taken off the ends of the nodes of its sets (`multipliers_left`)
pub multipliers-preserved : goal.multipliers-preserved
multipliers-preserved c = λ x last rest.
    let ms : List ℤ = c.args.multiplied.now.numbers.now in
    let families : List (Vec (Vec ℕ)) = c.args.multiplied.now.families.now.lent.now in
    let number : ℕ = c.multipliers.number in
    let family : Vec (Vec ℕ) = c.index-multiplied-number.result in
    let inside : number < length families = omega (arith, c.multipliers-test.true, c.args.multiplied.now.as_many) in
    let multiplier : ℤ = get_or ms number (pos 0) in
    let own = c.args.multiplied.now.small number (pos 0) c.multipliers-test.true in
    let whole : to_z w64 (of_z w64 (pos 0 -ℤ to_z w64 (of_z w64 multiplier))) ≡ neg_ℤ multiplier = omega (arith, ints, own.0, own.1) in
    let here : ℤ = sum_int_by (λ set. added multiplier set x) (lists_of family.items) in
    let same : sum_int_by (λ set. added (to_z w64 (of_z w64 (pos 0 -ℤ to_z w64 (of_z w64 multiplier)))) set x) (lists_of c.deref.result.now) ≡ neg_ℤ here =
    ap (λ (z : ℤ). sum_int_by (λ set. added z set x) (lists_of c.deref.result.now)) whole
    ∙ ap (λ (ss : List (Vec ℕ)). sum_int_by (λ set. added (neg_ℤ multiplier) set x) (lists_of ss)) (c.deref.ensures.value ∙ ap (λ (f : Vec (Vec ℕ)). f.items) (sym c.index-multiplied-number.is))
    ∙ all_less multiplier (lists_of family.items) x in
    let step : IsMoved (neg_ℤ here) (least_at c.multipliers.row x) (least_at c.add_to_sets.new.row x) =
    subst (λ (z : ℤ). IsMoved z (least_at c.multipliers.row x) (least_at c.add_to_sets.new.row x)) same (c.add_to_sets.ensures x) in
    let left = multipliers_left ms families number x family inside
    ∙ ap (λ (f : Vec (Vec ℕ)). neg_ℤ (sum_int_by (λ set. added multiplier set x) (lists_of f.items))
    +ℤ neg_ℤ (summed_from (number + 1) (λ multiplier set. added multiplier set x) ms (families_in (drop (number + 1) families)))) (sym c.index-multiplied-number.is) in
    c.multipliers.invariant x last (rw (left) (moved_on _ _ _ _ _ step rest))

pub returns : goal.returns
returns c = λ x.
    let families : List (Vec (Vec ℕ)) = c.args.multiplied.now.families.now.lent.now in
    let past : length families ≤ c.multipliers.number = omega (arith, c.multipliers-test.false, c.args.multiplied.now.as_many) in
    c.multipliers.invariant x (least_at c.multipliers.row x)
    (inl (
      refl,
      ap (λ (fs : List (Vec (Vec ℕ))). neg_ℤ (summed_from c.multipliers.number (λ multiplier set. added multiplier set x) c.args.multiplied.now.numbers.now (families_in fs)))
          (drop_all c.multipliers.number families past),
    ))
