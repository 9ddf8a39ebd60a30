-- The goals of `add_to_sets` in src/sets.rt, which adds a number at each node of some sets: its loop and what it
-- ensures.
use Rattle.tsp_cases.proofs.Prelude.{◌≡◌, ◌≤◌, ◌∙◌, ℕ, ℤ, List, length, get_or, refl, ap, sym, subst, inl, arith, rules, FitsSigned, to_z, of_z, w64, Vec, to_z-of_z, drop_all, sum_int_by, least_at, IsMoved, moved_on}
use Rattle.tsp_cases.specs.Crossings.{lists_of}
use Rattle.tsp_cases.specs.states.Sets.{added}
use Rattle.tsp_cases.proofs.SetSums.{sets_left}
use Rattle.tsp_cases.proofs.sets.add_to_sets.Goals as goal

pub sets-preserved : goal.sets-preserved
sets-preserved c = λ x last rest.
    let number : ℤ = to_z w64 (of_z w64 c.args.number) in
    let own : Vec ℕ = c.set-item.result in
    let left = sets_left number c.args.sets.now c.sets.set-index x own c.sets-test.true in
    let here : added number (get_or c.args.sets.now c.sets.set-index own).items x ≡ added number c.deref.result.now x =
    ap (λ (s : Vec ℕ). added number s.items x) (sym c.set-item.is) ∙ ap (λ (ns : List ℕ). added number ns x) (sym c.deref.ensures.value) in
    c.sets.invariant x last (rw (left, here) (moved_on _ _ _ _ _ (c.add_to_nodes.ensures x) rest))

-- plan: the number is added to the entries of one set's nodes more (`sets_left`)
pub returns : goal.returns
returns c = λ x.
    let sets : List (Vec ℕ) = c.args.sets.now in
    let past : length sets ≤ c.sets.set-index = omega (arith, c.sets-test.false) in
    let fits : FitsSigned w64 c.args.number = search rules in
    let number : to_z w64 (of_z w64 c.args.number) ≡ c.args.number = to_z-of_z w64 c.args.number fits in
    subst (λ (z : ℤ). IsMoved (sum_int_by (λ set. added z set x) (lists_of sets)) (least_at c.args.row.now x) (least_at c.sets.row x)) number
    (c.sets.invariant x (least_at c.sets.row x) (inl (
      refl,
      ap (λ (ss : List (Vec ℕ)). sum_int_by (λ set. added (to_z w64 (of_z w64 c.args.number)) set x) (lists_of ss))
          (drop_all c.sets.set-index sets past),
    )))
