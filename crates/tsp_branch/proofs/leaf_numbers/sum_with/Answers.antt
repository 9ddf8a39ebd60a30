-- The goals of `sum_with` in src/leaf_numbers.rt, which sums the crossings of families times their multipliers: that no
-- sum overflows and its loop.
use Rattle.tsp_branch.proofs.Prelude.{◌≡◌, ◌+◌, ◌∙◌, ◌<◌, ℕ, ℤ, List, drop, length, get_or, arith, rules, ap, sym, FitsSigned, to_z, pos, ◌+ℤ◌, ◌*ℤ◌, w64, w128, to_z-of_z}
use Rattle.std.proofs.Math.IntN.{+ℤ_assoc}
use Rattle.tsp_cases.specs.declared.family.Crossings.{Crossings}
use Rattle.tsp_cases.specs.Families.{most_or_least, sum_with}
use Rattle.tsp_cases.proofs.FamilyCrossings.{sum_left, number_small, AddsFamily, adds_family}
use Rattle.tsp_branch.proofs.leaf_numbers.sum_with.Goals as goal

-- the crossings of the next family
abbrev own : (c : goal.After-from-in-families) → ℕ
own c = most_or_least c.args.is_most (get_or c.args.multipliers.now.families.now.crossed.items c.families.index c.index.result.now)

added : (c : goal.After-from-in-families) → AddsFamily (to_z w128 c.families.sum-bits) (get_or c.args.multipliers.now.numbers.now c.families.index (pos 0)) c.families.index
    (own c) c.from.result c.from-in-families.result
added c =
    let ms : List ℤ = c.args.multipliers.now.numbers.now in
    let index : ℕ = c.families.index in
    let m : ℤ = get_or ms index (pos 0) in
    let fits : FitsSigned w64 (get_or ms index (pos 0)) = search rules in
    let m_of = c.args.multipliers.now in
    let inside : index < length m_of.families.now.crossed.items = omega (arith, c.families-test.true, m_of.as_many, m_of.families.now.as_many) in
    let small = number_small c.args.is_most _ (m_of.families.now.small index c.index.result.now inside) in
    adds_family (to_z w128 c.families.sum-bits) m index (own c) c.from.result c.from-in-families.result c.families.invariant.size
    (m_of.small index (pos 0) c.families-test.true) (omega (arith, c.families-test.true, m_of.as_many, m_of.families.now.few)) small (c.from.ensures ∙ to_z-of_z w64 m fits)
    (c.from-in-families.ensures ∙ ap pos (c.most_or_least-number.ensures ∙ ap (most_or_least c.args.is_most) c.index.ensures))

pub overflow_add-sum : goal.overflow_add-sum
overflow_add-sum c = let step = added c in rw step.product step.fits

-- plan: one family more adds its crossings times its multiplier (`adds_family`)
pub families-preserved : goal.families-preserved
families-preserved c =
    let step = added c in
    let ms : List ℤ = c.args.multipliers.now.numbers.now in
    let crossed : List Crossings = c.args.multipliers.now.families.now.crossed.items in
    let index : ℕ = c.families.index in
    let sum : ℤ = to_z w128 c.families.sum-bits in
    let m : ℤ = get_or ms index (pos 0) in
    let rest : ℤ = sum_with c.args.is_most (drop (index + 1) crossed) (drop (index + 1) ms) in
    let m_of = c.args.multipliers.now in
    let inside : index < length crossed = omega (arith, c.families-test.true, m_of.as_many, m_of.families.now.as_many) in
    let parts : sum_with c.args.is_most (drop index crossed) (drop index ms) ≡ (m *ℤ pos (own c)) +ℤ rest =
    sum_left c.args.is_most crossed ms index c.index.result.now inside c.families-test.true in
    rw (step.product, step.computed) (record {
      size = step.size;
      so_far = +ℤ_assoc sum (m *ℤ pos (own c)) rest ∙ ap (λ z. sum +ℤ z) (sym parts) ∙ c.families.invariant.so_far;
    })
