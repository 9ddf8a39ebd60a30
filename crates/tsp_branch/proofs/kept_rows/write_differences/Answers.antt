-- The goals of `write_differences` in src/kept_rows.rt, which writes how much each multiplier has grown: its loop and what
-- it ensures.
use Rattle.tsp_branch.proofs.Prelude.{◌≡◌, ◌∙◌, ℕ, ℤ, List, inl, inr, ap, subst, arith, to_z, of_z, pos, neg_ℤ, ◌-ℤ◌, w64, set, length-set, cases_eq, ints, get_or-set_same, get_or-set_other, get_or_default, IsFromTo, least_at}
use Rattle.tsp_cases.specs.ListedCases.{most_crossed}
use Rattle.tsp_branch.proofs.kept_rows.write_differences.Goals as goal

-- plan: by whether a place is the one just written, with a difference of two small multipliers, or one before, which is
-- as it was
pub numbers-preserved : goal.numbers-preserved
numbers-preserved c =
    let k : ℕ = c.numbers.index in
    let old : List ℤ = c.args.old.now.numbers.now in
    let new : List ℤ = c.args.new.now.numbers.now in
    let differences : List ℤ = c.numbers.differences in
    let a : ℤ = least_at new k in
    let b : ℤ = least_at old k in
    let a_in = c.args.new.now.small k (pos 0) (omega (arith, c.numbers-test.true)) in
    let b_in = c.args.old.now.small k (pos 0) (omega (arith, c.numbers-test.true, c.requires.old)) in
    let value : ℤ = to_z w64 (of_z w64 (to_z w64 (of_z w64 a) -ℤ to_z w64 (of_z w64 b))) in
    let is : value ≡ a -ℤ b = omega (arith, ints, a_in.0, a_in.1, b_in.0, b_in.1) in
    record {
      long = length-set differences k value ∙ c.numbers.invariant.long;
      done = λ x below. elim (cases_eq x k) [
        | inl same ↦
            let here : least_at (set differences k value) x ≡ value = ap (least_at (set differences k value)) same
            ∙ get_or-set_same differences k value (pos 0) (omega (arith, c.numbers.invariant.long, c.numbers-test.true)) in
            let new_is = ap (least_at new) same in
            let old_is = ap (least_at old) same in (
              omega (arith, ints, here, is, new_is, old_is),
              (omega (arith, ints, here, is, a_in.0, b_in.1), omega (arith, ints, here, is, a_in.1, b_in.0)),
            )
        | inr other ↦
            let there : least_at (set differences k value) x ≡ least_at differences x = get_or-set_other differences k x value (pos 0) other in
            let before = c.numbers.invariant.done x (omega (arith, below, other)) in
            (omega (arith, ints, there, before.0), (omega (arith, ints, there, before.1.0), omega (arith, ints, there, before.1.1)))
      ];
    }

pub returns-clause-small : goal.returns-clause-small
returns-clause-small c = λ k d less.
    subst (IsFromTo (neg_ℤ (pos most_crossed)) (pos most_crossed)) (get_or_default c.numbers.differences k (pos 0) d less)
    (c.numbers.invariant.done k (omega (arith, less, c.numbers.invariant.long, c.numbers-test.false))).1
