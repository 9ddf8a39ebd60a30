-- The goals of `KeptRows::unmark` in src/kept_rows.rt, which takes the mark of a decision off the kept rows: what its calls
-- require and what it ensures.
use Rattle.tsp_branch.proofs.Prelude.{◌≡◌, ◌∷◌, ℤ, false, arith, to_z, of_z, w64, pos, neg_ℤ, ◌-ℤ◌, ints}
use Rattle.tsp_cases.specs.states.OpenCases.{marks_in, signed}
use Rattle.tsp_branch.proofs.RowsKept.{same_marks, decision_less}
use Rattle.tsp_branch.proofs.kept_rows.KeptRows.unmark.Goals as goal

pub add_between-requires : goal.add_between-requires
add_between-requires c =
    let r = c.requires in
    (r.0, r.1, r.2, r.3, r.4, marks_in false (c.args.decision ∷ r.5), r.6, r.7)

-- plan: the negative number of the decision is added between its nodes, which takes its mark off (`decision_less`)
pub returns : goal.returns
returns c = λ n weighted scale families cost case held pair.
    let own = c.number_of.ensures in
    let number : ℤ = to_z w64 (of_z w64 (pos 0 -ℤ to_z w64 (of_z w64 c.number_of.result))) in
    let is : number ≡ neg_ℤ (signed c.args.decision.taken) = omega (arith, ints, own.value, own.size.0, own.size.1) in
    same_marks n weighted scale families cost _ _ _ (λ i x. decision_less c.args.decision case number i x is)
    (c.add_between.ensures n weighted scale families cost (marks_in false (c.args.decision ∷ case)) held pair)
