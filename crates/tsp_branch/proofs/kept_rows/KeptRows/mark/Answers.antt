-- The goals of `KeptRows::mark` in src/kept_rows.rt, which marks a decision in the kept rows: what its calls require and
-- what it ensures.
use Rattle.tsp_branch.proofs.Prelude.{◌∙◌, rules, FitsSigned, to_z, of_z, w64, to_z-of_z}
use Rattle.tsp_cases.specs.states.OpenCases.{marks_in}
use Rattle.tsp_branch.proofs.RowsKept.{same_marks, decision_more, directed_same}
use Rattle.tsp_branch.proofs.kept_rows.KeptRows.mark.Goals as goal

-- plan: by whether pairs have a direction: nothing is marked (`directed_same`), or the number of the decision is added
-- between its nodes (`decision_more`)
pub add_between-requires : goal.add_between-requires
add_between-requires c =
    let r = c.requires in
    (r.0, r.1, r.2, r.3, r.4, marks_in c.args.directed r.5, r.6, r.7)

pub returns-then-directed : goal.returns-then-directed
returns-then-directed c = λ n weighted scale families cost case held pair.
    same_marks n weighted scale families cost _ _ _ (λ i x. directed_same c.args.directed _ _ i x c.if-directed.true) held

pub returns : goal.returns
returns c = λ n weighted scale families cost case held pair.
    let fits : FitsSigned w64 c.number_of.result = search rules in
    let is = to_z-of_z w64 c.number_of.result fits ∙ c.number_of.ensures.value in
    same_marks n weighted scale families cost _ _ _ (λ i x. decision_more c.args.directed c.args.decision case (to_z w64 (of_z w64 c.number_of.result)) i x c.if-directed.false is)
    (c.add_between.ensures n weighted scale families cost (marks_in c.args.directed case) held pair)
