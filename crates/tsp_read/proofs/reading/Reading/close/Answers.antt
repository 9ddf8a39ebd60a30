-- The goals of `Reading::close` in src/reading.rt, which puts the open section into the draft: what it ensures.
use Rattle.tsp_read.proofs.Prelude.{Bool, cond, sym, ap, ◌∙◌, fields_in_order}
use Rattle.tsp_read.specs.states.Holds.{first_of}
use Rattle.tsp_read.proofs.SectionSteps as steps
use Rattle.tsp_read.proofs.reading.Reading.close.Goals as goal

-- plan: by whether a section is open: its list is stored in the draft
pub returns-then-branch-clause-closed : goal.returns-then-branch-clause-closed
returns-then-branch-clause-closed c =
    let before = c.args.self.now.incomplete in
    steps.closes c.args.self.now _ c.in-Some.section c.in_ok-store.field-0 (sym c.take.ensures.value ∙ c.in-Some.is) c.in_ok-store.ensures
    (c.first_of-self.ensures ∙ ap (λ (b : Bool). cond b (first_of c.in-Some.section.field before fields_in_order) before) (sym c.if-branch.true))
    c.take.ensures.after

pub returns-else-branch-clause-closed : goal.returns-else-branch-clause-closed
returns-else-branch-clause-closed c =
    let before = c.args.self.now.incomplete in
    steps.closes c.args.self.now _ c.in-Some.section c.in_ok-store.field-0 (sym c.take.ensures.value ∙ c.in-Some.is) c.in_ok-store.ensures
    (ap (λ (b : Bool). cond b (first_of c.in-Some.section.field before fields_in_order) before) (sym c.if-branch.false))
    c.take.ensures.after
