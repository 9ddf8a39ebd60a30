-- The goals of `report_on` in src/report.rt, which judges a solution and returns the report too: what it ensures.
use Rattle.std.proofs.Common.{◌≡◌, ◌∙◌, true, Ok, sym, ap, rules}
use Rattle.std.specs.Prelude.{Some}
use Rattle.example_check.proofs.OnTexts.{accepted_on}
use Rattle.example_check.proofs.report.report_on.Goals as goal

-- plan: the readers are over both texts, and the writer was empty. So the meaning of the line `yes` is one of the texts
-- (`accepted_on`)
pub returns : goal.returns
returns c = λ yes.
    let check = c.run_check.ensures.answer.2.2 in
    let accepted : c.run_check.result ≡ Ok true = search (rules, yes) in
    accepted_on _ _ _ _ _ _ (ap (λ s. Some s.now) c.new-first.ensures.inner) (ap (λ s. Some s.now) c.new-second.ensures.inner)
    (ap (λ v. Some v.items) c.new-report.ensures.inner ∙ ap Some c.new.ensures.items) (ap (λ v. Some v.items) (sym c.into_inner.ensures))
    (check.1 accepted)
