-- The goals of `checked` in src/picked_runs.rt, which checks two texts, with a certificate and a claimed length if
-- asked: what its calls require and what it ensures.
use Rattle.tsp_c.proofs.Prelude.{◌∙◌, ap, refl, Some, sink_of}
use Rattle.tsp_c.proofs.InNumbers.{sized_run, tells_texts}
use Rattle.tsp_c.proofs.NamedTexts.{named_text}
use Rattle.tsp_c.proofs.PickedRuns.{checks}
use Rattle.tsp_c.proofs.picked_runs.checked.Goals as goal

-- plan: length and bound fit (`sized_run`). The readers deliver the texts (`named_text`), so the end of the run is of
-- these, in words (`checks`) and in numbers (`tells_texts`)
pub of_run-numbers-requires : goal.of_run-numbers-requires
of_run-numbers-requires c = let first = c.check_solution-judged.ensures.answer in let second = first.2 in
    let third = named_text (λ s. s.now) c.args.by c.args.certificate.now c.named_reader-named.result c.check_solution-judged.new.certificate _ c.named_reader-named.ensures second.2 in
    sized_run _ c.args.claimed c.args.strict _ _ (sink_of (λ v. Some v.items) c.new-report.result c.check_solution-judged.new.out) c.check_solution-judged.result c.verdicts_mean_reports.ensures.sized third.2.0

pub returns-clause-texts : goal.returns-clause-texts
returns-clause-texts c = let first = c.check_solution-judged.ensures.answer in let second = first.2 in
    let third = named_text (λ s. s.now) c.args.by c.args.certificate.now c.named_reader-named.result c.check_solution-judged.new.certificate _ c.named_reader-named.ensures second.2 in
    checks c.args.by c.args.claimed c.args.strict _ _ _ _ _ _ _ _ _ _ _
    (record {
      first_is = ap (λ s. Some s.now) c.new-first.ensures.inner;
      second_is = ap (λ s. Some s.now) c.new-second.ensures.inner;
      third_is = third.1;
    })
    (record { held = ap (λ v. Some v.items) c.new-report.ensures.inner ∙ ap Some c.new.ensures.items; holds = refl })
    third.2.1 (rw c.acceptance.ensures at c.ended-answer.ensures)

pub returns-clause-numbers : goal.returns-clause-numbers
returns-clause-numbers c = let first = c.check_solution-judged.ensures.answer in let second = first.2 in
    let third = named_text (λ s. s.now) c.args.by c.args.certificate.now c.named_reader-named.result c.check_solution-judged.new.certificate _ c.named_reader-named.ensures second.2 in
    tells_texts c.args.by c.args.claimed c.args.strict _ _ _ (sink_of (λ v. Some v.items) c.new-report.result c.check_solution-judged.new.out) c.check_solution-judged.result _ _ _ _ _ _ _ _
    (record {
      first_is = ap (λ s. Some s.now) c.new-first.ensures.inner;
      second_is = ap (λ s. Some s.now) c.new-second.ensures.inner;
      third_is = third.1;
    })
    third.2.0 c.of_run-numbers.ensures c.numbers-call_result.ensures.kept c.numbers-call_result.ensures.none (rw c.acceptance.ensures at c.ended-answer.ensures)
