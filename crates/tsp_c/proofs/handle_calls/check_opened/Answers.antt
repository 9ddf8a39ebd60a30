-- The goals of `check_opened` in src/handle_calls.rt, which checks the solution of a text by an open instance: what its
-- calls require and what it ensures.
use Rattle.tsp_c.proofs.Prelude.{◌≡◌, ◌∙◌, [], ap, refl, subst, Some, Sink, sink_of, Fields, Verdict, is_yes}
use Rattle.tsp_verdict.specs.Strict.{strict_reason, strict_verdict}
use Rattle.tsp_report.specs.Report.{report_of, IsSized}
use Rattle.tsp_c.specs.NumberCalls.{Reports}
use Rattle.tsp_c.specs.CallResult.{result_of_verdict}
use Rattle.tsp_c.proofs.HandleCalls.{fault_as_texts, fault_in_numbers, means_asked, reported_as_texts, reported_in_numbers, sized_asked}
use Rattle.tsp_c.proofs.handle_calls.check_opened.Goals as goal

-- plan: by how the check ends: a fault (`fault_as_texts`, `fault_in_numbers`), or a verdict (`reported_as_texts`,
-- `reported_in_numbers`), which is the one without lines that aren't judged as a reason, or isn't accepted (`means_asked`)
pub returns-in-Err-clause-texts : goal.returns-in-Err-clause-texts
returns-in-Err-clause-texts c = fault_as_texts c.args.opened.now c.args.claimed c.args.strict c.args.solution.now c.in-Err.error []
    c.ended-answer.result.0 c.ended-answer.result.1 c.in-Err.ensures c.ended-answer.ensures

pub returns-in-Err-clause-numbers : goal.returns-in-Err-clause-numbers
returns-in-Err-clause-numbers c = fault_in_numbers c.args.opened.now c.args.claimed c.args.strict c.args.solution.now c.in-Err.error []
    c.ended-answer.result.0 c.ended-answer.result.1 c.of_error.result c.numbers-call_result.result c.in-Err.ensures c.of_error.ensures
    c.numbers-call_result.ensures.kept c.numbers-call_result.ensures.none c.ended-answer.ensures

pub of_verdict-call_result-requires : goal.of_verdict-call_result-requires
of_verdict-call_result-requires c =
    let opened = c.args.opened.now in
    let is = c.in-Ok.ensures in
    let plain_sized : IsSized c.in-Ok.plain =
    c.verdicts_mean_reports.ensures.sized opened.certificate c.args.claimed opened.instance is.solution c.in-Ok.plain is.judged in
    sized_asked _ c.in-Ok.plain c.strict_verdict-verdict.result plain_sized c.strict_verdict-verdict.ensures

pub reported-written-requires : goal.reported-written-requires
reported-written-requires c =
    let opened = c.args.opened.now in
    let is = c.in-Ok.ensures in
    let plain_sized : IsSized c.in-Ok.plain =
    c.verdicts_mean_reports.ensures.sized opened.certificate c.args.claimed opened.instance is.solution c.in-Ok.plain is.judged in
    sized_asked _ c.in-Ok.plain c.strict_verdict-verdict.result plain_sized c.strict_verdict-verdict.ensures

pub returns-in-Ok-clause-texts : goal.returns-in-Ok-clause-texts
returns-in-Ok-clause-texts c =
    let opened = c.args.opened.now in
    let plain : Verdict = c.in-Ok.plain in
    let verdict : Verdict = c.strict_verdict-verdict.result in
    let is = c.in-Ok.ensures in
    let answer = c.reported-written in
    let sink : Sink = sink_of (λ v. Some v.items) c.new-report.result answer.new.out in
    let same : c.instance-instance.result.now ≡ opened.instance = c.instance-instance.ensures in
    let asked : verdict ≡ strict_verdict (strict_reason c.args.strict opened.instance) plain =
    c.strict_verdict-verdict.ensures ∙ ap (λ (f : Fields). strict_verdict (strict_reason c.args.strict f) plain) same in
    reported_as_texts opened c.args.claimed c.args.strict c.args.solution.now verdict sink answer.result answer.new.out.inner.items
    c.ended-answer-in-Ok.result.0 c.ended-answer-in-Ok.result.1 (plain, is, asked)
    (means_asked opened c.args.claimed c.args.strict is.solution plain verdict
    (λ agrees. c.verdicts_mean_reports.ensures.accepted opened.certificate c.args.claimed opened.instance is.solution plain
    is.problem is.of_type is.judged agrees) asked)
    (record { held = ap (λ v. Some v.items) c.new-report.ensures.inner ∙ ap Some c.new.ensures.items; holds = refl })
    (subst (λ (f : Fields). Reports sink (report_of f verdict) (is_yes verdict) answer.result) same answer.ensures)
    c.ended-answer-in-Ok.ensures

pub returns-in-Ok-clause-numbers : goal.returns-in-Ok-clause-numbers
returns-in-Ok-clause-numbers c =
    let opened = c.args.opened.now in
    let plain : Verdict = c.in-Ok.plain in
    let verdict : Verdict = c.strict_verdict-verdict.result in
    let answer = c.reported-written in
    let sink : Sink = sink_of (λ v. Some v.items) c.new-report.result answer.new.out in
    let same : c.instance-instance.result.now ≡ opened.instance = c.instance-instance.ensures in
    let asked : verdict ≡ strict_verdict (strict_reason c.args.strict opened.instance) plain =
    c.strict_verdict-verdict.ensures ∙ ap (λ (f : Fields). strict_verdict (strict_reason c.args.strict f) plain) same in
    reported_in_numbers opened c.args.claimed c.args.strict c.args.solution.now verdict sink answer.result answer.new.out.inner.items
    c.ended-answer-in-Ok.result.0 c.ended-answer-in-Ok.result.1 c.of_verdict-call_result.result c.numbers-call_result-in-Ok.result
    (plain, c.in-Ok.ensures, asked)
    (c.of_verdict-call_result.ensures ∙ ap (λ (f : Fields). result_of_verdict f verdict) same)
    c.numbers-call_result-in-Ok.ensures.kept c.numbers-call_result-in-Ok.ensures.none
    (subst (λ (f : Fields). Reports sink (report_of f verdict) (is_yes verdict) answer.result) same answer.ensures)
    c.ended-answer-in-Ok.ensures
