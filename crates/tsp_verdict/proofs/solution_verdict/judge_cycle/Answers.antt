-- The goals of `judge_cycle` in src/solution_verdict.rt, which judges a solution as a tour, and then the certificate: what it
-- ensures.
use Rattle.tsp_verdict.proofs.Prelude.{◌≡◌, Some, true, false, option_map, rules}
use Rattle.tsp_report.specs.Verdicts.{is_yes}
use Rattle.tsp_verdict.proofs.FirstReasons.{none_for_tours}
use Rattle.tsp_verdict.proofs.OneReason.{certificate_decides}
use Rattle.tsp_verdict.proofs.KnownBounds.{on_a_tour, judged_with, refused_with, none_before_yes, kept_refusal}
use Rattle.tsp_verdict.proofs.solution_verdict.judge_cycle.Goals as goal

-- plan: the tour first, then the certificate, whose bound is carried to the verdict (`judged_with`)
pub returns-in-Err : goal.returns-in-Err
returns-in-Err c =
    let instance = c.args.instance.now in
    let solution = c.args.solution.now in
    let alone = on_a_tour instance solution c.verdict_against.result c.requires (c.verdict_against.ensures.first instance c.in-Err.ensures) in
    kept_refusal (option_map (λ given. (given.0, given.1.now)) c.args.certificate) c.args.claimed instance solution c.verdict_against.result
    c.verdict_against.ensures.refused alone

pub returns-in_default : goal.returns-in_default
returns-in_default c = rw c.in_default.is
    (c.as_claimed-verdict.ensures c.args.instance.now c.args.solution.now
    (on_a_tour c.args.instance.now c.args.solution.now _ c.requires c.in_ok-verdict_on_tour.ensures))

pub returns-then-not-is_yes : goal.returns-then-not-is_yes
returns-then-not-is_yes c =
    let instance = c.args.instance.now in
    let solution = c.args.solution.now in
    let alone = c.as_claimed-verdict.ensures instance solution (on_a_tour instance solution _ c.requires c.in_ok-verdict_on_tour.ensures) in
    let refused : is_yes c.as_claimed-verdict.result ≡ false = search rules in
    refused_with (option_map (λ given. (given.0, given.1.now)) c.args.certificate) c.args.claimed instance solution c.as_claimed-verdict.result refused alone

pub returns-in-Err-bound_by : goal.returns-in-Err-bound_by
returns-in-Err-bound_by c =
    let instance = c.args.instance.now in
    let solution = c.args.solution.now in
    let alone = c.as_claimed-verdict.ensures instance solution (on_a_tour instance solution _ c.requires c.in_ok-verdict_on_tour.ensures) in
    let accepted : is_yes c.as_claimed-verdict.result ≡ true = search rules in
    none_before_yes c.args.claimed instance solution c.as_claimed-verdict.result c.requires accepted alone

pub returns-in-Ok-bound_by : goal.returns-in-Ok-bound_by
returns-in-Ok-bound_by c =
    let instance = c.args.instance.now in
    let solution = c.args.solution.now in
    let alone = c.as_claimed-verdict.ensures instance solution (on_a_tour instance solution _ c.requires c.in_ok-verdict_on_tour.ensures) in
    let decides = certificate_decides c.in-Some.by instance c.in-Some.file.now c.in-Ok-bound_by.found
    (none_for_tours instance c.requires c.in-Ok.ensures.2) c.in-Ok-bound_by.ensures.found in
    rw c.in-Some.is (rw c.with_found.ensures
    (judged_with (Some (c.in-Some.by, c.in-Some.file.now)) c.args.claimed instance solution c.as_claimed-verdict.result
    (Some c.in-Ok-bound_by.found) alone decides))
