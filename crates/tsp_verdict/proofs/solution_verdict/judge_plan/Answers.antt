-- The goals of `judge_plan` in src/solution_verdict.rt, which judges a solution as routes, and then the certificate: what it
-- ensures.
use Rattle.tsp_verdict.proofs.Prelude.{◌≡◌, Some, true, false, option_map, rules}
use Rattle.tsp_report.specs.Verdicts.{is_yes}
use Rattle.tsp_verdict.proofs.KnownBounds.{on_routes, judged_with, refused_with, none_before_routes}
use Rattle.tsp_verdict.proofs.solution_verdict.judge_plan.Goals as goal

-- plan: the routes first, then the certificate, whose bound is carried to the verdict (`judged_with`)
pub returns-in_default : goal.returns-in_default
returns-in_default c = rw c.in_default.is
    (c.as_claimed-verdict.ensures c.args.instance.now c.args.solution.now
    (on_routes c.args.instance.now c.args.solution.now _ c.requires.kind c.in_ok-verdict_on_routes.ensures))

pub returns-then-not-is_yes : goal.returns-then-not-is_yes
returns-then-not-is_yes c =
    let instance = c.args.instance.now in
    let solution = c.args.solution.now in
    let alone = c.as_claimed-verdict.ensures instance solution (on_routes instance solution _ c.requires.kind c.in_ok-verdict_on_routes.ensures) in
    let refused : is_yes c.as_claimed-verdict.result ≡ false = search rules in
    refused_with (option_map (λ given. (given.0, given.1.now)) c.args.certificate) c.args.claimed instance solution c.as_claimed-verdict.result refused alone

pub returns-in-Err : goal.returns-in-Err
returns-in-Err c =
    let instance = c.args.instance.now in
    let solution = c.args.solution.now in
    let alone = c.as_claimed-verdict.ensures instance solution (on_routes instance solution _ c.requires.kind c.in_ok-verdict_on_routes.ensures) in
    let accepted : is_yes c.as_claimed-verdict.result ≡ true = search rules in
    none_before_routes c.args.claimed instance solution c.as_claimed-verdict.result c.requires.kind accepted alone

pub returns-in-Ok : goal.returns-in-Ok
returns-in-Ok c =
    let instance = c.args.instance.now in
    let solution = c.args.solution.now in
    let alone = c.as_claimed-verdict.ensures instance solution (on_routes instance solution _ c.requires.kind c.in_ok-verdict_on_routes.ensures) in
    rw c.in-Some.is (rw c.with_found.ensures
    (judged_with (Some (c.in-Some.by, c.in-Some.file.now)) c.args.claimed instance solution c.as_claimed-verdict.result
    (Some c.in-Ok.found) alone c.in-Ok.ensures))
