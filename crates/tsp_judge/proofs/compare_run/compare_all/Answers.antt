-- The goals of `compare_all` in src/compare_run.rt, which compares all solutions in order: its loop and what it
-- ensures.
use Rattle.tsp_judge.proofs.Prelude.{max, sink_of, propagated}
use Rattle.std.proofs.Common.{◌≡◌, Err, arith, ap, sym, subst, ◌∙◌, ◌<◌, ◌+◌, length}
use Rattle.tsp_judge.proofs.Comparing.{HasCompared, compared_none, compared_next, compared_ends, compared_all, reported_next, reported_before}
use Rattle.tsp_judge.specs.CompareRun.{IsReadTraceAt, status_of_found, AreReported}
use Rattle.tsp_judge.proofs.compare_run.compare_all.Goals as goal

-- plan: one solution more is compared (`compared_next`), or ends the comparison (`compared_ends`)
pub returns-in_err-found-clause-text : goal.returns-in_err-found-clause-text
returns-in_err-found-clause-text g c =
    let same : c.from_residual.result ≡ Err c.in_err-found.field-0.0 = propagated _ _ c.from_residual.ensures.1 in
    let more : c.solutions.index < length (g.S.Solutions.names c.args.solutions.now) = omega (arith, c.solutions-test.true, c.count-index-end.ensures) in
    rw same (compared_ends g.W.Takes.contents c.args.out.now c.solutions.out c.compare_one.new.out (IsReadTraceAt g.R.Read.remaining g.R.Gives.gives (g.S.Solutions.opens c.args.solutions.now))
    (g.S.Solutions.names c.args.solutions.now) c.args.common.now c.solutions.index c.solutions.status _ c.solutions.invariant.compared more c.in_err-found.ensures)

pub solutions-preserved : goal.solutions-preserved
solutions-preserved g c =
    let more : c.solutions.index < length (g.S.Solutions.names c.args.solutions.now) = omega (arith, c.solutions-test.true, c.count-index-end.ensures) in
    let next = compared_next g.W.Takes.contents c.args.out.now c.solutions.out c.compare_one.new.out (IsReadTraceAt g.R.Read.remaining g.R.Gives.gives (g.S.Solutions.opens c.args.solutions.now))
    (g.S.Solutions.names c.args.solutions.now) c.args.common.now c.solutions.index c.solutions.status _ c.solutions.invariant.compared more c.in_ok-found.ensures in
    let status : c.larger-status.result ≡ max (status_of_found _) c.solutions.status = c.larger-status.ensures ∙ ap (λ s. max s c.solutions.status) (c.status_of_found.ensures ∙ ap status_of_found c.result.ensures) in
    record {
      compared = subst (λ s. HasCompared (IsReadTraceAt g.R.Read.remaining g.R.Gives.gives (g.S.Solutions.opens c.args.solutions.now)) (g.S.Solutions.names c.args.solutions.now) c.args.common.now
          (sink_of g.W.Takes.contents c.args.out.now c.compare_one.new.out) (c.solutions.index + 1) s) (sym status) next;
      reported = reported_next (g.S.Follow.tells c.args.solutions.now) c.solutions.index c.args.to.now c.solutions.to c.written.new.to c.solutions.invariant.reported c.written.ensures;
    }

pub returns-in_err-found-clause-reported : goal.returns-in_err-found-clause-reported
returns-in_err-found-clause-reported g c =
    let same : c.from_residual.result ≡ Err c.in_err-found.field-0.0 = propagated _ _ c.from_residual.ensures.1 in
    let more : c.solutions.index < length (g.S.Solutions.names c.args.solutions.now) = omega (arith, c.solutions-test.true, c.count-index-end.ensures) in
    rw same (
      c.solutions.index,
      reported_before (IsReadTraceAt g.R.Read.remaining g.R.Gives.gives (g.S.Solutions.opens c.args.solutions.now)) (g.S.Solutions.names c.args.solutions.now) c.args.common.now c.solutions.index
          (sink_of g.W.Takes.contents c.solutions.out c.compare_one.new.out) _ _ more c.in_err-found.ensures,
      c.solutions.invariant.reported,
    )

pub returns-clause-reported : goal.returns-clause-reported
returns-clause-reported g c =
    let all : c.solutions.index ≡ length (g.S.Solutions.names c.args.solutions.now) = omega (arith, c.solutions-test.false, c.solutions.auto.index-end, c.count-index-end.ensures) in
    subst (λ n. AreReported (g.S.Follow.tells c.args.solutions.now) n c.args.to.now c.solutions.to) all c.solutions.invariant.reported
