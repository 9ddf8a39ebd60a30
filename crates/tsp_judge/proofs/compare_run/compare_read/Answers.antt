-- The goals of `compare_read` in src/compare_run.rt, which compares solutions of files that were read, or returns the
-- first fault: what its call requires and what it ensures.
use Rattle.tsp_judge.proofs.Prelude.{Keeps-refl, IsFile, sink_of, IsProblem, propagated}
use Rattle.std.proofs.Common.{◌≡◌, Err, arith, refl, sym, subst, ◌∙◌}
use Rattle.tsp_judge.specs.declared.run_status.RunFault.TheVariants.{WrongKind}
use Rattle.tsp_judge.specs.CheckRun.{IsFileIn}
use Rattle.tsp_judge.specs.CompareRun.{IsReadTraceAt}
use Rattle.tsp_judge.proofs.Yeses.{none_judged}
use Rattle.tsp_judge.proofs.Comparing.{ends_lacking, ends_comparing, clear_known_bound}
use Rattle.tsp_judge.proofs.compare_run.compare_read.Goals as goal

-- plan: by how it ends: of the wrong kind, without a known bound (`ends_lacking`), or with the comparison (`ends_comparing`);
-- if solutions are judged, the known bound is that of the files (`clear_known_bound`)
pub compare_with-requires-clause-known_bound : goal.compare_with-requires-clause-known_bound
compare_with-requires-clause-known_bound g c = λ clear.
    let common = c.in_ok-common.common in
    clear_known_bound c.args.strict common.certificate common.instance common.known_bound c.in_ok-common.ensures.2 clear

pub returns-in_default-clause-text : goal.returns-in_default-clause-text
returns-in_default-clause-text g c = λ given first one two.
    rw c.wrong_kind.ensures
    (ends_lacking c.args.strict (IsReadTraceAt g.R.Read.remaining g.R.Gives.gives (g.S.Solutions.opens c.args.solutions.now)) (g.S.Solutions.names c.args.solutions.now) given first c.args.instance c.args.certificate
    (sink_of g.W.Takes.contents c.args.out.now c.args.out.now) WrongKind one two (none_judged c.args.certificate _ c.in_default.ensures.2) (Keeps-refl _, refl))

pub returns-in_err-common-clause-text : goal.returns-in_err-common-clause-text
returns-in_err-common-clause-text g c = λ given first one two.
    let same : c.from_residual.result ≡ Err c.in_err-common.field-0.0 = propagated _ _ c.from_residual.ensures.1 in
    rw same (ends_lacking c.args.strict (IsReadTraceAt g.R.Read.remaining g.R.Gives.gives (g.S.Solutions.opens c.args.solutions.now)) (g.S.Solutions.names c.args.solutions.now) given first c.in-Ok.instance c.args.certificate _ _ (subst (IsFile first) (sym c.in-Ok.ensures.0) one) two c.in_err-common.ensures (Keeps-refl _, refl))

pub returns-in-Err-clause-text : goal.returns-in-Err-clause-text
returns-in-Err-clause-text g c = λ given first one two.
    let common = c.in_ok-common.ensures in
    ends_comparing c.args.strict (IsReadTraceAt g.R.Read.remaining g.R.Gives.gives (g.S.Solutions.opens c.args.solutions.now)) (g.S.Solutions.names c.args.solutions.now) given first c.in_ok-common.common _ _ (
      subst (IsFile first) (sym (common.0 ∙ c.in-Ok.ensures.0)) one,
      subst (IsFileIn given) (sym common.1) two,
      subst IsProblem (sym (common.0 ∙ c.in-Ok.ensures.0)) c.in-Ok.ensures.2,
    ) (common.2, c.in-Err.ensures.text)

pub returns-in_default-clause-reported : goal.returns-in_default-clause-reported
returns-in_default-clause-reported g c = (0, omega arith, refl)

pub returns-in_err-common-clause-reported : goal.returns-in_err-common-clause-reported
returns-in_err-common-clause-reported g c =
    let same : c.from_residual.result ≡ Err c.in_err-common.field-0.0 = propagated _ _ c.from_residual.ensures.1 in
    rw same (0, omega arith, refl)

pub returns-in-Err-clause-reported : goal.returns-in-Err-clause-reported
returns-in-Err-clause-reported g c = c.in-Err.ensures.reported
