-- The goals of `judge_read` in src/check_run.rt, which judges files that were read, or returns the first fault: what it
-- ensures.
use Rattle.tsp_judge.proofs.Prelude.{refl, sym, subst, Keeps-refl, IsFile, IsProblem}
use Rattle.tsp_judge.proofs.Yeses.{are_read, ends_without, none_judged, run_of, fault_of_run}
use Rattle.tsp_judge.proofs.check_run.judge_read.Goals as goal

-- plan: by how it ends: of the wrong kind, out of memory, or with a report (`run_of`)
pub returns-in_default : goal.returns-in_default
returns-in_default g c = λ given first second one two three. rw c.wrong_kind.ensures (fault_of_run c.args.strict given _ first second _ _ (
  c.args.instance,
  c.args.solution,
  c.args.certificate,
  are_read given first second c.args.instance c.args.solution c.args.certificate one two three,
  (none_judged c.args.certificate _ c.in_default.ensures.2, (Keeps-refl _, refl)),
))

pub returns-in-Err : goal.returns-in-Err
returns-in-Err g c = λ given first second one two three.
    fault_of_run c.args.strict given _ first second _ _ (ends_without c.args.strict given _ first second c.in-Ok.instance c.args.solution c.args.certificate _ _
    (are_read given first second c.in-Ok.instance c.args.solution c.args.certificate (subst (IsFile first) (sym c.in-Ok.ensures.0) one) two three) c.in-Err.ensures)

pub returns-in-Ok-judge_files : goal.returns-in-Ok-judge_files
returns-in-Ok-judge_files g c = λ given first second one two three.
    run_of c.args.strict given _ first second _ _ (subst IsProblem (sym c.in-Ok.ensures.0) c.in-Ok.ensures.2)
    (are_read given first second c.in-Ok.instance c.args.solution c.args.certificate (subst (IsFile first) (sym c.in-Ok.ensures.0) one) two three, c.in-Ok-judge_files.ensures)
