-- The goals of `run_form_comparison` in src/running.rt, which compares solutions in some form and returns how that
-- ended: what it ensures.
use Rattle.std.proofs.Common.{Result, Ok, Err, OnOk, refl}
use Rattle.tsp_tool.proofs.Prelude.{Keeps-refl}
use Rattle.tsp_tool.specs.declared.ends.RunEnd.TheVariants.{Compared, Solved}
use Rattle.tsp_solution.specs.declared.solution_writer.SolutionRunFault.TheVariants.{File}
use Rattle.tsp_tool.proofs.Openings.{tells_compared, tells_more}
use Rattle.tsp_tool.proofs.running.run_form_comparison.Goals as goal

on_ok : {A B : Type 0} (r : Result A B) (P Q : Type 0) → (P → Q) → OnOk r P → OnOk r Q
on_ok (Ok a) P Q f reported = f reported
on_ok (Err b) P Q f reported = reported

-- plan: the instance can't be read; or the status is that of the comparison, and standard error has a line for each that
-- it follows (`tells_compared`)
pub returns-in-Err : goal.returns-in-Err
returns-in-Err g c = (
  Solved (Err (File 1 c.in-Err.fault)),
  ((c.in-Err.fault, refl, c.in-Err.ensures), (Keeps-refl _, refl)),
  (c.tell_untried.ensures.status, c.tell_untried.ensures.told),
)

pub returns : goal.returns
returns g c =
    let explain = c.args.task_run.now.explain in
    let contents = g.E.Write.contents in
    let compared = rw c.deref.ensures.value at c.compare_by_form-found.ensures.text in
    let first = tells_compared explain contents _ c.args.errors.now c.compare_by_form-found.new.errors c.compare_by_form-found.result c.compare_by_form-found.ensures.reported in
    let before = tells_more explain (contents c.args.errors.now) (contents c.compare_by_form-found.new.errors) (contents c.end_count.new.to) first c.end_count.ensures in (
      Compared c.compare_by_form-found.result,
      (c.in-Ok.instance.items, c.in-Ok.ensures, compared),
      (c.status_of_run_end.ensures, on_ok c.tell_end-reported.result _ _ (λ reported. (contents c.end_count.new.to, before, reported)) c.tell_end-reported.ensures),
    )
