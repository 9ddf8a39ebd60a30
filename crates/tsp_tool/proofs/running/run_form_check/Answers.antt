-- The goals of `run_form_check` in src/running.rt, which checks a solution in some form and returns how that ended: what
-- it ensures.
use Rattle.tsp_tool.proofs.Prelude.{refl, Keeps-refl}
use Rattle.tsp_tool.specs.declared.ends.RunEnd.TheVariants.{Ended, Solved}
use Rattle.std.specs.Prelude.{Err}
use Rattle.tsp_tool.proofs.running.run_form_check.Goals as goal

-- plan: there is no text that could be checked, or the check was done on the texts
pub returns-in-Err : goal.returns-in-Err
returns-in-Err g c = (
  Solved (Err c.in-Err.fault),
  ((c.in-Err.fault, refl, c.in-Err.ensures), (Keeps-refl _, refl)),
  (c.tell_untried.ensures.status, c.tell_untried.ensures.told),
)

pub returns : goal.returns
returns g c =
    let checked = rw (c.deref.ensures.value, c.deref-2.ensures.value) at c.check_texts-judged.ensures in (
      Ended c.outcome_of.result,
      (c.in-Ok.texts.instance.items, c.in-Ok.texts.written.items, c.in-Ok.ensures, (c.check_texts-judged.result, c.outcome_of.ensures, checked)),
      (c.status_of_run_end.ensures, c.tell_end-reported.ensures),
    )
