-- The goals of `judge_files` in src/check_run.rt, which judges a solution and writes the report: what the report
-- requires.
use Rattle.tsp_judge.proofs.Yeses.{asked_sized}
use Rattle.tsp_judge.proofs.check_run.judge_files.Goals as goal

-- plan: a bound of the verdict fits, and so does that of the strict one (`asked_sized`)
pub report_verdict-requires : goal.report_verdict-requires
report_verdict-requires g c =
    asked_sized c.args.strict _ _ c.args.instance.now c.args.solution.now c.strict_verdict-verdict.result
    (c.in-Ok.plain, c.in-Ok.ensures, c.strict_verdict-verdict.ensures)
