-- The goals of `verdict_on` in src/lib.rt, which reads two texts and judges the tour of the second: what it ensures.
use Rattle.std.proofs.Common.{sym, subst}
use Rattle.tsp_text.specs.ParsesTo.{ParsesTo}
use Rattle.example_check.proofs.verdict_on.Goals as goal

-- plan: each text parses to a file, as the reader ensures, and the verdict is the one on these files
pub returns : goal.returns
returns c = record {
  instance = c.in-Ok.instance;
  solution = c.in_ok-solution.solution;
  first_file = subst (ParsesTo c.args.instance.now) (sym c.in-Ok.ensures.0) c.in_ok-file.ensures.answer;
  second_file = c.in_ok-solution.ensures.answer;
  judged = c.in_ok-judge_tour.ensures;
}
