-- The verdict on two texts in memory, and what the report on them means. For the two calls in src/; in no circle of
-- docs/trust.md.
use Rattle.std.specs.Prelude.{ℕ, ◌⊎◌, List, None}
use Rattle.tsp_file.specs.Fields.{Fields}
use Rattle.tsp_text.specs.ParsesTo.{ParsesTo}
use Rattle.tsp_report.specs.declared.verdict.Verdict.{Verdict}
use Rattle.tsp_verdict.specs.SolutionReasons.{IsTourVerdict}
use Rattle.tsp_judge.specs.Accepted.{IsAcceptedTour, AreAcceptedRoutes}

-- the texts parse to files, and this is the verdict on the second one's tour of the first one's instance
pub record IsVerdictOnTexts (instance_text solution_text : List ℕ) (verdict : Verdict) : Type 0 where
  pub instance : Fields
  pub solution : Fields
  pub first_file : ParsesTo instance_text instance
  pub second_file : ParsesTo solution_text solution
  pub judged : IsTourVerdict instance solution verdict

-- the texts parse to files, the second one is an accepted tour or plan of the first one's instance, and this is the
-- report on it
pub record IsAcceptedOnTexts (instance_text solution_text report : List ℕ) : Type 0 where
  pub instance : Fields
  pub solution : Fields
  pub first_file : ParsesTo instance_text instance
  pub second_file : ParsesTo solution_text solution
  pub accepted : IsAcceptedTour None instance solution report ⊎ AreAcceptedRoutes None instance solution report
