-- The goals of `explained_on_a_terminal` in src/laws.rt: what it ensures.
use Rattle.tsp_tool.proofs.Prelude.{◌≡◌, Bool, true, false, refl, ◌∙◌, ◌||◌}
use Rattle.std.proofs.Math.Bool.{or-false}
use Rattle.tsp_tool.proofs.laws.explained_on_a_terminal.Goals as goal

or_true : (asked : Bool) → (asked || true) ≡ true
or_true true = refl
or_true false = refl

-- plan: by how the run ends: on a terminal all is explained (`or_true`), elsewhere what the job says (`or_false`)
pub returns-clause-answer : goal.returns-clause-answer
returns-clause-answer g c = λ build words sink explained answer ends. ends.3 ∙ or_true ends.0.explain

pub returns-clause-comparison : goal.returns-clause-comparison
returns-clause-comparison g c = λ build words sink explained answer ends. ends.3 ∙ or_true ends.0.explain

pub returns-clause-task : goal.returns-clause-task
returns-clause-task g c = λ build words sink explained fault ends. ends.3 ∙ or_true ends.0.explain

pub returns-clause-no_job : goal.returns-clause-no_job
returns-clause-no_job g c = λ build words sink explained fault ends. ends.4

pub returns-clause-elsewhere : goal.returns-clause-elsewhere
returns-clause-elsewhere g c = λ build words sink explained answer ends. (ends.0, ends.1, ends.3 ∙ or-false ends.0.explain)
