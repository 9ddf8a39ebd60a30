-- The goals of `examples_of_opened_files` in src/examples.rt: what it ensures.
use Rattle.std.proofs.lemmas.List.{length-map}
use Rattle.std.specs.String.{string_bytes}
use Rattle.tsp_tool.proofs.examples.examples_of_opened_files.Goals as goal

-- plan: each example is computed
pub returns-clause-first_solution : goal.returns-clause-first_solution
returns-clause-first_solution c = λ file opened. opened

pub returns-clause-second_solution : goal.returns-clause-second_solution
returns-clause-second_solution c = λ file opened. opened

pub returns-clause-each_solution : goal.returns-clause-each_solution
returns-clause-each_solution c = λ comparison. length-map comparison.solutions.now string_bytes
