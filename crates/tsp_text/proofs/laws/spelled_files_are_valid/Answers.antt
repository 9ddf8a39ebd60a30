-- The goals of `spelled_files_are_valid` in src/laws.rt. The fields of a text are a file.
use Rattle.tsp_text.proofs.ValidItems.{is_file, spelled_file}
use Rattle.tsp_text.proofs.laws.spelled_files_are_valid.Goals as goal

-- plan: no row applies to an item or to the end, so each field is valid and all together are (`is_file`)
pub returns-clause-of_items : goal.returns-clause-of_items
returns-clause-of_items c = λ items cut clean ended. is_file items cut clean ended

pub returns-clause-of_text : goal.returns-clause-of_text
returns-clause-of_text c = λ bytes file parses_to. spelled_file bytes file parses_to
