-- The goals of `clean_fields_are_valid` in src/laws.rt. The fields of items without a fault are valid, field by
-- field.
use Rattle.tsp_text.specs.ParsesTo.{part}
use Rattle.tsp_text.proofs.ValidCuts.{part_cut}
use Rattle.tsp_text.proofs.ValidItems.{none_bad}
use Rattle.tsp_text.proofs.laws.clean_fields_are_valid.Goals as goal

-- plan: no row applies, so no field is bad (`none_bad`); a text's fields are those of its items (`part_cut`)
pub returns-clause-of_items : goal.returns-clause-of_items
returns-clause-of_items c = λ items cut clean whole. none_bad items cut clean whole

pub returns-clause-of_text : goal.returns-clause-of_text
returns-clause-of_text c = λ bytes clean whole. none_bad (part bytes) (part_cut bytes) clean whole
