-- The goals of `valid_fields_are_in_range` in src/laws.rt: what it ensures.
use Rattle.tsp_file.proofs.ValidFields.{in_range}
use Rattle.tsp_file.proofs.laws.valid_fields_are_in_range.Goals as goal

-- plan: a draft without a fault passes the test of each field, and each test is one of a range (`in_range`)
pub returns : goal.returns
returns c = in_range
