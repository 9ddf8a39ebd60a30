-- The goals of `a_valid_text_is_short` in src/laws.rt: what it ensures.
use Rattle.tsp_file.proofs.FieldLengths.{text_short, text_short_without_trees}
use Rattle.tsp_file.proofs.laws.a_valid_text_is_short.Goals as goal

-- plan: the text of each field has a limit, and their sum is below the limit of a text: with all fields (`text_short`),
-- or without a tree of cases (`text_short_without_trees`)
pub returns-clause-whole : goal.returns-clause-whole
returns-clause-whole c = text_short

pub returns-clause-without_trees : goal.returns-clause-without_trees
returns-clause-without_trees c = text_short_without_trees
