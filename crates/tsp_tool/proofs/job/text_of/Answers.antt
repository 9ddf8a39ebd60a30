-- The goals of `text_of` in src/job.rt, which returns the text that was found for an argument: what it ensures.
use Rattle.tsp_tool.proofs.Prelude.{◌∙◌, found_of, first_value-rows}
use Rattle.tsp_tool.proofs.job.text_of.Goals as goal

-- plan: clap has a row for each argument that was given, and the first word of it is the text
pub returns : goal.returns
returns c = c.get_str.ensures ∙ first_value-rows (found_of c.args.found.now) c.args.id.now
