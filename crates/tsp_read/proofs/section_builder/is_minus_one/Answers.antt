-- The goals of `is_minus_one` in src/section_builder.rt, which says whether a word is `-1`: what it ensures.
use Rattle.std.proofs.Common.{◌∙◌, ap}
use Rattle.std.specs.Str.{bytes_eq}
use Rattle.tsp_read.proofs.section_builder.is_minus_one.Goals as goal

pub returns : goal.returns
returns c = c.eq.ensures ∙ ap (bytes_eq c.args.word.now) c.as_slice.ensures
