-- The goals of `value_in` in src/number_word.rt, which reads the first digits of eight bytes as a number: what its call
-- requires and what it ensures.
use Rattle.std.proofs.Common.{◌∙◌}
use Rattle.tsp_number.proofs.EightDigits.{shifted_small, shifted_value}
use Rattle.tsp_number.proofs.number_word.value_in.Goals as goal

-- plan: after the shift zeros come before the digits (`shifted_small`), which leave the number as it is
-- (`shifted_value`)
pub value_of-requires : goal.value_of-requires
value_of-requires c = shifted_small _ _ _ c.told-eight c.requires.within c.requires.digits c.from_le_bytes-text.ensures

pub returns : goal.returns
returns c = c.value_of.ensures ∙ shifted_value _ _ _ c.told-eight c.requires.within c.requires.digits c.from_le_bytes-text.ensures
