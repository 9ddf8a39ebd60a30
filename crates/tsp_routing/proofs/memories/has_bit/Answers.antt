-- The goals of `has_bit` in src/memories.rt, which tests a bit of a word: what it ensures.
use Rattle.tsp_routing.proofs.Prelude.{◌≡◌, ℕ, ◌==◌, Bool, true, false, get_or, refl, ap, ◌∙◌, arith, bit_at, if◌then◌else◌}
use Rattle.std.proofs.lemmas.Nat.Bits.{shr_and_one}
use Rattle.tsp_routing.proofs.MemoryWords.{bit_of_word, is_one}
use Rattle.tsp_routing.proofs.memories.has_bit.Goals as goal

pub returns : goal.returns
returns c = λ bits few is.
    is_one _ (get_or bits c.args.place false)
    (shr_and_one c.args.word c.args.place ∙ (ap (λ (n : ℕ). bit_at n c.args.place) is ∙ bit_of_word bits c.args.place))
