-- The goals of `bit_of` in src/run_steps.rt, which reads a bit of a word: what it ensures.
use Rattle.tsp_routing.proofs.Prelude.{◌≡◌, ◌%◌, ◌/◌, ◌^◌, ℕ, Bool, false, sym, ap, ap₂, ◌∙◌, arith, rules, inl, inr, cases_lt, get_or_past, bit_at, if◌then◌else◌}
use Rattle.std.specs.Int.Bits.{bit_and, and_zero_r}
use Rattle.std.proofs.lemmas.Nat.Bits.{shr_and_one}
use Rattle.tsp_routing.proofs.MemoryWords.{bit_of_word}
use Rattle.tsp_routing.proofs.run_steps.bit_of.Goals as goal

-- plan: by whether there is such a place
pub returns : goal.returns
returns c = λ bits few is. elim (cases_lt c.args.place 64) [
  | inl lt ↦
      let same : c.args.place % 64 ≡ c.args.place = omega (arith, lt) in
      let one : c.from.result ≡ 1 = search (rules, lt) in
      ap₂ (λ (k n : ℕ). bit_and (c.args.word / 2 ^ k) n) same one ∙ (shr_and_one c.args.word c.args.place
      ∙ (ap (λ (n : ℕ). bit_at n c.args.place) is ∙ bit_of_word bits c.args.place))
  | inr past ↦
      let none : c.from.result ≡ 0 = search (rules, past) in
      ap (λ (n : ℕ). bit_and (c.args.word / 2 ^ (c.args.place % 64)) n) none
      ∙ (and_zero_r (c.args.word / 2 ^ (c.args.place % 64))
      ∙ sym (ap (λ (b : Bool). if b then 1 else 0) (get_or_past bits c.args.place false (omega (arith, few, past)))))
]
