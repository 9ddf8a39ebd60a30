-- The goals of `front_number` in src/plain_numbers.rt, which reads the word of a short whole number: what it ensures.
use Rattle.tsp_read.proofs.Prelude.{rules, arith, FitsSigned, w64, common_steps, pos, ◌*ℤ◌, to_z-of_z, unit}
use Rattle.tsp_read.specs.states.PlainNumbers.{left_from}
use Rattle.tsp_read.proofs.PlainNumbers.{EndsNumber, front_gives, front_reads}
use Rattle.tsp_read.proofs.plain_numbers.front_number.Goals as goal

number_at_front : (c : goal.In-Some-word_end)
    → EndsNumber c.args.text.now c.without_start-filled.result.now c.in-Some.end (c.in-Some.number *ℤ pos unit)
    c.split_at.result.1.now (left_from c.in-Some-word_end.end)
number_at_front c = record {
  filled_is = c.without_start-filled.ensures;
  number = c.in-Some.ensures.number;
  rest_is = c.split_at.ensures.back;
  leaves = c.in-Some-word_end.ensures.left;
}

-- plan: the number at the front ends where its word does (`number_at_front`), so it is the word's (`front_reads`)
pub returns-in-Some-word_end : goal.returns-in-Some-word_end
returns-in-Some-word_end c =
    let fits : FitsSigned w64 c.in-Some.number = search rules in
    record {
      word = front_gives _ _ _ _ _ _ (number_at_front c);
      reads = rw (to_z-of_z w64 c.in-Some.number fits) (front_reads _ _ _ _ _ _ (number_at_front c));
      shorter = grind (arith, common_steps);
    }
