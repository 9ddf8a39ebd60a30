-- The goals of `front_coordinate` in src/plain_numbers.rt, which reads the word of a short decimal: what it ensures.
use Rattle.tsp_read.proofs.Prelude.{arith, common_steps}
use Rattle.tsp_read.specs.states.PlainNumbers.{left_from}
use Rattle.tsp_read.proofs.PlainNumbers.{EndsNumber, front_gives, front_reads_decimal}
use Rattle.tsp_read.proofs.plain_numbers.front_coordinate.Goals as goal

number_at_front : (c : goal.In-Some-word_end)
    → EndsNumber c.args.text.now c.without_start-filled.result.now c.in-Some.found.1 c.in-Some.found.0 c.split_at.result.1.now (left_from c.in-Some-word_end.end)
number_at_front c = record {
  filled_is = c.without_start-filled.ensures;
  number = c.in-Some.ensures.number;
  rest_is = c.split_at.ensures.back;
  leaves = c.in-Some-word_end.ensures.left;
}

-- plan: the decimal at the front ends where its word does (`number_at_front`), so it is the word's
-- (`front_reads_decimal`)
pub returns-in-Some-word_end : goal.returns-in-Some-word_end
returns-in-Some-word_end c = record {
  word = front_gives _ _ _ _ _ _ (number_at_front c);
  reads = front_reads_decimal _ _ _ _ _ _ (number_at_front c) c.in-Some.ensures.size;
  shorter = grind (arith, common_steps);
}
