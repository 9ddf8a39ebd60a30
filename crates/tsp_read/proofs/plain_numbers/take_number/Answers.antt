-- The goals of `take_number` in src/plain_numbers.rt, which takes a number that was found, if the list takes it: what
-- it ensures.
use Rattle.tsp_read.proofs.Prelude.{rules, FitsSigned, w64, to_z-of_z, IsWhole}
use Rattle.tsp_read.specs.states.PlainNumbers.{front_word, left_from, IsFrontWord}
use Rattle.tsp_read.proofs.plain_numbers.take_number.Goals as goal

-- plan: the number is taken, and its word is counted
pub returns : goal.returns
returns g c =
    let fits : FitsSigned w64 c.in-Some.number = search rules in
    let word = front_word c.args.text.now in
    let found : IsFrontWord c.args.text.now (IsWhole word c.in-Some.number) (left_from c.in-Some.end) = rw c.in-Some.is at c.requires.found in
    c.count_word.ensures _ _ c.args.text.now word
    (c.take_whole.ensures.taken c.if-not-take_whole.false word (rw (to_z-of_z w64 c.in-Some.number fits) found.reads)) found.word found.shorter
