-- The goals of `take_coordinate` in src/plain_numbers.rt, which takes a coordinate, if the list takes it: what it
-- ensures.
use Rattle.tsp_read.specs.states.PlainNumbers.{front_word}
use Rattle.tsp_read.proofs.plain_numbers.take_coordinate.Goals as goal

pub returns : goal.returns
returns g c =
    let word = front_word c.args.text.now in
    let found = c.in-Some.ensures in
    c.count_word.ensures _ _ c.args.text.now word
    (c.take_coordinate.ensures.taken c.if-not-take_coordinate.false word found.reads) found.word found.shorter
