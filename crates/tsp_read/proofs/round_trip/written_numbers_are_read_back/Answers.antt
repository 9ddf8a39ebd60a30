-- The goals of `written_numbers_are_read_back` in src/round_trip.rt. Numbers that are written are read back, by the
-- laws of number words and of their texts.
use Rattle.tsp_read.proofs.NumbersReadBack.{WordLaws, number_laws}
use Rattle.tsp_read.proofs.round_trip.written_numbers_are_read_back.Goals as goal

-- plan: the laws of tsp_number give it, as a record (`WordLaws`)
pub returns-clause-whole : goal.returns-clause-whole
returns-clause-whole c =
    let words = c.number_word_laws.ensures in
    let laws : WordLaws = record { one_whole = words.one_whole; some_whole = words.some_whole; some_decimal = words.some_decimal; round_trip = c.spelling_laws.ensures.round_trip } in
    (number_laws laws).whole_back

pub returns-clause-coordinate : goal.returns-clause-coordinate
returns-clause-coordinate c =
    let words = c.number_word_laws.ensures in
    let laws : WordLaws = record { one_whole = words.one_whole; some_whole = words.some_whole; some_decimal = words.some_decimal; round_trip = c.spelling_laws.ensures.round_trip } in
    (number_laws laws).decimal_back
