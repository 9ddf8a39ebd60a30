-- The goals of `number_word_laws` in src/laws.rt: what it ensures.
use Rattle.tsp_number.proofs.WordLaws.{stands_once, decimal_once, decimal_of-reads, whole_once, whole_of-reads}
use Rattle.tsp_number.proofs.laws.number_word_laws.Goals as goal

-- plan: by cases of two answers to one word, which are equal or exclude each other; the computed answer is one of them
pub returns-clause-one_number : goal.returns-clause-one_number
returns-clause-one_number c = stands_once

pub returns-clause-one_decimal : goal.returns-clause-one_decimal
returns-clause-one_decimal c = decimal_once

pub returns-clause-some_decimal : goal.returns-clause-some_decimal
returns-clause-some_decimal c = decimal_of-reads

pub returns-clause-one_whole : goal.returns-clause-one_whole
returns-clause-one_whole c = whole_once

pub returns-clause-some_whole : goal.returns-clause-some_whole
returns-clause-some_whole c = whole_of-reads
