-- The goals of `parse_decimal` in src/number_word.rt, which reads a number word as a decimal: what it ensures.
use Rattle.tsp_number.proofs.FrontNumbers.{decimal_word}
use Rattle.tsp_number.proofs.WordLaws.{decimal_once, decimal_of-reads}
use Rattle.tsp_number.proofs.number_word.parse_decimal.Goals as goal

-- plan: a decimal that ends where its word does is the word's number (`decimal_word`); a word has one answer, the
-- computed one (`decimal_once`)
pub returns : goal.returns
returns c =
    let reads = decimal_word _ _ _ c.in-Some.ensures.number c.if-end-word.true c.in-Some.ensures.size in
    record { reads = reads; computed = decimal_once _ _ _ reads (decimal_of-reads c.args.word.now) }
