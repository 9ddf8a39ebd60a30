-- The goals of `value_of` in src/word.rt, which finds the value of a word: what it ensures.
use Rattle.tsp_format.proofs.Pairs.{found_is_known, none_is_unknown}
use Rattle.tsp_format.proofs.word.value_of.Goals as goal

-- plan: the search finds the value with the word (`found_is_known`), or no value has it (`none_is_unknown`)
pub returns-clause-known : goal.returns-clause-known
returns-clause-known g c =
    found_is_known g.V.Word.text g.V.Word.values g.met.V.Word.found c.args.word.now c.first_with.result (rw (← c.all.ensures) c.first_with.ensures)

pub returns-clause-unknown : goal.returns-clause-unknown
returns-clause-unknown g c =
    none_is_unknown g.V.Word.text g.V.Word.values g.met.V.Word.found c.args.word.now c.first_with.result (rw (← c.all.ensures) c.first_with.ensures)
