-- The goals of `count_word` in src/plain_numbers.rt, which counts a word, and the line's end after it: what it ensures.
use Rattle.std.proofs.Common.{◌+◌, ◌∷◌, List, ℕ, true, refl, arith}
use Rattle.tsp_read.specs.declared.plain_numbers.Count.{Count}
use Rattle.tsp_read.proofs.PlainNumbers.{word_runs, line_runs, run_then}
use Rattle.tsp_read.proofs.plain_numbers.count_word.Goals as goal

pub returns-in-Blank : goal.returns-in-Blank
returns-in-Blank c = rw c.in-Blank.is (λ old new text word takes gives shorter. (
  word_runs old new c.args.count.now _ text c.in-Blank.rest.now word takes gives refl refl refl shorter,
  shorter,
))

-- plan: by what follows the word: a blank (`word_runs`), or the line's end too (`line_runs`, `run_then`)
pub returns-in-Line : goal.returns-in-Line
returns-in-Line c = rw c.in-Line.is (λ old new text word takes gives shorter.
    let before : Count = c.args.count.now in
    let rest : List ℕ = c.in-Line.rest.now in
    let between : Count = record { line = before.line; words = before.words + 1; inside = true } in (
      run_then old new new before between _ text (10 ∷ rest) rest
          (word_runs old new before between text (10 ∷ rest) word takes gives refl refl refl shorter)
          (line_runs new between _ (10 ∷ rest) rest refl refl refl refl),
      omega (arith, shorter),
    ))
