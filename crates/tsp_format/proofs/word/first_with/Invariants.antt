-- The loop of `first_with` in src/word.rt, which finds the first value with a word.
use Rattle.std.proofs.Common.{◌≡◌, drop}
use Rattle.std.specs.List.{find}
use Rattle.std.specs.Str.{bytes_eq}
use Rattle.tsp_format.proofs.word.first_with.Given as goal

-- the first value with the word among those left is the first of all
abbrev pub invariant-loop-value : goal.invariant-loop-value
invariant-loop-value g l =
    find (λ value. bytes_eq l.word (g.V.Word.text value)) (drop l.value-index l.values) ≡ find (λ value. bytes_eq l.word (g.V.Word.text value)) l.values
