-- The loop of `texts` in src/running.rt.
use Rattle.tsp_tool.proofs.Prelude.{◌≡◌, map, take, string_bytes}
use Rattle.tsp_tool.proofs.running.texts.Given as goal

-- the texts so far have the bytes of the words before this one
abbrev pub invariant-words : goal.invariant-words
invariant-words l = map (λ text. text.now) l.texts.items ≡ map string_bytes (take l.word-index l.words)
