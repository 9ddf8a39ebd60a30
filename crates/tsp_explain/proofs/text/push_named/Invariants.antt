-- The loop of `push_named` in src/text.rt, which appends the bytes of a name.
use Rattle.std.proofs.Common.{◌≡◌, ◌++◌, drop}
use Rattle.tsp_explain.specs.ShownBytes.{name_shown}
use Rattle.tsp_explain.proofs.text.push_named.Given as goal

-- the text so far, with the other bytes as a name shows them, is the text at the call with all bytes so
abbrev pub invariant-bytes : goal.invariant-bytes
invariant-bytes l = l.text.items ++ name_shown (drop l.byte-index l.bytes) ≡ l.initial.text.items ++ name_shown l.bytes
