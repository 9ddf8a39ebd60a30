-- The loop of `push_shown` in src/text.rt, which appends bytes of a file as printable ones.
use Rattle.std.proofs.Common.{◌≡◌, ◌++◌, drop}
use Rattle.tsp_explain.specs.ShownBytes.{all_shown}
use Rattle.tsp_explain.proofs.text.push_shown.Given as goal

-- the text so far, with the other bytes as they are shown, is the text at the call with all bytes so
abbrev pub invariant-bytes : goal.invariant-bytes
invariant-bytes l = l.text.items ++ all_shown (drop l.byte-index l.bytes) ≡ l.initial.text.items ++ all_shown l.bytes
