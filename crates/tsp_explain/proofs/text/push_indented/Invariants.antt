-- The loop of `push_indented` in src/text.rt, which appends bytes and indents each line.
use Rattle.std.proofs.Common.{◌≡◌, ◌++◌, drop, map}
use Rattle.std.specs.List.{concat}
use Rattle.tsp_explain.specs.ShownBytes.{indented_byte}
use Rattle.tsp_explain.proofs.text.push_indented.Given as goal

-- the text so far, with the bytes that the other bytes append, is the text at the call with all bytes appended
abbrev pub invariant-bytes : goal.invariant-bytes
invariant-bytes l = l.text.items ++ concat (map indented_byte (drop l.byte-index l.bytes))
    ≡ l.initial.text.items ++ concat (map indented_byte l.bytes)
