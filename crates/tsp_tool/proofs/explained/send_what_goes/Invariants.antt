-- The loop of `send_what_goes` in src/explained.rt.
use Rattle.std.proofs.Common.{ℕ, List, length}
use Rattle.std.specs.Io.KnownBytes.{Appends}
use Rattle.tsp_tool.proofs.explained.send_what_goes.Given as goal

-- the writer has what it had, and some bytes after that
abbrev pub invariant-parts : goal.invariant-parts
invariant-parts g l = (text : List ℕ) × Appends (g.E.Write.contents l.initial.to) (g.E.Write.contents l.to) text

-- the loop goes on only if the writer took one or more bytes of `rest`
abbrev pub decreases-parts : goal.decreases-parts
decreases-parts g l = length l.rest
