-- The goals of `named` in src/line.rt, which returns the value that a keyword's word names: what it ensures.
use Rattle.std.proofs.Common.{sym}
use Rattle.tsp_read.proofs.line.named.Goals as goal

pub returns-in-Some : goal.returns-in-Some
returns-in-Some g c = rw (← c.first_word-word.ensures) (sym c.if-is_left_out.ensures, sym c.in-Some.ensures.first)
