-- The loop of `send` in src/piece.rt.
use Rattle.std.proofs.Common.{◌≡◌, false, length}
use Rattle.tsp_io.specs.states.Output.{writer_of, output_failed}
use Rattle.tsp_io.proofs.Carrying.{Sent}
use Rattle.tsp_io.proofs.piece.send.Given as goal

-- the text before `rest` came to the writer, which hasn't failed
abbrev pub invariant-parts : goal.invariant-parts
invariant-parts g l = record {
  sound : output_failed l.out ≡ false;
  sent : Sent (g.W.Takes.contents (writer_of l.initial.out)) (g.W.Takes.contents (writer_of l.out)) l.text l.rest;
}

-- the loop goes on only if one or more bytes of `rest` were sent
abbrev pub decreases-parts : goal.decreases-parts
decreases-parts g l = length l.rest
