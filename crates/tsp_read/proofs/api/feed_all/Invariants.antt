-- The loop of `feed_all` in src/api.rt.
use Rattle.tsp_read.proofs.Prelude.{◌≡◌, ◌+◌, ◌-◌, ◌≤◌, false, most_file_bytes, watched, has_failed}
use Rattle.tsp_read.specs.Reads.{IsReadOn, most_taken}
use Rattle.tsp_read.proofs.PieceSteps.{Gathered}
use Rattle.tsp_read.proofs.api.feed_all.Given as goal

-- the bytes that were read are the bytes that were fed, without a fault, and the reader hasn't failed
abbrev pub invariant-pieces : goal.invariant-pieces
invariant-pieces g l = record {
  gathered : Gathered (g.R.Read.remaining (watched l.initial.reader)) (g.R.Read.remaining (watched l.reader)) l.feed l.taken;
  asked : IsReadOn g.R.Gives.gives l.initial.reader l.reader;
  sound : has_failed l.reader ≡ false;
  few : l.taken ≤ most_taken;
}

-- each round reads one or more bytes, and none begins past the most that a file may have
abbrev pub decreases-pieces : goal.decreases-pieces
decreases-pieces g l = most_file_bytes + 1 - l.taken
