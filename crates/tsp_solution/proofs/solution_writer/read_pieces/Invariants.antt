-- The loop of `read_pieces` in src/solution_writer.rt.
use Rattle.std.proofs.Common.{◌≡◌, ◌≤◌, ◌+◌, ◌-◌, false, length}
use Rattle.std.specs.Io.KnownBytes.{Consumes}
use Rattle.tsp_format.specs.Limits.{most_file_bytes}
use Rattle.tsp_io.specs.states.Watched.{watched, has_failed}
use Rattle.tsp_read.specs.Reads.{IsReadOn, most_taken}
use Rattle.tsp_solution.proofs.solution_writer.read_pieces.Given as goal

-- the text has the bytes that were read, and the reader hasn't failed
abbrev pub invariant-pieces : goal.invariant-pieces
invariant-pieces g l = record {
  gave : Consumes (g.R.Read.remaining (watched l.initial.reader)) (g.R.Read.remaining (watched l.reader)) l.text.items;
  asked : IsReadOn g.R.Gives.gives l.initial.reader l.reader;
  sound : has_failed l.reader ≡ false;
  few : length l.text.items ≤ most_taken;
}

-- each round reads one or more bytes, and none begins past the most that a file may have
abbrev pub decreases-pieces : goal.decreases-pieces
decreases-pieces g l = most_file_bytes + 1 - length l.text.items
