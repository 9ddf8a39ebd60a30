-- The goals of `file_of_reader` in src/api.rt, which reads a file from a reader: what it ensures.
use Rattle.tsp_io.specs.states.Watched.{read_trace_of}
use Rattle.tsp_read.proofs.PieceSteps.{read_none, in_time, answer_of}
use Rattle.tsp_read.proofs.api.file_of_reader.Goals as goal

-- plan: the pieces are the bytes that were given, so the answer is that of all of them (`answer_of`)
pub returns-in-Ok-clause-in_time : goal.returns-in-Ok-clause-in_time
returns-in-Ok-clause-in_time g c =
    in_time (read_trace_of g.R.Read.remaining c.args.reader.now c.feed_all.new.reader) c.feed_all.new.feed c.into_file.result
    c.in-Ok.ensures.fed c.into_file.ensures.read c.into_file.ensures.memory

pub returns-in-Ok-clause-answer : goal.returns-in-Ok-clause-answer
returns-in-Ok-clause-answer g c =
    answer_of (read_trace_of g.R.Read.remaining c.args.reader.now c.feed_all.new.reader) c.into_file.result
    (in_time (read_trace_of g.R.Read.remaining c.args.reader.now c.feed_all.new.reader) c.feed_all.new.feed c.into_file.result c.in-Ok.ensures.fed c.into_file.ensures.read c.into_file.ensures.memory)

pub returns-then-failed-clause-asked : goal.returns-then-failed-clause-asked
returns-then-failed-clause-asked g c = read_none g.R.Gives.gives c.args.reader.now
