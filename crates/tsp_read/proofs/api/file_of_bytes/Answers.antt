-- The goals of `file_of_bytes` in src/api.rt, which reads a file from the bytes of a text: what it ensures.
use Rattle.std.proofs.Common.{[], refl}
use Rattle.tsp_read.proofs.PieceSteps.{bytes_fault, bytes_memory}
use Rattle.tsp_read.proofs.api.file_of_bytes.Goals as goal

-- plan: the bytes are one piece: a fault of it (`bytes_fault`), or the file at its end
pub returns-in-Err-clause-answer : goal.returns-in-Err-clause-answer
returns-in-Err-clause-answer c =
    bytes_fault c.args.bytes.now c.take.new.self c.in-Err.fault (c.in-Err.ensures.taken [] c.new-feed.ensures)

pub returns-in-Ok-clause-answer : goal.returns-in-Ok-clause-answer
returns-in-Ok-clause-answer c = c.into_file.ensures.read c.args.bytes.now (c.in-Ok.ensures.taken [] c.new-feed.ensures).0

pub returns-in-Err-clause-memory : goal.returns-in-Err-clause-memory
returns-in-Err-clause-memory c = λ wants. bytes_memory c.args.bytes.now c.take.new.self c.in-Err.fault _ refl (c.in-Err.ensures.taken [] c.new-feed.ensures) wants

pub returns-in-Ok-clause-memory : goal.returns-in-Ok-clause-memory
returns-in-Ok-clause-memory c = λ wants. c.into_file.ensures.memory c.args.bytes.now (c.in-Ok.ensures.taken [] c.new-feed.ensures).0 wants
