-- The goals of `hand_over` in src/piece.rt, which sends the piece and begins another: what it ensures.
use Rattle.std.proofs.Common.{[], ◌∙◌, sym, append-nil}
use Rattle.tsp_io.specs.states.Output.{way_of}
use Rattle.tsp_io.proofs.Carrying.{carried_sent}
use Rattle.tsp_io.proofs.piece.hand_over.Goals as goal

-- plan: the bytes of the piece are with the writer, or a prefix of them if it fails, and the piece is empty
-- (`carried_sent`)
pub returns-clause-carried : goal.returns-clause-carried
returns-clause-carried g c =
    carried_sent (way_of g.W.Takes.contents c.args.out.now c.args.piece.now.items) (way_of g.W.Takes.contents c.send.new.out c.clear.new.self.items)
    c.as_slice.result.now [] c.send.ensures.stopped c.send.ensures.written (append-nil c.args.piece.now.items ∙ sym c.as_slice.ensures.value) c.clear.ensures
