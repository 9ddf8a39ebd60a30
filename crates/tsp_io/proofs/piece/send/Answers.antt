-- The goals of `send` in src/piece.rt, which sends a text in parts until the writer fails: its loop and what it
-- ensures.
use Rattle.std.proofs.Common.{[], refl, ◌∙◌, arith}
use Rattle.std.proofs.KnownBytes.{Appends-nil}
use Rattle.tsp_io.specs.states.Output.{writer_of}
use Rattle.tsp_io.proofs.Carrying.{sent_more, sent_front, sent_all, some_left}
use Rattle.tsp_io.proofs.piece.send.Goals as goal

-- plan: the parts that were sent are a prefix of the text (`sent_more`); at the end nothing is left (`sent_all`)
pub parts-init : goal.parts-init
parts-init g c = record {
  sound = cc;
  sent = record { front = []; parts = refl; written = Appends-nil (g.W.Takes.contents (writer_of c.args.out.now)) };
}

pub returns-then-count-eq0-clause-stopped : goal.returns-then-count-eq0-clause-stopped
returns-then-count-eq0-clause-stopped g c = λ failed.
    (failed, λ had. absurd cc, sent_front _ _ _ _ (sent_more _ _ _ _ _ _ _ c.parts.invariant.sent c.send_part-count.ensures.bytes refl))

pub returns-then-count-eq0-clause-written : goal.returns-then-count-eq0-clause-written
returns-then-count-eq0-clause-written g c = λ sound.
    let failed = c.send_part-count.ensures.failed c.if-count-eq0.true (some_left c.parts.rest.now (cc)) in
    absurd (cc)

pub parts-preserved : goal.parts-preserved
parts-preserved g c = record {
  sound = c.send_part-count.ensures.sound (omega arith);
  sent = sent_more _ _ _ _ _ _ _ c.parts.invariant.sent c.send_part-count.ensures.bytes c.split_at.ensures.back;
}

pub returns : goal.returns
returns g c = record {
  stopped = λ failed. absurd (cc);
  written = λ sound. ((cc), sound, sent_all _ _ _ _ (cc) c.parts.invariant.sent);
}
