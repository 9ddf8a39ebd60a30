-- The goals of `read_pieces` in src/solution_writer.rt, which reads all bytes of a reader: its loop and what it
-- ensures.
use Rattle.std.proofs.Common.{◌≡◌, ◌∙◌, ◌++◌, ◌||◌, false, length, take, ap, arith, length-append, Err}
use Rattle.std.proofs.KnownBytes.{Consumes-nil, Consumes-trans}
use Rattle.tsp_read.proofs.BegunSteps.{propagated}
use Rattle.tsp_read.proofs.PieceSteps.{read_none, read_more}
use Rattle.tsp_solution.specs.declared.fault.SolutionFault.TheVariants.{OutOfMemory}
use Rattle.tsp_solution.proofs.solution_writer.read_pieces.Goals as goal

-- plan: each read adds its piece to the text (`Consumes-trans`, `read_more`), until one gives nothing, fails, or there is
-- no memory
pub pieces-init : goal.pieces-init
pieces-init g c = record {
  gave = rw c.new-text.ensures.items (Consumes-nil _);
  asked = read_none g.R.Gives.gives c.args.reader.now;
  sound = c.requires.sound;
  few = rw c.new-text.ensures.items (omega arith);
}

pub pieces-preserved : goal.pieces-preserved
pieces-preserved g c =
    let size = ap length c.in_ok-append.ensures.added ∙ length-append c.pieces.text.items (take c.in-Ok.count c.read.new.buf) in
    record {
      gave = rw c.in_ok-append.ensures.added (Consumes-trans _ _ _ _ _ c.pieces.invariant.gave c.in-Ok.ensures.bytes.0);
      asked = read_more g.R.Gives.gives c.args.reader.now c.pieces.reader c.read.new.self _ _ _ c.pieces.invariant.asked c.pieces.invariant.sound
          c.in-Ok.ensures.once c.in-Ok.ensures.failed;
      sound = c.in-Ok.ensures.failed ∙ ap (λ b. b || false) c.pieces.invariant.sound;
      few = omega (arith, size, c.pieces-test.true, c.len.ensures, c.pieces.text.ok, c.in-Ok.ensures.bound.0, c.in-Ok.ensures.bound.1, c.read.auto.buf);
    }

pub returns-in_default-clause-asked : goal.returns-in_default-clause-asked
returns-in_default-clause-asked g c =
    read_more g.R.Gives.gives c.args.reader.now c.pieces.reader c.read.new.self _ _ _ c.pieces.invariant.asked c.pieces.invariant.sound
    c.in_default.ensures.once c.in_default.ensures.failed

pub returns-then-count-eq0-clause-asked : goal.returns-then-count-eq0-clause-asked
returns-then-count-eq0-clause-asked g c =
    read_more g.R.Gives.gives c.args.reader.now c.pieces.reader c.read.new.self _ _ _ c.pieces.invariant.asked c.pieces.invariant.sound
    c.in-Ok.ensures.once c.in-Ok.ensures.failed

pub returns-in_err-append-clause-asked : goal.returns-in_err-append-clause-asked
returns-in_err-append-clause-asked g c =
    read_more g.R.Gives.gives c.args.reader.now c.pieces.reader c.read.new.self _ _ _ c.pieces.invariant.asked c.pieces.invariant.sound
    c.in-Ok.ensures.once c.in-Ok.ensures.failed

pub returns-in_err-append-clause-answer : goal.returns-in_err-append-clause-answer
returns-in_err-append-clause-answer g c =
    let piece = take c.in-Ok.count c.read.new.buf in
    let size = length-append c.pieces.text.items piece in
    let lacks : c.in_err-append.field-0.0 ≡ OutOfMemory = c.in_err-append.ensures.refused in
    let same : c.from_residual.result ≡ Err c.in_err-append.field-0.0 = propagated _ _ c.from_residual.ensures.1 in
    rw (same, lacks) (
      c.pieces.text.items ++ piece,
      omega (arith, size, c.pieces-test.true, c.len.ensures, c.pieces.text.ok, c.in-Ok.ensures.bound.0, c.in-Ok.ensures.bound.1, c.read.auto.buf),
      (
        Consumes-trans _ _ _ _ _ c.pieces.invariant.gave c.in-Ok.ensures.bytes.0,
        (c.requires.sound, c.in-Ok.ensures.failed ∙ ap (λ b. b || false) c.pieces.invariant.sound),
      ),
    )
