-- The goals of `feed_all` in src/api.rt, which feeds the bytes of a reader until the answer is settled: its loop and
-- what it ensures.
use Rattle.tsp_read.proofs.Prelude.{◌≡◌, Err, refl, sym, ap, subst, ◌∙◌, ◌||◌, arith, take, inl, inr, true, false, ℕ, true≢false, read_trace_of, watched}
use Rattle.std.specs.Io.KnownBytes.{Consumes}
use Rattle.tsp_read.proofs.PieceSteps.{read_none, read_more, gathered_start, gathered_more, gathered_none, gathered_kept, piece_stops, fed_from, not_going}
use Rattle.tsp_read.proofs.BegunSteps.{propagated}
use Rattle.tsp_read.proofs.api.feed_all.Goals as goal

-- plan: one read more is one piece more (`read_more`, `gathered_more`), until one gives nothing, fails or is the last
pub returns-in_default-clause-fed : goal.returns-in_default-clause-fed
returns-in_default-clause-fed g c =
    let way = gathered_kept _ _ _ c.pieces.feed c.pieces.taken c.pieces.invariant.gathered c.in_default.ensures.bytes in
    let broken = c.in_default.ensures.failed ∙ ap (λ b. b || true) c.pieces.invariant.sound in
    rw c.by_device.ensures (
      way.given,
      omega (arith, way.counted, c.pieces.invariant.few),
      ((way.gave, broken, λ had. absurd (true≢false (sym had ∙ c.requires.sound))), way.timely, λ wants. absurd cc),
    )

pub returns-then-count-eq0-clause-fed : goal.returns-then-count-eq0-clause-fed
returns-then-count-eq0-clause-fed g c =
    let zero = c.if-count-eq0.true in
    let last : Consumes (g.R.Read.remaining (watched c.pieces.reader)) (g.R.Read.remaining (watched c.read.new.self)) (take 0 c.read.new.buf) =
    subst (λ (n : ℕ). Consumes (g.R.Read.remaining (watched c.pieces.reader)) (g.R.Read.remaining (watched c.read.new.self)) (take n c.read.new.buf)) zero c.in-Ok.ensures.bytes.0 in
    fed_from (read_trace_of g.R.Read.remaining c.args.reader.now c.read.new.self) _ _ c.pieces.feed c.pieces.taken (λ given. refl) (λ given gave. gave)
    (λ given. (c.requires.sound, c.in-Ok.ensures.failed ∙ ap (λ b. b || false) c.pieces.invariant.sound)) c.pieces.invariant.few
    (gathered_none _ _ _ c.pieces.feed c.pieces.taken c.pieces.invariant.gathered last)
    (λ given. inl (c.in-Ok.ensures.bytes.1 zero (omega (arith, c.read.auto.buf))))

pub returns-in_err-take-clause-fed : goal.returns-in_err-take-clause-fed
returns-in_err-take-clause-fed g c =
    let same : c.from_residual.result ≡ Err c.in_err-take.field-0.0 = propagated _ _ c.from_residual.ensures.1 in
    rw same (
    piece_stops (read_trace_of g.R.Read.remaining c.args.reader.now c.read.new.self) _ _ _ c.pieces.feed c.take.new.self c.pieces.taken (take c.in-Ok.count c.read.new.buf) c.in_err-take.field-0.0
    (λ given. refl) (λ given gave. gave) (λ given. (c.requires.sound, c.in-Ok.ensures.failed ∙ ap (λ b. b || false) c.pieces.invariant.sound))
    (omega (arith, c.pieces-test.true)) c.pieces.invariant.gathered (sym c.may_go_on.ensures ∙ c.if-not-may_go_on.false)
    (omega (arith, c.in-Ok.ensures.bound.0, c.in-Ok.ensures.bound.1, c.read.auto.buf)) c.in-Ok.ensures.bytes.0 c.in_err-take.ensures.taken)

pub pieces-init : goal.pieces-init
pieces-init g c = record {
  gathered = gathered_start (g.R.Read.remaining (watched c.args.reader.now)) c.args.feed.now c.requires.start;
  asked = read_none g.R.Gives.gives c.args.reader.now;
  sound = c.requires.sound;
  few = omega arith;
}

pub pieces-preserved : goal.pieces-preserved
pieces-preserved g c = record {
  gathered =
      gathered_more _ _ _ c.pieces.feed c.take.new.self c.pieces.taken c.in-Ok.count (take c.in-Ok.count c.read.new.buf) c.pieces.invariant.gathered
      (sym c.may_go_on.ensures ∙ c.if-not-may_go_on.false) (omega (arith, c.in-Ok.ensures.bound.0, c.in-Ok.ensures.bound.1, c.read.auto.buf)) c.in-Ok.ensures.bytes.0
      (sym c.in-Ok.ensures.bound.1) c.in_ok-take.ensures.taken;
  asked = read_more g.R.Gives.gives c.args.reader.now c.pieces.reader c.read.new.self _ _ _ c.pieces.invariant.asked c.pieces.invariant.sound
      c.in-Ok.ensures.once c.in-Ok.ensures.failed;
  sound = c.in-Ok.ensures.failed ∙ ap (λ b. b || false) c.pieces.invariant.sound;
  few = omega (arith, c.pieces-test.true, c.in-Ok.ensures.bound.0, c.read.auto.buf);
}

pub returns-clause-fed : goal.returns-clause-fed
returns-clause-fed g c =
    fed_from (read_trace_of g.R.Read.remaining c.args.reader.now c.pieces.reader) _ _ c.pieces.feed c.pieces.taken (λ given. refl) (λ given gave. gave)
    (λ given. (c.requires.sound, c.pieces.invariant.sound)) c.pieces.invariant.few c.pieces.invariant.gathered
    (λ given. inr (not_going _ _ c.pieces.feed c.pieces.taken c.pieces.invariant.gathered (omega (arith, c.pieces-test.false))))

pub returns-in_default-clause-asked : goal.returns-in_default-clause-asked
returns-in_default-clause-asked g c =
    read_more g.R.Gives.gives c.args.reader.now c.pieces.reader c.read.new.self _ _ _ c.pieces.invariant.asked c.pieces.invariant.sound
    c.in_default.ensures.once c.in_default.ensures.failed

pub returns-then-count-eq0-clause-asked : goal.returns-then-count-eq0-clause-asked
returns-then-count-eq0-clause-asked g c =
    read_more g.R.Gives.gives c.args.reader.now c.pieces.reader c.read.new.self _ _ _ c.pieces.invariant.asked c.pieces.invariant.sound
    c.in-Ok.ensures.once c.in-Ok.ensures.failed

pub returns-in_err-take-clause-asked : goal.returns-in_err-take-clause-asked
returns-in_err-take-clause-asked g c =
    read_more g.R.Gives.gives c.args.reader.now c.pieces.reader c.read.new.self _ _ _ c.pieces.invariant.asked c.pieces.invariant.sound
    c.in-Ok.ensures.once c.in-Ok.ensures.failed
