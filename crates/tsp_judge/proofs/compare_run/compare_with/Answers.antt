-- The goals of `compare_with` in src/compare_run.rt, which writes the head, and then the lines of the solutions: what
-- it ensures.
use Rattle.tsp_judge.proofs.Prelude.{◌≡◌, true, false, length, refl, arith, rules, sym, subst, Err, sink_of, HasWritten, Writes, Fields, is_clear, head_of}
use Rattle.tsp_judge.proofs.Comparing.{after_head, head_stopped}
use Rattle.tsp_judge.specs.CompareRun.{IsReadTraceAt, ComparesBy, AreAllReported, IsFollowedBy}
use Rattle.tsp_judge.proofs.compare_run.compare_with.Goals as goal

-- plan: the head is written, then the line of each solution (`after_head`)
pub returns-clause-text : goal.returns-clause-text
returns-clause-text g c =
    let written = subst (λ (f : Fields). HasWritten (sink_of g.W.Takes.contents c.args.out.now c.write_head.new.out) (head_of f c.args.common.now.known_bound)) c.file.ensures.value c.in-Ok.ensures in
    let clear : is_clear c.args.common.now.known_bound ≡ true = search rules in
    subst (λ b. ComparesBy b (IsReadTraceAt g.R.Read.remaining g.R.Gives.gives (g.S.Solutions.opens c.args.solutions.now)) (g.S.Solutions.names c.args.solutions.now) c.args.common.now
    (sink_of g.W.Takes.contents c.args.out.now c.compare_all.new.out) c.compare_all.result) (sym clear)
    (after_head g.W.Takes.contents c.args.out.now c.write_head.new.out c.compare_all.new.out (IsReadTraceAt g.R.Read.remaining g.R.Gives.gives (g.S.Solutions.opens c.args.solutions.now))
    (g.S.Solutions.names c.args.solutions.now) c.args.common.now (head_of c.args.common.now.instance c.args.common.now.known_bound) c.compare_all.result written c.compare_all.ensures.text)

pub returns-in-Err-clause-text : goal.returns-in-Err-clause-text
returns-in-Err-clause-text g c =
    let stops = subst (λ (f : Fields). Writes (sink_of g.W.Takes.contents c.args.out.now c.write_head.new.out) (head_of f c.args.common.now.known_bound) (Err c.in-Err.fault)) c.file.ensures.value c.in-Err.ensures in
    rw c.unwritten.ensures (head_stopped (is_clear c.args.common.now.known_bound) (IsReadTraceAt g.R.Read.remaining g.R.Gives.gives (g.S.Solutions.opens c.args.solutions.now))
    (g.S.Solutions.names c.args.solutions.now) c.args.common.now _ c.in-Err.fault stops)

pub returns-in-Err-clause-reported : goal.returns-in-Err-clause-reported
returns-in-Err-clause-reported g c = (0, omega arith, refl)

pub returns-then-not-is_clear-clause-reported : goal.returns-then-not-is_clear-clause-reported
returns-then-not-is_clear-clause-reported g c =
    let unclear : is_clear c.args.common.now.known_bound ≡ false = search rules in
    subst (λ b. AreAllReported b (g.S.Follow.tells c.args.solutions.now) (length (g.S.Solutions.names c.args.solutions.now)) c.args.to.now c.args.to.now) (sym unclear) refl

pub returns-clause-reported : goal.returns-clause-reported
returns-clause-reported g c =
    let clear : is_clear c.args.common.now.known_bound ≡ true = search rules in
    subst (λ b. IsFollowedBy b (g.S.Follow.tells c.args.solutions.now) (length (g.S.Solutions.names c.args.solutions.now)) c.args.to.now c.compare_all.new.to c.compare_all.result)
    (sym clear) c.compare_all.ensures.reported
