-- The goals of `put` in src/piece.rt, which adds bytes to the text: what it ensures.
use Rattle.std.proofs.Common.{◌≡◌, List, ℕ, [], ◌++◌, ◌∙◌, sym, refl, ap, true, false, Result, Ok, Err, append-nil}
use Rattle.std.specs.Prelude.{OnOk, OnErr, is_ok, is_err}
use Rattle.tsp_io.specs.states.Output.{way_of}
use Rattle.tsp_io.proofs.Carrying.{carried_sent, carried_waits, carried_then}
use Rattle.tsp_io.proofs.piece.put.Goals as goal

when_ok : {T E : Type 0} (r : Result T E) (P : Type 0) → true ≡ is_ok r → OnOk r P → P
when_ok (Ok x) P e h = h
when_ok (Err x) P e h = absurd (cc)

when_err : {T E : Type 0} (r : Result T E) (P : Type 0) → false ≡ is_ok r → OnErr r P → P
when_err (Ok x) P e h = absurd (cc)
when_err (Err x) P e h = h

err_is : {T E : Type 0} (r : Result T E) → true ≡ is_err r → false ≡ is_ok r
err_is (Ok x) e = absurd (cc)
err_is (Err x) e = refl

ok_is : {T E : Type 0} (r : Result T E) → false ≡ is_err r → true ≡ is_ok r
ok_is (Ok x) e = refl
ok_is (Err x) e = absurd (cc)

-- plan: by whether the bytes fit: they wait in the piece (`carried_waits`), or it is sent and they come after it
-- (`carried_sent`)
pub returns-then-is_ok : goal.returns-then-is_ok
returns-then-is_ok g c =
    carried_waits (way_of g.W.Takes.contents c.args.out.now c.args.piece.now.items) (way_of g.W.Takes.contents c.args.out.now c.try_extend_from_slice.new.self.items)
    c.args.bytes.now refl refl (when_ok c.try_extend_from_slice.result _ (sym c.if-is_ok.true ∙ c.is_ok.ensures.value) c.try_extend_from_slice.ensures.ok)

pub returns-then-is_err : goal.returns-then-is_err
returns-then-is_err g c =
    let refused = when_err c.try_extend_from_slice.result _ (sym c.if-is_ok.false ∙ c.is_ok.ensures.value) c.try_extend_from_slice.ensures.err in
    let again = when_err c.try_extend_from_slice-2.result _ (err_is c.try_extend_from_slice-2.result (sym c.if-is_err.true ∙ c.is_err.ensures.value)) c.try_extend_from_slice-2.ensures.err in
    let emptied : c.try_extend_from_slice-2.new.self.items ≡ [] = ap {B = List ℕ} (λ v. v.items) again ∙ c.hand_over.ensures.empty in
    let first = way_of g.W.Takes.contents c.args.out.now c.args.piece.now.items in
    let second = way_of g.W.Takes.contents c.args.out.now c.try_extend_from_slice.new.self.items in
    let third = way_of g.W.Takes.contents c.hand_over.new.out c.hand_over.new.piece.items in
    let last = way_of g.W.Takes.contents c.send.new.out c.try_extend_from_slice-2.new.self.items in
    carried_then first second last [] c.args.bytes.now (carried_waits first second [] refl refl (ap {B = List ℕ} (λ v. v.items) refused ∙ sym (append-nil c.args.piece.now.items)))
    (carried_then second third last [] c.args.bytes.now c.hand_over.ensures.carried
    (carried_sent third last c.args.bytes.now c.args.bytes.now c.send.ensures.stopped c.send.ensures.written (ap (λ (p : List ℕ). p ++ c.args.bytes.now) c.hand_over.ensures.empty) emptied))

pub returns-else-is_err : goal.returns-else-is_err
returns-else-is_err g c =
    let refused = when_err c.try_extend_from_slice.result _ (sym c.if-is_ok.false ∙ c.is_ok.ensures.value) c.try_extend_from_slice.ensures.err in
    let first = way_of g.W.Takes.contents c.args.out.now c.args.piece.now.items in
    let second = way_of g.W.Takes.contents c.args.out.now c.try_extend_from_slice.new.self.items in
    let third = way_of g.W.Takes.contents c.hand_over.new.out c.hand_over.new.piece.items in
    let last = way_of g.W.Takes.contents c.hand_over.new.out c.try_extend_from_slice-2.new.self.items in
    carried_then first second last [] c.args.bytes.now (carried_waits first second [] refl refl (ap {B = List ℕ} (λ v. v.items) refused ∙ sym (append-nil c.args.piece.now.items)))
    (carried_then second third last [] c.args.bytes.now c.hand_over.ensures.carried
    (carried_waits third last c.args.bytes.now refl refl (when_ok c.try_extend_from_slice-2.result _
    (ok_is c.try_extend_from_slice-2.result (sym c.if-is_err.false ∙ c.is_err.ensures.value)) c.try_extend_from_slice-2.ensures.ok)))
