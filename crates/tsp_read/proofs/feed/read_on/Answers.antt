-- The goals of `read_on` in src/feed.rt, which takes the items of a piece and keeps the rest: what it ensures.
use Rattle.tsp_read.proofs.Prelude.{◌≡◌, Err, sym, ◌∙◌, nil_from_test}
use Rattle.tsp_read.proofs.BegunSteps.{filled_rest, propagated}
use Rattle.tsp_read.proofs.Onwards.{paused_joined, joined_read, paused_kept, to_the_end, to_a_place, of_some}
use Rattle.tsp_read.proofs.feed.read_on.Goals as goal

-- plan: the begun item is joined (`joined_read`), the whole items are read, and what is left is kept (`paused_kept`)
pub returns-in_err-rest-clause-read : goal.returns-in_err-rest-clause-read
returns-in_err-rest-clause-read c = λ bytes h.
    let same : c.from_residual.result ≡ Err c.in_err-rest.field-0.0 = propagated _ _ c.from_residual.ensures.1 in
    rw same (c.in_err-rest.ensures.joined bytes h)

pub returns-in_default-clause-read : goal.returns-in_default-clause-read
returns-in_default-clause-read c = λ bytes h. to_the_end bytes c.join.new.intake.reading _ c.in_ok-rest.field-0 c.in_default.is (c.in_ok-rest.ensures.joined bytes h)

pub returns-then-is_empty-clause-read : goal.returns-then-is_empty-clause-read
returns-then-is_empty-clause-read c = λ bytes h.
    paused_joined c.join.new.intake c.join.new.self bytes c.in-Some.rest.now
    (to_a_place bytes c.join.new.intake.reading _ c.in_ok-rest.field-0 c.in-Some.rest c.in-Some.is (c.in_ok-rest.ensures.joined bytes h))
    (nil_from_test c.in-Some.rest.now (sym c.is_empty.ensures ∙ c.if-is_empty.true))

pub returns-in-Err-clause-read : goal.returns-in-Err-clause-read
returns-in-Err-clause-read c = λ bytes h.
    c.in-Err.ensures.items bytes
    (joined_read c.join.new.intake c.join.new.self bytes c.in-Some.rest.now
    (to_a_place bytes c.join.new.intake.reading _ c.in_ok-rest.field-0 c.in-Some.rest c.in-Some.is (c.in_ok-rest.ensures.joined bytes h))
    (filled_rest c.in-Some.rest.now (sym c.is_empty.ensures ∙ c.if-is_empty.false)))

pub returns-in-Ok-None-clause-read : goal.returns-in-Ok-None-clause-read
returns-in-Ok-None-clause-read c = λ bytes h.
    to_the_end bytes c.take_items.new.self.reading _ c.in-Ok-None.field-0 c.in-Ok-None.field-0-is
    (c.in-Ok-None.ensures.items bytes
    (joined_read c.join.new.intake c.join.new.self bytes c.in-Some.rest.now
    (to_a_place bytes c.join.new.intake.reading _ c.in_ok-rest.field-0 c.in-Some.rest c.in-Some.is (c.in_ok-rest.ensures.joined bytes h))
    (filled_rest c.in-Some.rest.now (sym c.is_empty.ensures ∙ c.if-is_empty.false))))

pub returns-in-Ok-Some-clause-read : goal.returns-in-Ok-Some-clause-read
returns-in-Ok-Some-clause-read c = λ bytes h.
    paused_kept c.take_items.new.self c.keep.new.self bytes c.in-Ok-Some.left.now
    (to_a_place bytes c.take_items.new.self.reading _ c.in-Ok-Some.field-0 c.in-Ok-Some.left c.in-Ok-Some.field-0-is
    (c.in-Ok-Some.ensures.items bytes
    (joined_read c.join.new.intake c.join.new.self bytes c.in-Some.rest.now
    (to_a_place bytes c.join.new.intake.reading _ c.in_ok-rest.field-0 c.in-Some.rest c.in-Some.is (c.in_ok-rest.ensures.joined bytes h))
    (filled_rest c.in-Some.rest.now (sym c.is_empty.ensures ∙ c.if-is_empty.false)))))
    (of_some _ c.in-Ok-Some.field-0 c.in-Ok-Some.left c.in-Ok-Some.field-0-is c.in-Ok-Some.ensures.left) c.keep.ensures.begins c.keep.ensures.kept
