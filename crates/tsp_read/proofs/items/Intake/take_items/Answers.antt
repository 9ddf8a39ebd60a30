-- The goals of `Intake::take_items` in src/items.rt, which takes the items of a piece: its loop and what it ensures.
use Rattle.std.proofs.Common.{◌≡◌, Err, refl, arith, true}
use Rattle.tsp_read.specs.states.Left.{item_next, is_in_line, items_left}
use Rattle.tsp_read.proofs.IntakeSteps.{read_further, read_to_end, read_to_fault}
use Rattle.tsp_read.proofs.BegunSteps.{propagated}
use Rattle.tsp_read.proofs.items.Intake.take_items.Goals as goal

-- plan: one item more is read (`read_further`), until a fault (`read_to_fault`) or the line EOF (`read_to_end`)
pub returns-then-branch-clause-items : goal.returns-then-branch-clause-items
returns-then-branch-clause-items c = λ bytes h.
    read_to_end c.items.self c.take_next.new.self bytes c.items.rest.now (item_next c.in-Some.next) (items_left true (is_in_line c.in-Some.next) c.in-Some.after.now) c.in_ok-take_next.field-0
    c.if-branch.true (c.items.invariant.read bytes h) c.in-Some.ensures.items c.in_ok-take_next.ensures.item

pub returns-in_err-take_next-clause-items : goal.returns-in_err-take_next-clause-items
returns-in_err-take_next-clause-items c = λ bytes h.
    let same : c.from_residual.result ≡ Err c.in_err-take_next.field-0.0 = propagated _ _ c.from_residual.ensures.1 in
    rw same (
    read_to_fault c.items.self c.take_next.new.self bytes c.items.rest.now (item_next c.in-Some.next) (items_left true (is_in_line c.in-Some.next) c.in-Some.after.now) c.in_err-take_next.field-0.0
    (c.items.invariant.read bytes h) c.in-Some.ensures.items c.in_err-take_next.ensures.item)

pub items-preserved : goal.items-preserved
items-preserved c = record {
  read = λ bytes h.
      c.take_run-rest-in-Some.ensures.read bytes
      (read_further c.items.self c.take_next.new.self bytes c.items.rest.now c.in-Some.after.now (item_next c.in-Some.next) (is_in_line c.in-Some.next) c.in_ok-take_next.field-0
      c.if-branch.false (c.items.invariant.read bytes h) c.in_ok-take_next.ensures.item c.in_ok-take_next.ensures.inside (c.in-Some.ensures.follows refl));
  line = omega (arith, c.items.invariant.line, c.in_ok-take_next.ensures.line, c.in-Some.ensures.shorter, c.take_run-rest-in-Some.ensures.line);
  words = omega (arith, c.items.invariant.words, c.in_ok-take_next.ensures.words, c.in-Some.ensures.shorter, c.take_run-rest-in-Some.ensures.words);
}
