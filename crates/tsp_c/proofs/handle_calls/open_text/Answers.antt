-- The goals of `open_text` in src/handle_calls.rt, which opens a handle on the instance of a text: what it ensures.
use Rattle.tsp_c.proofs.Prelude.{ap, ◌∙◌, inl, inr, refl, OutOfMemory, Open}
use Rattle.std.proofs.lemmas.Result.{MatchResult-at_ok, MatchResult-at_err}
use Rattle.tsp_c.specs.CallResult.{result_of_instance}
use Rattle.tsp_c.proofs.handle_calls.open_text.Goals as goal

-- plan: by whether there is memory for the box: the instance is in the handle, or the handle is empty
pub returns-in-Ok-Err : goal.returns-in-Ok-Err
returns-in-Ok-Err c = inr (
  OutOfMemory,
  c.take.ensures.closed,
  MatchResult-at_err _ _ c.in-Ok-Err.no_box c.in-Ok-Err.field-0-is c.in-Ok-Err.ensures,
  c.tell_no_box.ensures.call_result,
  c.tell_no_box.ensures.status,
)

pub returns-in-Ok-Ok : goal.returns-in-Ok-Ok
returns-in-Ok-Ok c = inl (
  c.in-Ok-Ok.opened.value,
  c.put.ensures,
  MatchResult-at_ok _ _ c.in-Ok-Ok.opened c.in-Ok-Ok.field-0-is c.in-Ok-Ok.ensures,
  c.of_instance.ensures ∙ ap result_of_instance (c.instance.ensures ∙ ap (λ (o : Open). o.instance) c.deref.ensures),
  c.done.ensures,
)
