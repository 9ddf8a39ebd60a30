-- The goals of `fill_count` in src/text_instance.rt, which counts the nodes of a text's instance: what it ensures.
use Rattle.std.proofs.Common.{inl, inr, refl}
use Rattle.tsp_c.proofs.HandleCalls.{some_count}
use Rattle.tsp_c.proofs.text_instance.fill_count.Goals as goal

pub returns-in-Err : goal.returns-in-Err
returns-in-Err c = inr (c.in-Err.error, c.in-Err.ensures, (c.of_fault.ensures, refl))

-- plan: by whether the text is an instance: its count of nodes is filled in (`some_count`), or its fault is the status
pub returns-in-Ok : goal.returns-in-Ok
returns-in-Ok c = inl (
  c.in-Ok.instance,
  c.in-Ok.ensures,
  (c.done.ensures, some_count c.in-Ok.instance.dimension c.count.result c.count.ensures.value c.count.ensures.some),
)
