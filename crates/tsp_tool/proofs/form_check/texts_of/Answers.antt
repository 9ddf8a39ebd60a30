-- The goals of `texts_of` in src/form_check.rt, which reads the files of a check: what it ensures.
use Rattle.std.proofs.Common.{refl, inl, inr}
use Rattle.tsp_tool.proofs.form_check.texts_of.Goals as goal

-- plan: a file that can't be read, or both texts, and what is written for the solution
pub returns-in-Err : goal.returns-in-Err
returns-in-Err g c = inl (c.in-Err.fault, refl, c.in-Err.ensures)

pub returns-in-Err-text_at : goal.returns-in-Err-text_at
returns-in-Err-text_at g c = inr (inl (c.in-Err-text_at.fault, refl, (c.in-Ok.text.items, c.in-Ok.ensures), c.in-Err-text_at.ensures))

pub returns-in-Ok-written : goal.returns-in-Ok-written
returns-in-Ok-written g c =
    let ended = c.in-Ok-written.ensures in
    (c.in-Ok.ensures, (c.in-Ok-text_at.text.items, c.in-Ok-text_at.ensures, rw (c.deref.ensures.value, c.deref-2.ensures.value) at ended))

pub returns-in-Err-written : goal.returns-in-Err-written
returns-in-Err-written g c =
    let ended = rw (c.deref.ensures.value, c.deref-2.ensures.value) at c.in-Err-written.ensures in
    inr (inr (ended.0, ended.1, (c.in-Ok.text.items, c.in-Ok-text_at.text.items, c.in-Ok.ensures, c.in-Ok-text_at.ensures, ended.2)))
