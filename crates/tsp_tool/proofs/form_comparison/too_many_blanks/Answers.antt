-- The goals of `too_many_blanks` in src/form_comparison.rt: what it ensures.
use Rattle.tsp_tool.proofs.form_comparison.too_many_blanks.Goals as goal

pub returns-in-Ok : goal.returns-in-Ok
returns-in-Ok c = c.in-Ok.ensures.items_if_clones_equal (λ other same. same)
