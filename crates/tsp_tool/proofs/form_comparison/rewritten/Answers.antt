-- The goals of `rewritten` in src/form_comparison.rt, which gives the text that is compared in place of a solution: what
-- it ensures.
use Rattle.std.proofs.Common.{inl, subst, ◌∙◌}
use Rattle.tsp_solution.specs.SolutionRun.{IsReadAs}
use Rattle.tsp_tool.proofs.form_comparison.rewritten.Goals as goal

-- plan: without an instance the hints are those that are given
pub returns-in-Ok : goal.returns-in-Ok
returns-in-Ok c =
    let written = rw c.deref.ensures.value at c.in-Ok.ensures in (
      inl (written.2.0, subst (λ known. IsReadAs known c.args.solution.items written.2.0) written.1 written.2.1, c.of.ensures.rest ∙ written.2.2),
      c.of.ensures.sound,
    )
