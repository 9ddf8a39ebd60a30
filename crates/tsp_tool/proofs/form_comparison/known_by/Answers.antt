-- The goals of `known_by` in src/form_comparison.rt, which says what is known about the solutions of an instance: what it
-- ensures.
use Rattle.std.proofs.Common.{◌≡◌, Option, None, Err, refl, sym, ◌∙◌}
use Rattle.tsp_solution.specs.SolutionRun.{GivesShape}
use Rattle.tsp_solution.specs.declared.fault.FormFault.TheVariants.{NotAnInstance}
use Rattle.tsp_solution.specs.declared.fault.SolutionFault.TheVariants.{File, Place}
use Rattle.tsp_solution.specs.declared.hints.Hints.{Hints}
use Rattle.tsp_solution.specs.declared.hints.InstanceShape.{InstanceShape}
use Rattle.tsp_tool.specs.FormCheck.{form_hints}
use Rattle.tsp_tool.proofs.form_comparison.known_by.Goals as goal

-- a file without a shape is no instance
no_shape : (hints : Hints) (shape : Option InstanceShape) → shape ≡ None → GivesShape hints shape (Err (Place 1 1 NotAnInstance))
no_shape hints shape none = rw none refl

-- plan: the text has a fault, or its file is no instance (`no_shape`), or the hints have its shape
pub returns-in-Err : goal.returns-in-Err
returns-in-Err c = (File c.in-Err.field-0, c.in-Err.ensures.answer)

pub returns-in-None : goal.returns-in-None
returns-in-None c =
    (Place 1 1 NotAnInstance, (c.in-Ok.file, c.in-Ok.ensures.answer, no_shape (form_hints c.args.form) _ (sym c.of-shape.ensures ∙ c.in-None.is)))
