-- The goals of `convert_by` in src/picked_runs.rt, which converts a text into the layout with a number: what it
-- ensures.
use Rattle.tsp_c.proofs.Prelude.{subst, arith, Option}
use Rattle.tsp_format.specs.declared.layout.Layout.{Layout}
use Rattle.tsp_c.specs.Texts.{ConvertsText}
use Rattle.tsp_c.proofs.picked_runs.convert_by.Goals as goal

-- plan: by the number that C passes: it names a layout, as the code has tested, so the text is that of the call
pub returns : goal.returns
returns c =
    let made = c.converted.result in
    let low = c.if-number-gt9.false in (
      λ few. subst (λ (to : Option Layout). ConvertsText to c.args.file.now made.0 made.1) c.layout_of.ensures c.converted.ensures,
      λ many. absurd (omega (arith, low, many)),
    )
