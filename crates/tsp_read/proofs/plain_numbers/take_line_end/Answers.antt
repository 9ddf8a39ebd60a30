-- The goals of `take_line_end` in src/plain_numbers.rt, which counts a line's end: what it ensures.
use Rattle.std.proofs.Common.{refl, ap, ◌∙◌, ◌∷◌, arith, length}
use Rattle.tsp_read.proofs.PlainNumbers.{line_runs}
use Rattle.tsp_read.proofs.plain_numbers.take_line_end.Goals as goal

-- plan: a byte 10 alone is a line's end (`line_runs`)
pub returns-in-Some-eq10-default : goal.returns-in-Some-eq10-default
returns-in-Some-eq10-default c = λ part.
    let parts = c.in-Some-eq10-default.ensures.cases.0 in (
      line_runs part c.args.count.now _ c.args.text.now c.in-Some-eq10-default.rest.now
          (parts ∙ ap (λ b. b ∷ c.in-Some-eq10-default.rest.now) c.in-Some-eq10-default.field-0-0-test) refl refl refl,
      omega (arith, ap length parts),
    )
