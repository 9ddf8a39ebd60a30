-- The goals of `sum_left` in src/sets.rt, which returns what is left of a sum in 64 bits: what it ensures.
use Rattle.tsp_cases.proofs.Prelude.{rules, FitsSigned, w64, wrapping_add_is}
use Rattle.tsp_cases.proofs.sets.sum_left.Goals as goal

-- plan: both numbers fit 64 bits, so the sum of their words is the sum of the integers, wrapped
pub returns : goal.returns
returns c =
    let first : FitsSigned w64 c.args.a = search rules in
    let second : FitsSigned w64 c.args.b = search rules in
    wrapping_add_is w64 c.args.a c.args.b first second
