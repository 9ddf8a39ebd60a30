-- The goals of `Reading::number` in src/reading.rt, which takes the line of a keyword with a number: what it
-- ensures.
use Rattle.tsp_read.proofs.Prelude.{refl, FitsSigned, rules, w64, to_z-of_z}
use Rattle.tsp_read.specs.states.Holds.{seen}
use Rattle.tsp_read.proofs.KeywordSteps.{number_taken, number_refused}
use Rattle.tsp_read.proofs.reading.Reading.number.Goals as goal

-- plan: by the value: a number in its range (`number_taken`), or a fault (`number_refused`)
pub returns-in-Ok : goal.returns-in-Ok
returns-in-Ok c =
    let low : FitsSigned w64 c.args.low = search rules in
    let high : FitsSigned w64 c.args.high = search rules in
    let number : FitsSigned w64 c.in-Ok.number = search rules in
    number_taken c.args.self.now _ (seen c.args.line.now) c.args.field c.args.low c.args.high c.requires c.in-Ok.number
    (rw (c.stands.ensures, to_z-of_z w64 c.args.low low, to_z-of_z w64 c.args.high high) at c.in-Ok.ensures)
    (rw (to_z-of_z w64 c.in-Ok.number number) at c.set_number.ensures) refl refl

pub returns-in-Err : goal.returns-in-Err
returns-in-Err c =
    let low : FitsSigned w64 c.args.low = search rules in
    let high : FitsSigned w64 c.args.high = search rules in
    number_refused c.args.self.now c.args.field (seen c.args.line.now) c.args.low c.args.high c.in-Err.fault c.requires
    (rw (c.stands.ensures, to_z-of_z w64 c.args.low low, to_z-of_z w64 c.args.high high) at c.in-Err.ensures)
