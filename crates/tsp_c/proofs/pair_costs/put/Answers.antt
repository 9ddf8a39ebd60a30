-- The goals of `put` in src/pair_costs.rt, which puts a number at the next place of a buffer: what it ensures.
use Rattle.tsp_c.proofs.Prelude.{FitsSigned, w64, to_z-of_z}
use Rattle.tsp_c.proofs.HandleCalls.{one_more}
use Rattle.tsp_c.proofs.pair_costs.put.Goals as goal

-- plan: the place has the number, and each other place the number it had (`one_more`)
pub returns : goal.returns
returns c = λ numbers start is filled.
    let fits : FitsSigned w64 c.args.number = c.ranges.number in
    rw (to_z-of_z w64 c.args.number fits) (one_more numbers start c.args.out.now c.args.place c.args.number c.requires is filled)
