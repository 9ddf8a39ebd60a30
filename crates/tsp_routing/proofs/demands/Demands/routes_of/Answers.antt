-- The goals of `Demands::routes_of` in src/demands.rt, which divides a demand by the capacity, rounded up: what it
-- ensures.
use Rattle.tsp_routing.proofs.Prelude.{rules, FitsSigned, w64, to_z-of_z}
use Rattle.tsp_routing.proofs.CutNeeds.{least_of}
use Rattle.tsp_routing.proofs.demands.Demands.routes_of.Goals as goal

-- plan: the quotient that is rounded up is enough, and no lower number is
pub returns : goal.returns
returns c =
    let total_fits : FitsSigned w64 c.args.total = search rules in
    let capacity_fits : FitsSigned w64 c.args.self.now.capacity = search rules in
    simp to_z-of_z (least_of c.args.total c.args.self.now.capacity c.requires.low c.requires.demands.capacity_is.0)
