-- The goals of `tree_bound` in src/potentials_certificate.rt, which returns the bound of a minimum 1-tree: what it
-- ensures.
use Rattle.tsp_verdict.proofs.Prelude.{◌∙◌, rules, subst, sym, FitsSigned, w128, to_z-of_z, Potentials}
use Rattle.tsp_verdict.specs.Certified.{IsCertified}
use Rattle.tsp_verdict.proofs.CarriedBounds.{certified, numbers_counted}
use Rattle.tsp_verdict.proofs.potentials_certificate.tree_bound.Goals as goal

-- plan: the bound that the costs give is the certificate's (`certified`)
pub returns-in-Ok : goal.returns-in-Ok
returns-in-Ok g c =
    let pot = c.args.pot.now in
    let numbers = c.args.numbers.now in
    let held = c.requires.held in
    let fits : FitsSigned w128 c.in-Ok.found.bound = search rules in
    subst (λ bound. IsCertified Potentials c.args.inst.now pot bound) (sym (to_z-of_z w128 c.in-Ok.found.bound fits))
    (certified c.args.inst.now pot (g.C.Costs.nodes c.args.c.now) (g.C.Costs.at c.args.c.now)
    numbers.potentials.scale numbers.potentials.numbers.now numbers.multipliers.triples.now c.in-Ok.found.bound
    c.adjusted_bounds_bound_cycles.ensures.cycles held.multipliers_are c.requires.listed c.requires.kind c.requires.even
    c.requires.some
    held.scaled held.scale_is held.numbers_are (numbers_counted pot _ _ _ held ∙ c.requires.count) c.requires.keeps
    (c.in-Ok.ensures.bound, c.in-Ok.ensures.size))
