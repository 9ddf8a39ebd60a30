-- The goals of `bound_by_nodes` in src/potentials_certificate.rt, which bounds a TSP by potentials, or returns the
-- first reason: what it ensures.
use Rattle.tsp_verdict.proofs.Prelude.{◌≡◌, true, Some, subst, sym, rules, FitsSigned, MatchOption, w128, to_z-of_z, AreOnPairs, nodes_of, multipliers_in, fixed_of}
use Rattle.tsp_format.specs.declared.kinds.Kind.TheVariants as kinds
use Rattle.tsp_verdict.specs.Certificates.{has_wanted, AppliesToPotentials, AreListed}
use Rattle.tsp_verdict.specs.SolutionReasons.{IsFirstReason}
use Rattle.tsp_verdict.proofs.FirstReasons.{none_of_tsp, none_of_potentials}
use Rattle.tsp_verdict.proofs.potentials_certificate.bound_by_nodes.Goals as goal

pub returns-in_err-reason-clause-refused : goal.returns-in_err-reason-clause-refused
returns-in_err-reason-clause-refused c = λ refused.
    let pot = c.args.pot.now in
    let wanted : has_wanted (Some kinds.Tsp) pot ≡ true = search rules in
    none_of_potentials c.args.inst.now pot c.in_default.ensures.0 c.in_default.ensures.2
    (subst (λ kind. has_wanted kind pot ≡ true) (sym c.requires.kind) wanted)

pub returns-in_err-bound-clause-refused : goal.returns-in_err-bound-clause-refused
returns-in_err-bound-clause-refused c = λ refused.
    let pot = c.args.pot.now in
    let wanted : has_wanted (Some kinds.Tsp) pot ≡ true = search rules in
    none_of_potentials c.args.inst.now pot c.in_default.ensures.0 c.in_default.ensures.2
    (subst (λ kind. has_wanted kind pot ≡ true) (sym c.requires.kind) wanted)

-- plan: by what is found: a reason against the multipliers, or the bound of a minimum 1-tree (`none_of_tsp`)
pub returns-clause-found : goal.returns-clause-found
returns-clause-found c =
    let inst = c.args.inst.now in
    let pot = c.args.pot.now in
    let good = subst (λ found. MatchOption found
    (AreOnPairs (nodes_of inst) (multipliers_in pot) × AreListed (fixed_of inst) (multipliers_in pot))
    (λ reason. IsFirstReason (AppliesToPotentials inst pot) reason)) c.in_default-2.is c.in_ok-reason.ensures in
    let bound = c.in_ok-bound.bound in
    let fits : FitsSigned w128 bound = search rules in
    let wanted : has_wanted (Some kinds.Tsp) pot ≡ true = search rules in (
      none_of_tsp inst pot c.requires.kind c.in_default.ensures.0 c.in_default.ensures.2
          (subst (λ kind. has_wanted kind pot ≡ true) (sym c.requires.kind) wanted) good.0 good.1,
      rw (to_z-of_z w128 bound fits) c.in_ok-bound.ensures,
    )
