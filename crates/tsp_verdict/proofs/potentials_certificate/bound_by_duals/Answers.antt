-- The goals of `bound_by_duals` in src/potentials_certificate.rt, which bounds an ATSP by potentials, or returns the
-- first reason: what it ensures.
use Rattle.tsp_verdict.proofs.Prelude.{◌≡◌, false, subst, sym, rules, FitsSigned, w128, to_z-of_z}
use Rattle.tsp_verdict.specs.Certificates.{has_wanted}
use Rattle.tsp_verdict.proofs.FirstReasons.{kind_first, broken_first, none_of_atsp}
use Rattle.tsp_verdict.proofs.potentials_certificate.bound_by_duals.Goals as goal

-- plan: by what is there: other potentials (`kind_first`), duals that break (`broken_first`), or a bound
pub returns-in-Some : goal.returns-in-Some
returns-in-Some c = c.in-Some.ensures

pub returns-in_default-duals_of : goal.returns-in_default-duals_of
returns-in_default-duals_of c =
    let pot = c.args.pot.now in
    kind_first c.args.inst.now pot c.in_default.ensures.0 c.in_default.ensures.2
    (subst (λ kind. has_wanted kind pot ≡ false) (sym c.requires.kind) c.in_default-duals_of.ensures)

pub returns-in-Ok : goal.returns-in-Ok
returns-in-Ok c =
    let inst = c.args.inst.now in
    let pot = c.args.pot.now in
    let fits : FitsSigned w128 c.in-Ok.bound = search rules in
    rw (to_z-of_z w128 c.in-Ok.bound fits) (none_of_atsp inst pot c.in-Ok.bound c.requires.kind c.in_default.ensures.0 c.in_default.ensures.2 c.in-Some-duals_of.ensures.0 c.in-Ok.ensures, c.in-Ok.ensures)

pub returns-in-Err : goal.returns-in-Err
returns-in-Err c =
    broken_first c.args.inst.now c.args.pot.now c.in-Err.pair.i c.in-Err.pair.j c.requires.kind c.in_default.ensures.0 c.in_default.ensures.2
    c.in-Some-duals_of.ensures.0 c.in-Err.ensures
