-- The goals of `as_claimed` in src/solution_verdict.rt, which compares the length of a solution with the claimed one: what
-- it ensures.
use Rattle.std.proofs.Common.{rules, subst, sym}
use Rattle.tsp_verdict.proofs.Prelude.{w64, FitsSigned, to_z-of_z}
use Rattle.tsp_verdict.specs.SolutionVerdict.{IsAsClaimed, IsOtherClaimed}
use Rattle.tsp_verdict.proofs.KnownBounds.{refused_alone, other_alone, accepted_alone}
use Rattle.tsp_verdict.proofs.solution_verdict.as_claimed.Goals as goal

-- plan: a rejected solution keeps its reason, and an accepted one has the claimed length or another
pub returns-in_default : goal.returns-in_default
returns-in_default c = λ instance solution is. refused_alone c.args.claimed instance solution c.args.verdict c.in_default.ensures is

pub returns-then-is_other : goal.returns-then-is_other
returns-then-is_other c = λ instance solution is.
    let fits : FitsSigned w64 c.in-Some.length = search rules in
    let other = subst (IsOtherClaimed c.args.claimed) (to_z-of_z w64 c.in-Some.length fits) (c.is_other.ensures.other c.if-is_other.true) in
    rw (to_z-of_z w64 c.in-Some.length fits) (other_alone c.args.claimed instance solution c.args.verdict c.in-Some.length c.in-Some.ensures other is)

pub returns : goal.returns
returns c = λ instance solution is.
    let fits : FitsSigned w64 c.in-Some.length = search rules in
    let claims = subst (IsAsClaimed c.args.claimed) (to_z-of_z w64 c.in-Some.length fits) (c.is_other.ensures.same c.if-is_other.false) in
    accepted_alone c.args.claimed instance solution c.args.verdict c.in-Some.length c.in-Some.ensures claims is
