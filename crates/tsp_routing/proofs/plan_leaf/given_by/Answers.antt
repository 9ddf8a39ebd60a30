-- The goals of `given_by` in src/plan_leaf.rt, which returns what the multiplier of a set gives back: what it ensures.
use Rattle.tsp_routing.proofs.Prelude.{◌≡◌, ◌∙◌, ℕ, ℤ, List, true, false, ap, ap₂, subst, rules, FitsSigned, pos, int_lt, ◌*ℤ◌, w64, w128, filter, to_z-of_z, Decision, stack_of, bears_on, decisions_in}
use Rattle.tsp_routing.specs.PlanBounds.{low_of, high_of}
use Rattle.tsp_routing.proofs.RouteProducts.{low_own, high_own, below_zero, from_zero}
use Rattle.tsp_routing.proofs.plan_leaf.given_by.Goals as goal

-- plan: by the sign of the multiplier: it times the least or the most number of crossings
pub returns-then-multiplier-lt0-clause-value : goal.returns-then-multiplier-lt0-clause-value
returns-then-multiplier-lt0-clause-value c =
    let case : List Decision = decisions_in c.args.case.now in
    let place : ℕ = c.args.place in
    let held = c.requires.case in
    let own : stack_of c.at-decisions.result.now ≡ filter (bears_on true place) case = c.at-decisions.ensures held.0 held.1 held.2
    ∙ ap (λ b. filter (bears_on b place) case) c.requires.direction in
    let fits : FitsSigned w64 c.args.multiplier = search rules in
    let same = to_z-of_z w64 c.args.multiplier fits in
    let sign : int_lt c.args.multiplier (pos 0) ≡ true =
    subst (λ (z : ℤ). int_lt z (pos 0) ≡ true) same c.if-multiplier-lt0.true in
    let whole : FitsSigned w128 c.times_given_back.result = search rules in
    let count = c.highest.ensures.value ∙ ap (λ xs. high_of place xs c.args.limits.high) own ∙ high_own place case c.args.limits.high in
    to_z-of_z w128 c.times_given_back.result whole ∙ c.times_given_back.ensures.value ∙ ap₂ (λ (k : ℕ) z. pos k *ℤ z) count same
    ∙ below_zero (low_of place case c.args.limits.low) (high_of place case c.args.limits.high) c.args.multiplier sign

pub returns-clause-value : goal.returns-clause-value
returns-clause-value c =
    let case : List Decision = decisions_in c.args.case.now in
    let place : ℕ = c.args.place in
    let held = c.requires.case in
    let own : stack_of c.at-decisions.result.now ≡ filter (bears_on true place) case = c.at-decisions.ensures held.0 held.1 held.2
    ∙ ap (λ b. filter (bears_on b place) case) c.requires.direction in
    let fits : FitsSigned w64 c.args.multiplier = search rules in
    let same = to_z-of_z w64 c.args.multiplier fits in
    let sign : int_lt c.args.multiplier (pos 0) ≡ false =
    subst (λ (z : ℤ). int_lt z (pos 0) ≡ false) same c.if-multiplier-lt0.false in
    let whole : FitsSigned w128 c.times_given_back-2.result = search rules in
    let count = c.lowest.ensures.value ∙ ap (λ xs. low_of place xs c.args.limits.low) own ∙ low_own place case c.args.limits.low in
    to_z-of_z w128 c.times_given_back-2.result whole ∙ c.times_given_back-2.ensures.value ∙ ap₂ (λ (k : ℕ) z. pos k *ℤ z) count same
    ∙ from_zero (low_of place case c.args.limits.low) (high_of place case c.args.limits.high) c.args.multiplier sign
