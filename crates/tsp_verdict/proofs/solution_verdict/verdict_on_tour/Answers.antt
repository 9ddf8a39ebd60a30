-- The goals of `verdict_on_tour` in src/solution_verdict.rt, which judges a solution as a tour: what its calls require and
-- what it ensures.
use Rattle.tsp_verdict.proofs.Prelude.{◌≡◌, ℕ, true, refl, rules, subst, sym, w64, FitsSigned, Some, None, to_z-of_z, ℤ, nodes_of, is_tour_file, is_directed, Dimension}
use Rattle.tsp_report.specs.declared.verdict.Verdict.TheVariants.{Tour}
use Rattle.tsp_verdict.specs.SolutionReasons.{IsTourVerdict}
use Rattle.tsp_verdict.proofs.KnownBounds.{up_to_dimension}
use Rattle.tsp_verdict.proofs.TourVerdicts.{after_dimension, unused_first, is_yes}
use Rattle.tsp_verdict.proofs.solution_verdict.verdict_on_tour.Goals as goal

-- plan: by the first reason, or by the length (`is_yes`)
pub returns-then-is_some_and : goal.returns-then-is_some_and
returns-then-is_some_and c =
    let is : is_tour_file c.args.solution.now.kind ≡ true = search rules in
    record {
      applies = search rules;
      none_before = up_to_dimension c.args.instance.now c.args.solution.now is c.requires.none;
    }

pub the_tour-requires-clause-before : goal.the_tour-requires-clause-before
the_tour-requires-clause-before c =
    let instance = c.args.instance.now in
    let is : is_tour_file c.args.solution.now.kind ≡ true = search rules in
    let same : (n : ℕ) → c.args.solution.now.dimension ≡ Some n → n ≡ nodes_of instance = search rules in
    after_dimension instance c.args.solution.now (up_to_dimension instance c.args.solution.now is c.requires.none) same

pub returns-in-Some-2 : goal.returns-in-Some-2
returns-in-Some-2 c = rw c.in-Some-2.is at c.in_ok-reason.ensures

pub returns-in-Some-3 : goal.returns-in-Some-3
returns-in-Some-3 c =
    let cycle = rw c.in_default-2.is at c.in_ok-reason.ensures in
    let first = rw c.in-Some-3.is at c.in_ok-index.ensures in
    let way : c.is_directed-directed.result ≡ is_directed c.args.instance.now.kind = search rules in
    unused_first c.args.instance.now c.args.solution.now c.in-Ok.tour.now c.is_directed-directed.result c.fixed.result.now
    c.in-Some-3.index c.in-Ok.ensures.0 way c.fixed.ensures.value cycle.1 first

pub returns : goal.returns
returns c =
    let cycle = rw c.in_default-2.is at c.in_ok-reason.ensures in
    let used = rw c.in_default-3.is at c.in_ok-index.ensures in
    let way : c.is_directed-directed.result ≡ is_directed c.args.instance.now.kind = search rules in
    let fits : FitsSigned w64 c.tour_length-length.result = search rules in
    let found = is_yes c.args.instance.now c.args.solution.now c.in-Ok.tour.now c.is_directed-directed.result
    c.fixed.result.now c.tour_length-length.result c.in-Ok.ensures.0 way c.fixed.ensures.value cycle.1 cycle.0 used
    c.tour_length-length.ensures in
    subst (λ (length : ℤ). IsTourVerdict c.args.instance.now c.args.solution.now (Tour length None))
    (sym (to_z-of_z w64 c.tour_length-length.result fits)) (found.0, found.1, refl)
