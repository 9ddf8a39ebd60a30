-- The goals of `verdict_alone` in src/solution_verdict.rt, which judges a solution by what was found of its instance: what
-- its calls require and what it ensures.
use Rattle.std.proofs.Common.{rules}
use Rattle.tsp_verdict.proofs.FirstReasons.{HasTours}
use Rattle.tsp_verdict.proofs.KnownBounds.{on_a_tour, none_known, first_known, knows_instance}
use Rattle.tsp_verdict.proofs.solution_verdict.verdict_alone.Goals as goal

-- plan: what was found has the reason against the instance (`knows_instance`), which is the first (`first_known`)
pub returns-in-Some : goal.returns-in-Some
returns-in-Some c =
    let instance = c.args.instance.now in
    let kind : HasTours instance = search rules in
    let first = first_known instance c.args.found c.against_instance.result c.in-Some.reason c.against_instance.ensures c.in-Some.is
    (knows_instance c.requires.0 instance c.args.found kind c.requires.2) in
    on_a_tour instance c.args.solution.now c.verdict_against.result kind (c.verdict_against.ensures.first instance first)

pub verdict_on_tour-requires-clause-none : goal.verdict_on_tour-requires-clause-none
verdict_on_tour-requires-clause-none c =
    let instance = c.args.instance.now in
    let kind : HasTours instance = search rules in
    none_known instance c.args.found c.against_instance.result c.against_instance.ensures c.in-None.is
    (knows_instance c.requires.0 instance c.args.found kind c.requires.2)
