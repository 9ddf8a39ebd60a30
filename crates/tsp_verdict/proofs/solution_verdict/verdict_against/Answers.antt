-- The goals of `verdict_against` in src/solution_verdict.rt, which judges a solution of an instance to which a reason
-- applies: what it ensures.
use Rattle.tsp_verdict.proofs.Prelude.{◌≡◌, rules, true, is_tour_file}
use Rattle.tsp_verdict.proofs.KnownBounds.{first_of_file}
use Rattle.tsp_verdict.proofs.solution_verdict.verdict_against.Goals as goal

-- plan: of a file of tours the reason is the first one against the solution (`first_of_file`)
pub returns-in-Some-clause-first : goal.returns-in-Some-clause-first
returns-in-Some-clause-first c = λ instance first.
    let is : is_tour_file c.args.solution.now.kind ≡ true = search rules in
    first_of_file instance c.args.solution.now c.args.reason is first
