-- The goals of `strict_yes_leaves_nothing_unjudged` in src/strict.rt: what it ensures.
use Rattle.std.proofs.Common.{refl, true}
use Rattle.tsp_verdict.specs.Strict.{strict_reason}
use Rattle.tsp_verdict.proofs.Unjudged.{accepted_before, bounded_before, clear_before, judged_whole}
use Rattle.tsp_verdict.proofs.strict.strict_yes_leaves_nothing_unjudged.Goals as goal

-- plan: what is accepted was accepted without `strict`, and there is no reason by `strict` (`accepted_before`), so that
-- every line is judged (`judged_whole`)
pub returns-clause-verdict : goal.returns-clause-verdict
returns-clause-verdict c = λ instance plain is.
    let before = accepted_before (strict_reason true instance) plain is in
    (judged_whole true instance before.1 refl, before.0)

pub returns-clause-bound : goal.returns-clause-bound
returns-clause-bound c = λ instance plain is.
    let before = bounded_before (strict_reason true instance) plain is in
    (judged_whole true instance before.1 refl, before.0)

pub returns-clause-known_bound : goal.returns-clause-known_bound
returns-clause-known_bound c = λ instance plain is.
    let before = clear_before (strict_reason true instance) plain is in
    (judged_whole true instance before.1 refl, before.0)
