-- The goals of `judge_next` in src/solution_verdict.rt, which judges a solution by what is known of its instance: what its
-- calls require and what it ensures.
use Rattle.tsp_verdict.proofs.KnownBounds.{judged_with, as_found}
use Rattle.tsp_verdict.proofs.solution_verdict.judge_next.Goals as goal

-- plan: the verdict without a certificate, then by what was found of all (`judged_with`, `as_found`)
pub verdict_alone-requires : goal.verdict_alone-requires
verdict_alone-requires c = (c.requires.0, c.requires.1.0, c.requires.1.1.1)

pub returns : goal.returns
returns c =
    let instance = c.args.instance.now in
    let solution = c.args.solution.now in
    let alone = c.as_claimed.ensures instance solution c.in_ok-verdict.ensures in
    let known_bound = c.args.known_bound in
    rw c.with_found.ensures (
      as_found c.requires.0 c.args.claimed instance solution c.as_claimed.result known_bound.least known_bound.found alone
          c.requires.1.1.0 c.requires.1.1.1,
      λ given is. judged_with given c.args.claimed instance solution c.as_claimed.result known_bound.found alone is.1.1,
    )
