-- The goals of `OpenCase::take` in src/open_case.rt, which adds a decision to the open case: what its calls require and
-- what it ensures.
use Rattle.std.proofs.Common.{true, refl, arith}
use Rattle.tsp_cases.specs.states.OpenCases.{decisions_in}
use Rattle.tsp_cases.proofs.OpenCases.{case_more}
use Rattle.tsp_cases.proofs.open_case.OpenCase.take.Goals as goal

-- plan: the new decision is on top of the stack, and in the lists of its nodes (`case_more`)
pub add-requires : goal.add-requires
add-requires c =
    let long = c.requires.case.1.by_node.places in
    let pair = c.requires.case.2 in
    (omega (arith, pair.0.1, long), omega (arith, pair.1.1, long), pair.2)

pub returns-clause-case : goal.returns-clause-case
returns-clause-case c = λ n is pair.
    case_more n c.args.self.now _ (record { pair = c.args.pair; taken = true }) is pair c.in_ok-push.ensures.items refl
    (c.in_ok-add.ensures.more n (decisions_in c.args.self.now) is.by_node)
