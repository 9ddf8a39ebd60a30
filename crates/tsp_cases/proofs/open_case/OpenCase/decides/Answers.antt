-- The goals of `OpenCase::decides` in src/open_case.rt, which tests whether a pair is decided: what its calls require
-- and what it ensures.
use Rattle.tsp_cases.proofs.Prelude.{◌∙◌, Bool, false, sym, arith, list_any_at, list_any_none}
use Rattle.tsp_cases.specs.declared.decision.Decision.{Decision}
use Rattle.tsp_cases.specs.Cases.{is_same}
use Rattle.tsp_cases.specs.states.OpenCases.{decisions_in}
use Rattle.tsp_cases.proofs.OpenCases.{decided_at}
use Rattle.tsp_cases.proofs.open_case.OpenCase.decides.Goals as goal

-- plan: a decision on the pair is in the list of its first node, so that list says whether there is one (`decided_at`)
pub at-own-requires : goal.at-own-requires
at-own-requires c = omega (arith, c.requires.1.by_node.places, c.requires.2)

pub returns-then-is_same : goal.returns-then-is_same
returns-then-is_same c =
    let case = c.args.self.now in
    let test : Decision → Bool = λ d. is_same case.by_node.directed c.args.pair d.pair in
    sym (list_any_at test c.at-own.result.now c.decisions.decision-index (record { pair = (0, 0); taken = false }) c.decisions-test.true
    (sym c.is_same.ensures ∙ c.if-is_same.true))
    ∙ decided_at case.by_node.directed c.args.pair c.at-own.result.now (decisions_in case) (c.at-own.ensures c.requires.0 c.requires.1 c.requires.2)

pub returns : goal.returns
returns c =
    let case = c.args.self.now in
    let test : Decision → Bool = λ d. is_same case.by_node.directed c.args.pair d.pair in
    sym (list_any_none test c.at-own.result.now (λ k d lt. c.decisions.invariant k d (omega (arith, lt, c.decisions-test.false))))
    ∙ decided_at case.by_node.directed c.args.pair c.at-own.result.now (decisions_in case) (c.at-own.ensures c.requires.0 c.requires.1 c.requires.2)
