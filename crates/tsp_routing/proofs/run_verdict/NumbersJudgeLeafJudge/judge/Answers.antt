-- The goals of `judge` of the impl of LeafJudge for NumbersJudge in src/run_verdict.rt: what it ensures.
use Rattle.tsp_routing.proofs.Prelude.{ℕ, ◌+◌, ℤ, List, refl, sym, false≢true}
use Rattle.tsp_routing.proofs.PlanJudging.{plan_numbers_small}
use Rattle.tsp_routing.proofs.RunJudging.{run_numbers_read}
use Rattle.tsp_routing.proofs.run_verdict.NumbersJudgeLeafJudge.judge.Goals as goal

-- plan: the numbers that were judged are those of the leaf
pub returns-then-judge_run_numbers-clause-found : goal.returns-then-judge_run_numbers-clause-found
returns-then-judge_run_numbers-clause-found c =
    let judge = c.args.self.now in
    let numbers : List ℤ = c.args.numbers.now in
    let good = run_numbers_read judge.nodes _ judge.families judge.rows numbers c.requires.memory.potentials
    ((c.if-judge_run_numbers.ensures.good judge.rows (sym c.requires.memory.multipliers)).0 refl) in
    (good, plan_numbers_small judge.nodes (judge.families + judge.rows) numbers good.plan, tt)

pub returns-clause-found : goal.returns-clause-found
returns-clause-found c = λ good.
    let judge = c.args.self.now in
    let numbers : List ℤ = c.args.numbers.now in
    let read = run_numbers_read _ judge.nodes judge.families judge.rows numbers (sym c.requires.memory.potentials) good in
    false≢true ((c.if-judge_run_numbers.ensures.good judge.rows (sym c.requires.memory.multipliers)).1 read)
