-- The goals of `judge_run_numbers` in src/run_verdict.rt, which says whether the numbers of a leaf are good, and copies
-- them: what it ensures of the copies.
use Rattle.tsp_routing.proofs.Prelude.{◌∙◌, ℕ, take, drop, length, refl, ap, false≢true, written}
use Rattle.tsp_routing.proofs.run_verdict.judge_run_numbers.Goals as goal

-- plan: the copies are what `judge_plan_numbers` wrote
pub returns-then-not-judge_plan_numbers-clause-potentials : goal.returns-then-not-judge_plan_numbers-clause-potentials
returns-then-not-judge_plan_numbers-clause-potentials c = λ none. absurd (false≢true none)

pub returns-then-not-judge_plan_numbers-clause-multipliers : goal.returns-then-not-judge_plan_numbers-clause-multipliers
returns-then-not-judge_plan_numbers-clause-multipliers c = λ none. absurd (false≢true none)

pub returns-then-not-judge_plan_numbers-clause-potentials_len : goal.returns-then-not-judge_plan_numbers-clause-potentials_len
returns-then-not-judge_plan_numbers-clause-potentials_len c =
    ap length (written c.args.room.now.potentials.len c.judge_plan_numbers.new.potentials _ (c.judge_plan_numbers.ensures.potentials_len ∙ c.deref_mut.ensures.len))
    ∙ (c.judge_plan_numbers.ensures.potentials_len ∙ ap length c.deref_mut.ensures.value)

pub returns-then-not-judge_plan_numbers-clause-multipliers_len : goal.returns-then-not-judge_plan_numbers-clause-multipliers_len
returns-then-not-judge_plan_numbers-clause-multipliers_len c =
    ap length (written c.args.room.now.multipliers.len c.judge_plan_numbers.new.multipliers _ (c.judge_plan_numbers.ensures.multipliers_len ∙ c.deref_mut-2.ensures.len))
    ∙ (c.judge_plan_numbers.ensures.multipliers_len ∙ ap length c.deref_mut-2.ensures.value)

pub returns-clause-potentials : goal.returns-clause-potentials
returns-clause-potentials c = λ good.
    written c.args.room.now.potentials.len c.judge_plan_numbers.new.potentials _ (c.judge_plan_numbers.ensures.potentials_len ∙ c.deref_mut.ensures.len)
    ∙ (c.if-not-judge_plan_numbers.ensures.potentials refl ∙ ap (λ (k : ℕ). take k c.args.numbers.now) (ap length c.deref_mut.ensures.value))

pub returns-clause-multipliers : goal.returns-clause-multipliers
returns-clause-multipliers c = λ good.
    written c.args.room.now.multipliers.len c.judge_plan_numbers.new.multipliers _ (c.judge_plan_numbers.ensures.multipliers_len ∙ c.deref_mut-2.ensures.len)
    ∙ (c.if-not-judge_plan_numbers.ensures.multipliers refl ∙ ap (λ (k : ℕ). drop k c.args.numbers.now) (ap length c.deref_mut.ensures.value))

pub returns-clause-potentials_len : goal.returns-clause-potentials_len
returns-clause-potentials_len c =
    ap length (written c.args.room.now.potentials.len c.judge_plan_numbers.new.potentials _ (c.judge_plan_numbers.ensures.potentials_len ∙ c.deref_mut.ensures.len))
    ∙ (c.judge_plan_numbers.ensures.potentials_len ∙ ap length c.deref_mut.ensures.value)

pub returns-clause-multipliers_len : goal.returns-clause-multipliers_len
returns-clause-multipliers_len c =
    ap length (written c.args.room.now.multipliers.len c.judge_plan_numbers.new.multipliers _ (c.judge_plan_numbers.ensures.multipliers_len ∙ c.deref_mut-2.ensures.len))
    ∙ (c.judge_plan_numbers.ensures.multipliers_len ∙ ap length c.deref_mut-2.ensures.value)
