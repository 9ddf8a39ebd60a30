-- The goals of `examples_of_multipliers` in src/examples.rt: what it ensures.
use Rattle.std.proofs.Common.{inl, inr, refl, arith, rules}
use Rattle.tsp_verdict.proofs.examples.examples_of_multipliers.Goals as goal

-- plan: each example is computed
pub returns-clause-fixed : goal.returns-clause-fixed
returns-clause-fixed c = λ applies. applies.1.applies.1 (inl (0, omega arith, refl))

pub returns-clause-turned_round : goal.returns-clause-turned_round
returns-clause-turned_round c = λ applies. applies.1.applies.1 (inr (0, omega arith, refl))

pub returns-clause-not_fixed : goal.returns-clause-not_fixed
returns-clause-not_fixed c = (
  refl,
  record {
    applies = ((omega arith, omega arith), search rules);
    none_before = λ earlier before from. absurd (omega (arith, from, before));
  },
)

pub returns-clause-twice : goal.returns-clause-twice
returns-clause-twice c = (
  refl,
  record {
    applies = ((omega arith, omega arith), (1, omega arith, omega arith, refl));
    none_before = λ earlier before from repeated. absurd (omega (arith, from, before, repeated.1, repeated.2));
  },
)

pub returns-clause-twice_turned_round : goal.returns-clause-twice_turned_round
returns-clause-twice_turned_round c = (
  refl,
  record {
    applies = ((omega arith, omega arith), (1, omega arith, omega arith, refl));
    none_before = λ earlier before from repeated. absurd (omega (arith, from, before, repeated.1, repeated.2));
  },
)
