-- The goals of `examples_of_depots` in src/examples.rt: what it ensures.
use Rattle.std.proofs.Common.{rules, arith}
use Rattle.tsp_verdict.proofs.examples.examples_of_depots.Goals as goal

pub returns-clause-unserved : goal.returns-clause-unserved
returns-clause-unserved c = record {
  applies = search rules;
  none_before = λ other below is. absurd (omega (arith, is.0.0, below));
}
