-- The goals of `examples_of_cycles` in src/examples.rt: what it ensures.
use Rattle.std.proofs.Common.{arith, refl}
use Rattle.tsp_theory.proofs.examples.examples_of_cycles.Goals as goal

-- the nodes at the places 1 and 2 are the same
pub returns-clause-twice : goal.returns-clause-twice
returns-clause-twice c = λ cycle. cycle.once 1 2 0 (omega arith) (omega arith) refl
