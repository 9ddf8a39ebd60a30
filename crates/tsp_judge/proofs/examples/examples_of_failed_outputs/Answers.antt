-- The goals of `examples_of_failed_outputs` in src/examples.rt: what it ensures.
use Rattle.tsp_judge.proofs.Prelude.{◌≡◌, [], ◌∷◌, true, Ok, refl, subst}
use Rattle.std.specs.Prelude.{◌+◌}
use Rattle.std.proofs.Common.{arith}
use Rattle.tsp_io.specs.Writing.{write_fails}
use Rattle.tsp_judge.proofs.examples.examples_of_failed_outputs.Goals as goal

-- plan: the write that took nothing is given; each other one would have to be another than it is
pub returns-clause-nothing_taken : goal.returns-clause-nothing_taken
returns-clause-nothing_taken c = λ left. record { before = 7; text = 1 ∷ []; answer = Ok 0; fails = refl; asked = (refl, refl, refl, refl) }

pub returns-clause-byte_taken : goal.returns-clause-byte_taken
returns-clause-byte_taken c = λ left failed. let fails = subst (λ answer. write_fails answer failed.text ≡ true) failed.asked failed.fails in absurd cc

pub returns-clause-another_writer : goal.returns-clause-another_writer
returns-clause-another_writer c = λ left failed. absurd (omega (arith, failed.asked))

pub returns-clause-empty_text : goal.returns-clause-empty_text
returns-clause-empty_text c = λ left failed. let fails = rw failed.asked.1 at (rw failed.asked.0 at failed.fails) in absurd cc
