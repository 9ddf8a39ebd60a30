-- The goals of `examples_of_faulty_files_of_bounds` in src/examples.rt: what it ensures.
use Rattle.tsp_judge.proofs.Prelude.{◌≡◌, ◌⊎◌, ℕ, refl, inl, inr, arith, ReadTrace, IsUnread, StopsAt, ReadFault}
use Rattle.tsp_judge.specs.CheckRun.{IsSomeFile}
use Rattle.tsp_judge.proofs.examples.examples_of_faulty_files_of_bounds.Goals as goal

-- plan: each example by cases of which file it is (`no_third`)
pub returns-clause-first : goal.returns-clause-first
returns-clause-first c = λ by strict fault first second sink unwritten stops unread. (unwritten, inl (refl, stops, unread))

pub returns-clause-second : goal.returns-clause-second
returns-clause-second c = λ by strict fault first second sink unwritten one stops. (unwritten, inr (refl, one, stops))

no_third : (file : ℕ) (first second : ReadTrace) (fault : ReadFault) → file ≡ 3
    → ((file ≡ 1) × StopsAt fault first × IsUnread second) ⊎ ((file ≡ 2) × IsSomeFile first × StopsAt fault second) → ⊥
no_third file first second fault third (inl of_first) = omega (arith, third, of_first.0)
no_third file first second fault third (inr of_second) = omega (arith, third, of_second.0)

pub returns-clause-no_third : goal.returns-clause-no_third
returns-clause-no_third c = λ by strict fault first second sink run. no_third 3 first second fault refl run.1
