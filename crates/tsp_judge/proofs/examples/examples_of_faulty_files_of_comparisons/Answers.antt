-- The goals of `examples_of_faulty_files_of_comparisons` in src/examples.rt: what it ensures.
use Rattle.tsp_judge.proofs.Prelude.{◌≡◌, ◌⊎◌, ℕ, None, Some, refl, inl, inr, arith, ReadTrace, StopsAt, ReadFault, CertificateKind}
use Rattle.tsp_judge.specs.CheckRun.{Given, IsUnreadIn, IsSomeFile}
use Rattle.tsp_judge.proofs.examples.examples_of_faulty_files_of_comparisons.Goals as goal

-- plan: each example by cases of which file it is (`no_second`, `no_third`)
pub returns-clause-first : goal.returns-clause-first
returns-clause-first c = λ given fault first stops unread. inl (refl, stops, unread)

pub returns-clause-second : goal.returns-clause-second
returns-clause-second c = λ by fault first second one stops. inr ((by, second), refl, refl, one, stops)

abbrev pub IsEither : Given → ReadTrace → ℕ → ReadFault → Type 0
IsEither given first file fault = ((file ≡ 1) × StopsAt fault first × IsUnreadIn given)
    ⊎ ((second : CertificateKind × ReadTrace) × (given ≡ Some second) × (file ≡ 2) × IsSomeFile first × StopsAt fault second.1)

no_second : (file : ℕ) (first : ReadTrace) (fault : ReadFault) → file ≡ 2 → IsEither None first file fault → ⊥
no_second file first fault two (inl of_first) = omega (arith, two, of_first.0)
no_second file first fault two (inr of_second) = some_is_none of_second.0 of_second.1
  where
    some_is_none : (second : CertificateKind × ReadTrace) → None ≡ Some second → ⊥
    some_is_none second e = cc

no_third : (given : Given) (file : ℕ) (first : ReadTrace) (fault : ReadFault) → file ≡ 3 → IsEither given first file fault → ⊥
no_third given file first fault third (inl of_first) = omega (arith, third, of_first.0)
no_third given file first fault third (inr of_second) = omega (arith, third, of_second.2)

pub returns-clause-no_second : goal.returns-clause-no_second
returns-clause-no_second c = λ fault first h. no_second 2 first fault refl h

pub returns-clause-no_third : goal.returns-clause-no_third
returns-clause-no_third c = λ given fault first h. no_third given 3 first fault refl h
