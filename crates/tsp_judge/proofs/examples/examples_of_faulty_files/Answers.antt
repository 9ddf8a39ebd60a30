-- The goals of `examples_of_faulty_files` in src/examples.rt: what it ensures.
use Rattle.tsp_judge.proofs.Prelude.{◌≡◌, ◌⊎◌, ℕ, Option, None, Some, refl, inl, inr, arith, ReadTrace, IsUnread, StopsAt, ReadFault, CertificateKind}
use Rattle.tsp_judge.specs.CheckRun.{Given, IsUnreadIn, IsFaultOfRun}
use Rattle.tsp_judge.proofs.examples.examples_of_faulty_files.Goals as goal

-- plan: each example by cases of which file it is (`no_third`, `no_other`)
pub returns-clause-first : goal.returns-clause-first
returns-clause-first c = λ given claimed strict fault first second sink unwritten stops unread left. (unwritten, inl (refl, stops, unread, left))

pub returns-clause-second : goal.returns-clause-second
returns-clause-second c = λ given claimed strict fault first second sink unwritten one stops left. (unwritten, inr (inl (refl, one, stops, left)))

pub returns-clause-third : goal.returns-clause-third
returns-clause-third c = λ by claimed strict fault first second third sink unwritten one two stops.
    (unwritten, inr (inr ((by, third), refl, refl, one, two, stops)))

second_alone : (given : Given) (first second : ReadTrace) (fault : ReadFault) → IsFaultOfRun given first second 2 fault → StopsAt fault second × IsUnreadIn given
second_alone given first second fault (inl of_first) = absurd (omega (arith, of_first.0))
second_alone given first second fault (inr (inl of_second)) = (of_second.2, of_second.3)
second_alone given first second fault (inr (inr of_third)) = absurd (omega (arith, of_third.2))

pub returns-clause-unread : goal.returns-clause-unread
returns-clause-unread c = λ given claimed strict fault first second sink run. second_alone given first second fault run.1

none_is_some : (third : CertificateKind × ReadTrace) → None ≡ Some third → ⊥
none_is_some third e = cc

no_third : (first second : ReadTrace) (fault : ReadFault) → IsFaultOfRun None first second 3 fault → ⊥
no_third first second fault (inl of_first) = omega (arith, of_first.0)
no_third first second fault (inr (inl of_second)) = omega (arith, of_second.0)
no_third first second fault (inr (inr of_third)) = none_is_some of_third.0 of_third.1

pub returns-clause-no_third : goal.returns-clause-no_third
returns-clause-no_third c = λ claimed strict fault first second sink run. no_third first second fault run.1

no_other : (file : ℕ) (given : Given) (first second : ReadTrace) (fault : ReadFault) → ((file ≡ 1) → ⊥) → ((file ≡ 2) → ⊥) → ((file ≡ 3) → ⊥)
    → IsFaultOfRun given first second file fault → ⊥
no_other file given first second fault one two three (inl of_first) = one of_first.0
no_other file given first second fault one two three (inr (inl of_second)) = two of_second.0
no_other file given first second fault one two three (inr (inr of_third)) = three of_third.2

pub returns-clause-no_fourth : goal.returns-clause-no_fourth
returns-clause-no_fourth c = λ given claimed strict fault first second sink run.
    no_other 4 given first second fault (λ is. omega (arith, is)) (λ is. omega (arith, is)) (λ is. omega (arith, is)) run.1

pub returns-clause-no_other : goal.returns-clause-no_other
returns-clause-no_other c = λ given claimed strict fault first second sink run.
    no_other 0 given first second fault (λ is. omega (arith, is)) (λ is. omega (arith, is)) (λ is. omega (arith, is)) run.1
