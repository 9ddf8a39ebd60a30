-- The law on the first of several things: all first ones have the same rank. Only tsp_verdict imports it.
use Rattle.tsp_theory.proofs.Prelude.{◌≡◌, ℕ, inl, inr}
use Rattle.std.proofs.lemmas.Bool.{cases_order}
use Rattle.tsp_theory.specs.First.{IsFirst}

-- where nothing both applies and is known not to
pub one_rank : {X : Type 0} (rank : X → ℕ) (Applies Not : X → Type 0) (a b : X) → ((x : X) → Applies x → Not x → ⊥)
    → IsFirst rank Applies Not a → IsFirst rank Applies Not b → rank a ≡ rank b
one_rank rank Applies Not a b never one other = elim (cases_order (rank a) (rank b)) [
  | inl same ↦ same
  | inr (inl less) ↦ absurd (never a one.applies (other.none_before a less))
  | inr (inr more) ↦ absurd (never b other.applies (one.none_before b more))
]
