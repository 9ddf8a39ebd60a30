-- The first of several things by their rank: the first reason that applies, the first bad place of a list, the least
-- customer that isn't served. tsp_cases, tsp_routing and tsp_verdict define by it which reason a user sees.
-- proofs/FirstRanks.antt has the law that all first ones have the same rank.
use Rattle.std.specs.Prelude.{◌<◌, ◌≤◌, ℕ, List, length}

-- `Applies` holds of the first one. Of each one of a lower rank `Not` holds, which says how it is known that `Applies`
-- doesn't.
pub record IsFirst {X : Type 0} (rank : X → ℕ) (Applies Not : X → Type 0) (first : X) : Type 0 where
  pub applies : Applies first
  pub none_before : (earlier : X) → rank earlier < rank first → Not earlier

-- ---- places of a list, counted from 1

-- the list has an element at this place
abbrev pub IsPlace : {X : Type 0} → List X → ℕ → Type 0
IsPlace xs place = (1 ≤ place) × (place ≤ length xs)

-- the first place of the list at which P holds
abbrev pub IsFirstPlace : {X : Type 0} → (ℕ → Type 0) → List X → ℕ → Type 0
IsFirstPlace P xs place = IsFirst (λ k. k) (λ k. IsPlace xs k × P k) (λ k. 1 ≤ k → P k → ⊥) place

-- the first place of the list that isn't good
abbrev pub IsFirstBad : {X : Type 0} → (ℕ → Type 0) → List X → ℕ → Type 0
IsFirstBad Good xs place = IsFirst (λ k. k) (λ k. IsPlace xs k × (Good k → ⊥)) (λ k. 1 ≤ k → Good k) place
