-- An entry of a row of weights (`least_at`), what adding a number does to it in 64 bits (`IsMoved`), and what Prim's
-- algorithm keeps for each node outside its tree (`IsNearer`). `src/costs.rt` and all code that fills rows, in
-- tsp_bound, tsp_cases, tsp_branch and tsp_routing, promise the first two; `tsp_bound/src/prim.rt` promises the last.
-- No bound is defined by them.
use Rattle.std.specs.Int.{w64, int_wrap}
use Rattle.std.specs.Prelude.{◌≡◌, ℕ, Bool, false, List, slice_index_or, ◌⊎◌, ℤ, pos, ◌≤ℤ◌, ◌<ℤ◌, ◌+ℤ◌}

-- the node x is grown
abbrev pub is_inside : List Bool → ℕ → Bool
is_inside inside x = slice_index_or inside x false

-- the entry of a row at the index x
abbrev pub least_at : List ℤ → ℕ → ℤ
least_at least x = slice_index_or least x (pos 0)

-- The node `next` is grown now, at this weight: the nearest grown node and its weight are as before, or `next` and this
-- weight if that is less.
abbrev pub IsNearer : ℤ → ℕ → ℕ → ℤ → ℕ → ℤ → Type 0
IsNearer weight next old_near old_least new_near new_least =
    ((new_near ≡ old_near) × (new_least ≡ old_least) × (old_least ≤ℤ weight))
    ⊎ ((new_near ≡ next) × (new_least ≡ weight) × (weight <ℤ old_least))

-- ---- an entry of a row after a number was added to it in 64 bits

-- the entry as it was, if 0 is added; otherwise what is left of the sum in 64 bits
abbrev pub IsMoved : ℤ → ℤ → ℤ → Type 0
IsMoved change old new = ((new ≡ old) × (change ≡ pos 0)) ⊎ (new ≡ int_wrap w64 (old +ℤ change))
