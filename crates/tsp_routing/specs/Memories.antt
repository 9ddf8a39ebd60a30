-- The memory of a run as a word: what it says about the customers and the rows that its last customer keeps.
-- src/memories.rt keeps a `RunState` (Runs.antt) in this form. In no circle of docs/trust.md, because no bound is
-- defined by it.
use Rattle.tsp_routing.specs.Prelude.{ℕ, zero, suc, nat_le, Bool, true, false, List, [], map, length, slice_index_or, ℤ, pos, All, IsNode, has}
use Rattle.std.specs.Prelude.{◌≡◌, ◌+◌, ◌-◌, ◌*◌, ◌≤◌, if◌then◌else◌, ◌∷◌, ◌++◌}
use Rattle.tsp_routing.specs.Runs.{keeps, RunRules, RunState}
use Rattle.tsp_format.specs.Steps.{SubsetRow}

-- ---- keys: a customer's key is its number, and the rows have the numbers after that of the last node

-- the keys of the rows that a customer keeps, if the first of these rows has the key `key`
abbrev pub row_keys : ℕ → List (SubsetRow × ℤ) → ℕ → List ℕ
row_keys key [] customer = []
row_keys key (row ∷ rows) customer =
    if keeps row.0 customer then key ∷ row_keys (key + 1) rows customer else row_keys (key + 1) rows customer

-- the keys of what a customer keeps: of the customers that it remembers, and of rows
abbrev pub keys_of : ℕ → (ℕ → List ℕ) → List (SubsetRow × ℤ) → ℕ → List ℕ
keys_of nodes near rows customer = near customer ++ row_keys (nodes + 1) rows customer

-- whether the row at a place is odd
abbrev pub odd_at : List (SubsetRow × ℤ) → ℕ → RunState → Bool
odd_at [] place state = false
odd_at (row ∷ rows) zero state = state.odd row.0
odd_at (row ∷ rows) (suc place) state = odd_at rows place state

-- whether a run has seen a customer, or is odd at a row
abbrev pub told : ℕ → List (SubsetRow × ℤ) → RunState → ℕ → Bool
told nodes rows state key = if nat_le key nodes then state.seen key else odd_at rows (key - (nodes + 1)) state

-- whether the row at a place has a customer in its set
abbrev pub in_row : List (SubsetRow × ℤ) → ℕ → ℕ → Bool
in_row [] place customer = false
in_row (row ∷ rows) zero customer = has row.0.set customer
in_row (row ∷ rows) (suc place) customer = in_row rows place customer

-- whether a key is that of a row that has a customer in its set
abbrev pub is_member_of : ℕ → List (SubsetRow × ℤ) → ℕ → ℕ → Bool
is_member_of nodes rows customer key = if nat_le key nodes then false else in_row rows (key - (nodes + 1)) customer

-- what the row of a key charges
abbrev pub charge_of : ℕ → List ℤ → ℕ → ℤ
charge_of nodes charges key = slice_index_or charges (key - (nodes + 1)) (pos 0)

-- ---- words

-- a word whose bits are these, the lowest one first
abbrev pub memory_word : List Bool → ℕ
memory_word [] = 0
memory_word (bit ∷ bits) = (if bit then 1 else 0) + 2 * memory_word bits

-- what a state says of each thing that its last customer keeps
abbrev pub memory_of : RunRules → RunState → List Bool
memory_of rules state = map (told rules.nodes rules.rows state) (keys_of rules.nodes rules.near rules.rows state.last)

-- a word is the memory of a state; and the state knows nothing more
pub record Remembers (rules : RunRules) (state : RunState) (word : ℕ) : Type 0 where
  pub is : word ≡ memory_word (memory_of rules state)
  pub seen : (customer : ℕ) → has (rules.near state.last) customer ≡ false → state.seen customer ≡ false
  pub odd : (row : SubsetRow) → keeps row state.last ≡ false → state.odd row ≡ false

-- customers remember nodes, and no customer keeps more than fits a word
pub record AreMemories (nodes : ℕ) (near : ℕ → List ℕ) (rows : List (SubsetRow × ℤ)) : Type 0 where
  pub nodes_are : (customer : ℕ) → IsNode nodes customer → All (IsNode nodes) (near customer)
  pub few : (customer : ℕ) → IsNode nodes customer → length (keys_of nodes near rows customer) ≤ 64
