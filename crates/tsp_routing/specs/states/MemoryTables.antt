-- The memory of a run as bits of a word: the keys of what each customer keeps and the bit of each key
-- (`AreMemoriesOf`), made from a certificate's lists and rows, and a step to the next customer as a table
-- (`IsTableOf`). `src/memories.rt` makes the tables, and `src/run_steps.rt` reads them. You may change both with the
-- code, because `Remembers` defines what a bit means.
use Rattle.std.specs.Prelude.{◌≡◌, ◌⊎◌, ◌+◌, ◌-◌, ◌*◌, ◌≤◌, ◌<◌, ◌==◌, ◌||◌, ◌&&◌, if◌then◌else◌, ◌∷◌, ◌+ℤ◌}
use Rattle.tsp_format.specs.Steps.{SubsetRow}
use Rattle.tsp_format.specs.declared.steps.RowSets.{RowSets}
use Rattle.tsp_format.specs.states.TreeSteps.{subset_row_of}
use Rattle.tsp_routing.specs.Memories.{keys_of, is_member_of, charge_of, memory_word}
use Rattle.tsp_routing.specs.Prelude.{Vec, All, ℕ, nat_le, Bool, true, false, not, List, [], map, length, slice_index_or, ℤ, pos, most_nodes, IsNode, has, take}
use Rattle.tsp_routing.specs.Runs.{RunRules, keeps}
use Rattle.tsp_routing.specs.declared.memories.MemoryKey.{MemoryKey}
use Rattle.tsp_routing.specs.declared.memories.PassedKey.{PassedKey}
use Rattle.tsp_routing.specs.declared.memories.StepKey.{StepKey}
use Rattle.tsp_routing.specs.declared.run_steps.StepTable.{StepTable}
use Rattle.tsp_routing.specs.states.RunTables.{item_lists}

-- what a customer keeps
abbrev pub keys_in : List (Vec MemoryKey) → ℕ → List MemoryKey
keys_in keys customer = slice_index_or (item_lists keys) customer []

-- the bits of all keys in the memories of a customer
abbrev pub key_places_in : List (Vec ℕ) → ℕ → List ℕ
key_places_in places customer = slice_index_or (item_lists places) customer []

-- the bit of one key
abbrev pub key_place_in : List (Vec ℕ) → ℕ → ℕ → ℕ
key_place_in places customer key = slice_index_or (key_places_in places customer) key 64

-- a key is that of a node or of a row, and only a row has members
pub record IsKeyIn (nodes count : ℕ) (key : MemoryKey) : Type 0 where
  pub most : key.key ≤ nodes + count
  pub row : key.is_member ≡ true → nodes < key.key

-- a list of at most 64 keys for each of the nodes 1..n, and a place for each key
pub record AreMemoryTables (nodes count : ℕ) (keys : List (Vec MemoryKey)) (places : List (Vec ℕ)) : Type 0 where
  pub few_nodes : nodes ≤ most_nodes
  pub few_rows : count ≤ 10000
  pub lists : length keys ≡ nodes + 1
  pub few : (node : ℕ) → IsNode nodes node → length (keys_in keys node) ≤ 64
  pub are : (node : ℕ) → IsNode nodes node → All (IsKeyIn nodes count) (keys_in keys node)
  pub place_lists : length places ≡ nodes + 1
  pub long : (node : ℕ) → IsNode nodes node → length (key_places_in places node) ≡ nodes + count + 1

-- the place of a key among others; 64 if it isn't there
abbrev pub IsKeyPlace : List ℕ → ℕ → ℕ → Type 0
IsKeyPlace keys place key = ((place ≡ 64) × (has keys key ≡ false)) ⊎ ((place < length keys) × (slice_index_or keys place 0 ≡ key))

-- the tables are those of these rules
pub record AreMemoriesOf (rules : RunRules) (count : ℕ) (keys : List (Vec MemoryKey)) (places : List (Vec ℕ)) : Type 0 where
  pub near : (node : ℕ) → IsNode rules.nodes node → All (IsNode rules.nodes) (rules.near node)
  pub many : length rules.rows ≡ count
  pub keys_are : (node : ℕ) → IsNode rules.nodes node
      → map (λ (key : MemoryKey). key.key) (keys_in keys node) ≡ keys_of rules.nodes rules.near rules.rows node
  pub members_are : (node : ℕ) → IsNode rules.nodes node
      → All (λ (key : MemoryKey). key.is_member ≡ is_member_of rules.nodes rules.rows node key.key) (keys_in keys node)
  pub places_are : (node key : ℕ) → IsNode rules.nodes node → key ≤ rules.nodes + count
      → IsKeyPlace (keys_of rules.nodes rules.near rules.rows node) (key_place_in places node key) key

-- ---- a certificate's lists and rows

-- the customers that a customer remembers
abbrev pub near_in : List (Vec ℕ) → ℕ → List ℕ
near_in near customer = slice_index_or (item_lists near) customer []

-- the rows without charges
abbrev pub free_rows : List RowSets → List (SubsetRow × ℤ)
free_rows rows = map (λ (sets : RowSets). (subset_row_of sets, pos 0)) rows

-- the key of a customer that is remembered
abbrev pub key_of_node : ℕ → MemoryKey
key_of_node customer = record { key = customer; is_member = false }

-- the keys of those rows that a customer keeps, if the first of the rows has the key `key`
abbrev pub kept_keys : ℕ → List RowSets → ℕ → List MemoryKey
kept_keys key [] customer = []
kept_keys key (row ∷ rows) customer =
    if keeps (subset_row_of row) customer
    then record { key = key; is_member = has row.set.items customer } ∷ kept_keys (key + 1) rows customer
    else kept_keys (key + 1) rows customer

-- the keys of what a customer keeps
pub record AreKeysOf (nodes : ℕ) (near : ℕ → List ℕ) (rows : List RowSets) (customer : ℕ) (keys : List MemoryKey) : Type 0 where
  pub keys_are : map (λ (key : MemoryKey). key.key) keys ≡ keys_of nodes near (free_rows rows) customer
  pub members_are : All (λ (key : MemoryKey). key.is_member ≡ is_member_of nodes (free_rows rows) customer key.key) keys
  pub are : All (IsKeyIn nodes (length rows)) keys

-- the places of all keys up to `last` among the first `count` of these
pub record ArePlacesTo (keys : List ℕ) (count last : ℕ) (places : List ℕ) : Type 0 where
  pub long : length places ≡ last + 1
  pub each : (key : ℕ) → key ≤ last → IsKeyPlace (take count keys) (slice_index_or places key 64) key

-- the lists of keys and places that were made so far, with a place 0 that isn't read
pub record AreTablesTo (nodes : ℕ) (near : ℕ → List ℕ) (rows : List RowSets) (keys : List (Vec MemoryKey)) (places : List (Vec ℕ)) : Type 0 where
  pub as_many : length places ≡ length keys
  pub keys_are : (node : ℕ) → 1 ≤ node → node < length keys → AreKeysOf nodes near rows node (keys_in keys node)
  pub places_are : (node : ℕ) → 1 ≤ node → node < length keys
      → ArePlacesTo (map (λ (key : MemoryKey). key.key) (keys_in keys node)) (length (keys_in keys node)) (nodes + length rows)
      (key_places_in places node)

-- ---- a step by the keys of its next customer

-- a key after the customer `last`, in whose memories each key has its place: the customer itself is told from now on
abbrev pub step_key_of : ℕ → List ℤ → List ℕ → ℕ → MemoryKey → StepKey
step_key_of nodes charges places last key = record {
  place = if key.key == last then 64 else slice_index_or places key.key 64;
  flips = (key.key == last) || key.is_member;
  charge = if key.is_member then charge_of nodes charges key.key else pos 0;
}

-- the bit of a key after the step
abbrev pub bit_after : StepKey → Bool → Bool
bit_after key is_told = if key.flips then not is_told else is_told

-- the word after the step, by the bits before it
abbrev pub word_after : List StepKey → List Bool → ℕ
word_after [] bits = 0
word_after (key ∷ keys) bits = (if bit_after key (slice_index_or bits key.place false) then 1 else 0) + 2 * word_after keys bits

-- what the step pays, by the bits before it
abbrev pub charge_after : List StepKey → List Bool → ℤ
charge_after [] bits = pos 0
charge_after (key ∷ keys) bits = (if slice_index_or bits key.place false then key.charge else pos 0) +ℤ charge_after keys bits

-- ---- the step as a table

-- which keys turn
abbrev pub flips_of : List StepKey → List Bool
flips_of steps = map (λ (key : StepKey). key.flips) steps

-- which keys are told before the step
abbrev pub told_before : List StepKey → List Bool → List Bool
told_before steps bits = map (λ (key : StepKey). slice_index_or bits key.place false) steps

-- the bits after the step of the keys that are told before it
abbrev pub passed_word : List PassedKey → List Bool → ℕ
passed_word [] bits = 0
passed_word (key ∷ keys) bits = (if slice_index_or bits key.place false then key.mask else 0) + passed_word keys bits

-- a table has the bits that turn, the keys that are passed on, and those for which the step pays
pub record IsTableOf (steps : List StepKey) (table : StepTable) : Type 0 where
  pub few : length steps ≤ 64
  pub flips : table.flips ≡ memory_word (flips_of steps)
  pub passed : (bits : List Bool) → length bits ≤ 64 → passed_word table.passed.items bits ≡ memory_word (told_before steps bits)
  pub paid : (bits : List Bool) → length bits ≤ 64 → charge_after table.paid.items bits ≡ charge_after steps bits
  pub few_paid : length table.paid.items ≤ 64

-- the tables of the steps from a node to each node, each at the place before its node's
pub record AreTablesFrom (nodes : ℕ) (keys : List (Vec MemoryKey)) (places : List (Vec ℕ)) (charges : List ℤ) (before : ℕ)
    (tables : List StepTable) : Type 0 where
  pub many : length tables ≡ nodes
  pub are : (place : ℕ) (default : StepTable) → place < nodes
      → IsTableOf (map (step_key_of nodes charges (key_places_in places before) before) (keys_in keys (place + 1)))
      (slice_index_or tables place default)

-- the same of the steps from the first nodes
abbrev pub AreStepTables : ℕ → List (Vec MemoryKey) → List (Vec ℕ) → List ℤ → List (Vec StepTable) → Type 0
AreStepTables nodes keys places charges rows = (place : ℕ) → place < length rows
    → AreTablesFrom nodes keys places charges (place + 1) (slice_index_or (item_lists rows) place [])
