-- Label setting, list by list: the kept states of a load and a last customer while they are added (`AddsNexts`) and
-- when all are there (`IsKeptList`), how many there are, and the least weight of a run among them (`IsLeastRunIfFew`).
-- Only `src/run_steps.rt`, `src/kept_states.rt` and `src/run_bound.rt` use these definitions, in this order. You may
-- change the lists with the code, because `IsKeptState` defines which states are kept.
use Rattle.std.specs.Prelude.{◌≡◌, ◌≢◌, ◌⊎◌, ◌+◌, ◌-◌, ◌*◌, ◌^◌, ◌≤◌, ◌<◌, ◌∷◌, ◌++◌, ◌+ℤ◌, ◌≤ℤ◌}
use Rattle.tsp_format.specs.Steps.{SubsetRow}
use Rattle.tsp_routing.specs.KeptStates.{IsKeptState, HasTooManyStates}
use Rattle.tsp_routing.specs.Memories.{Remembers}
use Rattle.tsp_routing.specs.Prelude.{Vec, All, AllPairs, Contains, ℕ, Option, Some, None, List, [], map, length, slice_index_or, slice_set, ℤ, pos, neg_ℤ, IsFromTo, IsCustomer, IsNode}
use Rattle.tsp_routing.specs.RunBounds.{IsLeastRun}
use Rattle.tsp_routing.specs.Runs.{RunRules, RunState, first_state, next_state, MayServe, AreCharges}
use Rattle.tsp_routing.specs.Starts.{start_state, step_weight, start_weight, IsStart}
use Rattle.tsp_routing.specs.declared.kept_states.KeptState.{KeptState}
use Rattle.tsp_routing.specs.declared.memories.StepKey.{StepKey}
use Rattle.tsp_routing.specs.declared.run_leaf.RunLeaf.{RunLeaf}
use Rattle.tsp_routing.specs.states.MemoryTables.{keys_in, key_places_in, AreMemoriesOf, step_key_of}
use Rattle.tsp_routing.specs.states.RunTables.{item_lists, rules_by, AreHomeRows}

-- the rules of a leaf with these memories and priced rows
abbrev pub rules_of : RunLeaf → (ℕ → List ℕ) → List (SubsetRow × ℤ) → RunRules
rules_of leaf near rows = rules_by leaf.nodes.now.nodes leaf.nodes.now.depot leaf.nodes.now.loads.now leaf.nodes.now.room
    leaf.nodes.now.rows.now near rows

-- the leaf has these memories and priced rows, and its table is that of ways home
pub record IsLeafOf (leaf : RunLeaf) (near : ℕ → List ℕ) (rows : List (SubsetRow × ℤ)) : Type 0 where
  pub memories : AreMemoriesOf (rules_of leaf near rows) leaf.memories.now.count leaf.memories.now.keys.items leaf.memories.now.places.items
  pub priced : map (λ (row : SubsetRow × ℤ). row.1) rows ≡ leaf.charges.now
  pub signs : AreCharges rows
  pub homes : AreHomeRows (rules_of leaf near rows) leaf.homes.now

-- ---- one step

-- what becomes of each key of the customer `last`, by a step from the customer `before`
abbrev pub steps_in : RunLeaf → ℕ → ℕ → List StepKey
steps_in leaf before last =
    map (step_key_of leaf.memories.now.nodes leaf.charges.now (key_places_in leaf.memories.now.places.items before) before)
    (keys_in leaf.memories.now.keys.items last)

-- what is made of an entry by going on to a customer: the entry of the next state; or nothing, if the run may not
-- serve that customer or isn't kept
abbrev pub IsNextEntry : RunRules → ℤ → RunState → ℤ → ℕ → Option KeptState → Type 0
IsNextEntry rules limit state weight next (Some entry) = MayServe rules state next
    × Remembers rules (next_state rules state next) entry.word × (entry.weight ≡ weight +ℤ step_weight rules state next)
    × IsKeptState rules limit (next_state rules state next) entry.weight
IsNextEntry rules limit state weight next None = MayServe rules state next
    → IsKeptState rules limit (next_state rules state next) (weight +ℤ step_weight rules state next) → ⊥

-- the entry of a start of one customer; or nothing, if that isn't kept
abbrev pub IsFirstEntry : RunRules → ℤ → ℕ → Option KeptState → Type 0
IsFirstEntry rules limit first (Some entry) = IsKeptState rules limit (first_state rules first) (rules.weight rules.depot first)
    × Remembers rules (first_state rules first) entry.word × (entry.weight ≡ rules.weight rules.depot first)
IsFirstEntry rules limit first None = IsKeptState rules limit (first_state rules first) (rules.weight rules.depot first) → ⊥

-- ---- lists

-- an entry is the memory and the weight of a kept start with this load and last customer
pub record IsEntryOf (rules : RunRules) (limit : ℤ) (load last : ℕ) (entry : KeptState) : Type 0 where
  pub earlier : List ℕ
  pub start : IsStart rules limit last earlier
  pub load_is : (start_state rules last earlier).load ≡ load
  pub remembers : Remembers rules (start_state rules last earlier) entry.word
  pub weight_is : entry.weight ≡ start_weight rules last earlier

-- some entry has the memory of a start, and weighs no more
pub record CoversStart (rules : RunRules) (entries : List KeptState) (last : ℕ) (earlier : List ℕ) : Type 0 where
  pub entry : KeptState
  pub there : Contains entries entry
  pub remembers : Remembers rules (start_state rules last earlier) entry.word
  pub lighter : entry.weight ≤ℤ start_weight rules last earlier

-- the entries of a load and a last customer
pub record IsKeptList (rules : RunRules) (limit : ℤ) (load last : ℕ) (entries : List KeptState) : Type 0 where
  pub met : All (IsEntryOf rules limit load last) entries
  pub covers : (earlier : List ℕ) → IsStart rules limit last earlier → (start_state rules last earlier).load ≡ load
      → CoversStart rules entries last earlier

-- entries whose starts had one of the customers up to `upto` before the last, or none
pub record IsKeptListTo (rules : RunRules) (limit : ℤ) (load last upto : ℕ) (entries : List KeptState) : Type 0 where
  pub met : All (IsEntryOf rules limit load last) entries
  pub first : IsStart rules limit last [] → (start_state rules last []).load ≡ load → CoversStart rules entries last []
  pub later : (before : ℕ) (earlier : List ℕ) → before ≤ upto → IsStart rules limit last (before ∷ earlier)
      → (start_state rules last (before ∷ earlier)).load ≡ load → CoversStart rules entries last (before ∷ earlier)

-- an entry of a next state is put behind others, or none if there is none
abbrev pub AddsOne : RunRules → ℤ → RunState → ℤ → ℕ → List KeptState → List KeptState → Type 0
AddsOne rules limit state weight next old new = ((new ≡ old) × IsNextEntry rules limit state weight next None)
    ⊎ ((entry : KeptState) × (new ≡ old ++ entry ∷ []) × IsNextEntry rules limit state weight next (Some entry))

-- The entries of those states are added that go on to `last` from the entries of one load and one customer before: each
-- of them is an entry, and the starts that go on from a covered one are covered.
pub record AddsNexts (rules : RunRules) (limit : ℤ) (load before last : ℕ) (befores old new : List KeptState) : Type 0 where
  pub met : All (IsEntryOf rules limit load before) befores → All (IsEntryOf rules limit (load + rules.load last) last) old
      → All (IsEntryOf rules limit (load + rules.load last) last) new
  pub covers : (earlier : List ℕ) → IsStart rules limit last (before ∷ earlier) → (start_state rules before earlier).load ≡ load
      → CoversStart rules befores before earlier → CoversStart rules new last (before ∷ earlier)
  pub keeps : (entry : KeptState) → Contains old entry → Contains new entry

-- each of some entries is among others, and for each of the others one of these has the same memory and weighs no more
pub record AreLeastOf (entries least : List KeptState) : Type 0 where
  pub among : All (Contains entries) least
  pub each : (entry : KeptState) → Contains entries entry
      → (other : KeptState) × Contains least other × (other.word ≡ entry.word) × (other.weight ≤ℤ entry.weight)

-- the words of entries rise, so no two of these have the same memory
abbrev pub AreRising : List KeptState → Type 0
AreRising entries = AllPairs (λ (a b : KeptState). a.word < b.word) entries

-- the words of entries don't fall
abbrev pub AreInOrder : List KeptState → Type 0
AreInOrder entries = (k : ℕ) (d : KeptState) → k + 1 < length entries
    → (slice_index_or entries k d).word ≤ (slice_index_or entries (k + 1) d).word

-- the last entry has the same memory as this one
abbrev pub EndsWithMemory : List KeptState → KeptState → Type 0
EndsWithMemory entries entry = (1 ≤ length entries) × ((slice_index_or entries (length entries - 1) entry).word ≡ entry.word)

-- the last entry stays if it weighs no more than this one; else this one is put in its place
abbrev pub KeepsLighter : List KeptState → KeptState → List KeptState → Type 0
KeepsLighter old entry new = ((new ≡ old) × ((slice_index_or old (length old - 1) entry).weight ≤ℤ entry.weight))
    ⊎ ((new ≡ slice_set old (length old - 1) entry) × (entry.weight ≤ℤ (slice_index_or old (length old - 1) entry).weight))

-- an entry is put behind others; or if the last one has the same memory, the lighter of the two stays
abbrev pub IsLeastAdded : List KeptState → KeptState → List KeptState → Type 0
IsLeastAdded old entry new = ((new ≡ old ++ entry ∷ []) × (EndsWithMemory old entry → ⊥))
    ⊎ (EndsWithMemory old entry × KeepsLighter old entry new)

-- the lists of a load, each at the index of its last customer
abbrev pub IsStateRow : RunRules → ℤ → ℕ → List (List KeptState) → Type 0
IsStateRow rules limit load lists = (last : ℕ) → IsKeptList rules limit load last (slice_index_or lists last [])

-- the lists of all loads
abbrev pub AreStateRows : RunRules → ℤ → List (Vec (Vec KeptState)) → Type 0
AreStateRows rules limit table = (load : ℕ) → load < length table
    → IsStateRow rules limit load (item_lists (slice_index_or (item_lists table) load []))

-- one list
abbrev pub list_in : List (Vec (Vec KeptState)) → ℕ → ℕ → List KeptState
list_in table load last = slice_index_or (item_lists (slice_index_or (item_lists table) load [])) last []

-- how large the weights of a list are, by load
abbrev pub AreSizedEntries : ℕ → List KeptState → Type 0
AreSizedEntries load entries = All (λ entry. IsFromTo (neg_ℤ (pos ((load + 1) * 2 ^ 72))) (pos ((load + 1) * 2 ^ 72)) entry.weight) entries

-- a list for each node and one more
pub record IsSizedRow (n load : ℕ) (lists : List (List KeptState)) : Type 0 where
  pub places : length lists ≡ n + 1
  pub sizes : (node : ℕ) → node < n + 1 → AreSizedEntries load (slice_index_or lists node [])

abbrev pub AreSizedRows : ℕ → List (Vec (Vec KeptState)) → Type 0
AreSizedRows n table = (load : ℕ) → load < length table → IsSizedRow n load (item_lists (slice_index_or (item_lists table) load []))

-- ---- floors

-- no entry of a list weighs less than its floor
abbrev pub IsFloor : List KeptState → ℤ → Type 0
IsFloor entries floor = All (λ (entry : KeptState). floor ≤ℤ entry.weight) entries

-- a floor for each list
pub record IsFloorRow (lists : List (List KeptState)) (floors : List ℤ) : Type 0 where
  pub places : length floors ≡ length lists
  pub below : (last : ℕ) → last < length lists → IsFloor (slice_index_or lists last []) (slice_index_or floors last (pos 0))

-- a floor for each list of each load
pub record AreFloors (table : List (Vec (Vec KeptState))) (floors : List (Vec ℤ)) : Type 0 where
  pub loads : length floors ≡ length table
  pub rows : (load : ℕ) → load < length table → IsFloorRow (item_lists (slice_index_or (item_lists table) load []))
      (slice_index_or (item_lists floors) load [])

-- one floor
abbrev pub floor_in : List (Vec ℤ) → ℕ → ℕ → ℤ
floor_in floors load last = slice_index_or (slice_index_or (item_lists floors) load []) last (pos 0)

-- ---- how many kept states there are

-- how many entries the lists of a load have
abbrev pub count_in_lists : List (List KeptState) → ℕ
count_in_lists [] = 0
count_in_lists (list ∷ lists) = length list + count_in_lists lists

-- how many entries the lists of all loads have
abbrev pub entry_count : List (Vec (Vec KeptState)) → ℕ
entry_count [] = 0
entry_count (row ∷ rows) = count_in_lists (item_lists row.items) + entry_count rows

-- no list of a load has two entries with the same memory
abbrev pub AreRisingLists : List (List KeptState) → Type 0
AreRisingLists lists = (last : ℕ) → last < length lists → AreRising (slice_index_or lists last [])

-- the same of all loads
abbrev pub AreRisingRows : List (Vec (Vec KeptState)) → Type 0
AreRisingRows table = (load : ℕ) → load < length table → AreRisingLists (item_lists (slice_index_or (item_lists table) load []))

-- the lists of the next load are found, or there are too many kept states
abbrev pub IsStateRowIfFew : RunRules → ℤ → (List (List KeptState) → Type 0) → Option (Vec (Vec KeptState)) → Type 0
IsStateRowIfFew rules limit IsRow None = HasTooManyStates rules limit
IsStateRowIfFew rules limit IsRow (Some row) = IsRow (item_lists row.items)

-- the lists of all loads are found, or there are too many kept states
abbrev pub AreStateRowsIfFew : RunRules → ℤ → Option (Vec (Vec (Vec KeptState))) → Type 0
AreStateRowsIfFew rules limit None = HasTooManyStates rules limit
AreStateRowsIfFew rules limit (Some table) = AreStateRows rules limit table.items

-- what is so is found, or there are too many kept states
abbrev pub IsFoundIfFew : {X : Type 0} → RunRules → ℤ → (X → Type 0) → Option X → Type 0
IsFoundIfFew {X} rules limit Is None = HasTooManyStates rules limit
IsFoundIfFew {X} rules limit Is (Some x) = (HasTooManyStates rules limit → ⊥) × Is x

-- the least weight of a run is found, or there are too many kept states
abbrev pub IsLeastRunIfFew : RunRules → ℤ → Option ℤ → Type 0
IsLeastRunIfFew rules limit found = IsFoundIfFew rules limit (IsLeastRun rules limit) found

-- ---- the least weight of a run

-- no entry, with the link to the depot, weighs less
abbrev pub IsBelowEntries : ℤ → ℤ → List KeptState → Type 0
IsBelowEntries least link entries = All (λ (entry : KeptState). least ≤ℤ (entry.weight +ℤ link)) entries

-- an entry, with the link to the depot, weighs as much
abbrev pub IsMetBy : ℤ → ℤ → List KeptState → Type 0
IsMetBy least link entries = (entry : KeptState) × Contains entries entry × (least ≡ entry.weight +ℤ link)

-- the same of the lists of a load, of the customers up to `upto`, by the links of these
abbrev pub IsBelowLoad : ℕ → (ℕ → ℕ → ℤ) → List (Vec (Vec KeptState)) → ℕ → ℕ → ℤ → Type 0
IsBelowLoad depot weight table load upto least = (last : ℕ) → IsCustomer upto depot last
    → IsBelowEntries least (weight last depot) (list_in table load last)

abbrev pub IsMetAtLoad : ℕ → ℕ → (ℕ → ℕ → ℤ) → List (Vec (Vec KeptState)) → ℕ → ℤ → Type 0
IsMetAtLoad n depot weight table load least = (last : ℕ) × IsCustomer n depot last
    × IsMetBy least (weight last depot) (list_in table load last)

-- the same of the loads below `upto`
abbrev pub IsBelowTable : ℕ → ℕ → (ℕ → ℕ → ℤ) → List (Vec (Vec KeptState)) → ℕ → ℤ → Type 0
IsBelowTable n depot weight table upto least = (load : ℕ) → load < upto → IsBelowLoad depot weight table load n least

abbrev pub IsMetBelow : ℕ → ℕ → (ℕ → ℕ → ℤ) → List (Vec (Vec KeptState)) → ℕ → ℤ → Type 0
IsMetBelow n depot weight table upto least = (load : ℕ) × (load < upto) × IsMetAtLoad n depot weight table load least
