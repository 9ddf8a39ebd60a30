-- For src/kept_states.rt, which counts entries: there are as many kept states as the lists have entries, since each
-- entry has a kept start, and each kept start an entry. All entries are in one list for this, each with its load and its
-- last customer, and states with the same load, last customer and memory are the same.
use Rattle.std.proofs.lemmas.List.{length-take, get_or-take}
use Rattle.std.proofs.lemmas.List.Elements.{Contains-append_right}
use Rattle.tsp_format.specs.Steps.{SubsetRow}
use Rattle.tsp_routing.proofs.KeptStarts.{last_is, last_serves, within_room, kept_starts_are_starts, starts_are_kept_starts}
use Rattle.tsp_routing.proofs.MemoryWords.{at_node, at_row, not_beyond, untold, same_bits}
use Rattle.tsp_routing.proofs.PlanJudging.{few_customers}
use Rattle.tsp_routing.proofs.Prelude.{◌≡◌, ℕ, zero, suc, ◌+◌, ◌-◌, ◌≤◌, ◌<◌, List, [], ◌∷◌, ◌++◌, length, get_or, refl, ap, ◌∙◌, subst, arith, inl, inr, Vec, All, AllPairs, AllByRecursion, Contains, recursion_from_All, All-from_recursion, length-append, Contains-append_left, ◌==◌, Bool, true, false, map, sym, ap₂, ℤ, ◌||◌, cases_Bool, cases_lt, false≢true, eqb-true, length-map, IsNode, has, ◌≢◌, take, All-contains, All-take, length-take-le, get_or_default, HasEachOnce}
use Rattle.tsp_routing.proofs.WaysHome.{rows_pushed}
use Rattle.tsp_routing.specs.KeptStates.{AreSameStates, IsKeptStart, end_state, HasKeptStates}
use Rattle.tsp_routing.specs.Memories.{keys_of, odd_at, told, memory_word, memory_of, Remembers}
use Rattle.tsp_routing.specs.Runs.{RunRules, RunState, AreCharges}
use Rattle.tsp_routing.specs.Starts.{start_state}
use Rattle.tsp_routing.specs.declared.kept_states.KeptState.{KeptState}
use Rattle.tsp_routing.specs.states.KeptLists.{AreRising, list_in, count_in_lists, entry_count, IsEntryOf, IsKeptList, AreStateRows, AreRisingLists, AreRisingRows}
use Rattle.tsp_routing.specs.states.RunTables.{item_lists}

-- an entry with its load and its last customer
pub record PlacedEntry : Type 0 where
  pub load : ℕ
  pub last : ℕ
  pub entry : KeptState

abbrev pub placed : ℕ → ℕ → List KeptState → List PlacedEntry
placed load last [] = []
placed load last (entry ∷ entries) = record { load = load; last = last; entry = entry } ∷ placed load last entries

abbrev pub flat_lists : ℕ → ℕ → List (List KeptState) → List PlacedEntry
flat_lists load last [] = []
flat_lists load last (list ∷ lists) = placed load last list ++ flat_lists load (last + 1) lists

abbrev pub flat_rows : ℕ → List (Vec (Vec KeptState)) → List PlacedEntry
flat_rows load [] = []
flat_rows load (row ∷ rows) = flat_lists load 0 (item_lists row.items) ++ flat_rows (load + 1) rows

-- ---- how many there are

placed_long : (load last : ℕ) (list : List KeptState) → length (placed load last list) ≡ length list
placed_long load last [] = refl
placed_long load last (entry ∷ entries) = ap suc (placed_long load last entries)

pub flat_lists_long : (load last : ℕ) (lists : List (List KeptState)) → length (flat_lists load last lists) ≡ count_in_lists lists
flat_lists_long load last [] = refl
flat_lists_long load last (list ∷ lists) =
    let whole = length-append (placed load last list) (flat_lists load (last + 1) lists) in
    let own = placed_long load last list in
    let rest = flat_lists_long load (last + 1) lists in
    omega (arith, whole, own, rest)

pub flat_rows_long : (load : ℕ) (table : List (Vec (Vec KeptState))) → length (flat_rows load table) ≡ entry_count table
flat_rows_long load [] = refl
flat_rows_long load (row ∷ rows) =
    let whole = length-append (flat_lists load 0 (item_lists row.items)) (flat_rows (load + 1) rows) in
    let own = flat_lists_long load 0 (item_lists row.items) in
    let rest = flat_rows_long (load + 1) rows in
    omega (arith, whole, own, rest)

-- ---- what holds of all of them

all_append : {X : Type 0} (P : X → Type 0) (xs ys : List X) → AllByRecursion P xs → AllByRecursion P ys → AllByRecursion P (xs ++ ys)
all_append {X} P [] ys first second = second
all_append {X} P (x ∷ xs) ys first second = (first.0, all_append P xs ys first.1 second)

module _ (P : PlacedEntry → Type 0) where
  all_placed : (load last : ℕ) (list : List KeptState)
      → AllByRecursion (λ (entry : KeptState). P (record { load = load; last = last; entry = entry })) list
      → AllByRecursion P (placed load last list)
  all_placed load last [] all = tt
  all_placed load last (entry ∷ entries) all = (all.0, all_placed load last entries all.1)

  pub all_lists : (load last : ℕ) (lists : List (List KeptState))
      → ((k : ℕ) → k < length lists → All (λ (entry : KeptState). P (record { load = load; last = last + k; entry = entry })) (get_or lists k []))
      → AllByRecursion P (flat_lists load last lists)
  all_lists load last [] all = tt
  all_lists load last (list ∷ lists) all = all_append P (placed load last list) (flat_lists load (last + 1) lists)
      (all_placed load last list
      (recursion_from_All (λ (entry : KeptState). P (record { load = load; last = last; entry = entry })) list
      (subst (λ (v : ℕ). All (λ (entry : KeptState). P (record { load = load; last = v; entry = entry })) list)
      (let same : last + 0 ≡ last = omega arith in same) (all 0 (omega arith)))))
      (all_lists load (last + 1) lists (λ k lt.
      subst (λ (v : ℕ). All (λ (entry : KeptState). P (record { load = load; last = v; entry = entry })) (get_or lists k []))
      (let same : last + suc k ≡ last + 1 + k = omega arith in same) (all (suc k) (omega (arith, lt)))))

  pub all_rows : (load : ℕ) (table : List (Vec (Vec KeptState)))
      → ((k : ℕ) → k < length table → (last : ℕ) → last < length (item_lists (get_or (item_lists table) k []))
      → All (λ (entry : KeptState). P (record { load = load + k; last = last; entry = entry })) (list_in table k last))
      → AllByRecursion P (flat_rows load table)
  all_rows load [] all = tt
  all_rows load (row ∷ rows) all = all_append P (flat_lists load 0 (item_lists row.items)) (flat_rows (load + 1) rows)
      (all_lists load 0 (item_lists row.items) (λ k lt.
      subst (λ (v : ℕ). All (λ (entry : KeptState). P (record { load = load; last = v; entry = entry })) (get_or (item_lists row.items) k []))
      (let same : k ≡ 0 + k = omega arith in same)
      (subst (λ (q : ℕ). All (λ (entry : KeptState). P (record { load = q; last = k; entry = entry })) (get_or (item_lists row.items) k []))
      (let same : load + 0 ≡ load = omega arith in same) (all 0 (omega arith) k lt))))
      (all_rows (load + 1) rows (λ k lt last inside.
      subst (λ (q : ℕ). All (λ (entry : KeptState). P (record { load = q; last = last; entry = entry })) (list_in rows k last))
      (let same : load + suc k ≡ load + 1 + k = omega arith in same) (all (suc k) (omega (arith, lt)) last inside)))

-- ---- no two of them are of the same load and customer with the same word

abbrev pub Differ : PlacedEntry → PlacedEntry → Type 0
Differ a b = a.load ≡ b.load → a.last ≡ b.last → a.entry.word ≡ b.entry.word → ⊥

-- each element with each later one
abbrev pub Pairs : {X : Type 0} → (X → X → Type 0) → List X → Type 0
Pairs {X} R [] = Unit {0}
Pairs {X} R (x ∷ xs) = AllByRecursion (R x) xs × Pairs R xs

pub pairs_are : {X : Type 0} (R : X → X → Type 0) (xs : List X) → Pairs R xs → AllPairs R xs
pairs_are {X} R [] pairs i j d less inside = absurd (omega (arith, inside))
pairs_are {X} R (x ∷ xs) pairs zero zero d less inside = absurd (omega (arith, less))
pairs_are {X} R (x ∷ xs) pairs zero (suc j) d less inside = All-from_recursion (R x) xs pairs.0 j d (omega (arith, inside))
pairs_are {X} R (x ∷ xs) pairs (suc i) zero d less inside = absurd (omega (arith, less))
pairs_are {X} R (x ∷ xs) pairs (suc i) (suc j) d less inside = pairs_are R xs pairs.1 i j d (omega (arith, less)) (omega (arith, inside))

pub pairs_from : {X : Type 0} (R : X → X → Type 0) (xs : List X) → AllPairs R xs → Pairs R xs
pairs_from {X} R [] pairs = tt
pairs_from {X} R (x ∷ xs) pairs = (
  recursion_from_All (R x) xs (λ k d lt. pairs 0 (suc k) d (omega arith) (omega (arith, lt))),
  pairs_from R xs (λ i j d less inside. pairs (suc i) (suc j) d (omega (arith, less)) (omega (arith, inside))),
)

pairs_append : {X : Type 0} (R : X → X → Type 0) (P Q : X → Type 0) → ((x y : X) → P x → Q y → R x y) → (xs ys : List X)
    → AllByRecursion P xs → AllByRecursion Q ys → Pairs R xs → Pairs R ys → Pairs R (xs ++ ys)
pairs_append {X} R P Q across [] ys lows highs first second = second
pairs_append {X} R P Q across (x ∷ xs) ys lows highs first second = (
  all_append (R x) xs ys first.0 (all_across ys highs),
  pairs_append R P Q across xs ys lows.1 highs first.1 second,
)
  where
    all_across : (zs : List X) → AllByRecursion Q zs → AllByRecursion (R x) zs
    all_across [] all = tt
    all_across (z ∷ zs) all = (across x z lows.0 all.0, all_across zs all.1)

placed_differ : (load last : ℕ) (list : List KeptState) → Pairs (λ (a b : KeptState). a.word < b.word) list → Pairs Differ (placed load last list)
placed_differ load last [] rising = tt
placed_differ load last (entry ∷ entries) rising = (above entries rising.0, placed_differ load last entries rising.1)
  where
    above : (list : List KeptState) → AllByRecursion (λ (b : KeptState). entry.word < b.word) list
        → AllByRecursion (Differ (record { load = load; last = last; entry = entry })) (placed load last list)
    above [] all = tt
    above (other ∷ others) all = (λ q v word. let less = all.0 in omega (arith, less, word), above others all.1)

pub lists_differ : (load last : ℕ) (lists : List (List KeptState)) → ((k : ℕ) → k < length lists → AreRising (get_or lists k []))
    → Pairs Differ (flat_lists load last lists)
lists_differ load last [] rising = tt
lists_differ load last (list ∷ lists) rising =
    pairs_append Differ (λ (a : PlacedEntry). a.last ≡ last) (λ (b : PlacedEntry). last < b.last)
    (λ a b here there load_is last_is word. omega (arith, here, there, last_is))
    (placed load last list) (flat_lists load (last + 1) lists)
    (all_placed (λ (a : PlacedEntry). a.last ≡ last) load last list (all_same list))
    (all_lists (λ (b : PlacedEntry). last < b.last) load (last + 1) lists (λ k lt j d inside. omega arith))
    (placed_differ load last list (pairs_from (λ (a b : KeptState). a.word < b.word) list (rising 0 (omega arith))))
    (lists_differ load (last + 1) lists (λ k lt. rising (suc k) (omega (arith, lt))))
  where
    all_same : (entries : List KeptState) → AllByRecursion (λ (entry : KeptState). last ≡ last) entries
    all_same [] = tt
    all_same (entry ∷ entries) = (refl, all_same entries)

pub rows_differ : (load : ℕ) (table : List (Vec (Vec KeptState)))
    → ((k : ℕ) → k < length table → (last : ℕ) → last < length (item_lists (get_or (item_lists table) k [])) → AreRising (list_in table k last))
    → Pairs Differ (flat_rows load table)
rows_differ load [] rising = tt
rows_differ load (row ∷ rows) rising =
    pairs_append Differ (λ (a : PlacedEntry). a.load ≡ load) (λ (b : PlacedEntry). load < b.load)
    (λ a b here there load_is last_is word. omega (arith, here, there, load_is))
    (flat_lists load 0 (item_lists row.items)) (flat_rows (load + 1) rows)
    (all_lists (λ (a : PlacedEntry). a.load ≡ load) load 0 (item_lists row.items) (λ k lt j d inside. refl))
    (all_rows (λ (b : PlacedEntry). load < b.load) (load + 1) rows (λ k lt last inside j d there. omega arith))
    (lists_differ load 0 (item_lists row.items) (λ k lt. rising 0 (omega arith) k lt))
    (rows_differ (load + 1) rows (λ k lt last inside. rising (suc k) (omega (arith, lt)) last inside))

-- a table and one row more, which may end early
pub rows_and_differ : (load : ℕ) (table : List (Vec (Vec KeptState))) (lists : List (List KeptState))
    → ((k : ℕ) → k < length table → (last : ℕ) → last < length (item_lists (get_or (item_lists table) k [])) → AreRising (list_in table k last))
    → ((k : ℕ) → k < length lists → AreRising (get_or lists k []))
    → Pairs Differ (flat_rows load table ++ flat_lists (load + length table) 0 lists)
rows_and_differ load table lists rising last_rising =
    pairs_append Differ (λ (a : PlacedEntry). a.load < load + length table) (λ (b : PlacedEntry). b.load ≡ load + length table)
    (λ a b here there load_is last_is word. omega (arith, here, there, load_is))
    (flat_rows load table) (flat_lists (load + length table) 0 lists)
    (all_rows (λ (a : PlacedEntry). a.load < load + length table) load table (λ k lt last inside j d there. omega (arith, lt)))
    (all_lists (λ (b : PlacedEntry). b.load ≡ load + length table) (load + length table) 0 lists (λ k lt j d inside. refl))
    (rows_differ load table rising) (lists_differ (load + length table) 0 lists last_rising)

pub all_rows_and : (P : PlacedEntry → Type 0) (load : ℕ) (table : List (Vec (Vec KeptState))) (lists : List (List KeptState))
    → AllByRecursion P (flat_rows load table) → AllByRecursion P (flat_lists (load + length table) 0 lists)
    → AllByRecursion P (flat_rows load table ++ flat_lists (load + length table) 0 lists)
all_rows_and P load table lists first second =
    all_append P (flat_rows load table) (flat_lists (load + length table) 0 lists) first second

-- ---- each entry of a list is there

placed_there : (load last : ℕ) (list : List KeptState) (entry : KeptState) → Contains list entry
    → Contains (placed load last list) (record { load = load; last = last; entry = entry })
placed_there load last list entry there =
    (there.0, (let long = placed_long load last list in let lt = there.1 in omega (arith, long, lt)), at list there.0 there.2 there.1)
  where
    at : (entries : List KeptState) (k : ℕ) → get_or entries k entry ≡ entry → k < length entries
        → get_or (placed load last entries) k (record { load = load; last = last; entry = entry })
        ≡ record { load = load; last = last; entry = entry }
    at [] k is lt = absurd (omega (arith, lt))
    at (e ∷ entries) zero is lt = ap (λ (own : KeptState). the (record { load = load; last = last; entry = own })) is
      where
        the : PlacedEntry → PlacedEntry
        the it = it
    at (e ∷ entries) (suc k) is lt = at entries k is (omega (arith, lt))

lists_there : (load last : ℕ) (lists : List (List KeptState)) (k : ℕ) (entry : KeptState) → k < length lists
    → Contains (get_or lists k []) entry
    → Contains (flat_lists load last lists) (record { load = load; last = last + k; entry = entry })
lists_there load last [] k entry lt there = absurd (omega (arith, lt))
lists_there load last (list ∷ lists) zero entry lt there =
    Contains-append_left (placed load last list) (flat_lists load (last + 1) lists) (record { load = load; last = last + 0; entry = entry })
    (subst (λ (v : ℕ). Contains (placed load last list) (record { load = load; last = v; entry = entry }))
    (let same : last ≡ last + 0 = omega arith in same) (placed_there load last list entry there))
lists_there load last (list ∷ lists) (suc k) entry lt there =
    Contains-append_right (placed load last list) (flat_lists load (last + 1) lists) (record { load = load; last = last + suc k; entry = entry })
    (subst (λ (v : ℕ). Contains (flat_lists load (last + 1) lists) (record { load = load; last = v; entry = entry }))
    (let same : last + 1 + k ≡ last + suc k = omega arith in same) (lists_there load (last + 1) lists k entry (omega (arith, lt)) there))

pub rows_there : (load : ℕ) (table : List (Vec (Vec KeptState))) (k last : ℕ) (entry : KeptState) → k < length table
    → last < length (item_lists (get_or (item_lists table) k [])) → Contains (list_in table k last) entry
    → Contains (flat_rows load table) (record { load = load + k; last = last; entry = entry })
rows_there load [] k last entry lt inside there = absurd (omega (arith, lt))
rows_there load (row ∷ rows) zero last entry lt inside there =
    Contains-append_left (flat_lists load 0 (item_lists row.items)) (flat_rows (load + 1) rows) (record { load = load + 0; last = last; entry = entry })
    (subst (λ (q : ℕ). Contains (flat_lists load 0 (item_lists row.items)) (record { load = q; last = last; entry = entry }))
    (let same : load ≡ load + 0 = omega arith in same)
    (subst (λ (v : ℕ). Contains (flat_lists load 0 (item_lists row.items)) (record { load = load; last = v; entry = entry }))
    (let same : 0 + last ≡ last = omega arith in same) (lists_there load 0 (item_lists row.items) last entry inside there)))
rows_there load (row ∷ rows) (suc k) last entry lt inside there =
    Contains-append_right (flat_lists load 0 (item_lists row.items)) (flat_rows (load + 1) rows) (record { load = load + suc k; last = last; entry = entry })
    (subst (λ (q : ℕ). Contains (flat_rows (load + 1) rows) (record { load = q; last = last; entry = entry }))
    (let same : load + 1 + k ≡ load + suc k = omega arith in same) (rows_there (load + 1) rows k last entry (omega (arith, lt)) inside there))

-- ---- states with the same load, last customer and memory are the same

front : List Bool → Bool
front [] = false
front (bit ∷ bits) = bit

behind : List Bool → List Bool
behind [] = []
behind (bit ∷ bits) = bits

-- functions that agree on a list agree at each of its keys
agrees : (f g : ℕ → Bool) (keys : List ℕ) (key : ℕ) → map f keys ≡ map g keys → has keys key ≡ true → f key ≡ g key
unfolding front behind
agrees f g [] key same there = absurd (false≢true there)
agrees f g (k ∷ keys) key same there = elim (cases_Bool (k == key)) [
  | inl it ↦
      let at : k ≡ key = eqb-true k key it in
      ap f (sym at) ∙ (ap front same ∙ ap g at)
  | inr other ↦ agrees f g keys key (ap behind same) (sym (ap (λ (b : Bool). b || has keys key) other) ∙ there)
]

-- what two states say of the row at each place
each_odd : (rows : List (SubsetRow × ℤ)) (a b : RunState) → ((place : ℕ) → odd_at rows place a ≡ odd_at rows place b)
    → AllByRecursion (λ (priced : SubsetRow × ℤ). a.odd priced.0 ≡ b.odd priced.0) rows
each_odd [] a b same = tt
each_odd (row ∷ rows) a b same = (same 0, each_odd rows a b (λ place. same (suc place)))

odd_places : (rows : List (SubsetRow × ℤ)) (a b : RunState) (place : ℕ)
    → AllByRecursion (λ (priced : SubsetRow × ℤ). a.odd priced.0 ≡ b.odd priced.0) rows → odd_at rows place a ≡ odd_at rows place b
odd_places [] a b place same = refl
odd_places (row ∷ rows) a b zero same = same.0
odd_places (row ∷ rows) a b (suc place) same = odd_places rows a b place same.1

module _ (rules : RunRules) (a b : RunState) where
  abbrev tells : RunState → ℕ → Bool
  tells state key = told rules.nodes rules.rows state key

  -- the same words of the same keys tell the same of each
  tell_same : (word : ℕ) → Remembers rules a word → Remembers rules b word → a.last ≡ b.last → (key : ℕ) → tells a key ≡ tells b key
  tell_same word first second last key =
      let keys : List ℕ = keys_of rules.nodes rules.near rules.rows a.last in
      let moved : memory_of rules b ≡ map (tells b) keys =
      ap (λ (v : ℕ). map (tells b) (keys_of rules.nodes rules.near rules.rows v)) (sym last) in
      let bits : map (tells a) keys ≡ map (tells b) keys =
      same_bits (map (tells a) keys) (map (tells b) keys) (length-map keys (tells a) ∙ sym (length-map keys (tells b)))
      (sym first.is ∙ (second.is ∙ ap memory_word moved)) in
      elim (cases_Bool (has keys key)) [
        | inl there ↦ agrees (tells a) (tells b) keys key bits there
        | inr none ↦
            untold rules a word key first none
            ∙ sym (untold rules b word key second
            (ap (λ (v : ℕ). has (keys_of rules.nodes rules.near rules.rows v) key) (sym last) ∙ none))
      ]

  -- states that end with the same customer and the same word are the same
  pub same_by_words : (word : ℕ) → All (IsNode rules.nodes) (rules.near a.last) → Remembers rules a word → Remembers rules b word
      → a.load ≡ b.load → a.last ≡ b.last → AreSameStates rules a b
  same_by_words word nodes first second load last = record {
    load = load;
    last = last;
    seen = λ customer. elim (cases_lt rules.nodes customer) [
      | inl beyond ↦
          let none = not_beyond rules.nodes (rules.near a.last) customer (recursion_from_All (IsNode rules.nodes) (rules.near a.last) nodes) beyond in
          first.seen customer none
          ∙ sym (second.seen customer (ap (λ (v : ℕ). has (rules.near v) customer) (sym last) ∙ none))
      | inr node ↦
          sym (at_node rules.nodes rules.rows a customer node)
          ∙ (tell_same word first second last customer ∙ at_node rules.nodes rules.rows b customer node)
    ];
    odd = All-from_recursion (λ (priced : SubsetRow × ℤ). a.odd priced.0 ≡ b.odd priced.0) rules.rows
        (each_odd rules.rows a b (λ place.
        let key : ℕ = rules.nodes + 1 + place in
        let back : key - (rules.nodes + 1) ≡ place = omega arith in
        let beyond : rules.nodes < key = omega arith in
        sym (at_row rules.nodes rules.rows a key beyond ∙ ap (λ (k : ℕ). odd_at rules.rows k a) back)
        ∙ (tell_same word first second last key
        ∙ (at_row rules.nodes rules.rows b key beyond ∙ ap (λ (k : ℕ). odd_at rules.rows k b) back))));
  }

  -- the same states have the same memory
  pub same_memories : AreSameStates rules a b → memory_of rules a ≡ memory_of rules b
  same_memories same =
      let keys : List ℕ = keys_of rules.nodes rules.near rules.rows a.last in
      each keys
      ∙ ap (λ (v : ℕ). map (tells b) (keys_of rules.nodes rules.near rules.rows v)) same.last
    where
      tell : (key : ℕ) → tells a key ≡ tells b key
      tell key = elim (cases_lt rules.nodes key) [
        | inl beyond ↦
            at_row rules.nodes rules.rows a key beyond
            ∙ (odd_places rules.rows a b (key - (rules.nodes + 1))
            (recursion_from_All (λ (priced : SubsetRow × ℤ). a.odd priced.0 ≡ b.odd priced.0) rules.rows same.odd)
            ∙ sym (at_row rules.nodes rules.rows b key beyond))
        | inr node ↦
            at_node rules.nodes rules.rows a key node ∙ (same.seen key ∙ sym (at_node rules.nodes rules.rows b key node))
      ]

      each : (keys : List ℕ) → map (tells a) keys ≡ map (tells b) keys
      each [] = refl
      each (key ∷ keys) = ap₂ (λ (bit : Bool) (bits : List Bool). bit ∷ bits) (tell key) (each keys)

-- ---- as many kept states as entries

module _ (rules : RunRules) (limit : ℤ) where
  abbrev pub Met : PlacedEntry → Type 0
  Met p = IsEntryOf rules limit p.load p.last p.entry

  abbrev pub Apart : List ℕ → List ℕ → Type 0
  Apart a b = AreSameStates rules (end_state rules a) (end_state rules b) → ⊥

  -- the kept start of an entry
  pub record HasStart (p : PlacedEntry) (nodes : List ℕ) : Type 0 where
    pub kept : IsKeptStart rules limit nodes
    pub load : (end_state rules nodes).load ≡ p.load
    pub last : (end_state rules nodes).last ≡ p.last
    pub remembers : Remembers rules (end_state rules nodes) p.entry.word

  start_of : (p : PlacedEntry) → Met p → (nodes : List ℕ) × HasStart p nodes
  start_of p met =
      let start = starts_are_kept_starts rules limit p.last met.earlier met.start in (
        start.0,
        record {
          kept = start.1;
          load = ap (λ (s : RunState). s.load) (sym start.2) ∙ met.load_is;
          last = ap (λ (s : RunState). s.last) (sym start.2) ∙ last_is rules p.last met.earlier;
          remembers = subst (λ (s : RunState). Remembers rules s p.entry.word) start.2 met.remembers;
        },
      )

  -- entries that differ have starts that end in different states
  apart : (p q : PlacedEntry) (a b : List ℕ) → HasStart p a → HasStart q b → Differ p q → Apart a b
  apart p q a b first second differ same = differ
      (sym first.load ∙ (same.load ∙ second.load))
      (sym first.last ∙ (same.last ∙ second.last))
      (first.remembers.is ∙ (ap memory_word (same_memories rules (end_state rules a) (end_state rules b) same) ∙ sym second.remembers.is))

  starts_of : (flat : List PlacedEntry) → AllByRecursion Met flat → List (List ℕ)
  starts_of [] met = []
  starts_of (p ∷ flat) met = (start_of p met.0).0 ∷ starts_of flat met.1

  starts_long : (flat : List PlacedEntry) (met : AllByRecursion Met flat) → length (starts_of flat met) ≡ length flat
  unfolding starts_of
  starts_long [] met = refl
  starts_long (p ∷ flat) met = ap suc (starts_long flat met.1)

  starts_kept : (flat : List PlacedEntry) (met : AllByRecursion Met flat) → AllByRecursion (IsKeptStart rules limit) (starts_of flat met)
  unfolding starts_of
  starts_kept [] met = tt
  starts_kept (p ∷ flat) met = ((start_of p met.0).1.kept, starts_kept flat met.1)

  starts_apart : (flat : List PlacedEntry) (met : AllByRecursion Met flat) → Pairs Differ flat → Pairs Apart (starts_of flat met)
  unfolding starts_of
  starts_apart [] met pairs = tt
  starts_apart (p ∷ flat) met pairs = (from_one flat met.1 pairs.0, starts_apart flat met.1 pairs.1)
    where
      from_one : (others : List PlacedEntry) (all : AllByRecursion Met others) → AllByRecursion (Differ p) others
          → AllByRecursion (Apart (start_of p met.0).0) (starts_of others all)
      from_one [] all differ = tt
      from_one (q ∷ others) all differ = (
        apart p q (start_of p met.0).0 (start_of q all.0).0 (start_of p met.0).1 (start_of q all.0).1 differ.0,
        from_one others all.1 differ.1,
      )

  pairs_take : (xs : List (List ℕ)) (count : ℕ) → AllPairs Apart xs → AllPairs Apart (take count xs)
  pairs_take xs count pairs i j d less inside =
      let long = length-take count xs in
      subst (Apart (get_or (take count xs) i d)) (sym (get_or-take count xs j d (omega (arith, inside, long))))
      (subst (λ (a : List ℕ). Apart a (get_or xs j d)) (sym (get_or-take count xs i d (omega (arith, less, inside, long))))
      (pairs i j d less (omega (arith, inside, long))))

  -- so many entries show as many kept states
  pub many_states : (flat : List PlacedEntry) (count : ℕ) → AllByRecursion Met flat → Pairs Differ flat → count ≤ length flat
      → HasKeptStates rules limit count
  many_states flat count met pairs most =
      let starts : List (List ℕ) = starts_of flat met in
      let long = starts_long flat met in (
        take count starts,
        length-take-le count starts (omega (arith, most, long)),
        All-take (IsKeptStart rules limit) count starts (All-from_recursion (IsKeptStart rules limit) starts (starts_kept flat met)),
        pairs_take starts count (pairs_are Apart starts (starts_apart flat met pairs)),
      )

  -- ---- each kept start has an entry

  pub record FitsAt (flat : List PlacedEntry) (nodes : List ℕ) : Type 0 where
    pub place : ℕ
    pub own : PlacedEntry
    pub inside : place < length flat
    pub at : get_or flat place own ≡ own
    pub start : HasStart own nodes

  -- starts at the same place end in the same state
  fits_once : (flat : List PlacedEntry) (a b : List ℕ) → ((customer : ℕ) → IsNode rules.nodes customer → All (IsNode rules.nodes) (rules.near customer))
      → (first : FitsAt flat a) (second : FitsAt flat b) → IsNode rules.nodes first.own.last → first.place ≡ second.place
      → AreSameStates rules (end_state rules a) (end_state rules b)
  fits_once flat a b near first second node same =
      let moved : get_or flat first.place second.own ≡ second.own = ap (λ (k : ℕ). get_or flat k second.own) same ∙ second.at in
      let own : first.own ≡ second.own =
      sym first.at ∙ (get_or_default flat first.place first.own second.own first.inside ∙ moved) in
      same_by_words rules (end_state rules a) (end_state rules b) first.own.entry.word
      (subst (λ (v : ℕ). All (IsNode rules.nodes) (rules.near v)) (sym first.start.last) (near first.own.last node))
      first.start.remembers
      (subst (λ (p : PlacedEntry). Remembers rules (end_state rules b) p.entry.word) (sym own) second.start.remembers)
      (first.start.load ∙ (ap (λ (p : PlacedEntry). p.load) own ∙ sym second.start.load))
      (first.start.last ∙ (ap (λ (p : PlacedEntry). p.last) own ∙ sym second.start.last))

  pub record FitsIn (flat : List PlacedEntry) (nodes : List ℕ) : Type 0 where
    pub fits : FitsAt flat nodes
    pub node : IsNode rules.nodes fits.own.last

  places_of : (flat : List PlacedEntry) (starts : List (List ℕ)) → AllByRecursion (FitsIn flat) starts → List ℕ
  places_of flat [] all = []
  places_of flat (nodes ∷ starts) all = (all.0.fits.place + 1) ∷ places_of flat starts all.1

  places_long : (flat : List PlacedEntry) (starts : List (List ℕ)) (all : AllByRecursion (FitsIn flat) starts)
      → length (places_of flat starts all) ≡ length starts
  unfolding places_of
  places_long flat [] all = refl
  places_long flat (nodes ∷ starts) all = ap suc (places_long flat starts all.1)

  places_inside : (flat : List PlacedEntry) (starts : List (List ℕ)) (all : AllByRecursion (FitsIn flat) starts)
      → AllByRecursion (IsNode (length flat)) (places_of flat starts all)
  unfolding places_of
  places_inside flat [] all = tt
  places_inside flat (nodes ∷ starts) all =
      ((omega arith, (let lt = all.0.fits.inside in omega (arith, lt))), places_inside flat starts all.1)

  places_apart : (flat : List PlacedEntry) (starts : List (List ℕ)) (all : AllByRecursion (FitsIn flat) starts)
      → ((customer : ℕ) → IsNode rules.nodes customer → All (IsNode rules.nodes) (rules.near customer))
      → Pairs Apart starts → Pairs (λ (a b : ℕ). a ≢ b) (places_of flat starts all)
  unfolding places_of
  places_apart flat [] all near pairs = tt
  places_apart flat (nodes ∷ starts) all near pairs = (from_one starts all.1 pairs.0, places_apart flat starts all.1 near pairs.1)
    where
      from_one : (others : List (List ℕ)) (rest : AllByRecursion (FitsIn flat) others) → AllByRecursion (Apart nodes) others
          → AllByRecursion (λ (b : ℕ). all.0.fits.place + 1 ≢ b) (places_of flat others rest)
      from_one [] rest differ = tt
      from_one (other ∷ others) rest differ = (
        λ same. differ.0 (fits_once flat nodes other near all.0.fits rest.0.fits all.0.node (omega (arith, same))),
        from_one others rest.1 differ.1,
      )

  -- no more states than entries
  pub few_states : (flat : List PlacedEntry) (count : ℕ)
      → ((customer : ℕ) → IsNode rules.nodes customer → All (IsNode rules.nodes) (rules.near customer))
      → ((nodes : List ℕ) → IsKeptStart rules limit nodes → FitsIn flat nodes) → length flat < count → HasKeptStates rules limit count → ⊥
  few_states flat count near fits less states =
      let starts : List (List ℕ) = states.0 in
      let all = each starts (recursion_from_All (IsKeptStart rules limit) starts states.2) in
      let places : List ℕ = places_of flat starts all in
      let once : HasEachOnce places = pairs_are (λ (a b : ℕ). a ≢ b) places
      (places_apart flat starts all near (pairs_from Apart starts states.3)) in
      let most = few_customers (length flat) 0 places
      (All-from_recursion (IsNode (length flat)) places (places_inside flat starts all)) once in
      let long = places_long flat starts all in
      let many = states.1 in
      omega (arith, most, long, many, less)
    where
      each : (starts : List (List ℕ)) → AllByRecursion (IsKeptStart rules limit) starts → AllByRecursion (FitsIn flat) starts
      each [] all = tt
      each (nodes ∷ starts) all = (fits nodes all.0, each starts all.1)

  -- ---- the lists of code

  -- a table of all loads, and as many entries as are allowed
  pub table_few : (table : List (Vec (Vec KeptState))) (count : ℕ)
      → ((customer : ℕ) → IsNode rules.nodes customer → All (IsNode rules.nodes) (rules.near customer))
      → AreStateRows rules limit table → length table ≡ rules.room + 1
      → ((load : ℕ) → load < length table → length (item_lists (get_or (item_lists table) load [])) ≡ rules.nodes + 1)
      → entry_count table < count → HasKeptStates rules limit count → ⊥
  table_few table count near rows long places less states =
      few_states (flat_rows 0 table) count near fits (let whole = flat_rows_long 0 table in omega (arith, whole, less)) states
    where
      fits : (nodes : List ℕ) → IsKeptStart rules limit nodes → FitsIn (flat_rows 0 table) nodes
      fits nodes kept =
          let start = kept_starts_are_starts rules limit nodes kept in
          let last : ℕ = start.0 in
          let earlier : List ℕ = start.1 in
          let state = start_state rules last earlier in
          let serves = last_serves rules limit last earlier start.2 in
          let lt : state.load < length table = let fits = within_room rules limit last earlier start.2 in omega (arith, fits, long) in
          let covers = (rows state.load lt last).covers earlier start.2 refl in
          let wide = places state.load lt in
          let there = rows_there 0 table state.load last covers.entry lt (omega (arith, wide, serves.0.1)) covers.there in
          record {
            fits = record {
              place = there.0;
              own = record { load = 0 + state.load; last = last; entry = covers.entry };
              inside = there.1;
              at = there.2;
              start = record {
                kept = kept;
                load = ap (λ (s : RunState). s.load) (sym start.3) ∙ (let same : state.load ≡ 0 + state.load = omega arith in same);
                last = ap (λ (s : RunState). s.last) (sym start.3) ∙ last_is rules last earlier;
                remembers = subst (λ (s : RunState). Remembers rules s covers.entry.word) start.3 covers.remembers;
              };
            };
            node = serves.0;
          }

  -- a table of some loads and the first lists of the next one, and more entries than are allowed
  pub table_many : (table : List (Vec (Vec KeptState))) (lists : List (List KeptState)) (count : ℕ)
      → AreStateRows rules limit table → AreRisingRows table
      → ((last : ℕ) → last < length lists → IsKeptList rules limit (length table) last (get_or lists last [])) → AreRisingLists lists
      → count ≤ entry_count table + count_in_lists lists → HasKeptStates rules limit count
  table_many table lists count rows rising last_row last_rising most =
      let flat : List PlacedEntry = flat_rows 0 table ++ flat_lists (0 + length table) 0 lists in
      let whole = length-append (flat_rows 0 table) (flat_lists (0 + length table) 0 lists) in
      let first = flat_rows_long 0 table in
      let second = flat_lists_long (0 + length table) 0 lists in
      many_states flat count
      (all_rows_and Met 0 table lists
      (all_rows Met 0 table (λ k lt last inside.
      subst (λ (q : ℕ). All (λ (entry : KeptState). IsEntryOf rules limit q last entry) (list_in table k last))
      (let same : k ≡ 0 + k = omega arith in same) (rows k lt last).met))
      (all_lists Met (0 + length table) 0 lists (λ k lt.
      subst (λ (v : ℕ). All (λ (entry : KeptState). IsEntryOf rules limit (0 + length table) v entry) (get_or lists k []))
      (let same : k ≡ 0 + k = omega arith in same)
      (subst (λ (q : ℕ). All (λ (entry : KeptState). IsEntryOf rules limit q k entry) (get_or lists k []))
      (let same : length table ≡ 0 + length table = omega arith in same) (last_row k lt).met))))
      (rows_and_differ 0 table lists (λ k lt last inside. rising k lt last inside) last_rising)
      (omega (arith, whole, first, second, most))

-- ---- one list more, and one row more

pub list_count_pushed : (lists : List (Vec KeptState)) (own : Vec KeptState)
    → count_in_lists (item_lists (lists ++ own ∷ [])) ≡ count_in_lists (item_lists lists) + length own.items
list_count_pushed [] own = omega arith
list_count_pushed (list ∷ lists) own = let rest = list_count_pushed lists own in omega (arith, rest)

pub entry_count_pushed : (table : List (Vec (Vec KeptState))) (own : Vec (Vec KeptState))
    → entry_count (table ++ own ∷ []) ≡ entry_count table + count_in_lists (item_lists own.items)
entry_count_pushed [] own = omega arith
entry_count_pushed (row ∷ rows) own = let rest = entry_count_pushed rows own in omega (arith, rest)

pub rising_lists : (lists : List (Vec KeptState)) (own : Vec KeptState) → AreRisingLists (item_lists lists) → AreRising own.items
    → AreRisingLists (item_lists (lists ++ own ∷ []))
rising_lists lists own rising last_rising last lt =
    let wide = length-map (lists ++ own ∷ []) (λ (v : Vec KeptState). v.items) in
    let long = length-map lists (λ (v : Vec KeptState). v.items) in
    rows_pushed (λ (k : ℕ) (xs : List KeptState). AreRising xs) lists own (λ k less. rising k (omega (arith, less, long))) last_rising last
    (omega (arith, lt, wide))
