-- For src/memories.rt: the keys, places and tables that are made of a certificate's lists and rows are those of the
-- rules, whatever the rows charge.
use Rattle.std.proofs.Math.ListN.{set}
use Rattle.std.proofs.lemmas.List.Folds.{list_any-append}
use Rattle.tsp_format.specs.Steps.{SubsetRow}
use Rattle.tsp_format.specs.declared.steps.RowSets.{RowSets}
use Rattle.tsp_format.specs.states.TreeSteps.{subset_row_of}
use Rattle.tsp_routing.proofs.Prelude.{◌≡◌, ◌≢◌, ℕ, zero, suc, ◌+◌, ◌-◌, ◌≤◌, ◌<◌, ◌==◌, Bool, true, false, List, [], ◌∷◌, ◌++◌, map, take, drop, length, get_or, refl, sym, ap, ap₂, ◌∙◌, subst, arith, inl, inr, if◌then◌else◌, nat_le, ℤ, All, AllByRecursion, false≢true, cases_eq, or_from, ne_eqb, lt-leb, le-leb, append_assoc, map-append, drop_more, take_more, length-take-le, get_or_at, get_or_append_left, get_or-set_same, get_or-set_other, length-append, recursion_from_All, All-from_recursion, All-append, IsNode, has, Vec, length-map, map_push, get_or_push, length_push, take_all, All-weaker, most_nodes}
use Rattle.tsp_routing.specs.Memories.{row_keys, keys_of, in_row, is_member_of, AreMemories}
use Rattle.tsp_routing.specs.Runs.{keeps}
use Rattle.tsp_routing.specs.declared.memories.MemoryKey.{MemoryKey}
use Rattle.tsp_routing.specs.states.MemoryTables.{IsKeyIn, IsKeyPlace, free_rows, key_of_node, kept_keys, AreKeysOf, keys_in, key_places_in, key_place_in, AreMemoryTables, AreMemoriesOf, ArePlacesTo, AreTablesTo}
use Rattle.tsp_routing.specs.states.RunTables.{item_lists, rules_by}

-- ---- keys

near_keys_are : (near : List ℕ) → map (λ (key : MemoryKey). key.key) (map key_of_node near) ≡ near
near_keys_are [] = refl
near_keys_are (customer ∷ near) = ap (λ (keys : List ℕ). customer ∷ keys) (near_keys_are near)

kept_keys_are : (key : ℕ) (rows : List RowSets) (customer : ℕ)
    → map (λ (it : MemoryKey). it.key) (kept_keys key rows customer) ≡ row_keys key (free_rows rows) customer
kept_keys_are key [] customer = refl
kept_keys_are key (row ∷ rows) customer = at (keeps (subset_row_of row) customer) (kept_keys_are (key + 1) rows customer)
  where
    at : (b : Bool) → map (λ (it : MemoryKey). it.key) (kept_keys (key + 1) rows customer) ≡ row_keys (key + 1) (free_rows rows) customer
        → map (λ (it : MemoryKey). it.key)
        (if b then record { key = key; is_member = has row.set.items customer } ∷ kept_keys (key + 1) rows customer
        else kept_keys (key + 1) rows customer)
        ≡ (if b then key ∷ row_keys (key + 1) (free_rows rows) customer else row_keys (key + 1) (free_rows rows) customer)
    at true rest = ap (λ (keys : List ℕ). key ∷ keys) rest
    at false rest = rest

near_members : (nodes : ℕ) (rows : List RowSets) (customer : ℕ) (near : List ℕ) → AllByRecursion (IsNode nodes) near
    → AllByRecursion (λ (key : MemoryKey). key.is_member ≡ is_member_of nodes (free_rows rows) customer key.key) (map key_of_node near)
near_members nodes rows customer [] all = tt
near_members nodes rows customer (other ∷ near) all = (
  sym (ap (λ (b : Bool). if b then false else in_row (free_rows rows) (other - (nodes + 1)) customer) (le-leb other nodes all.0.1)),
  near_members nodes rows customer near all.1,
)

kept_members : (f : ℕ → Bool) (base : ℕ) (rows : List RowSets) (customer : ℕ)
    → ((place : ℕ) → f (base + place) ≡ in_row (free_rows rows) place customer)
    → AllByRecursion (λ (key : MemoryKey). key.is_member ≡ f key.key) (kept_keys base rows customer)
kept_members f base [] customer each = tt
kept_members f base (row ∷ rows) customer each =
    at (keeps (subset_row_of row) customer) (kept_members f (base + 1) rows customer (λ place. ap f (omega arith) ∙ each (suc place)))
  where
    own : has row.set.items customer ≡ f base
    own = sym (each 0) ∙ ap f (omega arith)

    at : (b : Bool) → AllByRecursion (λ (key : MemoryKey). key.is_member ≡ f key.key) (kept_keys (base + 1) rows customer)
        → AllByRecursion (λ (key : MemoryKey). key.is_member ≡ f key.key)
        (if b then record { key = base; is_member = has row.set.items customer } ∷ kept_keys (base + 1) rows customer
        else kept_keys (base + 1) rows customer)
    at true rest = (own, rest)
    at false rest = rest

near_in_range : (nodes count : ℕ) (near : List ℕ) → AllByRecursion (IsNode nodes) near
    → AllByRecursion (IsKeyIn nodes count) (map key_of_node near)
near_in_range nodes count [] all = tt
near_in_range nodes count (other ∷ near) all = (
  record { most = let le = all.0.1 in omega (arith, le); row = λ is. absurd (false≢true is) },
  near_in_range nodes count near all.1,
)

kept_in_range : (nodes last base : ℕ) (rows : List RowSets) (customer : ℕ) → nodes < base → base + length rows ≤ nodes + last + 1
    → AllByRecursion (IsKeyIn nodes last) (kept_keys base rows customer)
kept_in_range nodes last base [] customer beyond fits = tt
kept_in_range nodes last base (row ∷ rows) customer beyond fits =
    at (keeps (subset_row_of row) customer) (kept_in_range nodes last (base + 1) rows customer (omega (arith, beyond)) (omega (arith, fits)))
  where
    at : (b : Bool) → AllByRecursion (IsKeyIn nodes last) (kept_keys (base + 1) rows customer)
        → AllByRecursion (IsKeyIn nodes last)
        (if b then record { key = base; is_member = has row.set.items customer } ∷ kept_keys (base + 1) rows customer
        else kept_keys (base + 1) rows customer)
    at true rest = (record { most = omega (arith, fits); row = λ is. beyond }, rest)
    at false rest = rest

-- all keys of a customer
pub all_keys : (nodes : ℕ) (lists : ℕ → List ℕ) (near : List ℕ) (rows : List RowSets) (customer : ℕ) (keys : List MemoryKey)
    → lists customer ≡ near → All (IsNode nodes) near → keys ≡ map key_of_node near ++ kept_keys (nodes + 1) rows customer
    → AreKeysOf nodes lists rows customer keys
all_keys nodes lists near rows customer keys same all is =
    let first : List MemoryKey = map key_of_node near in
    let later : List MemoryKey = kept_keys (nodes + 1) rows customer in
    let f : ℕ → Bool = is_member_of nodes (free_rows rows) customer in
    let nodes_are = recursion_from_All (IsNode nodes) near all in
    record {
      keys_are = ap (λ (xs : List MemoryKey). map (λ (key : MemoryKey). key.key) xs) is
          ∙ (map-append (λ (key : MemoryKey). key.key) first later
          ∙ ap₂ (λ (xs ys : List ℕ). xs ++ ys) (near_keys_are near ∙ sym same) (kept_keys_are (nodes + 1) rows customer));
      members_are = subst (All (λ (key : MemoryKey). key.is_member ≡ f key.key)) (sym is)
          (All-append (λ (key : MemoryKey). key.is_member ≡ f key.key) first later
          (All-from_recursion (λ (key : MemoryKey). key.is_member ≡ f key.key) first (near_members nodes rows customer near nodes_are))
          (All-from_recursion (λ (key : MemoryKey). key.is_member ≡ f key.key) later (kept_members f (nodes + 1) rows customer (member_at nodes rows customer))));
      are = subst (All (IsKeyIn nodes (length rows))) (sym is)
          (All-append (IsKeyIn nodes (length rows)) first later
          (All-from_recursion (IsKeyIn nodes (length rows)) first (near_in_range nodes (length rows) near nodes_are))
          (All-from_recursion (IsKeyIn nodes (length rows)) later
          (kept_in_range nodes (length rows) (nodes + 1) rows customer (omega arith) (omega arith))));
    }
  where
    member_at : (nodes : ℕ) (rows : List RowSets) (customer place : ℕ)
        → is_member_of nodes (free_rows rows) customer (nodes + 1 + place) ≡ in_row (free_rows rows) place customer
    member_at nodes rows customer place =
        let at : nodes + 1 + place - (nodes + 1) ≡ place = omega arith in
        ap (λ (b : Bool). if b then false else in_row (free_rows rows) (nodes + 1 + place - (nodes + 1)) customer)
        (lt-leb (nodes + 1 + place) nodes (omega arith))
        ∙ ap (λ (k : ℕ). in_row (free_rows rows) k customer) at

-- ---- places

has_not : (keys : List ℕ) (last key : ℕ) → has keys key ≡ false → last ≢ key → has (keys ++ last ∷ []) key ≡ false
has_not keys last key none other =
    list_any-append (λ (it : ℕ). it == key) keys (last ∷ [])
    ∙ or_from (has keys key) (has (last ∷ []) key) none (or_from (last == key) false (ne_eqb last key other) refl)

-- one key more has its place
pub place_goes_on : (list places : List ℕ) (index key last : ℕ) → index < length list → last ≡ get_or list index 0
    → last < length places → IsKeyPlace (take index list) (get_or places key 64) key
    → IsKeyPlace (take (index + 1) list) (get_or (set places last index) key 64) key
place_goes_on list places index key last lt is inside before =
    subst (λ (keys : List ℕ). IsKeyPlace keys (get_or (set places last index) key 64) key) (sym (take_more list index 0 lt))
    (subst (λ (k : ℕ). IsKeyPlace (take index list ++ k ∷ []) (get_or (set places last index) key 64) key) is
    (elim (cases_eq key last) [
      | inl same ↦
          subst (λ (place : ℕ). IsKeyPlace (take index list ++ last ∷ []) place key)
          (sym (ap (λ (k : ℕ). get_or (set places last index) k 64) same ∙ get_or-set_same places last index 64 inside))
          (inr (omega (arith, more, long), get_or_at (take index list) last [] 0 index long ∙ sym same))
      | inr other ↦
          subst (λ (place : ℕ). IsKeyPlace (take index list ++ last ∷ []) place key) (sym (get_or-set_other places last key index 64 other))
          (elim before [
            | inl none ↦ inl (none.0, has_not (take index list) last key none.1 (λ same. other (sym same)))
            | inr there ↦
                let less = there.0 in
                inr (omega (arith, more, less), get_or_append_left (take index list) (last ∷ []) 0 (get_or places key 64) less ∙ there.1)
          ])
    ]))
  where
    long : length (take index list) ≡ index
    long = length-take-le index list (omega (arith, lt))

    more : length (take index list ++ last ∷ []) ≡ length (take index list) + 1
    more = length-append (take index list) (last ∷ [])

-- ---- lists of keys while they are made

-- one customer more
pub near_pushed : (keys new whole : List MemoryKey) (near : List ℕ) (index : ℕ) → index < length near
    → new ≡ keys ++ key_of_node (get_or near index 0) ∷ [] → keys ++ map key_of_node (drop index near) ≡ whole
    → new ++ map key_of_node (drop (index + 1) near) ≡ whole
near_pushed keys new whole near index lt is before =
    let own : MemoryKey = key_of_node (get_or near index 0) in
    let rest : List MemoryKey = map key_of_node (drop (index + 1) near) in
    let split : map key_of_node (drop index near) ≡ own ∷ rest = ap (λ (xs : List ℕ). map key_of_node xs) (drop_more near index 0 lt) in
    ap (λ (xs : List MemoryKey). xs ++ rest) is
    ∙ (append_assoc keys (own ∷ []) rest
    ∙ (sym (ap (λ (xs : List MemoryKey). keys ++ xs) split) ∙ before))

-- a row that the customer doesn't keep, and one that it keeps
pub not_kept : (key : ℕ) (row : RowSets) (customer : ℕ) → keeps (subset_row_of row) customer ≡ false → kept_keys key (row ∷ []) customer ≡ []
not_kept key row customer out =
    ap (λ (b : Bool). if b then record { key = key; is_member = has row.set.items customer } ∷ [] else []) out

pub is_kept : (key : ℕ) (row : RowSets) (customer : ℕ) → keeps (subset_row_of row) customer ≡ true
    → kept_keys key (row ∷ []) customer ≡ record { key = key; is_member = has row.set.items customer } ∷ []
is_kept key row customer kept =
    ap (λ (b : Bool). if b then record { key = key; is_member = has row.set.items customer } ∷ [] else []) kept

-- ---- tables, one list more

list_before : {X : Type 0} (table : List (Vec X)) (own : Vec X) (k : ℕ) → k < length table
    → get_or (item_lists (table ++ own ∷ [])) k [] ≡ get_or (item_lists table) k []
list_before {X} table own k lt =
    let long = length-map table (λ (v : Vec X). v.items) in
    ap (λ (xs : List (List X)). get_or xs k []) (map_push (λ (v : Vec X). v.items) table own)
    ∙ get_or_append_left (item_lists table) (own.items ∷ []) [] k (omega (arith, lt, long))

list_last : {X : Type 0} (table : List (Vec X)) (own : Vec X) → get_or (item_lists (table ++ own ∷ [])) (length table) [] ≡ own.items
list_last {X} table own =
    ap (λ (xs : List (List X)). get_or xs (length table) []) (map_push (λ (v : Vec X). v.items) table own)
    ∙ get_or_push (item_lists table) own.items [] (length table) (length-map table (λ (v : Vec X). v.items))

pub tables_pushed : (nodes : ℕ) (near : ℕ → List ℕ) (rows : List RowSets) (keys : List (Vec MemoryKey)) (places : List (Vec ℕ))
    (own : Vec MemoryKey) (own_places : Vec ℕ) → AreKeysOf nodes near rows (length keys) own.items
    → ArePlacesTo (map (λ (key : MemoryKey). key.key) own.items) (length own.items) (nodes + length rows) own_places.items
    → AreTablesTo nodes near rows keys places → AreTablesTo nodes near rows (keys ++ own ∷ []) (places ++ own_places ∷ [])
tables_pushed nodes near rows keys places own own_places keyed placed h = record {
  as_many = length_push places own_places ∙ (ap (λ (n : ℕ). n + 1) h.as_many ∙ sym (length_push keys own));
  keys_are = λ node some lt. elim (cases_eq node (length keys)) [
    | inl same ↦
        subst (λ (k : ℕ). AreKeysOf nodes near rows k (get_or (item_lists (keys ++ own ∷ [])) k [])) (sym same)
        (subst (AreKeysOf nodes near rows (length keys)) (sym (list_last keys own)) keyed)
    | inr other ↦
        let before : node < length keys = let long = length_push keys own in omega (arith, lt, long, other) in
        subst (AreKeysOf nodes near rows node) (sym (list_before keys own node before)) (h.keys_are node some before)
  ];
  places_are = λ node some lt. elim (cases_eq node (length keys)) [
    | inl same ↦
        let at : node ≡ length places = same ∙ sym h.as_many in
        subst (P (keys_in (keys ++ own ∷ []) node)) (sym (ap (λ (k : ℕ). get_or (item_lists (places ++ own_places ∷ [])) k []) at
        ∙ list_last places own_places))
        (subst (λ (xs : List MemoryKey). P xs own_places.items) (sym (ap (λ (k : ℕ). get_or (item_lists (keys ++ own ∷ [])) k []) same
        ∙ list_last keys own)) placed)
    | inr other ↦
        let before : node < length keys = let long = length_push keys own in omega (arith, lt, long, other) in
        let there : node < length places = let many = h.as_many in omega (arith, before, many) in
        subst (P (keys_in (keys ++ own ∷ []) node)) (sym (list_before places own_places node there))
        (subst (λ (xs : List MemoryKey). P xs (key_places_in places node)) (sym (list_before keys own node before)) (h.places_are node some before))
  ];
}
  where
    P : List MemoryKey → List ℕ → Type 0
    P xs ys = ArePlacesTo (map (λ (key : MemoryKey). key.key) xs) (length xs) (nodes + length rows) ys

-- ---- rows with the same sets have the same keys

sets_keys : ℕ → List SubsetRow → ℕ → List ℕ
sets_keys key [] customer = []
sets_keys key (row ∷ rows) customer = if keeps row customer then key ∷ sets_keys (key + 1) rows customer else sets_keys (key + 1) rows customer

in_sets : List SubsetRow → ℕ → ℕ → Bool
in_sets [] place customer = false
in_sets (row ∷ rows) zero customer = has row.set customer
in_sets (row ∷ rows) (suc place) customer = in_sets rows place customer

by_sets : (key : ℕ) (rows : List (SubsetRow × ℤ)) (customer : ℕ)
    → row_keys key rows customer ≡ sets_keys key (map (λ (row : SubsetRow × ℤ). row.0) rows) customer
unfolding sets_keys
by_sets key [] customer = refl
by_sets key (row ∷ rows) customer =
    ap (λ (keys : List ℕ). if keeps row.0 customer then key ∷ keys else keys) (by_sets (key + 1) rows customer)

in_by_sets : (rows : List (SubsetRow × ℤ)) (place customer : ℕ)
    → in_row rows place customer ≡ in_sets (map (λ (row : SubsetRow × ℤ). row.0) rows) place customer
unfolding in_sets
in_by_sets [] place customer = refl
in_by_sets (row ∷ rows) zero customer = refl
in_by_sets (row ∷ rows) (suc place) customer = in_by_sets rows place customer

free_sets : (rows : List RowSets) → map (λ (row : SubsetRow × ℤ). row.0) (free_rows rows) ≡ map subset_row_of rows
free_sets [] = refl
free_sets (row ∷ rows) = ap (λ (sets : List SubsetRow). subset_row_of row ∷ sets) (free_sets rows)

module _ (nodes : ℕ) (near : ℕ → List ℕ) (rows : List RowSets) (priced : List (SubsetRow × ℤ))
    (same : map (λ (row : SubsetRow × ℤ). row.0) priced ≡ map subset_row_of rows) where
  same_sets : map (λ (row : SubsetRow × ℤ). row.0) (free_rows rows) ≡ map (λ (row : SubsetRow × ℤ). row.0) priced
  same_sets = free_sets rows ∙ sym same

  same_keys : (customer : ℕ) → keys_of nodes near (free_rows rows) customer ≡ keys_of nodes near priced customer
  same_keys customer = ap (λ (keys : List ℕ). near customer ++ keys)
      (by_sets (nodes + 1) (free_rows rows) customer
      ∙ (ap (λ (sets : List SubsetRow). sets_keys (nodes + 1) sets customer) same_sets ∙ sym (by_sets (nodes + 1) priced customer)))

  same_members : (customer key : ℕ) → is_member_of nodes (free_rows rows) customer key ≡ is_member_of nodes priced customer key
  same_members customer key = ap (λ (b : Bool). if nat_le key nodes then false else b)
      (in_by_sets (free_rows rows) (key - (nodes + 1)) customer
      ∙ (ap (λ (sets : List SubsetRow). in_sets sets (key - (nodes + 1)) customer) same_sets ∙ sym (in_by_sets priced (key - (nodes + 1)) customer)))

  -- ---- all tables

  pub memories_are : (depot : ℕ) (loads : List ℕ) (room : ℕ) (links : List (Vec ℤ)) (keys : List (Vec MemoryKey)) (places : List (Vec ℕ))
      → AreMemories nodes near (free_rows rows) → AreTablesTo nodes near rows keys places → length keys ≡ nodes + 1
      → AreMemoriesOf (rules_by nodes depot loads room links near priced) (length rows) keys places
  memories_are depot loads room links keys places given h long = record {
    near = given.nodes_are;
    many = sym (length-map priced (λ (row : SubsetRow × ℤ). row.0))
        ∙ (ap (λ (sets : List SubsetRow). length sets) same ∙ length-map rows subset_row_of);
    keys_are = λ node there. (h.keys_are node there.0 (omega (arith, there.1, long))).keys_are ∙ same_keys node;
    members_are = λ node there.
        All-weaker (λ (key : MemoryKey). key.is_member ≡ is_member_of nodes (free_rows rows) node key.key)
        (λ (key : MemoryKey). key.is_member ≡ is_member_of nodes priced node key.key)
        (λ key is. is ∙ same_members node key.key) (keys_in keys node) (h.keys_are node there.0 (omega (arith, there.1, long))).members_are;
    places_are = λ node key there most.
        let own : List MemoryKey = keys_in keys node in
        let list : List ℕ = map (λ (it : MemoryKey). it.key) own in
        let all : take (length own) list ≡ list = take_all (length own) list
        (let as_long = length-map own (λ (it : MemoryKey). it.key) in omega (arith, as_long)) in
        subst (λ (ks : List ℕ). IsKeyPlace ks (key_place_in places node key) key)
        (all ∙ ((h.keys_are node there.0 (omega (arith, there.1, long))).keys_are ∙ same_keys node))
        ((h.places_are node there.0 (omega (arith, there.1, long))).each key most);
  }

-- as many keys as are allowed
pub few_keys : (nodes : ℕ) (near : ℕ → List ℕ) (rows : List RowSets) (customer : ℕ) (keys : List MemoryKey)
    → AreMemories nodes near (free_rows rows) → IsNode nodes customer → AreKeysOf nodes near rows customer keys → length keys ≤ 64
few_keys nodes near rows customer keys given there h =
    let few = given.few customer there in
    let same = ap (λ (ks : List ℕ). length ks) h.keys_are in
    let long = length-map keys (λ (key : MemoryKey). key.key) in
    omega (arith, few, same, long)

pub tables_are : (nodes : ℕ) (near : ℕ → List ℕ) (rows : List RowSets) (keys : List (Vec MemoryKey)) (places : List (Vec ℕ))
    → nodes ≤ most_nodes → length rows ≤ 10000 → AreMemories nodes near (free_rows rows) → AreTablesTo nodes near rows keys places
    → length keys ≡ nodes + 1 → AreMemoryTables nodes (length rows) keys places
tables_are nodes near rows keys places few_nodes few_rows given h long = record {
  few_nodes = few_nodes;
  few_rows = few_rows;
  lists = long;
  few = λ node there. few_keys nodes near rows node (keys_in keys node) given there (h.keys_are node there.0 (omega (arith, there.1, long)));
  are = λ node there. (h.keys_are node there.0 (omega (arith, there.1, long))).are;
  place_lists = h.as_many ∙ long;
  long = λ node there. (h.places_are node there.0 (omega (arith, there.1, long))).long;
}
