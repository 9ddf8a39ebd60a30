-- For src/judged_memory.rt: the lists of MEMORY_SECTION and the subset rows, judged one after the other up to the first
-- bad one. At the top, lemmas on which nodes a list has.
use Rattle.tsp_routing.proofs.Prelude.{◌≡◌, ℕ, zero, suc, ◌+◌, ◌-◌, ◌≤◌, ◌<◌, ◌==◌, ◌||◌, Bool, true, false, not, List, [], ◌∷◌, ◌++◌, map, take, drop, length, get_or, refl, sym, ap, ◌∙◌, subst, arith, inl, inr, drop_more, append_assoc, take_more, cases_eq, cases_Bool, both_ways, false≢true, eqb-true, eq-eqb, ne_eqb, if◌then◌else◌, get_or-set_same, get_or-set_other, get_or-map, length-map, length-set, replicate, length-replicate, get_or-replicate, ap₂, Vec, All, All-append, recursion_from_All, IsNode, IsCustomer, HasEachOnce, has}
use Rattle.std.specs.Prelude.{slice_set}
use Rattle.std.proofs.lemmas.List.{length-take, get_or-take}
use Rattle.tsp_cases.specs.states.GoodFamilies.{AreUnmarked, AreMarked}
use Rattle.tsp_routing.specs.Runs.{keeps}
use Rattle.tsp_format.specs.Steps.{SubsetRow}
use Rattle.tsp_routing.specs.RunTrees.{owner_of, near_of, IsGoodList, IsFirstBadList, IsGoodRow, row_at, IsFirstBadRow, rows_kept}
use Rattle.tsp_routing.specs.states.MemoryTables.{near_in}
use Rattle.tsp_format.specs.states.TreeSteps.{subset_row_of}
use Rattle.tsp_routing.specs.states.JudgedMemory.{AreListsOf, AreRowsOf, AreOwners}
use Rattle.tsp_format.specs.declared.steps.RowSets.{RowSets}
use Rattle.tsp_routing.specs.states.RunTables.{item_lists}
use Rattle.tsp_routing.proofs.CutNeeds.{no_depot}

-- one node more
pub nodes_pushed : (done new whole : List ℕ) (xs : List ℕ) (index : ℕ) → index < length xs → new ≡ done ++ get_or xs index 0 ∷ []
    → done ++ drop index xs ≡ whole → new ++ drop (index + 1) xs ≡ whole
nodes_pushed done new whole xs index lt is before =
    let own : ℕ = get_or xs index 0 in
    let rest : List ℕ = drop (index + 1) xs in
    ap (λ (ys : List ℕ). ys ++ rest) is
    ∙ (append_assoc done (own ∷ []) rest
    ∙ (sym (ap (λ (ys : List ℕ). done ++ ys) (drop_more xs index 0 lt)) ∙ before))

-- ---- which nodes a list has

has_found : (xs : List ℕ) (y : ℕ) → has xs y ≡ true → (k : ℕ) × (k < length xs) × (get_or xs k 0 ≡ y)
has_found [] y there = absurd (false≢true there)
has_found (x ∷ xs) y there = elim (cases_Bool (x == y)) [
  | inl it ↦ (0, omega arith, eqb-true x y it)
  | inr other ↦
      let rest = has_found xs y (sym (ap (λ (b : Bool). b || has xs y) other) ∙ there) in
      (suc rest.0, omega (arith, rest.1), rest.2)
]

has_it : (xs : List ℕ) (x : ℕ) → has (xs ++ x ∷ []) x ≡ true
has_it [] x = ap (λ (b : Bool). b || false) (eq-eqb x x refl)
has_it (y ∷ xs) x = elim (cases_Bool (y == x)) [
  | inl it ↦ ap (λ (b : Bool). b || has (xs ++ x ∷ []) x) it
  | inr other ↦ ap (λ (b : Bool). b || has (xs ++ x ∷ []) x) other ∙ has_it xs x
]

has_other : (xs : List ℕ) (x y : ℕ) → (x == y) ≡ false → has (xs ++ x ∷ []) y ≡ has xs y
has_other [] x y other = ap (λ (b : Bool). b || false) other
has_other (z ∷ xs) x y other = ap (λ (b : Bool). (z == y) || b) (has_other xs x y other)

pub has_both : (xs ys : List ℕ) (y : ℕ) → has (xs ++ ys) y ≡ (has xs y || has ys y)
has_both [] ys y = refl
has_both (x ∷ xs) ys y = elim (cases_Bool (x == y)) [
  | inl it ↦ ap (λ (b : Bool). b || has (xs ++ ys) y) it ∙ sym (ap (λ (b : Bool). (b || has xs y) || has ys y) it)
  | inr other ↦
      ap (λ (b : Bool). b || has (xs ++ ys) y) other
      ∙ (has_both xs ys y ∙ sym (ap (λ (b : Bool). (b || has xs y) || has ys y) other))
]

none_before : (nodes : List ℕ) (index : ℕ) → index < length nodes → HasEachOnce nodes → has (take index nodes) (get_or nodes index 0) ≡ false
none_before nodes index lt once = elim (cases_Bool (has (take index nodes) (get_or nodes index 0))) [
  | inl there ↦
      let found = has_found (take index nodes) (get_or nodes index 0) there in
      let long = length-take index nodes in
      let less : found.0 < index = let inside = found.1 in omega (arith, inside, long, lt) in
      absurd (once found.0 index 0 less lt (sym (get_or-take index nodes found.0 0 less) ∙ found.2))
  | inr none ↦ none
]

-- one more is counted
pub ones_more : (counts old nodes : List ℕ) (index : ℕ) → index < length nodes → HasEachOnce nodes → get_or nodes index 0 < length counts
    → ((node : ℕ) → get_or counts node 0 ≡ (if has (take index nodes) node then 1 else 0) + get_or old node 0)
    → (node : ℕ) → get_or (slice_set counts (get_or nodes index 0) (get_or counts (get_or nodes index 0) 0 + 1)) node 0
    ≡ (if has (take (index + 1) nodes) node then 1 else 0) + get_or old node 0
ones_more counts old nodes index lt once inside counted node =
    let own : ℕ = get_or nodes index 0 in
    let whole : take (index + 1) nodes ≡ take index nodes ++ own ∷ [] = take_more nodes index 0 lt in
    elim (cases_eq node own) [
      | inl same ↦
          let here : get_or (slice_set counts own (get_or counts own 0 + 1)) node 0 ≡ get_or counts own 0 + 1 =
          ap (λ (k : ℕ). get_or (slice_set counts own (get_or counts own 0 + 1)) k 0) same
          ∙ get_or-set_same counts own (get_or counts own 0 + 1) 0 inside in
          let before = counted own ∙ ap (λ (b : Bool). (if b then 1 else 0) + get_or old own 0) (none_before nodes index lt once) in
          let now : has (take (index + 1) nodes) node ≡ true =
          ap (λ (k : ℕ). has (take (index + 1) nodes) k) same ∙ (ap (λ (xs : List ℕ). has xs own) whole ∙ has_it (take index nodes) own) in
          let one : ℕ = 1 in
          let after : (if has (take (index + 1) nodes) node then one else 0) ≡ one = ap (λ (b : Bool). if b then 1 else 0) now in
          let moved = ap (λ (k : ℕ). get_or old k 0) same in
          omega (arith, here, before, after, moved)
      | inr other ↦
          get_or-set_other counts own node (get_or counts own 0 + 1) 0 other
          ∙ (counted node
          ∙ ap (λ (b : Bool). (if b then 1 else 0) + get_or old node 0)
          (sym (ap (λ (xs : List ℕ). has xs node) whole
          ∙ has_other (take index nodes) own node (ne_eqb own node (λ same. other (sym same))))))
    ]

-- no more rows are kept than there are
pub few_rows_kept : (rows : List SubsetRow) (customer : ℕ) → rows_kept rows customer ≤ length rows
few_rows_kept [] customer = omega arith
few_rows_kept (row ∷ rows) customer = at (keeps row customer) (few_rows_kept rows customer)
  where
    at : (b : Bool) → rows_kept rows customer ≤ length rows → (if b then 1 else 0) + rows_kept rows customer ≤ suc (length rows)
    at true le = omega (arith, le)
    at false le = omega (arith, le)

rows_pushed_kept : (rows : List SubsetRow) (row : SubsetRow) (customer : ℕ)
    → rows_kept (rows ++ row ∷ []) customer ≡ (if keeps row customer then 1 else 0) + rows_kept rows customer
rows_pushed_kept [] row customer = refl
rows_pushed_kept (first ∷ rows) row customer = let rest = rows_pushed_kept rows row customer in omega (arith, rest)

-- one row more
pub rows_kept_more : (rows : List SubsetRow) (index : ℕ) (row : SubsetRow) (customer : ℕ) (nodes : List ℕ) → index < length rows
    → get_or rows index row ≡ row → nodes ≡ row.set ++ row.further
    → rows_kept (take (index + 1) rows) customer ≡ (if has nodes customer then 1 else 0) + rows_kept (take index rows) customer
rows_kept_more rows index row customer nodes lt is nodes_are =
    ap (λ (rs : List SubsetRow). rows_kept rs customer)
    (take_more rows index row lt ∙ ap (λ (r : SubsetRow). take index rows ++ r ∷ []) is)
    ∙ (rows_pushed_kept (take index rows) row customer
    ∙ ap (λ (b : Bool). (if b then 1 else 0) + rows_kept (take index rows) customer)
    (sym (ap (λ (xs : List ℕ). has xs customer) nodes_are ∙ has_both row.set row.further customer)))

-- ---- customers by marks

others_have : (depot : ℕ) (xs : List ℕ) (k d : ℕ) → k < length xs → get_or xs k d ≡ depot → has xs depot ≡ true
others_have depot [] k d lt same = absurd (omega (arith, lt))
others_have depot (x ∷ xs) zero d lt same = ap (λ (b : Bool). b || has xs depot) (eq-eqb x depot same)
others_have depot (x ∷ xs) (suc k) d lt same =
    let rest = others_have depot xs k d (omega (arith, lt)) same in
    elim (cases_Bool (x == depot)) [
      | inl it ↦ ap (λ (b : Bool). b || has xs depot) it
      | inr other ↦ ap (λ (b : Bool). b || has xs depot) other ∙ rest
    ]

pub marked_customers : (n depot mark : ℕ) (nodes old new : List ℕ) → All (IsNode n) nodes → HasEachOnce nodes → AreUnmarked old mark
    → AreMarked mark nodes old new
    → (not (get_or new depot 0 == mark) ≡ true → All (IsCustomer n depot) nodes × HasEachOnce nodes)
    × (All (IsCustomer n depot) nodes × HasEachOnce nodes → not (get_or new depot 0 == mark) ≡ true)
marked_customers n depot mark nodes old new inside once fresh marked = (
  λ off.
      let none : (get_or new depot 0 == mark) ≡ false = unmarked (get_or new depot 0 == mark) off in
      let lacks : has nodes depot ≡ false = sym here ∙ none in
      ((λ k d lt. (inside k d lt, λ same. both_ways (has nodes depot) lacks (others_have depot nodes k d lt same))), once),
  λ are. ap not (here ∙ no_depot n depot nodes (recursion_from_All (IsCustomer n depot) nodes are.0)),
)
  where
    here : (get_or new depot 0 == mark) ≡ has nodes depot
    here = marked.own depot ∙ ap (λ (b : Bool). b || has nodes depot) (fresh depot)

    unmarked : (b : Bool) → not b ≡ true → b ≡ false
    unmarked true is = absurd (false≢true is)
    unmarked false is = refl

-- ---- lists, one after the other

pub list_here : (lists : List (Vec ℕ)) (index : ℕ) (own : Vec ℕ) (list : List ℕ) → index < length lists → own ≡ get_or lists index own
    → list ≡ own.items → get_or (item_lists lists) index [] ≡ list
list_here lists index own list lt is value =
    get_or-map (λ (v : Vec ℕ). v.items) lists index own [] lt ∙ (ap (λ (v : Vec ℕ). v.items) (sym is) ∙ sym value)

-- the first node of a list is a node
pub owner_in : (n : ℕ) (lists : List (Vec ℕ)) (index : ℕ) (own : Vec ℕ) (list : List ℕ) → AreListsOf n lists → index < length lists
    → own ≡ get_or lists index own → list ≡ own.items → IsNode n (get_or list 0 0) × ((1 ≤ length list) × All (IsNode n) list)
owner_in n lists index own list are lt is value =
    let given = subst (λ (v : Vec ℕ). (1 ≤ length v.items) × All (IsNode n) v.items) (sym is) (are index own lt) in
    let here = subst (λ (xs : List ℕ). (1 ≤ length xs) × All (IsNode n) xs) (sym value) given in
    (here.1 0 0 here.0, here)

-- no mark, no owner and no list is there at first
pub zero_there : (places node : ℕ) → get_or (replicate places zero) node zero ≡ zero
zero_there zero node = refl
zero_there (suc places) zero = refl
zero_there (suc places) (suc node) = zero_there places node

pub none_marked : (places mark : ℕ) → 0 < mark → AreUnmarked (replicate places 0) mark
none_marked places mark more node =
    ne_eqb (get_or (replicate places 0) node 0) mark (λ same. let none = zero_there places node in omega (arith, same, none, more))

pub none_pushed : (lists : List (Vec ℕ)) (own : Vec ℕ) → own.items ≡ [] → ((node : ℕ) → get_or (item_lists lists) node [] ≡ [])
    → (node : ℕ) → get_or (item_lists (lists ++ own ∷ [])) node [] ≡ []
none_pushed [] own empty none zero = empty
none_pushed [] own empty none (suc node) = refl
none_pushed (first ∷ lists) own empty none zero = none zero
none_pushed (first ∷ lists) own empty none (suc node) = none_pushed lists own empty (λ k. none (suc k)) node

pub no_owners : (lists : List (List ℕ)) (places : ℕ) → AreOwners lists 0 (replicate places false)
no_owners lists places = record {
  found = λ node flag less.
      let long = length-replicate places false in
      let free = get_or-replicate places node false true (omega (arith, less, long)) in
      absurd (false≢true (sym free ∙ flag));
  are = λ place less. absurd (omega (arith, less));
}

-- a good list after good ones
pub list_more : (n depot : ℕ) (lists : List (List ℕ)) (index : ℕ) (list : List ℕ) (owners : List Bool)
    → get_or lists index [] ≡ list → All (IsCustomer n depot) list → HasEachOnce list → AreOwners lists index owners
    → get_or owners (get_or list 0 0) true ≡ false → IsGoodList n depot lists index
list_more n depot lists index list owners here inside once owned free = record {
  inside = subst (All (IsCustomer n depot)) (sym here) inside;
  once = subst HasEachOnce (sym here) once;
  own = λ earlier less same.
      let moved : owner_of (get_or lists earlier []) ≡ get_or list 0 0 = same ∙ ap owner_of here in
      both_ways (get_or owners (get_or list 0 0) true) free
      (ap (λ (k : ℕ). get_or owners k true) (sym moved) ∙ owned.are earlier less);
}

-- its customer is an owner now
pub owners_more : (lists : List (List ℕ)) (index : ℕ) (owner : ℕ) (owners : List Bool) → owner_of (get_or lists index []) ≡ owner
    → owner < length owners → AreOwners lists index owners → AreOwners lists (index + 1) (slice_set owners owner true)
owners_more lists index owner owners here inside h = record {
  found = λ node flag less. elim (cases_eq node owner) [
    | inl same ↦ (index, omega arith, here ∙ sym same)
    | inr other ↦
        let long = length-set owners owner true in
        let before = h.found node (sym (get_or-set_other owners owner node true true other) ∙ flag) (omega (arith, less, long)) in
        (before.0, (let lt = before.1 in omega (arith, lt)), before.2)
  ];
  are = λ place less. elim (cases_eq (owner_of (get_or lists place [])) owner) [
    | inl same ↦
        ap (λ (k : ℕ). get_or (slice_set owners owner true) k true) same ∙ get_or-set_same owners owner true true inside
    | inr other ↦
        get_or-set_other owners owner (owner_of (get_or lists place [])) true true other
        ∙ h.are place (elim (cases_eq place index) [
          | inl it ↦ absurd (other (ap (λ (k : ℕ). owner_of (get_or lists k [])) it ∙ here))
          | inr before ↦ omega (arith, less, before)
        ])
  ];
}

-- the first list that is bad
pub bad_list : (n depot : ℕ) (lists : List (List ℕ)) (index : ℕ) (list : List ℕ) → index < length lists → get_or lists index [] ≡ list
    → ((place : ℕ) → place < index → IsGoodList n depot lists place) → (IsGoodList n depot lists index → ⊥)
    → IsFirstBadList n depot lists (get_or list 0 0)
bad_list n depot lists index list lt here good bad = record {
  place = index;
  inside = lt;
  bad = bad;
  before = good;
  first = ap owner_of (sym here);
}

-- one list more, from the last one back
pub near_more : (n : ℕ) (lists : List (Vec ℕ)) (near : List (Vec ℕ)) (back : ℕ) (own rest : Vec ℕ) (list : List ℕ) → back < length lists
    → own ≡ get_or lists (length lists - 1 - back) own → list ≡ own.items → rest.items ≡ drop 1 list
    → get_or list 0 0 < length near
    → ((node : ℕ) → node ≤ n → near_in near node ≡ near_of (drop (length lists - back) (item_lists lists)) node)
    → (node : ℕ) → node ≤ n → near_in (slice_set near (get_or list 0 0) rest) node
    ≡ near_of (drop (length lists - (back + 1)) (item_lists lists)) node
near_more n lists near back own rest list lt is value rest_is inside are node le =
    let index : ℕ = length lists - 1 - back in
    let wide = length-map lists (λ (v : Vec ℕ). v.items) in
    let less : index < length (item_lists lists) = omega (arith, lt, wide) in
    let here : get_or (item_lists lists) index [] ≡ list = list_here lists index own list (omega (arith, lt)) is value in
    let split : drop (length lists - (back + 1)) (item_lists lists) ≡ list ∷ drop (length lists - back) (item_lists lists) =
    ap (λ (k : ℕ). drop k (item_lists lists)) (let same : length lists - (back + 1) ≡ index = omega arith in same)
    ∙ (drop_more (item_lists lists) index [] less
    ∙ ap₂ (λ (xs : List ℕ) (k : ℕ). xs ∷ drop k (item_lists lists)) here (let same : index + 1 ≡ length lists - back = omega (arith, lt) in same)) in
    near_set near (get_or list 0 0) rest node inside
    ∙ (ap₂ (λ (xs ys : List ℕ). if get_or list 0 0 == node then xs else ys) rest_is (are node le)
    ∙ sym (ap (λ (ls : List (List ℕ)). near_of ls node) split))
  where
    set_lists : (table : List (Vec ℕ)) (place : ℕ) (own : Vec ℕ)
        → item_lists (slice_set table place own) ≡ slice_set (item_lists table) place own.items
    set_lists [] place own = refl
    set_lists (v ∷ table) zero own = refl
    set_lists (v ∷ table) (suc place) own = ap (λ (xs : List (List ℕ)). v.items ∷ xs) (set_lists table place own)

    near_set : (table : List (Vec ℕ)) (place : ℕ) (own : Vec ℕ) (node : ℕ) → place < length table
        → near_in (slice_set table place own) node ≡ (if place == node then own.items else near_in table node)
    near_set table place own node less =
        let wide = length-map table (λ (v : Vec ℕ). v.items) in
        ap (λ (xs : List (List ℕ)). get_or xs node []) (set_lists table place own)
        ∙ elim (cases_eq node place) [
          | inl same ↦
              ap (λ (k : ℕ). get_or (slice_set (item_lists table) place own.items) k []) same
              ∙ (get_or-set_same (item_lists table) place own.items [] (omega (arith, less, wide))
              ∙ sym (ap (λ (b : Bool). if b then own.items else near_in table node) (eq-eqb place node (sym same))))
          | inr other ↦
              get_or-set_other (item_lists table) place node own.items [] other
              ∙ sym (ap (λ (b : Bool). if b then own.items else near_in table node) (ne_eqb place node (λ same. other (sym same))))
        ]

-- ---- rows, one after the other

pub row_here : (rows : List RowSets) (index : ℕ) (row : RowSets) → index < length rows → row ≡ get_or rows index row
    → (d : SubsetRow) → get_or (map subset_row_of rows) index d ≡ subset_row_of row
row_here rows index row lt is d = get_or-map subset_row_of rows index row d lt ∙ ap subset_row_of (sym is)

pub row_inside : (n : ℕ) (rows : List RowSets) (index : ℕ) (row : RowSets) → AreRowsOf n rows → index < length rows
    → row ≡ get_or rows index row → All (IsNode n) (row.set.items ++ row.further.items)
row_inside n rows index row are lt is =
    let given = subst (λ (r : RowSets). All (IsNode n) r.set.items × All (IsNode n) r.further.items) (sym is) (are index row lt) in
    All-append (IsNode n) row.set.items row.further.items given.0 given.1

-- the first row that is bad
pub bad_row : (n depot : ℕ) (rows : List SubsetRow) (index : ℕ) → index < length rows
    → ((place : ℕ) → place < index → IsGoodRow n depot (row_at rows place)) → (IsGoodRow n depot (row_at rows index) → ⊥)
    → IsFirstBadRow n depot rows (index + 1)
bad_row n depot rows index lt good bad =
    let same : index + 1 - 1 ≡ index = omega arith in
    record {
      applies = ((omega arith, omega (arith, lt)), λ is. bad (subst (λ (k : ℕ). IsGoodRow n depot (row_at rows k)) same is));
      none_before = λ place less from. good (place - 1) (omega (arith, less, from));
    }
