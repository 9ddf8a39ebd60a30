-- For src/run_steps.rt: a step of a run by the keys of its next customer gives the memory of the next state and pays the
-- charges; and the tables of steps say the same, while they are made key by key and while they are read.
use Rattle.std.proofs.lemmas.Nat.{pow-add}
use Rattle.std.proofs.lemmas.Nat.Bits.{bit_at_lowest, bit_at-suc, bit_at-zero, bit_at_xor, same_from_bits}
use Rattle.std.specs.Int.RustNames.{bit_xor}
use Rattle.tsp_format.specs.Steps.{SubsetRow}
use Rattle.tsp_routing.proofs.MemoryWords.{next_told, next_remembers, place_tells, pays, keys_pay, word_below, lowest, others}
use Rattle.tsp_routing.proofs.Prelude.{◌≡◌, ℕ, ◌+◌, ◌-◌, ◌*◌, ◌≤◌, ◌<◌, ◌==◌, ◌&&◌, ◌||◌, Bool, true, false, not, List, [], ◌∷◌, ◌++◌, map, drop, length, get_or, refl, sym, ap, ap₂, ◌∙◌, subst, subst₂, arith, inl, inr, if◌then◌else◌, nat_le, ℤ, pos, ◌+ℤ◌, All, AllByRecursion, cases_Bool, cases_lt, and_right, eqb-true, eq-eqb, lt-leb, le-leb, get_or_past, length-map, recursion_from_All, drop_more, append_assoc, Vec, IsNode, sum_int_by, has, zero, suc, ◌%◌, ◌^◌, take, ints, take_more, take_all, map_push, bit_at, cases_eq, get_or_push, get_or_append_left}
use Rattle.tsp_routing.specs.Memories.{keys_of, told, in_row, is_member_of, charge_of, memory_word, memory_of, Remembers}
use Rattle.tsp_routing.specs.Runs.{RunRules, RunState, next_state, charged}
use Rattle.tsp_routing.specs.declared.memories.MemoryKey.{MemoryKey}
use Rattle.tsp_routing.specs.declared.memories.PassedKey.{PassedKey}
use Rattle.tsp_routing.specs.declared.memories.StepKey.{StepKey}
use Rattle.tsp_routing.specs.declared.run_steps.StepTable.{StepTable}
use Rattle.tsp_routing.specs.states.MemoryTables.{keys_in, key_places_in, IsKeyIn, AreMemoryTables, AreMemoriesOf, step_key_of, bit_after, word_after, charge_after, flips_of, told_before, passed_word, IsTableOf, AreStepTables}
use Rattle.tsp_routing.specs.states.RunTables.{item_lists}

not_read : (bits : List Bool) → length bits ≤ 64 → get_or bits 64 false ≡ false
not_read bits few = get_or_past bits 64 false few

or_one : (b : Bool) → (b || true) ≡ true
or_one true = refl
or_one false = refl

or_none : (b : Bool) → (b || false) ≡ b
or_none true = refl
or_none false = refl

both : (t m : Bool) (charge : ℤ) → (if t then (if m then charge else pos 0) else pos 0) ≡ (if t && m then charge else pos 0)
both true m charge = refl
both false m charge = refl

-- one step more
pub step_pushed : (steps new : List StepKey) (whole : List StepKey) (f : MemoryKey → StepKey) (keys : List MemoryKey) (index : ℕ)
    (key : MemoryKey) → index < length keys → key ≡ get_or keys index key → new ≡ steps ++ f key ∷ []
    → steps ++ map f (drop index keys) ≡ whole → new ++ map f (drop (index + 1) keys) ≡ whole
step_pushed steps new whole f keys index key lt at is before =
    let rest : List StepKey = map f (drop (index + 1) keys) in
    let split : map f (drop index keys) ≡ f key ∷ rest =
    ap (λ (xs : List MemoryKey). map f xs) (drop_more keys index key lt) ∙ ap (λ (k : MemoryKey). f k ∷ rest) (sym at) in
    ap (λ (xs : List StepKey). xs ++ rest) is
    ∙ (append_assoc steps (f key ∷ []) rest
    ∙ (sym (ap (λ (xs : List StepKey). steps ++ xs) split) ∙ before))

-- ---- one key

one_bit : (rules : RunRules) (state : RunState) (next : ℕ) (charges : List ℤ) (places : List ℕ) (bits : List Bool) (key : MemoryKey)
    → state.last ≤ rules.nodes → length bits ≤ 64
    → get_or bits (get_or places key.key 64) false ≡ told rules.nodes rules.rows state key.key
    → All (IsNode rules.nodes) (rules.near next) → has (keys_of rules.nodes rules.near rules.rows next) key.key ≡ true
    → key.is_member ≡ is_member_of rules.nodes rules.rows next key.key
    → bit_after (step_key_of rules.nodes charges places state.last key)
    (get_or bits (step_key_of rules.nodes charges places state.last key).place false)
    ≡ told rules.nodes rules.rows (next_state rules state next) key.key
one_bit rules state next charges places bits key node few tells near there member =
    let place : ℕ = get_or places key.key 64 in
    let now : Bool = told rules.nodes rules.rows state key.key in
    let after = next_told rules state next key.key near there in
    elim (cases_Bool (key.key == state.last)) [
      | inl t ↦
          let le : key.key ≤ rules.nodes = subst (λ (k : ℕ). k ≤ rules.nodes) (sym (same_key t)) node in
          ap (λ (b : Bool). if b || key.is_member then not (get_or bits (if b then 64 else place) false)
          else get_or bits (if b then 64 else place) false) t
          ∙ (ap not (not_read bits few)
          ∙ sym (after
          ∙ (ap (λ (b : Bool). if b then (now || (key.key == state.last))
          else (if is_member_of rules.nodes rules.rows next key.key then not now else now)) (le-leb key.key rules.nodes le)
          ∙ (ap (λ (b : Bool). now || b) t ∙ or_one now))))
      | inr f ↦
          ap (λ (b : Bool). if b || key.is_member then not (get_or bits (if b then 64 else place) false)
          else get_or bits (if b then 64 else place) false) f
          ∙ (ap₂ (λ (m b : Bool). if m then not b else b) member tells
          ∙ (elim (cases_lt rules.nodes key.key) [
            | inl beyond ↦
                sym (ap (λ (b : Bool). if b then (now || (key.key == state.last))
                else (if is_member_of rules.nodes rules.rows next key.key then not now else now)) (lt-leb key.key rules.nodes beyond))
            | inr le ↦
                ap (λ (b : Bool). if (if b then false else in_row rules.rows (key.key - (rules.nodes + 1)) next) then not now else now)
                (le-leb key.key rules.nodes le)
                ∙ sym (ap (λ (b : Bool). if b then (now || (key.key == state.last))
                else (if is_member_of rules.nodes rules.rows next key.key then not now else now)) (le-leb key.key rules.nodes le)
                ∙ (ap (λ (b : Bool). now || b) f ∙ or_none now))
          ] ∙ sym after))
    ]
  where
    same_key : (key.key == state.last) ≡ true → key.key ≡ state.last
    same_key t = eqb-true key.key state.last t

one_charge : (rules : RunRules) (state : RunState) (next : ℕ) (charges : List ℤ) (places : List ℕ) (bits : List Bool) (key : MemoryKey)
    → state.last ≤ rules.nodes → length bits ≤ 64
    → get_or bits (get_or places key.key 64) false ≡ told rules.nodes rules.rows state key.key
    → key.is_member ≡ is_member_of rules.nodes rules.rows next key.key
    → (if get_or bits (step_key_of rules.nodes charges places state.last key).place false
    then (step_key_of rules.nodes charges places state.last key).charge else pos 0)
    ≡ pays rules.nodes rules.rows charges state next key.key
one_charge rules state next charges places bits key node few tells member =
    let place : ℕ = get_or places key.key 64 in
    let now : Bool = told rules.nodes rules.rows state key.key in
    let charge : ℤ = charge_of rules.nodes charges key.key in
    let own : ℤ = if key.is_member then charge else pos 0 in
    elim (cases_Bool (key.key == state.last)) [
      | inl t ↦
          let le : key.key ≤ rules.nodes = subst (λ (k : ℕ). k ≤ rules.nodes) (sym (eqb-true key.key state.last t)) node in
          let none : is_member_of rules.nodes rules.rows next key.key ≡ false =
          ap (λ (b : Bool). if b then false else in_row rules.rows (key.key - (rules.nodes + 1)) next) (le-leb key.key rules.nodes le) in
          ap (λ (b : Bool). if get_or bits (if b then 64 else place) false then own else pos 0) t
          ∙ (ap (λ (b : Bool). if b then own else pos 0) (not_read bits few)
          ∙ sym (ap (λ (b : Bool). if b then charge else pos 0)
          (and_right now (is_member_of rules.nodes rules.rows next key.key) none)))
      | inr f ↦
          ap (λ (b : Bool). if get_or bits (if b then 64 else place) false then own else pos 0) f
          ∙ (ap₂ (λ (b m : Bool). if b then (if m then charge else pos 0) else pos 0) tells member
          ∙ both now (is_member_of rules.nodes rules.rows next key.key) charge)
    ]

-- ---- all keys

all_bits : (rules : RunRules) (state : RunState) (next count : ℕ) (charges : List ℤ) (places : List ℕ) (bits : List Bool)
    (keys : List MemoryKey) → state.last ≤ rules.nodes → length bits ≤ 64
    → ((key : ℕ) → key ≤ rules.nodes + count → get_or bits (get_or places key 64) false ≡ told rules.nodes rules.rows state key)
    → All (IsNode rules.nodes) (rules.near next)
    → ((key : ℕ) → has (map (λ (it : MemoryKey). it.key) keys) key ≡ true → has (keys_of rules.nodes rules.near rules.rows next) key ≡ true)
    → AllByRecursion (IsKeyIn rules.nodes count) keys
    → AllByRecursion (λ (key : MemoryKey). key.is_member ≡ is_member_of rules.nodes rules.rows next key.key) keys
    → word_after (map (step_key_of rules.nodes charges places state.last) keys) bits
    ≡ memory_word (map (told rules.nodes rules.rows (next_state rules state next)) (map (λ (it : MemoryKey). it.key) keys))
all_bits rules state next count charges places bits [] node few tells near there are members = refl
all_bits rules state next count charges places bits (key ∷ keys) node few tells near there are members =
    ap₂ (λ (b : Bool) (n : ℕ). (if b then 1 else 0) + 2 * n)
    (one_bit rules state next charges places bits key node few (tells key.key are.0.most) near
    (there key.key (ap (λ (b : Bool). b || has (map (λ (it : MemoryKey). it.key) keys) key.key) (eq-eqb key.key key.key refl))) members.0)
    (all_bits rules state next count charges places bits keys node few tells near
    (λ it has_it. there it (ap (λ (b : Bool). (key.key == it) || b) has_it ∙ or_one (key.key == it))) are.1 members.1)

all_charges : (rules : RunRules) (state : RunState) (next count : ℕ) (charges : List ℤ) (places : List ℕ) (bits : List Bool)
    (keys : List MemoryKey) → state.last ≤ rules.nodes → length bits ≤ 64
    → ((key : ℕ) → key ≤ rules.nodes + count → get_or bits (get_or places key 64) false ≡ told rules.nodes rules.rows state key)
    → AllByRecursion (IsKeyIn rules.nodes count) keys
    → AllByRecursion (λ (key : MemoryKey). key.is_member ≡ is_member_of rules.nodes rules.rows next key.key) keys
    → charge_after (map (step_key_of rules.nodes charges places state.last) keys) bits
    ≡ sum_int_by (pays rules.nodes rules.rows charges state next) (map (λ (it : MemoryKey). it.key) keys)
all_charges rules state next count charges places bits [] node few tells are members = refl
all_charges rules state next count charges places bits (key ∷ keys) node few tells are members =
    ap₂ (λ (x y : ℤ). x +ℤ y)
    (one_charge rules state next charges places bits key node few (tells key.key are.0.most) members.0)
    (all_charges rules state next count charges places bits keys node few tells are.1 members.1)

-- ---- a step by the tables

-- what the code has of a step
pub record IsStepOf (rules : RunRules) (state : RunState) (word last next nodes count : ℕ) (keys : List (Vec MemoryKey))
    (places : List (Vec ℕ)) (charges : List ℤ) (steps : List StepKey) : Type 0 where
  pub tables : AreMemoryTables nodes count keys places
  pub same : rules.nodes ≡ nodes
  pub are : AreMemoriesOf rules count keys places
  pub remembers : Remembers rules state word
  pub at : state.last ≡ last
  pub last_node : IsNode nodes last
  pub next_node : IsNode nodes next
  pub steps_are : steps ≡ map (step_key_of nodes charges (key_places_in places last) last) (keys_in keys next)

few_bits : (rules : RunRules) (state : RunState) (word last next nodes count : ℕ) (keys : List (Vec MemoryKey)) (places : List (Vec ℕ))
    (charges : List ℤ) (steps : List StepKey) → IsStepOf rules state word last next nodes count keys places charges steps
    → (length (keys_of rules.nodes rules.near rules.rows state.last) ≤ 64) × (length (memory_of rules state) ≤ 64)
few_bits rules state word last next nodes count keys places charges steps is =
    let own : IsNode nodes state.last = subst (IsNode nodes) (sym is.at) is.last_node in
    let node : IsNode rules.nodes state.last = subst (λ (n : ℕ). IsNode n state.last) (sym is.same) own in
    let as_many = ap (λ (xs : List ℕ). length xs) (is.are.keys_are state.last node) in
    let as_long = length-map (keys_in keys state.last) (λ (key : MemoryKey). key.key) in
    let fewest = is.tables.few state.last own in
    let bits = length-map (keys_of rules.nodes rules.near rules.rows state.last) (told rules.nodes rules.rows state) in
    (omega (arith, as_many, as_long, fewest), omega (arith, as_many, as_long, fewest, bits))

tells_by_place : (rules : RunRules) (state : RunState) (word last next nodes count : ℕ) (keys : List (Vec MemoryKey))
    (places : List (Vec ℕ)) (charges : List ℤ) (steps : List StepKey)
    → IsStepOf rules state word last next nodes count keys places charges steps → (key : ℕ) → key ≤ rules.nodes + count
    → get_or (memory_of rules state) (get_or (key_places_in places state.last) key 64) false ≡ told rules.nodes rules.rows state key
tells_by_place rules state word last next nodes count keys places charges steps is key le =
    let node : IsNode rules.nodes state.last =
    subst (λ (n : ℕ). IsNode n state.last) (sym is.same) (subst (IsNode nodes) (sym is.at) is.last_node) in
    place_tells rules state word key (get_or (key_places_in places state.last) key 64) is.remembers
    (few_bits rules state word last next nodes count keys places charges steps is).0 (is.are.places_are state.last key node le)

-- the steps, with the nodes and the last customer of the rules
steps_by_rules : (rules : RunRules) (state : RunState) (word last next nodes count : ℕ) (keys : List (Vec MemoryKey))
    (places : List (Vec ℕ)) (charges : List ℤ) (steps : List StepKey)
    → IsStepOf rules state word last next nodes count keys places charges steps
    → steps ≡ map (step_key_of rules.nodes charges (key_places_in places state.last) state.last) (keys_in keys next)
steps_by_rules rules state word last next nodes count keys places charges steps is =
    is.steps_are
    ∙ ap₂ (λ (n v : ℕ). map (step_key_of n charges (key_places_in places v) v) (keys_in keys next)) (sym is.same) (sym is.at)

-- the word is the memory of the next state
pub step_remembers : (rules : RunRules) (state : RunState) (word last next nodes count : ℕ) (keys : List (Vec MemoryKey))
    (places : List (Vec ℕ)) (charges : List ℤ) (steps : List StepKey) (after : ℕ)
    → IsStepOf rules state word last next nodes count keys places charges steps
    → ((bits : List Bool) → length bits ≤ 64 → word ≡ memory_word bits → after ≡ word_after steps bits)
    → Remembers rules (next_state rules state next) after
step_remembers rules state word last next nodes count keys places charges steps after is exact =
    let few = few_bits rules state word last next nodes count keys places charges steps is in
    let node : IsNode rules.nodes next = subst (λ (n : ℕ). IsNode n next) (sym is.same) is.next_node in
    let own : List MemoryKey = keys_in keys next in
    let le : state.last ≤ rules.nodes = omega (arith, is.at, is.same, is.last_node.1) in
    let keyed = is.are.keys_are next node in
    next_remembers rules state next after
    (exact (memory_of rules state) few.1 is.remembers.is
    ∙ (ap (λ (xs : List StepKey). word_after xs (memory_of rules state))
    (steps_by_rules rules state word last next nodes count keys places charges steps is)
    ∙ (all_bits rules state next count charges (key_places_in places state.last) (memory_of rules state) own le few.1
    (tells_by_place rules state word last next nodes count keys places charges steps is) (is.are.near next node)
    (λ key there. sym (ap (λ (ks : List ℕ). has ks key) keyed) ∙ there)
    (recursion_from_All (IsKeyIn rules.nodes count) own
    (subst (λ (n : ℕ). All (IsKeyIn n count) own) (sym is.same) (is.tables.are next is.next_node)))
    (recursion_from_All (λ (key : MemoryKey). key.is_member ≡ is_member_of rules.nodes rules.rows next key.key) own
    (is.are.members_are next node))
    ∙ ap (λ (ks : List ℕ). memory_word (map (told rules.nodes rules.rows (next_state rules state next)) ks)) keyed)))

-- the step pays the charges
pub step_pays : (rules : RunRules) (state : RunState) (word last next nodes count : ℕ) (keys : List (Vec MemoryKey))
    (places : List (Vec ℕ)) (charges : List ℤ) (steps : List StepKey) (charge : ℤ)
    → IsStepOf rules state word last next nodes count keys places charges steps
    → map (λ (row : SubsetRow × ℤ). row.1) rules.rows ≡ charges
    → ((bits : List Bool) → length bits ≤ 64 → word ≡ memory_word bits → charge ≡ charge_after steps bits)
    → charge ≡ charged rules state next
step_pays rules state word last next nodes count keys places charges steps charge is priced exact =
    let few = few_bits rules state word last next nodes count keys places charges steps is in
    let node : IsNode rules.nodes next = subst (λ (n : ℕ). IsNode n next) (sym is.same) is.next_node in
    let own : List MemoryKey = keys_in keys next in
    let le : state.last ≤ rules.nodes = omega (arith, is.at, is.same, is.last_node.1) in
    exact (memory_of rules state) few.1 is.remembers.is
    ∙ (ap (λ (xs : List StepKey). charge_after xs (memory_of rules state))
    (steps_by_rules rules state word last next nodes count keys places charges steps is)
    ∙ (all_charges rules state next count charges (key_places_in places state.last) (memory_of rules state) own le few.1
    (tells_by_place rules state word last next nodes count keys places charges steps is)
    (recursion_from_All (IsKeyIn rules.nodes count) own
    (subst (λ (n : ℕ). All (IsKeyIn n count) own) (sym is.same) (is.tables.are next is.next_node)))
    (recursion_from_All (λ (key : MemoryKey). key.is_member ≡ is_member_of rules.nodes rules.rows next key.key) own
    (is.are.members_are next node))
    ∙ (ap (sum_int_by (pays rules.nodes rules.rows charges state next)) (is.are.keys_are next node)
    ∙ keys_pay rules charges state next priced (is.are.near next node))))

-- a customer keeps no more than fits a word
pub few_steps : (last next nodes count : ℕ) (keys : List (Vec MemoryKey)) (places : List (Vec ℕ)) (charges : List ℤ) (steps : List StepKey)
    → AreMemoryTables nodes count keys places → IsNode nodes next
    → steps ≡ map (step_key_of nodes charges (key_places_in places last) last) (keys_in keys next) → length steps ≤ 64
few_steps last next nodes count keys places charges steps tables node is =
    let few = tables.few next node in
    let long = length-map (keys_in keys next) (step_key_of nodes charges (key_places_in places last) last) in
    let same = ap (λ (xs : List StepKey). length xs) is in
    omega (arith, few, long, same)

-- ---- the tables, one key more at the end

word_push : (bits : List Bool) (bit : Bool) → memory_word (bits ++ bit ∷ []) ≡ memory_word bits + (if bit then 2 ^ length bits else 0)
word_push [] true = refl
word_push [] false = refl
word_push (b ∷ bits) true =
    let rest = word_push bits true in
    let twice : 2 ^ length (b ∷ bits) ≡ 2 * 2 ^ length bits = ap (λ (k : ℕ). 2 ^ k) (omega arith) ∙ pow-add 2 1 (length bits) in
    omega (arith, rest, twice)
word_push (b ∷ bits) false =
    let rest = word_push bits false in
    omega (arith, rest)

pub passed_push : (keys : List PassedKey) (key : PassedKey) (bits : List Bool)
    → passed_word (keys ++ key ∷ []) bits ≡ passed_word keys bits + (if get_or bits key.place false then key.mask else 0)
passed_push [] key bits = omega arith
passed_push (own ∷ keys) key bits = let rest = passed_push keys key bits in omega (arith, rest)

pub charge_push : (steps : List StepKey) (key : StepKey) (bits : List Bool)
    → charge_after (steps ++ key ∷ []) bits ≡ charge_after steps bits +ℤ (if get_or bits key.place false then key.charge else pos 0)
charge_push [] key bits = omega (arith, ints)
charge_push (own ∷ steps) key bits = let rest = charge_push steps key bits in omega (arith, ints, rest)

taken : (steps : List StepKey) (index : ℕ) (key : StepKey) → index < length steps → key ≡ get_or steps index key
    → take (index + 1) steps ≡ take index steps ++ key ∷ []
taken steps index key lt at = take_more steps index key lt ∙ ap (λ (k : StepKey). take index steps ++ k ∷ []) (sym at)

long : {X : Type 0} (index : ℕ) (xs : List X) → index ≤ length xs → length (take index xs) ≡ index
long {X} zero xs le = refl
long {X} (suc index) [] le = absurd (omega (arith, le))
long {X} (suc index) (x ∷ xs) le = let rest = long index xs (omega (arith, le)) in omega (arith, rest)

-- the table of the keys that are passed on, with one key more
pub passed_more : (old new : List PassedKey) (steps : List StepKey) (index : ℕ) (key : StepKey) (bits : List Bool) → index < length steps
    → key ≡ get_or steps index key
    → passed_word new bits ≡ passed_word old bits + (if get_or bits key.place false then 2 ^ index else 0)
    → passed_word old bits ≡ memory_word (told_before (take index steps) bits)
    → passed_word new bits ≡ memory_word (told_before (take (index + 1) steps) bits)
passed_more old new steps index key bits lt at more before =
    let told : StepKey → Bool = λ (k : StepKey). get_or bits k.place false in
    let firsts : List Bool = map told (take index steps) in
    let whole : map told (take (index + 1) steps) ≡ firsts ++ told key ∷ [] =
    ap (λ (xs : List StepKey). map told xs) (taken steps index key lt at) ∙ map_push told (take index steps) key in
    let as_long : length firsts ≡ index = length-map (take index steps) told ∙ long index steps (omega (arith, lt)) in
    more
    ∙ (ap₂ (λ (m n : ℕ). m + (if told key then 2 ^ n else 0)) before (sym as_long)
    ∙ sym (ap (λ (xs : List Bool). memory_word xs) whole ∙ word_push firsts (told key)))

-- the list of the keys for which the step pays, with one key more
pub paid_more : (old new : List StepKey) (steps : List StepKey) (index : ℕ) (key : StepKey) (bits : List Bool) → index < length steps
    → key ≡ get_or steps index key
    → charge_after new bits ≡ charge_after old bits +ℤ (if get_or bits key.place false then key.charge else pos 0)
    → charge_after old bits ≡ charge_after (take index steps) bits
    → charge_after new bits ≡ charge_after (take (index + 1) steps) bits
paid_more old new steps index key bits lt at more before =
    more
    ∙ (ap (λ (z : ℤ). z +ℤ (if get_or bits key.place false then key.charge else pos 0)) before
    ∙ sym (ap (λ (xs : List StepKey). charge_after xs bits) (taken steps index key lt at) ∙ charge_push (take index steps) key bits))

-- ---- reading the tables

-- the bits that were told, with those of one key more
pub told_more : (keys : List PassedKey) (index : ℕ) (key : PassedKey) (bits : List Bool) (told new : ℕ) (is_told : Bool)
    → index < length keys → key ≡ get_or keys index key → is_told ≡ get_or bits key.place false
    → new ≡ (told + (if is_told then key.mask else 0)) % 2 ^ 64 → told ≡ passed_word (take index keys) bits % 2 ^ 64
    → new ≡ passed_word (take (index + 1) keys) bits % 2 ^ 64
told_more keys index key bits told new is_told lt at is more before =
    let own : ℕ = if get_or bits key.place false then key.mask else 0 in
    let added : new ≡ (told + own) % 2 ^ 64 = more ∙ ap (λ (b : Bool). (told + (if b then key.mask else 0)) % 2 ^ 64) is in
    let whole : passed_word (take (index + 1) keys) bits ≡ passed_word (take index keys) bits + own =
    ap (λ (xs : List PassedKey). passed_word xs bits)
    (take_more keys index key lt ∙ ap (λ (k : PassedKey). take index keys ++ k ∷ []) (sym at))
    ∙ passed_push (take index keys) key bits in
    added ∙ (wrapped told (passed_word (take index keys) bits) own before ∙ ap (λ (n : ℕ). n % 2 ^ 64) (sym whole))
  where
    wrapped : (a b c : ℕ) → a ≡ b % 2 ^ 64 → (a + c) % 2 ^ 64 ≡ (b + c) % 2 ^ 64
    wrapped a b c is = omega (arith, is)

-- the charges of keys that were told, with that of one key more
pub charged_more : (keys : List StepKey) (index : ℕ) (key : StepKey) (bits : List Bool) (sum new : ℤ) (is_told : Bool)
    → index < length keys → key ≡ get_or keys index key → is_told ≡ get_or bits key.place false
    → new ≡ sum +ℤ (if is_told then key.charge else pos 0) → sum ≡ charge_after (take index keys) bits
    → new ≡ charge_after (take (index + 1) keys) bits
charged_more keys index key bits sum new is_told lt at is more before =
    more
    ∙ (ap₂ (λ (z : ℤ) (b : Bool). z +ℤ (if b then key.charge else pos 0)) before is
    ∙ sym (ap (λ (xs : List StepKey). charge_after xs bits)
    (take_more keys index key lt ∙ ap (λ (k : StepKey). take index keys ++ k ∷ []) (sym at))
    ∙ charge_push (take index keys) key bits))

-- ---- the word after the step

turned : (flips told : Bool) → (if (if flips then not told else told) then 1 else 0) ≡ ((if told then 1 else 0) + (if flips then 1 else 0)) % 2
turned true true = refl
turned true false = refl
turned false true = refl
turned false false = refl

after_bits : (steps : List StepKey) (bits : List Bool) (place : ℕ)
    → bit_at (word_after steps bits) place
    ≡ (bit_at (memory_word (told_before steps bits)) place + bit_at (memory_word (flips_of steps)) place) % 2
after_bits [] bits place =
    bit_at-zero place ∙ sym (ap₂ (λ (m n : ℕ). (m + n) % 2) (bit_at-zero place) (bit_at-zero place))
after_bits (key ∷ steps) bits zero =
    let told : Bool = get_or bits key.place false in
    bit_at_lowest (word_after (key ∷ steps) bits)
    ∙ (lowest (bit_after key told) (word_after steps bits)
    ∙ (turned key.flips told
    ∙ sym (ap₂ (λ (m n : ℕ). (m + n) % 2)
    (bit_at_lowest (memory_word (told_before (key ∷ steps) bits)) ∙ lowest told (memory_word (told_before steps bits)))
    (bit_at_lowest (memory_word (flips_of (key ∷ steps))) ∙ lowest key.flips (memory_word (flips_of steps))))))
after_bits (key ∷ steps) bits (suc place) =
    let told : Bool = get_or bits key.place false in
    bit_at-suc (word_after (key ∷ steps) bits) place
    ∙ (ap (λ (n : ℕ). bit_at n place) (others (bit_after key told) (word_after steps bits))
    ∙ (after_bits steps bits place
    ∙ sym (ap₂ (λ (m n : ℕ). (m + n) % 2)
    (bit_at-suc (memory_word (told_before (key ∷ steps) bits)) place
    ∙ ap (λ (n : ℕ). bit_at n place) (others told (memory_word (told_before steps bits))))
    (bit_at-suc (memory_word (flips_of (key ∷ steps))) place
    ∙ ap (λ (n : ℕ). bit_at n place) (others key.flips (memory_word (flips_of steps)))))))

-- the bits that were told and those that turn make the word after the step
pub table_gives_word : (steps : List StepKey) (table : StepTable) (bits : List Bool) (passed : List PassedKey) (told : ℕ)
    → IsTableOf steps table → length bits ≤ 64 → passed ≡ table.passed.items → told ≡ passed_word passed bits % 2 ^ 64
    → bit_xor told table.flips ≡ word_after steps bits
table_gives_word steps table bits passed told is few same told_is =
    let word : ℕ = memory_word (told_before steps bits) in
    let long = length-map steps (λ (key : StepKey). get_or bits key.place false) in
    let fewest = is.few in
    let fits : word < 2 ^ 64 = word_below (told_before steps bits) 64 (omega (arith, long, fewest)) in
    let whole : passed_word passed bits ≡ word = ap (λ (keys : List PassedKey). passed_word keys bits) same ∙ is.passed bits few in
    let exact : told ≡ word = omega (arith, told_is, whole, fits) in
    ap₂ (λ (m n : ℕ). bit_xor m n) exact is.flips
    ∙ sym (same_from_bits (word_after steps bits) (bit_xor word (memory_word (flips_of steps)))
    (λ place. after_bits steps bits place ∙ sym (bit_at_xor word (memory_word (flips_of steps)) place)))

-- ---- the tables of steps that a leaf keeps

-- one table more
pub table_pushed : (P : ℕ → StepTable → Type 0) (tables : List StepTable) (own : StepTable) (index : ℕ) → length tables ≡ index
    → ((place : ℕ) (default : StepTable) → place < index → P place (get_or tables place default)) → P index own
    → (place : ℕ) (default : StepTable) → place < index + 1 → P place (get_or (tables ++ own ∷ []) place default)
table_pushed P tables own index long all last place default lt = elim (cases_eq place index) [
  | inl same ↦
      subst (λ (k : ℕ). P k (get_or (tables ++ own ∷ []) k default)) (sym same)
      (subst (P index) (sym (get_or_push tables own default index long)) last)
  | inr other ↦
      subst (P place) (sym (get_or_append_left tables (own ∷ []) default place (omega (arith, lt, other, long))))
      (all place default (omega (arith, lt, other)))
]

-- a table that is kept
pub table_kept : (nodes : ℕ) (keys : List (Vec MemoryKey)) (places : List (Vec ℕ)) (charges : List ℤ) (rows : List (Vec StepTable))
    (before last : ℕ) (table : StepTable) → AreStepTables nodes keys places charges rows → 1 ≤ before → before ≤ length rows
    → IsNode nodes last
    → ((default : StepTable) → table ≡ get_or (get_or (item_lists rows) (before - 1) []) (last - 1) default)
    → IsTableOf (map (step_key_of nodes charges (key_places_in places before) before) (keys_in keys last)) table
table_kept nodes keys places charges rows before last table tables some within node is =
    let from : before - 1 + 1 ≡ before = omega (arith, some) in
    let to : last - 1 + 1 ≡ last = omega (arith, node.0) in
    let row = tables (before - 1) (omega (arith, some, within)) in
    subst (IsTableOf (map (step_key_of nodes charges (key_places_in places before) before) (keys_in keys last))) (sym (is table))
    (subst₂ (λ (a b : ℕ). IsTableOf (map (step_key_of nodes charges (key_places_in places a) a) (keys_in keys b))
    (get_or (get_or (item_lists rows) (before - 1) []) (last - 1) table)) from to (row.are (last - 1) table (omega (arith, node.0, node.1))))
