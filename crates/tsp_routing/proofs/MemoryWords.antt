-- For src/memories.rt and src/run_steps.rt: words of 64 bits and their bits, what the word of a state tells, and what
-- the words of the next states are.
use Rattle.std.proofs.lemmas.Nat.{pow-add}
use Rattle.std.proofs.lemmas.Nat.Bits.{bit_at_lowest, bit_at-suc, bit_at-zero}
use Rattle.tsp_format.specs.Steps.{SubsetRow}
use Rattle.tsp_routing.proofs.Prelude.{◌≡◌, ℕ, zero, suc, ◌+◌, ◌-◌, ◌*◌, ◌/◌, ◌%◌, ◌^◌, ◌≤◌, ◌<◌, ◌==◌, Bool, true, false, List, [], ◌∷◌, length, get_or, refl, sym, ap, ◌∙◌, arith, pow-le-pow_right, bit_at, if◌then◌else◌, ◌≢◌, ◌&&◌, ◌||◌, not, ◌++◌, map, ap₂, subst, inl, inr, nat_le, ℤ, pos, ◌+ℤ◌, All, AllByRecursion, false≢true, both_ways, cases_Bool, cases_eq, cases_lt, or_parts, and_left, and_right, eq-eqb, ne_eqb, leb-true, leb-false, le-leb, lt-leb, ints, get_or-map, get_or_past, length-map, recursion_from_All, IsNode, sum_int_by, has}
use Rattle.tsp_routing.specs.Memories.{memory_word, row_keys, keys_of, odd_at, told, in_row, is_member_of, memory_of, Remembers}
use Rattle.tsp_routing.specs.Runs.{keeps, RunRules, RunState, first_state, next_state, is_charged, charged}
use Rattle.tsp_routing.specs.declared.memories.MemoryKey.{MemoryKey}
use Rattle.tsp_routing.specs.states.MemoryTables.{IsKeyPlace}

pub lowest : (bit : Bool) (n : ℕ) → ((if bit then 1 else 0) + 2 * n) % 2 ≡ (if bit then 1 else 0)
lowest true n = omega arith
lowest false n = omega arith

pub others : (bit : Bool) (n : ℕ) → ((if bit then 1 else 0) + 2 * n) / 2 ≡ n
others true n = omega arith
others false n = omega arith

-- the bit of a word at a place
pub bit_of_word : (bits : List Bool) (place : ℕ) → bit_at (memory_word bits) place ≡ (if get_or bits place false then 1 else 0)
bit_of_word [] place = bit_at-zero place
bit_of_word (bit ∷ bits) zero = bit_at_lowest (memory_word (bit ∷ bits)) ∙ lowest bit (memory_word bits)
bit_of_word (bit ∷ bits) (suc place) =
    bit_at-suc (memory_word (bit ∷ bits)) place
    ∙ (ap (λ (n : ℕ). bit_at n place) (others bit (memory_word bits)) ∙ bit_of_word bits place)

-- a word is no longer than its bits
pub word_fits : (bits : List Bool) → memory_word bits < 2 ^ length bits
word_fits [] = omega arith
word_fits (true ∷ bits) =
    let rest = word_fits bits in
    let twice : 2 ^ length (true ∷ bits) ≡ 2 * 2 ^ length bits = ap (λ (k : ℕ). 2 ^ k) (omega arith) ∙ pow-add 2 1 (length bits) in
    omega (arith, rest, twice)
word_fits (false ∷ bits) =
    let rest = word_fits bits in
    let twice : 2 ^ length (false ∷ bits) ≡ 2 * 2 ^ length bits = ap (λ (k : ℕ). 2 ^ k) (omega arith) ∙ pow-add 2 1 (length bits) in
    omega (arith, rest, twice)

-- words of 64 bits
pub word_below : (bits : List Bool) (most : ℕ) → length bits ≤ most → memory_word bits < 2 ^ most
word_below bits most few =
    let fits = word_fits bits in
    let more = pow-le-pow_right {n = 2} (omega arith) {i = length bits} {j = most} few in
    omega (arith, fits, more)

same_bit : (a b : Bool) (m n : ℕ) → (if a then 1 else 0) + 2 * m ≡ (if b then 1 else 0) + 2 * n → (a ≡ b) × (m ≡ n)
same_bit true true m n is = (refl, omega (arith, is))
same_bit true false m n is = absurd (omega (arith, is))
same_bit false true m n is = absurd (omega (arith, is))
same_bit false false m n is = (refl, omega (arith, is))

-- as many bits with the same word are the same
pub same_bits : (a b : List Bool) → length a ≡ length b → memory_word a ≡ memory_word b → a ≡ b
same_bits [] [] long is = refl
same_bits [] (y ∷ b) long is = absurd (omega (arith, long))
same_bits (x ∷ a) [] long is = absurd (omega (arith, long))
same_bits (x ∷ a) (y ∷ b) long is =
    let parts = same_bit x y (memory_word a) (memory_word b) is in
    let rest = same_bits a b (omega (arith, long)) parts.1 in
    ap (λ (z : Bool). z ∷ a) parts.0 ∙ ap (λ (bits : List Bool). y ∷ bits) rest

-- a bit that is tested for 1
pub is_one : (n : ℕ) (bit : Bool) → n ≡ (if bit then 1 else 0) → (n == 1) ≡ bit
is_one n true is = ap (λ (k : ℕ). k == 1) is
is_one n false is = ap (λ (k : ℕ). k == 1) is

-- ---- lists of keys

has_parts : (xs ys : List ℕ) (key : ℕ) → has (xs ++ ys) key ≡ false → (has xs key ≡ false) × (has ys key ≡ false)
has_parts [] ys key none = (refl, none)
has_parts (x ∷ xs) ys key none =
    let parts = or_parts (x == key) (has (xs ++ ys) key) none in
    let rest = has_parts xs ys key parts.1 in
    (subst (λ (b : Bool). (b || has xs key) ≡ false) (sym parts.0) rest.0, rest.1)

has_right : (xs ys : List ℕ) (key : ℕ) → has (xs ++ ys) key ≡ true → has xs key ≡ false → has ys key ≡ true
has_right [] ys key there none = there
has_right (x ∷ xs) ys key there none =
    let parts = or_parts (x == key) (has xs key) none in
    has_right xs ys key (subst (λ (b : Bool). (b || has (xs ++ ys) key) ≡ true) parts.0 there) parts.1

has_left : (xs ys : List ℕ) (key : ℕ) → has (xs ++ ys) key ≡ true → has ys key ≡ false → has xs key ≡ true
has_left [] ys key there none = absurd (both_ways (has ys key) none there)
has_left (x ∷ xs) ys key there none = elim (cases_Bool (x == key)) [
  | inl t ↦ ap (λ (b : Bool). b || has xs key) t
  | inr f ↦ ap (λ (b : Bool). b || has xs key) f ∙ has_left xs ys key (sym (ap (λ (b : Bool). b || has (xs ++ ys) key) f) ∙ there) none
]

-- an element of a list is there
pub has_at : (xs : List ℕ) (place : ℕ) → place < length xs → has xs (get_or xs place 0) ≡ true
has_at [] place lt = absurd (omega (arith, lt))
has_at (x ∷ xs) zero lt = ap (λ (b : Bool). b || has xs x) (eq-eqb x x refl)
has_at (x ∷ xs) (suc place) lt =
    let rest = has_at xs place (omega (arith, lt)) in
    elim (cases_Bool (x == get_or xs place 0)) [
      | inl t ↦ ap (λ (b : Bool). b || has xs (get_or xs place 0)) t
      | inr f ↦ ap (λ (b : Bool). b || has xs (get_or xs place 0)) f ∙ rest
    ]

-- a key is at most the last node if all are nodes
pub not_beyond : (nodes : ℕ) (xs : List ℕ) (key : ℕ) → AllByRecursion (IsNode nodes) xs → nodes < key → has xs key ≡ false
not_beyond nodes [] key all beyond = refl
not_beyond nodes (x ∷ xs) key all beyond =
    ap (λ (b : Bool). b || has xs key) (ne_eqb x key (λ same. let le = all.0.1 in omega (arith, same, le, beyond)))
    ∙ not_beyond nodes xs key all.1 beyond

-- the keys of rows, one row at a time
one_row : (b : Bool) (base key : ℕ) (keys : List ℕ) → has (if b then base ∷ keys else keys) key ≡ false
    → (has keys key ≡ false) × (b ≡ true → (base == key) ≡ false)
one_row true base key keys none = let parts = or_parts (base == key) (has keys key) none in (parts.1, λ is. parts.0)
one_row false base key keys none = (none, λ is. absurd (false≢true is))

other_row : (b : Bool) (base key : ℕ) (keys : List ℕ) → base ≢ key → has (if b then base ∷ keys else keys) key ≡ true → has keys key ≡ true
other_row true base key keys other there = sym (ap (λ (b : Bool). b || has keys key) (ne_eqb base key other)) ∙ there
other_row false base key keys other there = there

this_row : (b : Bool) (base : ℕ) (keys : List ℕ) → has keys base ≡ false → has (if b then base ∷ keys else keys) base ≡ true → b ≡ true
this_row true base keys none there = refl
this_row false base keys none there = absurd (both_ways (has keys base) none there)

below_rows : (base key : ℕ) (rows : List (SubsetRow × ℤ)) (customer : ℕ) → key < base → has (row_keys base rows customer) key ≡ false
below_rows base key [] customer below = refl
below_rows base key (row ∷ rows) customer below =
    at (keeps row.0 customer) (below_rows (base + 1) key rows customer (omega (arith, below)))
  where
    at : (b : Bool) → has (row_keys (base + 1) rows customer) key ≡ false
        → has (if b then base ∷ row_keys (base + 1) rows customer else row_keys (base + 1) rows customer) key ≡ false
    at true rest =
        ap (λ (b : Bool). b || has (row_keys (base + 1) rows customer) key) (ne_eqb base key (λ same. omega (arith, same, below))) ∙ rest
    at false rest = rest

-- ---- what a state doesn't tell

unkept : (base key : ℕ) (rows : List (SubsetRow × ℤ)) (state : RunState)
    → ((row : SubsetRow) → keeps row state.last ≡ false → state.odd row ≡ false) → base ≤ key
    → has (row_keys base rows state.last) key ≡ false → odd_at rows (key - base) state ≡ false
unkept base key [] state odd le none = refl
unkept base key (row ∷ rows) state odd le none =
    let parts = one_row (keeps row.0 state.last) base key (row_keys (base + 1) rows state.last) none in
    elim (cases_eq base key) [
      | inl same ↦
          let here : key - base ≡ 0 = omega (arith, same) in
          ap (λ (place : ℕ). odd_at (row ∷ rows) place state) here
          ∙ elim (cases_Bool (keeps row.0 state.last)) [
            | inl t ↦ absurd (both_ways (base == key) (parts.1 t) (eq-eqb base key same))
            | inr f ↦ odd row.0 f
          ]
      | inr other ↦
          let on : key - base ≡ suc (key - (base + 1)) = omega (arith, le, other) in
          ap (λ (place : ℕ). odd_at (row ∷ rows) place state) on
          ∙ unkept (base + 1) key rows state odd (omega (arith, le, other)) parts.0
    ]

pub at_node : (nodes : ℕ) (rows : List (SubsetRow × ℤ)) (state : RunState) (key : ℕ) → key ≤ nodes
    → told nodes rows state key ≡ state.seen key
at_node nodes rows state key le =
    ap (λ (b : Bool). if b then state.seen key else odd_at rows (key - (nodes + 1)) state) (le-leb key nodes le)

pub at_row : (nodes : ℕ) (rows : List (SubsetRow × ℤ)) (state : RunState) (key : ℕ) → nodes < key
    → told nodes rows state key ≡ odd_at rows (key - (nodes + 1)) state
at_row nodes rows state key lt =
    ap (λ (b : Bool). if b then state.seen key else odd_at rows (key - (nodes + 1)) state) (lt-leb key nodes lt)

pub untold : (rules : RunRules) (state : RunState) (word key : ℕ) → Remembers rules state word
    → has (keys_of rules.nodes rules.near rules.rows state.last) key ≡ false → told rules.nodes rules.rows state key ≡ false
untold rules state word key is none =
    let parts = has_parts (rules.near state.last) (row_keys (rules.nodes + 1) rules.rows state.last) key none in
    elim (cases_lt rules.nodes key) [
      | inl beyond ↦
          at_row rules.nodes rules.rows state key beyond
          ∙ unkept (rules.nodes + 1) key rules.rows state is.odd (omega (arith, beyond)) parts.1
      | inr node ↦ at_node rules.nodes rules.rows state key node ∙ is.seen key parts.0
    ]

-- ---- the first state

first_odd : (rows : List (SubsetRow × ℤ)) (place : ℕ) (rules : RunRules) (customer : ℕ)
    → odd_at rows place (first_state rules customer) ≡ in_row rows place customer
first_odd [] place rules customer = refl
first_odd (row ∷ rows) zero rules customer = refl
first_odd (row ∷ rows) (suc place) rules customer = first_odd rows place rules customer

pub first_told : (rules : RunRules) (customer key : ℕ)
    → told rules.nodes rules.rows (first_state rules customer) key ≡ is_member_of rules.nodes rules.rows customer key
first_told rules customer key =
    ap (λ (b : Bool). if nat_le key rules.nodes then false else b) (first_odd rules.rows (key - (rules.nodes + 1)) rules customer)

-- the first state knows only what its customer keeps
pub first_remembers : (rules : RunRules) (customer word : ℕ) → word ≡ memory_word (memory_of rules (first_state rules customer))
    → Remembers rules (first_state rules customer) word
first_remembers rules customer word is = record {
  is = is;
  seen = λ other none. refl;
  odd = λ row none. (or_parts (has row.set customer) (has row.further customer) none).0;
}

-- ---- the next state

next_odd : (base key : ℕ) (rows : List (SubsetRow × ℤ)) (rules : RunRules) (state : RunState) (next : ℕ) → base ≤ key
    → has (row_keys base rows next) key ≡ true
    → odd_at rows (key - base) (next_state rules state next)
    ≡ (if in_row rows (key - base) next then not (odd_at rows (key - base) state) else odd_at rows (key - base) state)
next_odd base key [] rules state next le there = absurd (false≢true there)
next_odd base key (row ∷ rows) rules state next le there = elim (cases_eq base key) [
  | inl same ↦
      let here : key - base ≡ 0 = omega (arith, same) in
      let own : has (if keeps row.0 next then base ∷ row_keys (base + 1) rows next else row_keys (base + 1) rows next) base ≡ true =
      subst (λ (k : ℕ). has (if keeps row.0 next then base ∷ row_keys (base + 1) rows next else row_keys (base + 1) rows next) k ≡ true)
      (sym same) there in
      let kept = this_row (keeps row.0 next) base (row_keys (base + 1) rows next) (below_rows (base + 1) base rows next (omega arith)) own in
      subst (λ (place : ℕ). odd_at (row ∷ rows) place (next_state rules state next)
      ≡ (if in_row (row ∷ rows) place next then not (odd_at (row ∷ rows) place state) else odd_at (row ∷ rows) place state)) (sym here)
      (ap (λ (b : Bool). b && (if has row.0.set next then not (state.odd row.0) else state.odd row.0)) kept)
  | inr other ↦
      let on : key - base ≡ suc (key - (base + 1)) = omega (arith, le, other) in
      subst (λ (place : ℕ). odd_at (row ∷ rows) place (next_state rules state next)
      ≡ (if in_row (row ∷ rows) place next then not (odd_at (row ∷ rows) place state) else odd_at (row ∷ rows) place state)) (sym on)
      (next_odd (base + 1) key rows rules state next (omega (arith, le, other))
      (other_row (keeps row.0 next) base key (row_keys (base + 1) rows next) other there))
]

-- a key that the next customer keeps, by what the state told of it
pub next_told : (rules : RunRules) (state : RunState) (next key : ℕ) → All (IsNode rules.nodes) (rules.near next)
    → has (keys_of rules.nodes rules.near rules.rows next) key ≡ true
    → told rules.nodes rules.rows (next_state rules state next) key
    ≡ (if nat_le key rules.nodes then (told rules.nodes rules.rows state key || (key == state.last))
    else (if is_member_of rules.nodes rules.rows next key then not (told rules.nodes rules.rows state key)
    else told rules.nodes rules.rows state key))
next_told rules state next key near there =
    let after = next_state rules state next in
    let rows = rules.rows in
    let place : ℕ = key - (rules.nodes + 1) in
    elim (cases_lt rules.nodes key) [
      | inl beyond ↦
          let f = lt-leb key rules.nodes beyond in
          let own = has_right (rules.near next) (row_keys (rules.nodes + 1) rows next) key there
          (not_beyond rules.nodes (rules.near next) key (recursion_from_All (IsNode rules.nodes) (rules.near next) near) beyond) in
          let member : is_member_of rules.nodes rows next key ≡ in_row rows place next =
          ap (λ (b : Bool). if b then false else in_row rows place next) f in
          let right : (if nat_le key rules.nodes then (told rules.nodes rows state key || (key == state.last))
          else (if is_member_of rules.nodes rows next key then not (told rules.nodes rows state key) else told rules.nodes rows state key))
          ≡ (if in_row rows place next then not (odd_at rows place state) else odd_at rows place state) =
          ap (λ (b : Bool). if b then (told rules.nodes rows state key || (key == state.last))
          else (if is_member_of rules.nodes rows next key then not (told rules.nodes rows state key) else told rules.nodes rows state key)) f
          ∙ ap₂ (λ (m t : Bool). if m then not t else t) member (at_row rules.nodes rows state key beyond) in
          at_row rules.nodes rows after key beyond
          ∙ (next_odd (rules.nodes + 1) key rows rules state next (omega (arith, beyond)) own ∙ sym right)
      | inr node ↦
          let t = le-leb key rules.nodes node in
          let own = has_left (rules.near next) (row_keys (rules.nodes + 1) rows next) key there
          (below_rows (rules.nodes + 1) key rows next (omega (arith, node))) in
          let right : (if nat_le key rules.nodes then (told rules.nodes rows state key || (key == state.last))
          else (if is_member_of rules.nodes rows next key then not (told rules.nodes rows state key) else told rules.nodes rows state key))
          ≡ (state.seen key || (key == state.last)) =
          ap (λ (b : Bool). if b then (told rules.nodes rows state key || (key == state.last))
          else (if is_member_of rules.nodes rows next key then not (told rules.nodes rows state key) else told rules.nodes rows state key)) t
          ∙ ap (λ (b : Bool). b || (key == state.last)) (at_node rules.nodes rows state key node) in
          at_node rules.nodes rows after key node
          ∙ (ap (λ (b : Bool). (state.seen key || (key == state.last)) && b) own
          ∙ (and_one (state.seen key || (key == state.last)) ∙ sym right))
    ]
  where
    and_one : (b : Bool) → (b && true) ≡ b
    and_one true = refl
    and_one false = refl

-- the next state knows only what its customer keeps
pub next_remembers : (rules : RunRules) (state : RunState) (next word : ℕ) → word ≡ memory_word (memory_of rules (next_state rules state next))
    → Remembers rules (next_state rules state next) word
next_remembers rules state next word is = record {
  is = is;
  seen = λ other none. and_right (state.seen other || (other == state.last)) (has (rules.near next) other) none;
  odd = λ row none. and_left (keeps row next) (if has row.set next then not (state.odd row) else state.odd row) none;
}

-- ---- charges

-- what a step pays for the row at a place
abbrev paid_at : List (SubsetRow × ℤ) → ℕ → RunState → ℕ → ℤ
paid_at [] place state next = pos 0
paid_at (row ∷ rows) zero state next = if is_charged row.0 state next then row.1 else pos 0
paid_at (row ∷ rows) (suc place) state next = paid_at rows place state next

paid_is : (rows : List (SubsetRow × ℤ)) (place : ℕ) (state : RunState) (next : ℕ)
    → paid_at rows place state next
    ≡ (if odd_at rows place state && in_row rows place next then get_or (map (λ (row : SubsetRow × ℤ). row.1) rows) place (pos 0) else pos 0)
paid_is [] place state next = refl
paid_is (row ∷ rows) zero state next = refl
paid_is (row ∷ rows) (suc place) state next = paid_is rows place state next

rows_paid : (f : ℕ → ℤ) (base : ℕ) (rows : List (SubsetRow × ℤ)) (state : RunState) (next : ℕ)
    → ((place : ℕ) → f (base + place) ≡ paid_at rows place state next)
    → sum_int_by f (row_keys base rows next)
    ≡ sum_int_by (λ (priced : SubsetRow × ℤ). if is_charged priced.0 state next then priced.1 else pos 0) rows
rows_paid f base [] state next each = refl
rows_paid f base (row ∷ rows) state next each =
    let rest = rows_paid f (base + 1) rows state next
    (λ place. ap f (omega arith) ∙ each (suc place)) in
    at (keeps row.0 next) (refl) (sym (ap f (omega arith)) ∙ each 0) rest
  where
    at : (b : Bool) → keeps row.0 next ≡ b → f base ≡ (if is_charged row.0 state next then row.1 else pos 0)
        → sum_int_by f (row_keys (base + 1) rows next)
        ≡ sum_int_by (λ (priced : SubsetRow × ℤ). if is_charged priced.0 state next then priced.1 else pos 0) rows
        → sum_int_by f (if b then base ∷ row_keys (base + 1) rows next else row_keys (base + 1) rows next)
        ≡ (if is_charged row.0 state next then row.1 else pos 0)
        +ℤ sum_int_by (λ (priced : SubsetRow × ℤ). if is_charged priced.0 state next then priced.1 else pos 0) rows
    at true is own rest = omega (arith, ints, own, rest)
    at false is own rest =
        let out = (or_parts (has row.0.set next) (has row.0.further next) is).0 in
        let free : (if is_charged row.0 state next then row.1 else pos 0) ≡ pos 0 =
        ap (λ (b : Bool). if b then row.1 else pos 0) (and_right (state.odd row.0) (has row.0.set next) out) in
        omega (arith, ints, free, rest)

-- what a step pays for a key
abbrev pub pays : ℕ → List (SubsetRow × ℤ) → List ℤ → RunState → ℕ → ℕ → ℤ
pays nodes rows charges state next key =
    if told nodes rows state key && is_member_of nodes rows next key then get_or charges (key - (nodes + 1)) (pos 0) else pos 0

pays_row : (nodes : ℕ) (rows : List (SubsetRow × ℤ)) (state : RunState) (next place : ℕ)
    → pays nodes rows (map (λ (row : SubsetRow × ℤ). row.1) rows) state next (nodes + 1 + place) ≡ paid_at rows place state next
pays_row nodes rows state next place =
    let charges : List ℤ = map (λ (row : SubsetRow × ℤ). row.1) rows in
    let key : ℕ = nodes + 1 + place in
    let at : key - (nodes + 1) ≡ place = omega arith in
    let member : is_member_of nodes rows next key ≡ in_row rows place next =
    ap (λ (b : Bool). if b then false else in_row rows (key - (nodes + 1)) next) (lt-leb key nodes (omega arith))
    ∙ ap (λ (k : ℕ). in_row rows k next) at in
    let odd : told nodes rows state key ≡ odd_at rows place state =
    at_row nodes rows state key (omega arith) ∙ ap (λ (k : ℕ). odd_at rows k state) at in
    ap₂ (λ (t m : Bool). if t && m then get_or charges (key - (nodes + 1)) (pos 0) else pos 0) odd member
    ∙ (ap (λ (k : ℕ). if odd_at rows place state && in_row rows place next then get_or charges k (pos 0) else pos 0) at
    ∙ sym (paid_is rows place state next))

pays_nothing : (nodes : ℕ) (rows : List (SubsetRow × ℤ)) (charges : List ℤ) (state : RunState) (next : ℕ) (keys more : List ℕ)
    → AllByRecursion (IsNode nodes) keys
    → sum_int_by (pays nodes rows charges state next) (keys ++ more) ≡ sum_int_by (pays nodes rows charges state next) more
pays_nothing nodes rows charges state next [] more all = refl
pays_nothing nodes rows charges state next (key ∷ keys) more all =
    let none : is_member_of nodes rows next key ≡ false =
    ap (λ (b : Bool). if b then false else in_row rows (key - (nodes + 1)) next) (le-leb key nodes all.0.1) in
    let own : pays nodes rows charges state next key ≡ pos 0 =
    ap (λ (b : Bool). if b then get_or charges (key - (nodes + 1)) (pos 0) else pos 0)
    (and_right (told nodes rows state key) (is_member_of nodes rows next key) none) in
    let rest = pays_nothing nodes rows charges state next keys more all.1 in
    omega (arith, ints, own, rest)

-- all keys of the next customer together pay the charges of the step
pub keys_pay : (rules : RunRules) (charges : List ℤ) (state : RunState) (next : ℕ)
    → map (λ (row : SubsetRow × ℤ). row.1) rules.rows ≡ charges → All (IsNode rules.nodes) (rules.near next)
    → sum_int_by (pays rules.nodes rules.rows charges state next) (keys_of rules.nodes rules.near rules.rows next) ≡ charged rules state next
keys_pay rules charges state next same near =
    pays_nothing rules.nodes rules.rows charges state next (rules.near next) (row_keys (rules.nodes + 1) rules.rows next)
    (recursion_from_All (IsNode rules.nodes) (rules.near next) near)
    ∙ rows_paid (pays rules.nodes rules.rows charges state next) (rules.nodes + 1) rules.rows state next
    (λ place. subst (λ (gs : List ℤ). pays rules.nodes rules.rows gs state next (rules.nodes + 1 + place)
    ≡ paid_at rules.rows place state next) same (pays_row rules.nodes rules.rows state next place))

-- ---- the code's keys

-- what a bit tells of a key
pub place_tells : (rules : RunRules) (state : RunState) (word key place : ℕ) → Remembers rules state word
    → length (keys_of rules.nodes rules.near rules.rows state.last) ≤ 64
    → IsKeyPlace (keys_of rules.nodes rules.near rules.rows state.last) place key
    → get_or (memory_of rules state) place false ≡ told rules.nodes rules.rows state key
place_tells rules state word key place is few (inl none) =
    let keys : List ℕ = keys_of rules.nodes rules.near rules.rows state.last in
    let long = length-map keys (told rules.nodes rules.rows state) in
    let at = none.0 in
    get_or_past (memory_of rules state) place false (omega (arith, long, few, at)) ∙ sym (untold rules state word key is none.1)
place_tells rules state word key place is few (inr there) =
    let keys : List ℕ = keys_of rules.nodes rules.near rules.rows state.last in
    get_or-map (told rules.nodes rules.rows state) keys place 0 false there.0 ∙ ap (told rules.nodes rules.rows state) there.1

-- the bits of the first customer
pub first_bits : (rules : RunRules) (customer : ℕ) (keys : List MemoryKey)
    → AllByRecursion (λ (key : MemoryKey). key.is_member ≡ is_member_of rules.nodes rules.rows customer key.key) keys
    → map (λ (key : MemoryKey). key.is_member) keys
    ≡ map (told rules.nodes rules.rows (first_state rules customer)) (map (λ (key : MemoryKey). key.key) keys)
first_bits rules customer [] all = refl
first_bits rules customer (key ∷ keys) all =
    ap₂ (λ (bit : Bool) (bits : List Bool). bit ∷ bits) (all.0 ∙ sym (first_told rules customer key.key)) (first_bits rules customer keys all.1)
