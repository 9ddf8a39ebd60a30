-- Sets divide the nodes into parts, found by bits of a number for each node (src/family.rt), and cycles through parts
-- that are widened.
use Rattle.tsp_cases.proofs.Prelude.{◌≡◌, ◌≢◌, ℕ, ◌+◌, ◌-◌, ◌*◌, ◌/◌, ◌%◌, ◌^◌, ◌<◌, ◌≤◌, ◌⊎◌, Bool, true, false, zero, not, cond, List, [], ◌∷◌, ◌++◌, length, get_or, drop, ℤ, ◌+ℤ◌, ◌≤ℤ◌, inl, inr, refl, arith, ap, ap₂, sym, ◌∙◌, subst, pow-suc, bit_xor, length-append, suc, ◌==◌, map, cases_lt, cases_eq, eq-eqb, ne_eqb, ints, drop_more, get_or_append_left, get_or_default, get_or_past, get_or-map, length-map, get_or_push, recursion_from_All, All-from_recursion, All-weaker, div-add-mod', xor_block, ones_cat, Vec, count_ones, All, Any, AllByRecursion, AllZip, pos, slice_index, if◌then◌else◌, IsNode, one_if, length_of, IsCycle}
use Rattle.std.proofs.Math.Nat.{div-lt_iff_lt-mul, mod-lt}
use Rattle.std.proofs.lemmas.List.Quantifiers.{all_pairs_push}
use lib.Count.{ones, ones_in}
use Rattle.tsp_cases.proofs.PartWalks.{length_to, alike_crossings, part_found, unlike_nodes_need_parts, Within, within_or_apart, apart_from_pairs, cycle_from, same_part, cycle_has, parts_bound_cycles, shorter_cycle, IsInPart, same_length, in_range, triangles}
use Rattle.tsp_cases.specs.Crossings.{IsLeastLength, IsMostCost, has, sets_of, sets_crossed, AreAlike, HasUnlike, AreTooMany, ArePartsOf, between, membership, AreMemberships, IsNodePlace, AreDifferent, AreFirsts, MembershipsTellSets, IsLargest, lists_of, cost_by_rows, as_whole, PartsTellCycles, AllApart, IsDivision, DivisionsBoundCycles}

-- ---- nodes of the same membership are in the same sets

membership_of_alike : (sets : List (ℕ → Bool)) (i j : ℕ) → AllByRecursion (λ set. set i ≡ set j) sets
    → membership sets i ≡ membership sets j
membership_of_alike [] i j h = refl
membership_of_alike (s ∷ ss) i j h = ap₂ (λ x b. x * 2 + (if b then 1 else 0)) (membership_of_alike ss i j h.1) h.0

lowest : (a b : Bool) (x y : ℕ) → x * 2 + (if a then 1 else 0) ≡ y * 2 + (if b then 1 else 0) → (a ≡ b) × (x ≡ y)
lowest true true x y h = (refl, omega (arith, h))
lowest true false x y h = absurd (omega (arith, h))
lowest false true x y h = absurd (omega (arith, h))
lowest false false x y h = (refl, omega (arith, h))

alike_of_membership : (sets : List (ℕ → Bool)) (i j : ℕ) → membership sets i ≡ membership sets j
    → AllByRecursion (λ set. set i ≡ set j) sets
alike_of_membership [] i j h = tt
alike_of_membership (s ∷ ss) i j h = let p = lowest (s i) (s j) (membership ss i) (membership ss j) h in (p.0, alike_of_membership ss i j p.1)

pub memberships_tell_sets : MembershipsTellSets
memberships_tell_sets sets i j = (
  λ same. All-from_recursion (λ set. set i ≡ set j) sets (alike_of_membership sets i j same),
  λ alike. membership_of_alike sets i j (recursion_from_All (λ set. set i ≡ set j) sets alike),
)

-- ---- a membership, bit after bit

-- the value has the bits of the first sets
pub record IsSoFar (sets : List (ℕ → Bool)) (count node value : ℕ) : Type 0 where
  pub small : value < 2 ^ count
  pub rest : value + 2 ^ count * membership (drop count sets) node ≡ membership sets node

-- plan: by whether the set has the node: the membership has one bit more in front, 1 or 0 (`split`, `power`)
pub membership_more : (sets : List (ℕ → Bool)) (count node value : ℕ) (set : ℕ → Bool) → count < length sets
    → get_or sets count set ≡ set → IsSoFar sets count node value
    → IsSoFar sets (count + 1) node (value + (if set node then 2 ^ count else 0))
membership_more sets count node value set lt is h = step (set node) refl
  where
    power : 2 ^ (count + 1) ≡ 2 ^ count * 2
    power = ap (λ k. 2 ^ k) (omega arith) ∙ pow-suc 2 count

    split : membership (drop count sets) node ≡ membership (drop (count + 1) sets) node * 2 + (if set node then 1 else 0)
    split = ap (λ (ss : List (ℕ → Bool)). membership ss node) (drop_more sets count set lt ∙ ap (λ (s : ℕ → Bool). s ∷ drop (count + 1) sets) is)

    step : (b : Bool) → set node ≡ b → IsSoFar sets (count + 1) node (value + (if set node then 2 ^ count else 0))
    step true e = rw e (record {
      small = omega (arith, power, h.small);
      rest =
          let whole : membership (drop count sets) node ≡ membership (drop (count + 1) sets) node * 2 + 1 = split ∙ ap (λ b. membership (drop (count + 1) sets) node * 2 + (if b then 1 else 0)) e in
          let before : value + 2 ^ count * (membership (drop (count + 1) sets) node * 2 + 1) ≡ membership sets node = ap (λ z. value + 2 ^ count * z) (sym whole) ∙ h.rest in
          rw power (omega (arith, before));
    })
    step false e = rw e (record {
      small = omega (arith, power, h.small);
      rest =
          let whole : membership (drop count sets) node ≡ membership (drop (count + 1) sets) node * 2 + 0 = split ∙ ap (λ b. membership (drop (count + 1) sets) node * 2 + (if b then 1 else 0)) e in
          let before : value + 2 ^ count * (membership (drop (count + 1) sets) node * 2 + 0) ≡ membership sets node = ap (λ z. value + 2 ^ count * z) (sym whole) ∙ h.rest in
          rw power (omega (arith, before));
    })

-- ---- a bit at the nodes of a list

-- the number of a node with the bit if it is among the first nodes
abbrev pub with_bit : ℕ → List ℕ → ℕ → ℕ → ℕ
with_bit bit nodes node old = old + (if has nodes node then bit else 0)

-- the set at a place, from the sets of the code
pub set_at : (lists : List (Vec ℕ)) (i : ℕ) (default : Vec ℕ) (nodes : List ℕ) → i < length lists
    → nodes ≡ (get_or lists i default).items
    → get_or (sets_of (lists_of lists)) i (has nodes) ≡ has nodes
set_at lists i default nodes lt same =
    let inner : i < length (lists_of lists) = omega (arith, lt, length-map lists (λ (set : Vec ℕ). set.items)) in
    get_or-map has (lists_of lists) i nodes (has nodes) inner
    ∙ ap has (get_or-map (λ (set : Vec ℕ). set.items) lists i default nodes lt ∙ sym same)

pub sets_long : (lists : List (Vec ℕ)) → length (sets_of (lists_of lists)) ≡ length lists
sets_long lists = length-map (lists_of lists) has ∙ length-map lists (λ (set : Vec ℕ). set.items)

-- one set more
pub so_far_more : (sets : List (ℕ → Bool)) (count x old value bit : ℕ) (nodes : List ℕ) → count < length sets
    → get_or sets count (has nodes) ≡ has nodes → bit ≡ 2 ^ count
    → value ≡ old + (if has nodes x then bit else 0) → IsSoFar sets count x old → IsSoFar sets (count + 1) x value
so_far_more sets count x old value bit nodes lt is power new h =
    let same : value ≡ old + (if has nodes x then 2 ^ count else 0) = new ∙ ap (λ b. old + (if has nodes x then b else 0)) power in
    subst (IsSoFar sets (count + 1) x) (sym same) (membership_more sets count x old (has nodes) lt is h)

-- ---- the first node of each part

pub any_more : (P : ℕ → Type 0) (xs : List ℕ) (y : ℕ) → Any P xs → Any P (xs ++ y ∷ [])
any_more P xs y h =
    (h.0, h.1, omega (arith, h.2, length-append xs (y ∷ [])), get_or_append_left xs (y ∷ []) h.1 h.0 h.2 ∙ h.3, h.4)

pub differ_more : (memberships nodes : List ℕ) (node : ℕ) → AreDifferent memberships nodes
    → (Any (λ first. slice_index memberships node ≡ slice_index memberships first) nodes → ⊥)
    → AreDifferent memberships (nodes ++ node ∷ [])
differ_more memberships nodes node differ new =
    all_pairs_push (λ i j. slice_index memberships i ≢ slice_index memberships j) nodes node differ
    (λ k d lt. λ same. new (k, get_or nodes k d, lt, get_or_default nodes k (get_or nodes k d) d lt, sym same))

-- ---- parts

node_from : (n : ℕ) (memberships : List ℕ) (node : ℕ) → length memberships ≡ n + 1 → IsNodePlace memberships node → IsNode n node
node_from n memberships node long h = (h.0, omega (arith, h.1, long))

alike_from : (n : ℕ) (sets : List (ℕ → Bool)) (memberships : List ℕ) (i j : ℕ) → AreMemberships n sets memberships
    → IsNodePlace memberships i → IsNodePlace memberships j → slice_index memberships i ≡ slice_index memberships j
    → AreAlike sets i j
alike_from n sets memberships i j are in_i in_j same =
    All-from_recursion (λ set. set i ≡ set j) sets (alike_of_membership sets i j (sym (are.said i in_i.1) ∙ same ∙ are.said j in_j.1))

differ_from : (n : ℕ) (sets : List (ℕ → Bool)) (memberships : List ℕ) (i j : ℕ) → AreMemberships n sets memberships
    → IsNodePlace memberships i → IsNodePlace memberships j → slice_index memberships i ≢ slice_index memberships j
    → AreAlike sets i j → ⊥
differ_from n sets memberships i j are in_i in_j other alike =
    other (are.said i in_i.1 ∙ membership_of_alike sets i j (recursion_from_All (λ set. set i ≡ set j) sets alike) ∙ sym (are.said j in_j.1))

pub places_from : (n : ℕ) (sets : List (ℕ → Bool)) (memberships firsts : List ℕ) → AreMemberships n sets memberships
    → All (IsNode n) firsts → All (IsNodePlace memberships) firsts
places_from n sets memberships firsts are nodes =
    All-weaker (IsNode n) (IsNodePlace memberships) (λ node h. (h.0, omega (arith, h.1, are.count))) firsts nodes

pub parts_from : (n : ℕ) (sets : List (ℕ → Bool)) (memberships firsts : List ℕ) → AreMemberships n sets memberships
    → AreFirsts memberships firsts → ArePartsOf n sets firsts
parts_from n sets memberships firsts are is = record {
  nodes = All-weaker (IsNodePlace memberships) (IsNode n) (λ node h. node_from n memberships node are.count h) firsts is.places;
  apart = λ i j d lt in_list. differ_from n sets memberships (get_or firsts i d) (get_or firsts j d) are (is.places i d (omega (arith, lt, in_list))) (is.places j d in_list)
      (is.differ i j d lt in_list);
  each = λ node h.
      let place : IsNodePlace memberships node = (h.0, omega (arith, h.1, are.count)) in
      let found = is.each node place in
      let there : IsNodePlace memberships found.1 = subst (IsNodePlace memberships) found.3 (is.places found.0 found.1 found.2) in
      (found.0, found.1, found.2, found.3, alike_from n sets memberships node found.1 are place there found.4);
}

pub unlike_from : (n count : ℕ) (sets : List (ℕ → Bool)) (memberships : List ℕ) → AreMemberships n sets memberships
    → (nodes : List ℕ) × (length nodes ≡ count) × All (IsNodePlace memberships) nodes × AreDifferent memberships nodes
    → HasUnlike count n sets
unlike_from n count sets memberships are found = (
  found.0,
  found.1,
  All-weaker (IsNodePlace memberships) (IsNode n) (λ node h. node_from n memberships node are.count h) found.0 found.2,
  λ i j d lt in_list. differ_from n sets memberships (get_or found.0 i d) (get_or found.0 j d) are (found.2 i d (omega (arith, lt, in_list))) (found.2 j d in_list) (found.3 i j d lt in_list),
)

-- ---- crossings by memberships

bits_differ : (a b : Bool) → pos (count_ones (bit_xor (if a then 1 else 0) (if b then 1 else 0))) ≡ one_if (cond a (not b) b)
unfolding ones ones_in
bits_differ true true = refl
bits_differ true false = refl
bits_differ false true = refl
bits_differ false false = refl

one_bit : (b : Bool) → (if b then 1 else 0) < 2
one_bit true = omega arith
one_bit false = omega arith

one_bit_xor : (a b : Bool) → bit_xor (if a then 1 else 0) (if b then 1 else 0) < 2
one_bit_xor true true = omega arith
one_bit_xor true false = omega arith
one_bit_xor false true = omega arith
one_bit_xor false false = omega arith

no_bits : pos (count_ones (bit_xor 0 0)) ≡ pos 0
unfolding ones ones_in
no_bits = refl

pub crossings_by_memberships : (sets : List (ℕ → Bool)) (i j : ℕ)
    → pos (count_ones (bit_xor (membership sets i) (membership sets j))) ≡ sets_crossed sets i j
crossings_by_memberships [] i j = no_bits
crossings_by_memberships (s ∷ ss) i j =
    let split = xor_block 1 (membership ss i) (membership ss j) (if s i then 1 else 0) (if s j then 1 else 0) (one_bit (s i)) (one_bit (s j)) in
    let sum = ones_cat 1 (bit_xor (membership ss i) (membership ss j)) (bit_xor (if s i then 1 else 0) (if s j then 1 else 0)) (one_bit_xor (s i) (s j)) in
    let whole : count_ones (bit_xor (membership (s ∷ ss) i) (membership (s ∷ ss) j))
    ≡ count_ones (bit_xor (membership ss i) (membership ss j)) + count_ones (bit_xor (if s i then 1 else 0) (if s j then 1 else 0)) = ap count_ones split ∙ sum in
    let rest = crossings_by_memberships ss i j in
    let here = bits_differ (s i) (s j) in
    omega (arith, ints, whole, rest, here)

-- ---- equal costs have one least length

same_to : (n : ℕ) (c d : ℕ → ℕ → ℤ) → ((i j : ℕ) → IsNode n i → IsNode n j → c i j ≡ d i j) → (end from : ℕ) (nodes : List ℕ)
    → IsNode n end → IsNode n from → AllByRecursion (IsNode n) nodes
    → length_to c end from nodes ≡ length_to d end from nodes
same_to n c d same end from [] e f h = ap (λ z. z +ℤ pos 0) (same from end f e)
same_to n c d same end from (x ∷ xs) e f h = ap₂ (λ y z. y +ℤ z) (same from x f h.0) (same_to n c d same end x xs e h.0 h.1)

same_of : (n : ℕ) (c d : ℕ → ℕ → ℤ) → ((i j : ℕ) → IsNode n i → IsNode n j → c i j ≡ d i j) → (nodes : List ℕ)
    → AllByRecursion (IsNode n) nodes → length_of c nodes ≡ length_of d nodes
same_of n c d same [] h = refl
same_of n c d same (x ∷ xs) h = same_to n c d same x x xs h.0 h.0 h.1

pub same_least : (n : ℕ) (c d : ℕ → ℕ → ℤ) (least : ℤ) → ((i j : ℕ) → IsNode n i → IsNode n j → c i j ≡ d i j)
    → IsLeastLength n c least → IsLeastLength n d least
same_least n c d least same is = record {
  nodes = is.nodes;
  cycle = is.cycle;
  length_is = is.length_is ∙ same_of n c d same is.nodes (recursion_from_All (IsNode n) is.nodes is.cycle.range);
  below = λ nodes cycle.
      let e = same_of n c d same nodes (recursion_from_All (IsNode n) nodes cycle.range) in
      let low = is.below nodes cycle in
      omega (arith, ints, e, low);
}

-- ---- the costs that the code lists, which are those between parts

module _ (n : ℕ) (sets : List (ℕ → Bool)) (memberships firsts costs : List ℕ) (are : AreMemberships n sets memberships) (places : All (IsNodePlace memberships) firsts)
    (values : (a b : ℕ) → a < length firsts → b < length firsts
    → slice_index costs (a * length firsts + b) ≡ count_ones (bit_xor (slice_index memberships (slice_index firsts a)) (slice_index memberships (slice_index firsts b)))) where
  membership_at : (a : ℕ) → a < length firsts → slice_index memberships (slice_index firsts a) ≡ membership sets (slice_index firsts a)
  membership_at a lt = are.said (slice_index firsts a) (places a 0 lt).1

  cost_at : (a b : ℕ) → a < length firsts → b < length firsts → pos (slice_index costs (a * length firsts + b)) ≡ sets_crossed sets (slice_index firsts a) (slice_index firsts b)
  cost_at a b in_a in_b = ap pos (values a b in_a in_b ∙ ap₂ (λ x y. count_ones (bit_xor x y)) (membership_at a in_a) (membership_at b in_b))
      ∙ crossings_by_memberships sets (slice_index firsts a) (slice_index firsts b)

  pub least_between : (least : ℤ) → IsLeastLength (length firsts) (as_whole (cost_by_rows (length firsts) costs)) least → IsLeastLength (length firsts) (between sets firsts) least
  least_between least is = same_least (length firsts) (as_whole (cost_by_rows (length firsts) costs)) (between sets firsts) least
      (λ i j in_i in_j. cost_at (i - 1) (j - 1) (omega (arith, in_i.0, in_i.1)) (omega (arith, in_j.0, in_j.1))) is

  -- the largest of them is the most that two nodes cross
  -- plan: two nodes cross as the first nodes of their parts do (`alike_crossings`), whose numbers the code lists
  -- (`cost_at`)
  pub most_between : (largest : ℕ) → 1 ≤ n → length costs ≡ length firsts * length firsts → ArePartsOf n sets firsts → IsLargest costs largest → IsMostCost n (sets_crossed sets) (pos largest)
  most_between largest some long parts is = found is.found.0 is.found.1 (cases_lt is.found.0 (length costs))
    where
      above : (i j : ℕ) → IsNode n i → IsNode n j → sets_crossed sets i j ≤ℤ pos largest
      above i j in_i in_j =
          let p = part_found n sets firsts i parts in_i in
          let q = part_found n sets firsts j parts in_j in
          let a : p.0 - 1 < length firsts = omega (arith, p.1.0.0, p.1.0.1) in
          let b : q.0 - 1 < length firsts = omega (arith, q.1.0.0, q.1.0.1) in
          let same = alike_crossings sets i j (slice_index firsts (p.0 - 1)) (slice_index firsts (q.0 - 1)) p.1.1 q.1.1 in
          let cost = cost_at (p.0 - 1) (q.0 - 1) a b in
          let most = is.above ((p.0 - 1) * length firsts + (q.0 - 1)) in
          omega (arith, ints, same, cost, most)

      first : ℕ
      first = (part_found n sets firsts 1 parts (omega arith, some)).0 - 1

      first_in : first < length firsts
      first_in = let p = part_found n sets firsts 1 parts (omega arith, some) in omega (arith, p.1.0.0, p.1.0.1)

      at : (a b : ℕ) → a < length firsts → b < length firsts → largest ≡ slice_index costs (a * length firsts + b) → IsMostCost n (sets_crossed sets) (pos largest)
      at a b in_a in_b same = record {
        first = slice_index firsts a;
        second = slice_index firsts b;
        first_node = parts.nodes a 0 in_a;
        second_node = parts.nodes b 0 in_b;
        most_is = ap pos same ∙ cost_at a b in_a in_b;
        above = above;
      }

      none : largest ≡ 0 → IsMostCost n (sets_crossed sets) (pos largest)
      none is_none = at first first first_in first_in (is_none ∙ sym (no_cost (is.above (first * length firsts + first)) is_none))
        where
          no_cost : slice_index costs (first * length firsts + first) ≤ largest → largest ≡ 0 → slice_index costs (first * length firsts + first) ≡ 0
          no_cost most is_zero = omega (arith, most, is_zero)

      found : (k : ℕ) → largest ≡ slice_index costs k → (k < length costs) ⊎ (length costs ≤ k) → IsMostCost n (sets_crossed sets) (pos largest)
      found k same (inl lt) =
          let m : ℕ = length firsts in
          let within : k < m * m = omega (arith, lt, long) in
          let some : zero < m = omega (arith, first_in) in
          let split : k / m * m + k % m ≡ k = div-add-mod' k m in
          at (k / m) (k % m) ((div-lt_iff_lt-mul some).1 within) (mod-lt k some) (same ∙ ap (slice_index costs) (sym split))
      found k same (inr past) = none (same ∙ get_or_past costs k 0 past)

-- if the parts are few, they aren't too many
pub few_parts : (n : ℕ) (sets : List (ℕ → Bool)) (firsts : List ℕ) → length sets ≤ 63 → ArePartsOf n sets firsts
    → length firsts ≤ 14 → AreTooMany n sets → ⊥
few_parts n sets firsts few is small (inl more) = omega (arith, few, more)
few_parts n sets firsts few is small (inr unlike) =
    let least = unlike_nodes_need_parts n sets firsts unlike.0 is unlike.2 unlike.3 in
    omega (arith, least, unlike.1, small)

-- ---- a cyclic order of parts is widened to a cycle that crosses the sets no more often

-- ---- a node after another one

abbrev after : ℕ → ℕ → List ℕ → List ℕ
after u v [] = []
after u v (x ∷ xs) = cond (x == u) (x ∷ v ∷ xs) (x ∷ after u v xs)

after_all : (P : ℕ → Type 0) (u v : ℕ) (xs : List ℕ) → P v → AllByRecursion P xs → AllByRecursion P (after u v xs)
after_all P u v [] new h = tt
after_all P u v (x ∷ xs) new h = elim (cases_eq x u) [
  | inl same ↦ rw (eq-eqb x u same) (h.0, (new, h.1))
  | inr other ↦ rw (ne_eqb x u other) (h.0, after_all P u v xs new h.1)
]

after_once : (u v : ℕ) (xs : List ℕ) → AllApart xs → AllByRecursion (λ y. v ≢ y) xs → AllApart (after u v xs)
after_once u v [] once apart = tt
after_once u v (x ∷ xs) once apart =
    let away : x ≢ v = λ same. apart.0 (sym same) in
    elim (cases_eq x u) [
      | inl same ↦ rw (eq-eqb x u same) ((away, once.0), (apart.1, once.1))
      | inr other ↦ rw (ne_eqb x u other) (after_all (λ y. x ≢ y) u v xs away once.0, after_once u v xs once.1 apart.1)
    ]

after_has : (u v : ℕ) (xs : List ℕ) (z : ℕ) → Within xs z → Within (after u v xs) z
after_has u v [] z h = absurd h
after_has u v (x ∷ xs) z h = elim (cases_eq x u) [
  | inl same ↦ rw (eq-eqb x u same) (here h)
  | inr other ↦ rw (ne_eqb x u other) (there (after_has u v xs z) h)
]
  where
    here : (x ≡ z) ⊎ Within xs z → (x ≡ z) ⊎ ((v ≡ z) ⊎ Within xs z)
    here (inl same) = inl same
    here (inr w) = inr (inr w)

    there : (Within xs z → Within (after u v xs) z) → (x ≡ z) ⊎ Within xs z → (x ≡ z) ⊎ Within (after u v xs) z
    there rest (inl same) = inl same
    there rest (inr w) = inr (rest w)

after_new : (u v : ℕ) (xs : List ℕ) → Within xs u → Within (after u v xs) v
after_new u v [] h = absurd h
after_new u v (x ∷ xs) h = elim (cases_eq x u) [
  | inl same ↦ rw (eq-eqb x u same) (inr (inl refl))
  | inr other ↦ rw (ne_eqb x u other) (inr (after_new u v xs (tail other h)))
]
  where
    tail : x ≢ u → (x ≡ u) ⊎ Within xs u → Within xs u
    tail other (inl same) = absurd (other same)
    tail other (inr w) = w

-- ---- costs that don't distinguish the new node from the first one of its part

pub record IsAs (cost : ℕ → ℕ → ℤ) (u v : ℕ) : Type 0 where
  pub none : cost u v ≡ pos 0
  pub same : (x : ℕ) → cost v x ≡ cost u x

from_same : (cost : ℕ → ℕ → ℤ) (u v end : ℕ) (xs : List ℕ) → IsAs cost u v → length_to cost end v xs ≡ length_to cost end u xs
from_same cost u v end [] is = omega (arith, ints, is.same end)
from_same cost u v end (x ∷ xs) is = omega (arith, ints, is.same x)

added_here : (cost : ℕ → ℕ → ℤ) (u v end x : ℕ) (xs : List ℕ) → IsAs cost u v → x ≡ u
    → length_to cost end x (v ∷ xs) ≡ length_to cost end x xs
added_here cost u v end x xs is same =
    let at_u : length_to cost end u (v ∷ xs) ≡ length_to cost end u xs = omega (arith, ints, is.none, from_same cost u v end xs is) in
    subst (λ (y : ℕ). length_to cost end y (v ∷ xs) ≡ length_to cost end y xs) (sym same) at_u

after_long : (cost : ℕ → ℕ → ℤ) (u v end from : ℕ) (xs : List ℕ) → IsAs cost u v
    → length_to cost end from (after u v xs) ≡ length_to cost end from xs
after_long cost u v end from [] is = refl
after_long cost u v end from (x ∷ xs) is = elim (cases_eq x u) [
  | inl same ↦ rw (eq-eqb x u same) (ap (λ z. cost from x +ℤ z) (added_here cost u v end x xs is same))
  | inr other ↦ rw (ne_eqb x u other) (ap (λ z. cost from x +ℤ z) (after_long cost u v end x xs is))
]

after_length : (cost : ℕ → ℕ → ℤ) (u v : ℕ) (xs : List ℕ) → IsAs cost u v → length_of cost (after u v xs) ≡ length_of cost xs
after_length cost u v [] is = refl
after_length cost u v (x ∷ xs) is = elim (cases_eq x u) [
  | inl same ↦ rw (eq-eqb x u same) (added_here cost u v x x xs is same)
  | inr other ↦ rw (ne_eqb x u other) (after_long cost u v x x xs is)
]

no_crossings : (sets : List (ℕ → Bool)) (u : ℕ) → sets_crossed sets u u ≡ pos 0
no_crossings [] u = refl
no_crossings (s ∷ ss) u = omega (arith, ints, none (s u), no_crossings ss u)
  where
    none : (b : Bool) → one_if (cond b (not b) b) ≡ pos 0
    none true = refl
    none false = refl

alike_self : (sets : List (ℕ → Bool)) (u : ℕ) → AreAlike sets u u
alike_self sets u = λ k d lt. refl

crossings_as : (sets : List (ℕ → Bool)) (u v : ℕ) → AreAlike sets v u → IsAs (sets_crossed sets) u v
crossings_as sets u v alike = record {
  none = alike_crossings sets u v u u (alike_self sets u) alike ∙ no_crossings sets u;
  same = λ x. alike_crossings sets v x u x alike (alike_self sets x);
}

-- ---- the first nodes of the parts, in their order

abbrev first_of : List ℕ → ℕ → ℕ
first_of firsts part = slice_index firsts (part - 1)

mapped_to : (sets : List (ℕ → Bool)) (firsts : List ℕ) (end from : ℕ) (parts : List ℕ)
    → length_to (between sets firsts) end from parts ≡ length_to (sets_crossed sets) (first_of firsts end) (first_of firsts from) (map (first_of firsts) parts)
mapped_to sets firsts end from [] = refl
mapped_to sets firsts end from (p ∷ ps) = ap (λ z. between sets firsts from p +ℤ z) (mapped_to sets firsts end p ps)

mapped : (sets : List (ℕ → Bool)) (firsts parts : List ℕ)
    → length_of (between sets firsts) parts ≡ length_of (sets_crossed sets) (map (first_of firsts) parts)
mapped sets firsts [] = refl
mapped sets firsts (p ∷ ps) = mapped_to sets firsts p p ps

pub map_within : (f : ℕ → ℕ) (xs : List ℕ) (x : ℕ) → Within xs x → Within (map f xs) (f x)
map_within f [] x h = absurd h
map_within f (y ∷ ys) x (inl same) = inl (ap f same)
map_within f (y ∷ ys) x (inr w) = inr (map_within f ys x w)

firsts_range : (n : ℕ) (sets : List (ℕ → Bool)) (firsts parts : List ℕ) → ArePartsOf n sets firsts
    → AllByRecursion (IsNode (length firsts)) parts → AllByRecursion (IsNode n) (map (first_of firsts) parts)
firsts_range n sets firsts [] is h = tt
firsts_range n sets firsts (p ∷ ps) is h =
    (is.nodes (p - 1) 0 (omega (arith, h.0.0, h.0.1)), firsts_range n sets firsts ps is h.1)

firsts_apart : (n : ℕ) (sets : List (ℕ → Bool)) (firsts parts : List ℕ) (p : ℕ) → ArePartsOf n sets firsts
    → IsNode (length firsts) p → AllByRecursion (IsNode (length firsts)) parts
    → AllByRecursion (λ q. p ≢ q) parts → AllByRecursion (λ y. first_of firsts p ≢ y) (map (first_of firsts) parts)
firsts_apart n sets firsts [] p is in_p h apart = tt
firsts_apart n sets firsts (q ∷ qs) p is in_p h apart = (
  λ same. apart.0 (same_part n sets firsts p q is in_p h.0 (subst (AreAlike sets (first_of firsts p)) same (alike_self sets (first_of firsts p)))),
  firsts_apart n sets firsts qs p is in_p h.1 apart.1,
)

firsts_once : (n : ℕ) (sets : List (ℕ → Bool)) (firsts parts : List ℕ) → ArePartsOf n sets firsts
    → AllByRecursion (IsNode (length firsts)) parts → AllApart parts → AllApart (map (first_of firsts) parts)
firsts_once n sets firsts [] is h once = tt
firsts_once n sets firsts (p ∷ ps) is h once =
    (firsts_apart n sets firsts ps p is h.0 h.1 once.0, firsts_once n sets firsts ps is h.1 once.1)

-- ---- node after node

-- different nodes of 1..n with the first ones of all parts and with all of 1..k
pub record IsWide (n k : ℕ) (sets : List (ℕ → Bool)) (firsts : List ℕ) (least : ℤ) (nodes : List ℕ) : Type 0 where
  pub range : AllByRecursion (IsNode n) nodes
  pub once : AllApart nodes
  pub length_is : least ≡ length_of (sets_crossed sets) nodes
  pub has_firsts : (part : ℕ) → IsNode (length firsts) part → Within nodes (first_of firsts part)
  pub has : (x : ℕ) → IsNode k x → Within nodes x

-- plan: the node is there already, or it goes behind the first node of its part, which crosses no set more
-- (`after_length`)
wider : (n k : ℕ) (sets : List (ℕ → Bool)) (firsts : List ℕ) (least : ℤ) (nodes : List ℕ) → ArePartsOf n sets firsts → suc k ≤ n
    → IsWide n k sets firsts least nodes
    → (more : List ℕ) × IsWide n (suc k) sets firsts least more
wider n k sets firsts least nodes is below wide = elim (within_or_apart (suc k) nodes) [
  | inl there ↦ (
    nodes,
    record {
      range = wide.range;
      once = wide.once;
      length_is = wide.length_is;
      has_firsts = wide.has_firsts;
      has = λ x node. elim (cases_eq (suc k) x) [
        | inl same ↦ subst (Within nodes) same there
        | inr other ↦ wide.has x (node.0, omega (arith, node.1, other))
      ];
    },
  )
  | inr apart ↦
      let part = part_found n sets firsts (suc k) is (omega arith, below) in
      let u : ℕ = first_of firsts part.0 in (
        after u (suc k) nodes,
        record {
          range = after_all (IsNode n) u (suc k) nodes (omega arith, below) wide.range;
          once = after_once u (suc k) nodes wide.once apart;
          length_is = wide.length_is ∙ sym (after_length (sets_crossed sets) u (suc k) nodes (crossings_as sets u (suc k) part.1.1));
          has_firsts = λ p in_p. after_has u (suc k) nodes (first_of firsts p) (wide.has_firsts p in_p);
          has = λ x node. elim (cases_eq (suc k) x) [
            | inl same ↦ subst (Within (after u (suc k) nodes)) same (after_new u (suc k) nodes (wide.has_firsts part.0 part.1.0))
            | inr other ↦ after_has u (suc k) nodes x (wide.has x (node.0, omega (arith, node.1, other)))
          ];
        },
      )
]

widened : (n k : ℕ) (sets : List (ℕ → Bool)) (firsts : List ℕ) (least : ℤ) → ArePartsOf n sets firsts
    → IsLeastLength (length firsts) (between sets firsts) least → k ≤ n
    → (nodes : List ℕ) × IsWide n k sets firsts least nodes
widened n zero sets firsts least is lengths below =
    let range = recursion_from_All (IsNode (length firsts)) lengths.nodes lengths.cycle.range in (
      map (first_of firsts) lengths.nodes,
      record {
        range = firsts_range n sets firsts lengths.nodes is range;
        once = firsts_once n sets firsts lengths.nodes is range (apart_from_pairs lengths.nodes lengths.cycle.once);
        length_is = lengths.length_is ∙ mapped sets firsts lengths.nodes;
        has_firsts = λ p in_p. map_within (first_of firsts) lengths.nodes p (cycle_has (length firsts) lengths.nodes p lengths.cycle in_p);
        has = λ x node. absurd (omega (arith, node.0, node.1));
      },
    )
widened n (suc k) sets firsts least is lengths below =
    let rest = widened n k sets firsts least is lengths (omega (arith, below)) in
    wider n k sets firsts least rest.0 is below rest.1

pub parts_tell_cycles : PartsTellCycles
parts_tell_cycles n sets firsts least some is lengths =
    let all = widened n n sets firsts least is lengths (omega arith) in
    record {
      nodes = all.0;
      cycle = cycle_from n all.0 all.1.range all.1.once all.1.has;
      length_is = all.1.length_is;
      below = λ nodes cycle. parts_bound_cycles n sets firsts least nodes some is lengths cycle;
    }

-- ---- parts given by a number for each node

-- one node of each of the first parts
pub record AreFound (n k : ℕ) (part_of : ℕ → ℕ) (firsts : List ℕ) : Type 0 where
  pub long : length firsts ≡ k
  pub each : (part : ℕ) → IsNode k part → IsNode n (slice_index firsts (part - 1)) × (part_of (slice_index firsts (part - 1)) ≡ part)

one_more : (n k : ℕ) (part_of : ℕ → ℕ) (firsts : List ℕ) (node : ℕ) → AreFound n k part_of firsts → IsNode n node
    → part_of node ≡ suc k → AreFound n (suc k) part_of (firsts ++ node ∷ [])
one_more n k part_of firsts node h in_n is = record {
  long = length-append firsts (node ∷ []) ∙ omega (arith, h.long);
  each = λ part in_k. elim (cases_lt (part - 1) (length firsts)) [
    | inl old ↦
        let same : slice_index firsts (part - 1) ≡ slice_index (firsts ++ node ∷ []) (part - 1) = sym (get_or_append_left firsts (node ∷ []) 0 (part - 1) old) in
        subst (λ (x : ℕ). IsNode n x × (part_of x ≡ part)) same (h.each part (in_k.0, omega (arith, old, h.long, in_k.0)))
    | inr new ↦
        let last : part ≡ suc k = omega (arith, new, h.long, in_k.1) in
        let same : node ≡ slice_index (firsts ++ node ∷ []) (part - 1) = sym (get_or_push firsts node 0 (part - 1) (omega (arith, h.long, last))) in
        subst (λ (x : ℕ). IsNode n x × (part_of x ≡ part)) same (in_n, is ∙ sym last)
  ];
}

found : (n m k : ℕ) (sets : List (ℕ → Bool)) (part_of : ℕ → ℕ) → IsDivision n m sets part_of → k ≤ m
    → (firsts : List ℕ) × AreFound n k part_of firsts
found n m zero sets part_of is le =
    ([], record { long = omega arith; each = λ part in_k. absurd (omega (arith, in_k.0, in_k.1)) })
found n m (suc k) sets part_of is le =
    let rest = found n m k sets part_of is (omega (arith, le)) in
    let node = is.met (suc k) (omega arith, le) in
    (rest.0 ++ node.0 ∷ [], one_more n k part_of rest.0 node.0 rest.1 node.1 node.2)

in_parts : (n m : ℕ) (sets : List (ℕ → Bool)) (part_of : ℕ → ℕ) (firsts nodes : List ℕ) → IsDivision n m sets part_of
    → AreFound n m part_of firsts → AllByRecursion (IsNode n) nodes
    → AllZip (IsInPart sets firsts) nodes (map part_of nodes)
in_parts n m sets part_of firsts [] is h range = tt
in_parts n m sets part_of firsts (x ∷ xs) is h range =
    let part = is.range x range.0 in
    let first = h.each (part_of x) part in (
      (
        subst (λ (k : ℕ). IsNode k (part_of x)) (sym h.long) part,
        is.same x (slice_index firsts (part_of x - 1)) range.0 first.0 (sym first.1),
      ),
      in_parts n m sets part_of firsts xs is h range.1,
    )

-- plan: a cycle of the nodes is a walk through the parts. Without its repetitions it is no longer, by the triangle
-- inequality (`shorter_cycle`)
pub divisions_bound_cycles : DivisionsBoundCycles
divisions_bound_cycles n m sets part_of cost least nodes some is agree lengths cycle =
    go nodes cycle (recursion_from_All (IsNode n) nodes cycle.range)
  where
    go : (nodes : List ℕ) → IsCycle n nodes → AllByRecursion (IsNode n) nodes → least ≤ℤ length_of (sets_crossed sets) nodes
    go [] cycle range = absurd (omega (arith, cycle.count, some))
    go (a ∷ nodes) cycle range =
        let first = found n m m sets part_of is (omega arith) in
        let list : List ℕ = first.0 in
        let zip = in_parts n m sets part_of list (a ∷ nodes) is first.1 range in
        let same = same_length sets list a (part_of a) a (part_of a) nodes (map part_of nodes) zip.0 zip.0 zip.1 in
        let known : IsLeastLength m (between sets list) least = same_least m cost (between sets list) least
        (λ p q in_p in_q.
        let u = first.1.each p in_p in
        let v = first.1.each q in_q in
        ap (λ k. cost k q) (sym u.1) ∙ ap (cost (part_of (slice_index list (p - 1)))) (sym v.1) ∙ agree (slice_index list (p - 1)) (slice_index list (q - 1)) u.0 v.0)
        lengths in
        let range_is = in_range sets list (a ∷ nodes) (map part_of (a ∷ nodes)) zip in
        let walk = shorter_cycle m (between sets list) (part_of a) (map part_of nodes)
        (λ i j k. triangles sets (slice_index list (i - 1)) (slice_index list (j - 1)) (slice_index list (k - 1)))
        (subst (λ (k : ℕ). AllByRecursion (IsNode k) (map part_of (a ∷ nodes))) first.1.long range_is)
        (λ p in_p.
        let u = first.1.each p in_p in
        subst (Within (map part_of (a ∷ nodes))) u.1 (map_within part_of (a ∷ nodes) (slice_index list (p - 1)) (cycle_has n (a ∷ nodes) (slice_index list (p - 1)) cycle u.0))) in
        let below = known.below walk.0 walk.1 in
        omega (arith, ints, same, walk.2, below)
