-- A cycle through nodes is a closed walk through the parts of sets, which crosses the sets as often: the step from all
-- cycles to a few. For the laws on families in src/laws.rt, and for src/family.rt. tsp_branch imports it, too.
use Rattle.tsp_cases.proofs.Prelude.{◌≡◌, ◌≢◌, ℕ, zero, suc, ◌+◌, ◌<◌, ◌≤◌, ◌==◌, ◌⊎◌, cond, List, [], ◌∷◌, length, inl, inr, refl, arith, ap, sym, ◌∙◌, subst, Bool, true, false, ℤ, ◌+ℤ◌, ◌≤ℤ◌, ◌-◌, not, get_or, ap₂, cases_eq, eq-eqb, ne_eqb, cases_Bool, both_ways, or_parts, or_from, eqb-false, cases_order, ints, get_or_default, recursion_from_All, All-from_recursion, AllPairs-cons, AllPairs, AllByRecursion, range_with_len, AllZip, if◌then◌else◌, pos, slice_index, IsNode, one_if, IsCycle, links_to, sum_int_by, length_of, and_node}
use Rattle.std.proofs.lemmas.List.FromFn.{length-range_with_len}
use Rattle.tsp_cases.specs.Crossings.{AllApart, sets_crossed, AreAlike, AreUnlike, ArePartsOf, between, PartsBoundCycles, LeastLengthsAreUnique, MostCostsAreUnique, UnlikeNodesNeedParts}

-- ---- membership, by recursion

abbrev pub Within : List ℕ → ℕ → Type 0
Within [] x = ⊥
Within (y ∷ ys) x = (y ≡ x) ⊎ Within ys x

-- a statement on each number of a list is one on a number within it
pub at_within : (P : ℕ → Type 0) (xs : List ℕ) (x : ℕ) → AllByRecursion P xs → Within xs x → P x
at_within P [] x all h = absurd h
at_within P (y ∷ ys) x all (inl same) = subst P same all.0
at_within P (y ∷ ys) x all (inr later) = at_within P ys x all.1 later

pub weaker : (P Q : ℕ → Type 0) → ((x : ℕ) → P x → Q x) → (xs : List ℕ) → AllByRecursion P xs → AllByRecursion Q xs
weaker P Q f [] h = tt
weaker P Q f (x ∷ xs) h = (f x h.0, weaker P Q f xs h.1)

-- a number is within a list, or differs from each of its numbers
pub within_or_apart : (x : ℕ) (xs : List ℕ) → Within xs x ⊎ AllByRecursion (λ y. x ≢ y) xs
within_or_apart x [] = inr tt
within_or_apart x (y ∷ ys) = elim (cases_eq x y) [
  | inl same ↦ inl (inl (sym same))
  | inr other ↦ elim (within_or_apart x ys) [ inl h ↦ inl (inr h) | inr h ↦ inr (other, h) ]
]

-- ---- different elements

pub apart_from_pairs : (xs : List ℕ) → AllPairs (λ a b. a ≢ b) xs → AllApart xs
apart_from_pairs [] h = tt
apart_from_pairs (x ∷ xs) h = (
  recursion_from_All (λ y. x ≢ y) xs (λ k d lt. h zero (suc k) d (omega arith) (omega arith)),
  apart_from_pairs xs (λ i j d below lt. h (suc i) (suc j) d (omega arith) (omega arith)),
)

pub pairs_from_apart : (xs : List ℕ) → AllApart xs → AllPairs (λ a b. a ≢ b) xs
pairs_from_apart [] h = λ i j d below lt. absurd (omega (arith, lt))
pairs_from_apart (x ∷ xs) h = AllPairs-cons (λ a b. a ≢ b) x xs (All-from_recursion (λ y. x ≢ y) xs h.0) (pairs_from_apart xs h.1)

-- a list without the first place of a number
abbrev without : ℕ → List ℕ → List ℕ
without x [] = []
without x (y ∷ ys) = cond (x == y) ys (y ∷ without x ys)

without_long : (x : ℕ) (ys : List ℕ) → Within ys x → length ys ≡ suc (length (without x ys))
without_long x [] h = absurd h
without_long x (y ∷ ys) h = elim (cases_eq x y) [
  | inl same ↦ rw (eq-eqb x y same) refl
  | inr other ↦ rw (ne_eqb x y other) (ap suc (without_long x ys (later other h)))
]
  where
    later : x ≢ y → (y ≡ x) ⊎ Within ys x → Within ys x
    later other (inl same) = absurd (other (sym same))
    later other (inr w) = w

without_has : (x z : ℕ) (ys : List ℕ) → x ≢ z → Within ys z → Within (without x ys) z
without_has x z [] other h = absurd h
without_has x z (y ∷ ys) other h = elim (cases_eq x y) [
  | inl same ↦ rw (eq-eqb x y same) (later same h)
  | inr apart ↦ rw (ne_eqb x y apart) (kept (without_has x z ys other) h)
]
  where
    later : x ≡ y → (y ≡ z) ⊎ Within ys z → Within ys z
    later same (inl is) = absurd (other (same ∙ is))
    later same (inr h) = h

    kept : (Within ys z → Within (without x ys) z) → (y ≡ z) ⊎ Within ys z → (y ≡ z) ⊎ Within (without x ys) z
    kept rest (inl is) = inl is
    kept rest (inr w) = inr (rest w)

-- different elements that are all in a list are no more than it has
pub no_more : (xs ys : List ℕ) → AllApart xs → AllByRecursion (Within ys) xs → length xs ≤ length ys
no_more [] ys apart inside = omega arith
no_more (x ∷ xs) ys apart inside =
    let rest = no_more xs (without x ys) apart.1 (left xs apart.0 inside.1) in
    let long = without_long x ys inside.0 in
    omega (arith, rest, long)
  where
    left : (zs : List ℕ) → AllByRecursion (λ z. x ≢ z) zs → AllByRecursion (Within ys) zs → AllByRecursion (Within (without x ys)) zs
    left [] other h = tt
    left (z ∷ zs) other h = (without_has x z ys other.0 h.0, left zs other.1 h.1)

-- ---- runs of numbers

pub run_apart : (a b k : ℕ) → a < b → AllByRecursion (λ y. a ≢ y) (range_with_len b k)
run_apart a b zero h = tt
run_apart a b (suc k) h = (omega arith, run_apart a (b + 1) k (omega arith))

pub run_once : (a k : ℕ) → AllApart (range_with_len a k)
run_once a zero = tt
run_once a (suc k) = (run_apart a (a + 1) k (omega arith), run_once (a + 1) k)

pub run_has : (a k x : ℕ) → a ≤ x → x < a + k → Within (range_with_len a k) x
run_has a zero x low high = absurd (omega arith)
run_has a (suc k) x low high = elim (cases_eq a x) [
  | inl same ↦ inl same
  | inr other ↦ inr (run_has (a + 1) k x (omega arith) (omega arith))
]

pub run_range : (P : ℕ → Type 0) (a k : ℕ) → ((x : ℕ) → a ≤ x → x < a + k → P x) → AllByRecursion P (range_with_len a k)
run_range P a zero h = tt
run_range P a (suc k) h = (h a (omega arith) (omega arith), run_range P (a + 1) k (λ x low high. h x (omega arith) (omega arith)))

-- ---- cycles

-- different nodes of 1..n, and all of them
pub cycle_from : (n : ℕ) (xs : List ℕ) → AllByRecursion (IsNode n) xs → AllApart xs → ((x : ℕ) → IsNode n x → Within xs x)
    → IsCycle n xs
cycle_from n xs range apart all =
    let inside = weaker (IsNode n) (Within (range_with_len 1 n)) (λ x h. run_has 1 n x h.0 (omega (arith, h.1))) xs range in
    let most = no_more xs (range_with_len 1 n) apart inside in
    let least = no_more (range_with_len 1 n) xs (run_once 1 n) (run_range (Within xs) 1 n (λ x low high. all x (low, omega (arith, high)))) in
    let long = length-range_with_len 1 n in
    record {
      count = omega (arith, most, least, long);
      range = All-from_recursion (IsNode n) xs range;
      once = pairs_from_apart xs apart;
    }

-- ---- a closed walk in which nothing is repeated is no longer

-- from a node along others to an end
abbrev pub length_to : (ℕ → ℕ → ℤ) → ℕ → ℕ → List ℕ → ℤ
length_to cost end from others = sum_int_by (λ link. cost link.0 link.1) (links_to end from others)

-- ---- a walk without its repetitions

abbrev pub KeepsTriangles : (ℕ → ℕ → ℤ) → Type 0
KeepsTriangles cost = (a b c : ℕ) → cost a c ≤ℤ (cost a b +ℤ cost b c)

-- the elements that aren't seen before
abbrev kept : (ℕ → Bool) → List ℕ → List ℕ
kept seen [] = []
kept seen (x ∷ xs) = if seen x then kept seen xs else (x ∷ kept (and_node seen x) xs)

skipped : (cost : ℕ → ℕ → ℤ) → KeepsTriangles cost → (end from x : ℕ) (xs : List ℕ)
    → length_to cost end from xs ≤ℤ (cost from x +ℤ length_to cost end x xs)
skipped cost keeps end from x [] = omega (arith, ints, keeps from x end)
skipped cost keeps end from x (y ∷ ys) = omega (arith, ints, keeps from x y)

kept_shorter : (cost : ℕ → ℕ → ℤ) → KeepsTriangles cost → (end from : ℕ) (seen : ℕ → Bool) (xs : List ℕ)
    → length_to cost end from (kept seen xs) ≤ℤ length_to cost end from xs
kept_shorter cost keeps end from seen [] = omega (arith, ints)
kept_shorter cost keeps end from seen (x ∷ xs) = elim (cases_Bool (seen x)) [
  | inl h ↦ rw h (omega (arith, ints, kept_shorter cost keeps end from seen xs, skipped cost keeps end from x xs))
  | inr h ↦ rw h (omega (arith, ints, kept_shorter cost keeps end x (and_node seen x) xs))
]

kept_all : (P : ℕ → Type 0) (seen : ℕ → Bool) (xs : List ℕ) → AllByRecursion P xs → AllByRecursion P (kept seen xs)
kept_all P seen [] h = tt
kept_all P seen (x ∷ xs) h = elim (cases_Bool (seen x)) [
  | inl e ↦ rw e (kept_all P seen xs h.1)
  | inr e ↦ rw e (h.0, kept_all P (and_node seen x) xs h.1)
]

kept_unseen : (seen : ℕ → Bool) (xs : List ℕ) → AllByRecursion (λ y. seen y ≡ false) (kept seen xs)
kept_unseen seen [] = tt
kept_unseen seen (x ∷ xs) = elim (cases_Bool (seen x)) [
  | inl e ↦ rw e (kept_unseen seen xs)
  | inr e ↦ rw e (e, weaker (λ y. and_node seen x y ≡ false) (λ y. seen y ≡ false) (λ y h. (or_parts (y == x) (seen y) h).1) (kept (and_node seen x) xs) (kept_unseen (and_node seen x) xs))
]

kept_once : (seen : ℕ → Bool) (xs : List ℕ) → AllApart (kept seen xs)
kept_once seen [] = tt
kept_once seen (x ∷ xs) = elim (cases_Bool (seen x)) [
  | inl e ↦ rw e (kept_once seen xs)
  | inr e ↦ rw e (
    weaker (λ y. and_node seen x y ≡ false) (λ y. x ≢ y) (λ y h. λ same. eqb-false y x (or_parts (y == x) (seen y) h).0 (sym same)) (kept (and_node seen x) xs) (kept_unseen (and_node seen x) xs),
    kept_once (and_node seen x) xs,
  )
]

kept_has : (seen : ℕ → Bool) (xs : List ℕ) (x : ℕ) → seen x ≡ false → Within xs x → Within (kept seen xs) x
kept_has seen [] x unseen h = absurd h
kept_has seen (y ∷ ys) x unseen h = elim (cases_Bool (seen y)) [
  | inl e ↦ rw e (kept_has seen ys x unseen (later e h))
  | inr e ↦ rw e (elim (cases_eq x y) [
    | inl same ↦ inl (sym same)
    | inr other ↦ inr (kept_has (and_node seen y) ys x (or_from (x == y) (seen x) (ne_eqb x y other) unseen) (tail other h))
  ])
]
  where
    later : seen y ≡ true → (y ≡ x) ⊎ Within ys x → Within ys x
    later e (inl same) = absurd (both_ways (seen y) (ap seen same ∙ unseen) e)
    later e (inr w) = w

    tail : x ≢ y → (y ≡ x) ⊎ Within ys x → Within ys x
    tail other (inl same) = absurd (other (sym same))
    tail other (inr w) = w

-- a closed walk through all nodes of 1..n has a cycle that is no longer
pub shorter_cycle : (n : ℕ) (cost : ℕ → ℕ → ℤ) (x : ℕ) (xs : List ℕ) → KeepsTriangles cost → AllByRecursion (IsNode n) (x ∷ xs)
    → ((y : ℕ) → IsNode n y → Within (x ∷ xs) y)
    → (nodes : List ℕ) × IsCycle n nodes × (length_of cost nodes ≤ℤ length_of cost (x ∷ xs))
shorter_cycle n cost x xs keeps range all =
    let seen : ℕ → Bool = λ y. y == x in (
      x ∷ kept seen xs,
      cycle_from n (x ∷ kept seen xs) (range.0, kept_all (IsNode n) seen xs range.1)
          (weaker (λ y. seen y ≡ false) (λ y. x ≢ y) (λ y h. λ same. eqb-false y x h (sym same)) (kept seen xs) (kept_unseen seen xs), kept_once seen xs)
          (λ y node. has y (all y node)),
      kept_shorter cost keeps x x seen xs,
    )
  where
    has : (y : ℕ) → (x ≡ y) ⊎ Within xs y → (x ≡ y) ⊎ Within (kept (λ z. z == x) xs) y
    has y (inl same) = inl same
    has y (inr w) = elim (cases_eq y x) [
      | inl same ↦ inl (sym same)
      | inr other ↦ inr (kept_has (λ z. z == x) xs y (ne_eqb y x other) w)
    ]

-- ---- every cycle crosses sets as often as a walk through their parts

-- ---- crossings

turn_less : (a b c : Bool) → one_if (cond a (not c) c) ≤ℤ (one_if (cond a (not b) b) +ℤ one_if (cond b (not c) c))
turn_less true true true = omega (arith, ints)
turn_less true true false = omega (arith, ints)
turn_less true false true = omega (arith, ints)
turn_less true false false = omega (arith, ints)
turn_less false true true = omega (arith, ints)
turn_less false true false = omega (arith, ints)
turn_less false false true = omega (arith, ints)
turn_less false false false = omega (arith, ints)

pub triangles : (sets : List (ℕ → Bool)) (i j k : ℕ) → sets_crossed sets i k ≤ℤ (sets_crossed sets i j +ℤ sets_crossed sets j k)
triangles [] i j k = omega (arith, ints)
triangles (s ∷ ss) i j k = omega (arith, ints, turn_less (s i) (s j) (s k), triangles ss i j k)

same_crossings : (sets : List (ℕ → Bool)) (i j a b : ℕ) → AllByRecursion (λ set. set i ≡ set a) sets
    → AllByRecursion (λ set. set j ≡ set b) sets → sets_crossed sets i j ≡ sets_crossed sets a b
same_crossings [] i j a b p q = refl
same_crossings (s ∷ ss) i j a b p q =
    ap₂ (λ x y. x +ℤ y) (ap₂ (λ u v. one_if (cond u (not v) v)) p.0 q.0) (same_crossings ss i j a b p.1 q.1)

pub alike_crossings : (sets : List (ℕ → Bool)) (i j a b : ℕ) → AreAlike sets i a → AreAlike sets j b
    → sets_crossed sets i j ≡ sets_crossed sets a b
alike_crossings sets i j a b p q =
    same_crossings sets i j a b (recursion_from_All (λ set. set i ≡ set a) sets p) (recursion_from_All (λ set. set j ≡ set b) sets q)

pub alike_back : (sets : List (ℕ → Bool)) (i j : ℕ) → AreAlike sets i j → AreAlike sets j i
alike_back sets i j h = λ k d lt. sym (h k d lt)

-- ---- the part of each node

abbrev pub IsInPart : List (ℕ → Bool) → List ℕ → ℕ → ℕ → Type 0
IsInPart sets firsts node part = IsNode (length firsts) part × AreAlike sets node (slice_index firsts (part - 1))

pub part_found : (n : ℕ) (sets : List (ℕ → Bool)) (firsts : List ℕ) (node : ℕ) → ArePartsOf n sets firsts → IsNode n node
    → (part : ℕ) × IsInPart sets firsts node part
part_found n sets firsts node is h =
    let found = is.each node h in
    let same : found.1 ≡ get_or firsts found.0 0 = sym found.3 ∙ get_or_default firsts found.0 found.1 0 found.2 in (
      suc found.0,
      ((omega arith, omega (arith, found.2)), subst (AreAlike sets node) (same ∙ ap (λ k. get_or firsts k 0) (omega arith)) found.4),
    )

pub parts_found : (n : ℕ) (sets : List (ℕ → Bool)) (firsts : List ℕ) (nodes : List ℕ) → ArePartsOf n sets firsts
    → AllByRecursion (IsNode n) nodes → (parts : List ℕ) × AllZip (IsInPart sets firsts) nodes parts
parts_found n sets firsts [] is h = ([], tt)
parts_found n sets firsts (x ∷ xs) is h =
    let first = part_found n sets firsts x is h.0 in
    let rest = parts_found n sets firsts xs is h.1 in
    (first.0 ∷ rest.0, (first.1, rest.1))

-- a walk through nodes crosses as often as one through their parts
pub same_length : (sets : List (ℕ → Bool)) (firsts : List ℕ) (end e from f : ℕ) (nodes parts : List ℕ)
    → IsInPart sets firsts end e → IsInPart sets firsts from f → AllZip (IsInPart sets firsts) nodes parts
    → length_to (sets_crossed sets) end from nodes ≡ length_to (between sets firsts) e f parts
same_length sets firsts end e from f [] [] p q h =
    ap (λ z. z +ℤ pos 0) (alike_crossings sets from end (slice_index firsts (f - 1)) (slice_index firsts (e - 1)) q.1 p.1)
same_length sets firsts end e from f [] (b ∷ bs) p q h = absurd h
same_length sets firsts end e from f (a ∷ others) [] p q h = absurd h
same_length sets firsts end e from f (a ∷ nodes) (b ∷ parts) p q h =
    ap₂ (λ x y. x +ℤ y) (alike_crossings sets from a (slice_index firsts (f - 1)) (slice_index firsts (b - 1)) q.1 h.0.1)
    (same_length sets firsts end e a b nodes parts p h.0 h.1)

pub in_range : (sets : List (ℕ → Bool)) (firsts nodes parts : List ℕ) → AllZip (IsInPart sets firsts) nodes parts
    → AllByRecursion (IsNode (length firsts)) parts
in_range sets firsts [] [] h = tt
in_range sets firsts [] (b ∷ bs) h = absurd h
in_range sets firsts (a ∷ others) [] h = absurd h
in_range sets firsts (a ∷ nodes) (b ∷ parts) h = (h.0.0, in_range sets firsts nodes parts h.1)

met : (sets : List (ℕ → Bool)) (firsts nodes parts : List ℕ) (node : ℕ) → AllZip (IsInPart sets firsts) nodes parts
    → Within nodes node → (part : ℕ) × Within parts part × IsInPart sets firsts node part
met sets firsts [] parts node h w = absurd w
met sets firsts (a ∷ nodes) [] node h w = absurd h
met sets firsts (a ∷ nodes) (b ∷ parts) node h (inl same) = (b, inl refl, subst (λ (x : ℕ). IsInPart sets firsts x b) same h.0)
met sets firsts (a ∷ nodes) (b ∷ parts) node h (inr w) = let rest = met sets firsts nodes parts node h.1 w in (rest.0, inr rest.1, rest.2)

-- a cycle has each node
pub cycle_has : (n : ℕ) (nodes : List ℕ) (x : ℕ) → IsCycle n nodes → IsNode n x → Within nodes x
cycle_has n nodes x cycle h = elim (within_or_apart x nodes) [
  | inl w ↦ w
  | inr apart ↦
      let range = weaker (IsNode n) (Within (range_with_len 1 n)) (λ y k. run_has 1 n y k.0 (omega (arith, k.1))) nodes (recursion_from_All (IsNode n) nodes cycle.range) in
      let few = no_more (x ∷ nodes) (range_with_len 1 n) (apart, apart_from_pairs nodes cycle.once) (run_has 1 n x h.0 (omega (arith, h.1)), range) in
      absurd (omega (arith, few, length-range_with_len 1 n, cycle.count))
]

-- two parts with a common node are one
pub same_part : (n : ℕ) (sets : List (ℕ → Bool)) (firsts : List ℕ) (p q : ℕ) → ArePartsOf n sets firsts → IsNode (length firsts) p
    → IsNode (length firsts) q
    → AreAlike sets (slice_index firsts (p - 1)) (slice_index firsts (q - 1)) → p ≡ q
same_part n sets firsts p q is in_p in_q alike = elim (cases_order p q) [
  | inl same ↦ same
  | inr (inl less) ↦ absurd (is.apart (p - 1) (q - 1) 0 (omega (arith, less, in_p.0)) (omega (arith, in_q.0, in_q.1)) alike)
  | inr (inr more) ↦ absurd (is.apart (q - 1) (p - 1) 0 (omega (arith, more, in_q.0)) (omega (arith, in_p.0, in_p.1)) (alike_back sets (slice_index firsts (p - 1)) (slice_index firsts (q - 1)) alike))
]

-- a cycle goes through each part
part_met : (n : ℕ) (sets : List (ℕ → Bool)) (firsts nodes parts : List ℕ) (p : ℕ) → ArePartsOf n sets firsts → IsCycle n nodes
    → AllZip (IsInPart sets firsts) nodes parts
    → IsNode (length firsts) p → Within parts p
part_met n sets firsts nodes parts p is cycle zip in_p =
    let node : IsNode n (slice_index firsts (p - 1)) = is.nodes (p - 1) 0 (omega (arith, in_p.0, in_p.1)) in
    let found = met sets firsts nodes parts (slice_index firsts (p - 1)) zip (cycle_has n nodes (slice_index firsts (p - 1)) cycle node) in
    subst (Within parts) (sym (same_part n sets firsts p found.0 is in_p found.2.0 found.2.1)) found.1

pub parts_bound_cycles : PartsBoundCycles
parts_bound_cycles n sets firsts least nodes some is lengths cycle =
    let range = recursion_from_All (IsNode n) nodes cycle.range in
    let parts = parts_found n sets firsts nodes is range in
    go nodes parts.0 cycle parts.1
  where
    go : (nodes parts : List ℕ) → IsCycle n nodes → AllZip (IsInPart sets firsts) nodes parts → least ≤ℤ length_of (sets_crossed sets) nodes
    go [] parts cycle zip = absurd (omega (arith, cycle.count, some))
    go (a ∷ nodes) [] cycle zip = absurd zip
    go (a ∷ nodes) (b ∷ parts) cycle zip =
        let same = same_length sets firsts a b a b nodes parts zip.0 zip.0 zip.1 in
        let found = shorter_cycle (length firsts) (between sets firsts) b parts
        (λ i j k. triangles sets (slice_index firsts (i - 1)) (slice_index firsts (j - 1)) (slice_index firsts (k - 1)))
        (in_range sets firsts (a ∷ nodes) (b ∷ parts) zip) (λ p in_p. part_met n sets firsts (a ∷ nodes) (b ∷ parts) p is cycle zip in_p) in
        let below = lengths.below found.0 found.1 in
        omega (arith, ints, same, found.2, below)

-- ---- nodes of which no two are alike are no more than the parts

unlike_away : (n : ℕ) (sets : List (ℕ → Bool)) (firsts : List ℕ) (x p : ℕ) (nodes parts : List ℕ) → IsInPart sets firsts x p
    → AllZip (IsInPart sets firsts) nodes parts → AllByRecursion (λ y. AreAlike sets x y → ⊥) nodes
    → AllByRecursion (λ q. p ≢ q) parts
unlike_away n sets firsts x p [] [] here h apart = tt
unlike_away n sets firsts x p [] (b ∷ bs) here h apart = absurd h
unlike_away n sets firsts x p (a ∷ others) [] here h apart = absurd h
unlike_away n sets firsts x p (a ∷ nodes) (b ∷ parts) here h apart = (
  λ same.
      let first : ℕ = slice_index firsts (p - 1) in
      let at_first : AreAlike sets a first = subst (λ (q : ℕ). AreAlike sets a (slice_index firsts (q - 1))) (sym same) h.0.1 in
      apart.0 (λ k d lt. here.1 k d lt ∙ sym (at_first k d lt)),
  unlike_away n sets firsts x p nodes parts here h.1 apart.1,
)

unlike_parts : (n : ℕ) (sets : List (ℕ → Bool)) (firsts nodes parts : List ℕ) → AllZip (IsInPart sets firsts) nodes parts
    → AreUnlike sets nodes → AllApart parts
unlike_parts n sets firsts [] [] h apart = tt
unlike_parts n sets firsts [] (b ∷ bs) h apart = absurd h
unlike_parts n sets firsts (a ∷ others) [] h apart = absurd h
unlike_parts n sets firsts (a ∷ nodes) (b ∷ parts) h apart = (
  unlike_away n sets firsts a b nodes parts h.0 h.1 (recursion_from_All (λ y. AreAlike sets a y → ⊥) nodes (λ k d lt. apart zero (suc k) d (omega arith) (omega (arith, lt)))),
  unlike_parts n sets firsts nodes parts h.1 (λ i j d below lt. apart (suc i) (suc j) d (omega (arith, below)) (omega (arith, lt))),
)

as_many : (sets : List (ℕ → Bool)) (firsts nodes parts : List ℕ) → AllZip (IsInPart sets firsts) nodes parts
    → length parts ≡ length nodes
as_many sets firsts [] [] h = refl
as_many sets firsts [] (b ∷ bs) h = absurd h
as_many sets firsts (a ∷ others) [] h = absurd h
as_many sets firsts (a ∷ nodes) (b ∷ parts) h = ap suc (as_many sets firsts nodes parts h.1)

pub unlike_nodes_need_parts : UnlikeNodesNeedParts
unlike_nodes_need_parts n sets firsts nodes is range apart =
    let parts = parts_found n sets firsts nodes is (recursion_from_All (IsNode n) nodes range) in
    let once = unlike_parts n sets firsts nodes parts.0 parts.1 apart in
    let inside = weaker (IsNode (length firsts)) (Within (range_with_len 1 (length firsts))) (λ p h. run_has 1 (length firsts) p h.0 (omega (arith, h.1))) parts.0
    (in_range sets firsts nodes parts.0 parts.1) in
    let few = no_more parts.0 (range_with_len 1 (length firsts)) once inside in
    let long = length-range_with_len 1 (length firsts) in
    let many = as_many sets firsts nodes parts.0 parts.1 in
    omega (arith, few, long, many)

pub least_lengths_are_unique : LeastLengthsAreUnique
least_lengths_are_unique n cost a b p q =
    let one = p.below q.nodes q.cycle in
    let two = q.below p.nodes p.cycle in
    omega (arith, ints, one, two, p.length_is, q.length_is)

pub most_costs_are_unique : MostCostsAreUnique
most_costs_are_unique n cost a b p q =
    let one = p.above q.first q.second q.first_node q.second_node in
    let two = q.above p.first p.second p.first_node p.second_node in
    omega (arith, ints, one, two, p.most_is, q.most_is)
