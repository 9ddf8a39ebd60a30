-- For src/certificate.rt and src/potentials_certificate.rt: the keys of a set of pairs, and the fixed pairs of an
-- instance, each once.
use Rattle.tsp_verdict.proofs.Prelude.{◌≡◌, ℕ, ◌||◌, Bool, true, false, cond, eqb, leb, refl, sym, ap, ap₂, subst, ◌∙◌, inl, inr, arith, ◌+◌, ◌<◌, ◌≤◌, ◌&&◌, not, List, [], ◌∷◌, ◌++◌, get_or, length, take, drop, drop-cons, add-one, ◌-◌, and_from, and_parts, cases_cond, cases_order, eq-eqb, eqb-true, false≢true, le-leb, le-ltb, lt-leb, or_cases, cases_Bool, cases_lt, false_from_ne_true, append_assoc, drop_all, append-nil, length-map, take_more, get_or-take, get_or_default, length-take-le, All-from_recursion, recursion_from_All, BTreeSet, contains, Updates, All, AllByRecursion, list_any, AllPairs, ◌⊎◌, if◌then◌else◌, filter, ℤ, pos, IsPairOf, is_same_pair, pair_of, Uses, is_same, KeepsAll, KeepsDecision, DecideOnce, take_pairs}
use Rattle.std.proofs.lemmas.List.Folds.{list_any-append, Any-from_list_any, list_any_at, list_any_more}
use Rattle.std.proofs.lemmas.List.Kept.{AllPairs-cons}
use Rattle.std.proofs.lemmas.Map.Lookups.{exact_pairs, exact_unsigned}
use Rattle.std.specs.BTreeMap.{is_at}
use Rattle.std.specs.Ordering.{is_eq, nat_cmp}
use Rattle.std.specs.declared.cmp.Ordering.{Ordering}
use Rattle.std.specs.declared.cmp.Ordering.TheVariants.{Less, Equal, Greater}
use Rattle.tsp_bound.proofs.LoweredWeights.{straight, crossed}
use Rattle.tsp_cases.specs.declared.decision.Decision.{Decision}
use Rattle.tsp_cases.specs.states.OpenCases.{IsDecision}
use Rattle.tsp_verdict.specs.Certificates.{each_once, IsListedEitherWay, pair_at, IsUnlisted, IsPairRepeated}
use Rattle.tsp_theory.specs.First.{IsFirstPlace}
use Rattle.tsp_verdict.specs.states.PairSets.{undirected, pair_cmp, key_of, HasKeys, HasPairs}

-- ---- the two directions of a pair

turned : (a b : ℕ) → undirected (a, b) ≡ undirected (b, a)
turned a b = elim (cases_order a b) [
  | inl e ↦ rw e refl
  | inr (inl lt) ↦ rw (le-leb a b (omega (arith, lt))) (rw (lt-leb b a lt) refl)
  | inr (inr lt) ↦ rw (lt-leb a b lt) (rw (le-leb b a (omega (arith, lt))) refl)
]

pub from_same : (p q : ℕ × ℕ) → is_same_pair p q ≡ true → undirected p ≡ undirected q
from_same p q same = elim (or_cases _ _ same) [
  | inl on ↦ let e = and_parts (eqb p.0 q.0) (eqb p.1 q.1) on in ap₂ (λ a b. undirected (a, b)) (eqb-true p.0 q.0 e.0) (eqb-true p.1 q.1 e.1)
  | inr back ↦ let e = and_parts (eqb p.1 q.0) (eqb p.0 q.1) back in turned p.0 p.1 ∙ ap₂ (λ a b. undirected (a, b)) (eqb-true p.1 q.0 e.0) (eqb-true p.0 q.1 e.1)
]

one_way : (p : ℕ × ℕ) → (undirected p ≡ p) ⊎ (undirected p ≡ (p.1, p.0))
one_way p = cases_cond (leb p.0 p.1) p (p.1, p.0) (undirected p) refl

pub to_same : (p q : ℕ × ℕ) → undirected p ≡ undirected q → is_same_pair p q ≡ true
to_same p q e = by_ways (one_way p) (one_way q)
  where
    by_ways : (undirected p ≡ p) ⊎ (undirected p ≡ (p.1, p.0)) → (undirected q ≡ q) ⊎ (undirected q ≡ (q.1, q.0)) → is_same_pair p q ≡ true
    by_ways (inl f) (inl g) = let s : p ≡ q = sym f ∙ e ∙ g in straight p q (ap (λ r. r.0) s) (ap (λ r. r.1) s)
    by_ways (inl f) (inr g) = let s : p ≡ (q.1, q.0) = sym f ∙ e ∙ g in crossed p q (ap (λ r. r.1) s) (ap (λ r. r.0) s)
    by_ways (inr f) (inl g) = let s : (p.1, p.0) ≡ q = sym f ∙ e ∙ g in crossed p q (ap (λ r. r.0) s) (ap (λ r. r.1) s)
    by_ways (inr f) (inr g) = let s : (p.1, p.0) ≡ (q.1, q.0) = sym f ∙ e ∙ g in straight p q (ap (λ r. r.1) s) (ap (λ r. r.0) s)

-- ---- keys of a set

same_bool : (a b : Bool) → (a ≡ true → b ≡ true) → (b ≡ true → a ≡ true) → a ≡ b
same_bool true b f g = sym (f refl)
same_bool false true f g = g refl
same_bool false false f g = refl

is_equal : (o : Ordering) → is_eq o ≡ true → o ≡ Equal
is_equal Less h = absurd (false≢true h)
is_equal Equal h = refl
is_equal Greater h = absurd (false≢true h)

nat_same : (a : ℕ) → nat_cmp a a ≡ Equal
nat_same a = rw (le-ltb a a (omega arith)) (rw (eq-eqb a a refl) refl)

key_same : (p : ℕ × ℕ) → is_eq (pair_cmp p p) ≡ true
key_same p = rw (nat_same p.0) (rw (nat_same p.1) refl)

pub same_keys : (p q : ℕ × ℕ) → is_at (pair_cmp (undirected p)) (undirected q) ≡ is_same_pair q p
same_keys p q = same_bool _ _ there back
  where
    there : is_at (pair_cmp (undirected p)) (undirected q) ≡ true → is_same_pair q p ≡ true
    there h = to_same q p (sym (exact_pairs nat_cmp nat_cmp exact_unsigned exact_unsigned (undirected p) (undirected q) (is_equal _ h)))

    back : is_same_pair q p ≡ true → is_at (pair_cmp (undirected p)) (undirected q) ≡ true
    back h = subst (λ r. is_eq (pair_cmp (undirected p) r) ≡ true) (sym (from_same q p h)) (key_same (undirected p))

pub cond_or : (b c : Bool) → cond b true c ≡ (c || b)
cond_or true true = refl
cond_or true false = refl
cond_or false true = refl
cond_or false false = refl

-- ---- the same of pairs that may have a direction

arc_keys : (p q : ℕ × ℕ) → is_at (pair_cmp p) q ≡ is_same true q p
arc_keys p q = same_bool _ _ there back
  where
    there : is_at (pair_cmp p) q ≡ true → is_same true q p ≡ true
    there h =
        let e : p ≡ q = exact_pairs nat_cmp nat_cmp exact_unsigned exact_unsigned p q (is_equal _ h) in
        and_from (eqb q.0 p.0) (eqb q.1 p.1) (eq-eqb q.0 p.0 (ap (λ r. r.0) (sym e))) (eq-eqb q.1 p.1 (ap (λ r. r.1) (sym e)))

    back : is_same true q p ≡ true → is_at (pair_cmp p) q ≡ true
    back h =
        let e = and_parts (eqb q.0 p.0) (eqb q.1 p.1) h in
        let same : q ≡ p = ap₂ (λ (a b : ℕ). (a, b)) (eqb-true q.0 p.0 e.0) (eqb-true q.1 p.1 e.1) in
        subst (λ (r : ℕ × ℕ). is_eq (pair_cmp p r) ≡ true) (sym same) (key_same p)

pub key_at : (directed : Bool) (p q : ℕ × ℕ) → is_at (pair_cmp (key_of directed p)) (key_of directed q) ≡ is_same directed q p
key_at true p q = arc_keys p q
key_at false p q = same_keys p q

pub same_turn : (p q : ℕ × ℕ) → is_same_pair p q ≡ is_same_pair q p
same_turn p q = same_bool _ _ (λ h. to_same q p (sym (from_same p q h))) (λ h. to_same p q (sym (from_same q p h)))

turned_arc : (p q : ℕ × ℕ) → is_same true p q ≡ true → is_same true q p ≡ true
turned_arc p q h =
    let e = and_parts (eqb p.0 q.0) (eqb p.1 q.1) h in
    and_from (eqb q.0 p.0) (eqb q.1 p.1) (eq-eqb q.0 p.0 (sym (eqb-true p.0 q.0 e.0))) (eq-eqb q.1 p.1 (sym (eqb-true p.1 q.1 e.1)))

pub turned_same : (directed : Bool) (p q : ℕ × ℕ) → is_same directed p q ≡ is_same directed q p
turned_same true p q = same_bool _ _ (turned_arc p q) (turned_arc q p)
turned_same false p q = same_turn p q

-- ---- the fixed pairs of an instance, each once

-- ---- as one pass over the pairs has them

-- pairs, each once, after earlier ones: without those that are an earlier one
abbrev pub each_once_after : Bool → List (ℕ × ℕ) → List (ℕ × ℕ) → List (ℕ × ℕ)
each_once_after directed earlier [] = []
each_once_after directed earlier (pair ∷ pairs) =
    if list_any (is_same directed pair) earlier then each_once_after directed (earlier ++ pair ∷ []) pairs
    else (pair ∷ each_once_after directed (earlier ++ pair ∷ []) pairs)

-- what passes two tests
both_pass : (a b : Bool) (q : ℕ × ℕ → Bool) (x : ℕ × ℕ) (ys zs : List (ℕ × ℕ)) → q x ≡ a → ys ≡ filter q zs
    → cond (a && b) (x ∷ ys) ys ≡ filter q (cond b (x ∷ zs) zs)
both_pass true true q x ys zs is rest =
    ap (λ (xs : List (ℕ × ℕ)). x ∷ xs) rest ∙ sym (ap (λ (c : Bool). cond c (x ∷ filter q zs) (filter q zs)) is)
both_pass false true q x ys zs is rest = rest ∙ sym (ap (λ (c : Bool). cond c (x ∷ filter q zs) (filter q zs)) is)
both_pass true false q x ys zs is rest = rest
both_pass false false q x ys zs is rest = rest

filter_twice : (p q r : ℕ × ℕ → Bool) → ((x : ℕ × ℕ) → p x ≡ (q x && r x)) → (xs : List (ℕ × ℕ))
    → filter p xs ≡ filter q (filter r xs)
filter_twice p q r both [] = refl
filter_twice p q r both (x ∷ xs) =
    ap (λ (c : Bool). cond c (x ∷ filter p xs) (filter p xs)) (both x)
    ∙ both_pass (q x) (r x) q x (filter p xs) (filter r xs) refl (filter_twice p q r both xs)

neither : (a b : Bool) → not (a || (b || false)) ≡ (not a && not b)
neither true b = refl
neither false true = refl
neither false false = refl

abbrev is_new : Bool → List (ℕ × ℕ) → ℕ × ℕ → Bool
is_new directed earlier pair = not (list_any (is_same directed pair) earlier)

new_after : (directed : Bool) (earlier : List (ℕ × ℕ)) (pair other : ℕ × ℕ)
    → is_new directed (earlier ++ pair ∷ []) other ≡ (is_new directed earlier other && not (is_same directed pair other))
new_after directed earlier pair other =
    ap not (list_any-append (is_same directed other) earlier (pair ∷ []))
    ∙ neither (list_any (is_same directed other) earlier) (is_same directed other pair)
    ∙ ap (λ (b : Bool). is_new directed earlier other && not b) (turned_same directed other pair)

once_after : (directed : Bool) (earlier pairs : List (ℕ × ℕ))
    → each_once_after directed earlier pairs ≡ filter (is_new directed earlier) (each_once directed pairs)
once_after directed earlier [] = refl
once_after directed earlier (pair ∷ pairs) =
    let rest : each_once_after directed (earlier ++ pair ∷ []) pairs ≡ filter (is_new directed earlier)
    (filter (λ other. not (is_same directed pair other)) (each_once directed pairs)) =
    once_after directed (earlier ++ pair ∷ []) pairs
    ∙ filter_twice (is_new directed (earlier ++ pair ∷ [])) (is_new directed earlier) (λ other. not (is_same directed pair other))
    (new_after directed earlier pair) (each_once directed pairs) in
    elim (cases_Bool (list_any (is_same directed pair) earlier)) [
      | inl known ↦ rw known rest
      | inr fresh ↦ rw fresh (ap (λ (xs : List (ℕ × ℕ)). pair ∷ xs) rest)
    ]

all_new : (directed : Bool) (xs : List (ℕ × ℕ)) → filter (is_new directed []) xs ≡ xs
all_new directed [] = refl
all_new directed (x ∷ xs) = ap (λ (ys : List (ℕ × ℕ)). x ∷ ys) (all_new directed xs)

-- after none they are the pairs, each once
pub once_all : (directed : Bool) (pairs : List (ℕ × ℕ)) → each_once_after directed [] pairs ≡ each_once directed pairs
once_all directed pairs = once_after directed [] pairs ∙ all_new directed (each_once directed pairs)

after_none : (directed : Bool) (given : List Decision) (pairs : List (ℕ × ℕ)) → given ≡ take_pairs (each_once directed pairs)
    → given ≡ take_pairs (each_once_after directed [] pairs)
after_none directed given pairs are = are ∙ ap take_pairs (sym (once_all directed pairs))

-- ---- what holds of all pairs

pub each_holds : (directed : Bool) (P : ℕ × ℕ → Type 0) (earlier pairs : List (ℕ × ℕ)) → AllByRecursion P pairs
    → AllByRecursion P (each_once_after directed earlier pairs)
each_holds directed P earlier [] h = tt
each_holds directed P earlier (pair ∷ pairs) h = elim (cases_Bool (list_any (is_same directed pair) earlier)) [
  | inl known ↦ rw known (each_holds directed P (earlier ++ pair ∷ []) pairs h.1)
  | inr fresh ↦ rw fresh (h.0, each_holds directed P (earlier ++ pair ∷ []) pairs h.1)
]

taken_hold : (P : ℕ × ℕ → Type 0) (pairs : List (ℕ × ℕ)) → AllByRecursion P pairs
    → AllByRecursion (λ (decision : Decision). P decision.pair) (take_pairs pairs)
taken_hold P [] h = tt
taken_hold P (pair ∷ pairs) h = (h.0, taken_hold P pairs h.1)

keeps_taken : (directed : Bool) (nodes : List ℕ) (pairs : List (ℕ × ℕ)) → AllByRecursion (Uses directed nodes) pairs
    → AllByRecursion (KeepsDecision directed nodes) (take_pairs pairs)
keeps_taken directed nodes [] h = tt
keeps_taken directed nodes (pair ∷ pairs) h = (h.0, keeps_taken directed nodes pairs h.1)

-- what uses all pairs keeps the decisions
pub keeps_given : (directed : Bool) (nodes : List ℕ) (pairs : List (ℕ × ℕ)) → All (Uses directed nodes) pairs
    → KeepsAll directed nodes (take_pairs (each_once directed pairs))
keeps_given directed nodes pairs used =
    subst (λ (xs : List (ℕ × ℕ)). KeepsAll directed nodes (take_pairs xs)) (once_all directed pairs)
    (All-from_recursion (KeepsDecision directed nodes) (take_pairs (each_once_after directed [] pairs))
    (keeps_taken directed nodes (each_once_after directed [] pairs)
    (each_holds directed (Uses directed nodes) [] pairs (recursion_from_All (Uses directed nodes) pairs used))))

-- ---- no pair comes twice

left_false : (a b : Bool) → (a || b) ≡ false → a ≡ false
left_false true b h = h
left_false false b h = refl

right_false : (a b : Bool) → (a || b) ≡ false → b ≡ false
right_false true true h = h
right_false true false h = refl
right_false false b h = h

abbrev Fresh : Bool → List (ℕ × ℕ) → ℕ × ℕ → Type 0
Fresh directed earlier pair = list_any (is_same directed pair) earlier ≡ false

fresh_before : (directed : Bool) (earlier xs : List (ℕ × ℕ)) (pair : ℕ × ℕ)
    → AllByRecursion (Fresh directed (earlier ++ pair ∷ [])) xs → AllByRecursion (Fresh directed earlier) xs
fresh_before directed earlier [] pair h = tt
fresh_before directed earlier (x ∷ xs) pair h = (
  left_false (list_any (is_same directed x) earlier) (list_any (is_same directed x) (pair ∷ []))
      (sym (list_any-append (is_same directed x) earlier (pair ∷ [])) ∙ h.0),
  fresh_before directed earlier xs pair h.1,
)

all_fresh : (directed : Bool) (earlier pairs : List (ℕ × ℕ))
    → AllByRecursion (Fresh directed earlier) (each_once_after directed earlier pairs)
all_fresh directed earlier [] = tt
all_fresh directed earlier (pair ∷ pairs) = elim (cases_Bool (list_any (is_same directed pair) earlier)) [
  | inl known ↦ rw known (fresh_before directed earlier (each_once_after directed (earlier ++ pair ∷ []) pairs) pair
      (all_fresh directed (earlier ++ pair ∷ []) pairs))
  | inr fresh ↦ rw fresh (
    fresh,
    fresh_before directed earlier (each_once_after directed (earlier ++ pair ∷ []) pairs) pair
        (all_fresh directed (earlier ++ pair ∷ []) pairs),
  )
]

apart_from : (directed : Bool) (earlier xs : List (ℕ × ℕ)) (pair : ℕ × ℕ)
    → AllByRecursion (Fresh directed (earlier ++ pair ∷ [])) xs
    → AllByRecursion (λ (decision : Decision). is_same directed pair decision.pair ≡ false) (take_pairs xs)
apart_from directed earlier [] pair h = tt
apart_from directed earlier (x ∷ xs) pair h = (
  turned_same directed pair x
      ∙ last (right_false (list_any (is_same directed x) earlier) (list_any (is_same directed x) (pair ∷ []))
      (sym (list_any-append (is_same directed x) earlier (pair ∷ [])) ∙ h.0)),
  apart_from directed earlier xs pair h.1,
)
  where
    last : list_any (is_same directed x) (pair ∷ []) ≡ false → is_same directed x pair ≡ false
    last none = left_false (is_same directed x pair) false none

once_taken : (directed : Bool) (earlier pairs : List (ℕ × ℕ))
    → DecideOnce directed (take_pairs (each_once_after directed earlier pairs))
once_taken directed earlier [] = λ i j d before inside. absurd (omega (arith, inside))
once_taken directed earlier (pair ∷ pairs) = elim (cases_Bool (list_any (is_same directed pair) earlier)) [
  | inl known ↦ rw known (once_taken directed (earlier ++ pair ∷ []) pairs)
  | inr fresh ↦ rw fresh (AllPairs-cons (λ (a b : Decision). is_same directed a.pair b.pair ≡ false)
      (record { pair = pair; taken = true }) (take_pairs (each_once_after directed (earlier ++ pair ∷ []) pairs))
      (All-from_recursion (λ (decision : Decision). is_same directed pair decision.pair ≡ false)
      (take_pairs (each_once_after directed (earlier ++ pair ∷ []) pairs))
      (apart_from directed earlier (each_once_after directed (earlier ++ pair ∷ []) pairs) pair
      (all_fresh directed (earlier ++ pair ∷ []) pairs)))
      (once_taken directed (earlier ++ pair ∷ []) pairs))
]

-- ---- the same of decisions as code has them

pub given_once : (directed : Bool) (given : List Decision) (pairs : List (ℕ × ℕ)) → given ≡ take_pairs (each_once directed pairs)
    → DecideOnce directed given
given_once directed given pairs are =
    subst (DecideOnce directed) (sym (after_none directed given pairs are)) (once_taken directed [] pairs)

decisions_of : (n : ℕ) (given : List Decision) → AllByRecursion (λ (decision : Decision). IsPairOf n decision.pair) given
    → AllByRecursion (IsDecision n) given
decisions_of n [] h = tt
decisions_of n (decision ∷ given) h = (h.0, decisions_of n given h.1)

pub given_are : (directed : Bool) (n : ℕ) (given : List Decision) (pairs : List (ℕ × ℕ))
    → given ≡ take_pairs (each_once directed pairs) → All (IsPairOf n) pairs → All (IsDecision n) given
given_are directed n given pairs are of_nodes = All-from_recursion (IsDecision n) given
    (decisions_of n given (subst (AllByRecursion (λ (decision : Decision). IsPairOf n decision.pair))
    (sym (after_none directed given pairs are))
    (taken_hold (IsPairOf n) (each_once_after directed [] pairs)
    (each_holds directed (IsPairOf n) [] pairs (recursion_from_All (IsPairOf n) pairs of_nodes)))))

once_count : (directed : Bool) (earlier pairs : List (ℕ × ℕ)) → length (each_once_after directed earlier pairs) ≤ length pairs
once_count directed earlier [] = omega arith
once_count directed earlier (pair ∷ pairs) = elim (cases_Bool (list_any (is_same directed pair) earlier)) [
  | inl known ↦ rw known (let less = once_count directed (earlier ++ pair ∷ []) pairs in omega (arith, less))
  | inr fresh ↦ rw fresh (let less = once_count directed (earlier ++ pair ∷ []) pairs in omega (arith, less))
]

pub given_few : (directed : Bool) (most : ℕ) (given : List Decision) (pairs : List (ℕ × ℕ))
    → given ≡ take_pairs (each_once directed pairs) → length pairs ≤ most → length given ≤ most
given_few directed most given pairs are few =
    omega (
      arith,
      few,
      ap length (after_none directed given pairs are),
      taken_length (each_once_after directed [] pairs),
      once_count directed [] pairs,
    )
  where
    taken_length : (xs : List (ℕ × ℕ)) → length (take_pairs xs) ≡ length xs
    taken_length xs = length-map xs _

-- ---- one pass over the pairs

-- the taken pairs, and the pairs left to take, are all
abbrev pub IsTakenSoFar : Bool → List (ℕ × ℕ) → List Decision → ℕ → Type 0
IsTakenSoFar directed pairs taken index =
    taken ++ take_pairs (each_once_after directed (take index pairs) (drop index pairs)) ≡ take_pairs
    (each_once_after directed [] pairs)

next_left : (directed : Bool) (pairs : List (ℕ × ℕ)) (index : ℕ) → index < length pairs
    → each_once_after directed (take index pairs) (drop index pairs)
    ≡ (if list_any (is_same directed (get_or pairs index (0, 0))) (take index pairs) then each_once_after directed
    (take (index + 1) pairs) (drop (index + 1) pairs)
    else (get_or pairs index (0, 0) ∷ each_once_after directed (take (index + 1) pairs) (drop (index + 1) pairs)))
next_left directed pairs index lt =
    let pair : ℕ × ℕ = get_or pairs index (0, 0) in
    ap (each_once_after directed (take index pairs))
    (drop-cons pairs index (0, 0) lt ∙ ap (λ (k : ℕ). pair ∷ drop k pairs) (sym (add-one index)))
    ∙ ap (λ (earlier : List (ℕ × ℕ)). if list_any (is_same directed pair) (take index pairs) then each_once_after directed earlier
    (drop (index + 1) pairs)
    else (pair ∷ each_once_after directed earlier (drop (index + 1) pairs))) (sym (take_more pairs index (0, 0) lt))

-- the set has an earlier pair that is the next one; it has none
pub taken_known : (directed : Bool) (pairs : List (ℕ × ℕ)) (taken : List Decision) (index : ℕ) (seen : BTreeSet (ℕ × ℕ))
    → index < length pairs → HasKeys directed seen (take index pairs)
    → contains pair_cmp seen (key_of directed (get_or pairs index (0, 0))) ≡ true → IsTakenSoFar directed pairs taken index
    → IsTakenSoFar directed pairs taken (index + 1)
taken_known directed pairs taken index seen lt has there so_far =
    let pair : ℕ × ℕ = get_or pairs index (0, 0) in
    let known : list_any (is_same directed pair) (take index pairs) ≡ true = sym (has pair) ∙ there in
    let left : each_once_after directed (take index pairs) (drop index pairs) ≡ each_once_after directed (take (index + 1) pairs)
    (drop (index + 1) pairs) = next_left directed pairs index lt ∙ rw known refl in
    ap (λ (xs : List (ℕ × ℕ)). taken ++ take_pairs xs) (sym left) ∙ so_far

pub taken_new : (directed : Bool) (pairs : List (ℕ × ℕ)) (taken pushed : List Decision) (index : ℕ) (seen : BTreeSet (ℕ × ℕ))
    → index < length pairs → HasKeys directed seen (take index pairs)
    → contains pair_cmp seen (key_of directed (get_or pairs index (0, 0))) ≡ false
    → pushed ≡ taken ++ take_pairs (get_or pairs index (0, 0) ∷ []) → IsTakenSoFar directed pairs taken index
    → IsTakenSoFar directed pairs pushed (index + 1)
taken_new directed pairs taken pushed index seen lt has lacks more so_far =
    let pair : ℕ × ℕ = get_or pairs index (0, 0) in
    let fresh : list_any (is_same directed pair) (take index pairs) ≡ false = sym (has pair) ∙ lacks in
    let rest : List (ℕ × ℕ) = each_once_after directed (take (index + 1) pairs) (drop (index + 1) pairs) in
    let left : each_once_after directed (take index pairs) (drop index pairs) ≡ pair ∷ rest = next_left directed pairs index lt
    ∙ rw fresh refl in
    ap (λ (ds : List Decision). ds ++ take_pairs rest) more
    ∙ append_assoc taken (take_pairs (pair ∷ [])) (take_pairs rest)
    ∙ ap (λ (xs : List (ℕ × ℕ)). taken ++ take_pairs xs) (sym left) ∙ so_far

pub taken_all : (directed : Bool) (pairs : List (ℕ × ℕ)) (taken : List Decision) (index : ℕ) → length pairs ≤ index
    → IsTakenSoFar directed pairs taken index → taken ≡ take_pairs (each_once directed pairs)
taken_all directed pairs taken index past so_far =
    let none : drop index pairs ≡ [] = drop_all index pairs past in
    sym (append-nil taken) ∙ ap (λ (xs : List (ℕ × ℕ)). taken ++ take_pairs (each_once_after directed (take index pairs) xs))
    (sym none) ∙ so_far ∙ ap take_pairs (once_all directed pairs)

-- ---- a set of pairs without direction, with one pair more

-- ---- a set that looks at no direction

-- one pair more
pub has_more : {X : Type 0} (pair_in : X → ℕ × ℕ) (s n : BTreeSet (ℕ × ℕ)) (xs : List X) (i : ℕ) (d : X) → i < length xs
    → Updates pair_cmp s n (undirected (pair_in (get_or xs i d))) true
    → HasPairs pair_in s (take i xs) → HasPairs pair_in n (take (i + 1) xs)
has_more pair_in s n xs i d lt updates has = λ pair.
    let here : is_at (pair_cmp (undirected (pair_in (get_or xs i d)))) (undirected pair) ≡ is_same_pair pair
    (pair_in (get_or xs i d)) = same_keys (pair_in (get_or xs i d)) pair in
    updates.0 (undirected pair) ∙ ap₂ (λ a b. cond a true b) here (has pair)
    ∙ cond_or (is_same_pair pair (pair_in (get_or xs i d))) (list_any (λ x. is_same_pair pair (pair_in x)) (take i xs))
    ∙ sym (list_any_more (λ x. is_same_pair pair (pair_in x)) xs i d lt)

-- ---- what it says of a list of pairs

listed : (pairs : List (ℕ × ℕ)) (pair : ℕ × ℕ) → list_any (λ x. is_same_pair pair x) pairs ≡ true → IsListedEitherWay pairs pair
listed pairs pair h =
    let found = Any-from_list_any (λ x. is_same_pair pair x) pairs h in
    elim (or_cases _ _ found.4) [
      | inl on ↦
          let e = and_parts (eqb pair.0 found.1.0) (eqb pair.1 found.1.1) on in
          let s : found.1 ≡ pair = ap₂ (λ a b. (a, b)) (sym (eqb-true _ _ e.0)) (sym (eqb-true _ _ e.1)) in
          inl (found.0, found.2, get_or_default pairs found.0 pair found.1 found.2 ∙ found.3 ∙ s)
      | inr back ↦
          let e = and_parts (eqb pair.1 found.1.0) (eqb pair.0 found.1.1) back in
          let s : found.1 ≡ (pair.1, pair.0) = ap₂ (λ a b. (a, b)) (sym (eqb-true _ _ e.0)) (sym (eqb-true _ _ e.1)) in
          inr (found.0, found.2, get_or_default pairs found.0 (pair.1, pair.0) found.1 found.2 ∙ found.3 ∙ s)
    ]

found_listed : (pairs : List (ℕ × ℕ)) (pair : ℕ × ℕ) → IsListedEitherWay pairs pair
    → list_any (λ x. is_same_pair pair x) pairs ≡ true
found_listed pairs pair (inl at) =
    list_any_at (λ x. is_same_pair pair x) pairs at.0 pair at.1 (rw at.2 (straight pair pair refl refl))
found_listed pairs pair (inr at) =
    list_any_at (λ x. is_same_pair pair x) pairs at.0 (pair.1, pair.0) at.1 (rw at.2 (crossed pair (pair.1, pair.0) refl refl))

pub has_listed : (pairs : List (ℕ × ℕ)) (s : BTreeSet (ℕ × ℕ)) (pair : ℕ × ℕ) → HasPairs (λ p. p) s pairs
    → contains pair_cmp s (undirected pair) ≡ true → IsListedEitherWay pairs pair
has_listed pairs s pair has is = listed pairs pair (sym (has pair) ∙ is)

pub lacks_unlisted : (pairs : List (ℕ × ℕ)) (s : BTreeSet (ℕ × ℕ)) (pair : ℕ × ℕ) → HasPairs (λ p. p) s pairs
    → contains pair_cmp s (undirected pair) ≡ false → IsListedEitherWay pairs pair → ⊥
lacks_unlisted pairs s pair has isnt is = false≢true (sym isnt ∙ has pair ∙ found_listed pairs pair is)

-- ---- the same of pairs that may have a direction

pub has_more_keys : (directed : Bool) (s n : BTreeSet (ℕ × ℕ)) (pairs : List (ℕ × ℕ)) (i : ℕ) (d : ℕ × ℕ) → i < length pairs
    → Updates pair_cmp s n (key_of directed (get_or pairs i d)) true
    → HasKeys directed s (take i pairs) → HasKeys directed n (take (i + 1) pairs)
has_more_keys directed s n pairs i d lt updates has = λ pair.
    let here = key_at directed (get_or pairs i d) pair in
    updates.0 (key_of directed pair) ∙ ap₂ (λ a b. cond a true b) here (has pair)
    ∙ cond_or (is_same directed pair (get_or pairs i d)) (list_any (is_same directed pair) (take i pairs))
    ∙ sym (list_any_more (is_same directed pair) pairs i d lt)

-- ---- what it says of a list of triples, none of which has the pair of an earlier one

abbrev none : ℕ × ℕ × ℤ
none = (0, 0, pos 0)

abbrev pub AreApart : List (ℕ × ℕ × ℤ) → ℕ → Type 0
AreApart triples count =
    (i j : ℕ) → i < j → j < count → is_same_pair (pair_of (get_or triples i (0, 0, pos 0)))
    (pair_of (get_or triples j (0, 0, pos 0))) ≡ false

at_place : (triples : List (ℕ × ℕ × ℤ)) (k : ℕ) → pair_at triples (k + 1) ≡ pair_of (get_or triples k none)
at_place triples k = let e : (k + 1) - 1 ≡ k = omega arith in ap (λ m. pair_of (get_or triples m none)) e

-- the set has the pair of the next triple: it is the first that is repeated
pub repeated_pair : (triples : List (ℕ × ℕ × ℤ)) (s : BTreeSet (ℕ × ℕ)) (i : ℕ) → i < length triples
    → HasPairs pair_of s (take i triples) → AreApart triples i
    → contains pair_cmp s (undirected (pair_of (get_or triples i (0, 0, pos 0)))) ≡ true
    → IsFirstPlace (IsPairRepeated triples) triples (i + 1)
repeated_pair triples s i lt has apart there =
    let pair = pair_of (get_or triples i none) in
    let found = Any-from_list_any (λ x. is_same_pair pair (pair_of x)) (take i triples) (sym (has pair) ∙ there) in
    let low : found.0 < i = omega (arith, found.2, length-take-le i triples (omega (arith, lt))) in
    let same : get_or triples found.0 none ≡ found.1 = get_or_default triples found.0 none found.1 (omega (arith, low, lt))
    ∙ sym (get_or-take i triples found.0 found.1 low) ∙ found.3 in
    let known : is_same_pair (pair_of (get_or triples found.0 none)) pair ≡ true = ap (λ x. is_same_pair (pair_of x) pair) same
    ∙ same_turn (pair_of found.1) pair ∙ found.4 in
    record {
      applies = (
        (omega arith, omega (arith, lt)),
        (
          found.0 + 1,
          omega arith,
          omega (arith, low),
          ap₂ (λ p q. is_same_pair p q) (at_place triples found.0) (at_place triples i) ∙ known,
        ),
      );
      none_before = λ earlier before from again.
          let e : is_same_pair (pair_at triples again.0) (pair_at triples earlier) ≡ false =
          apart (again.0 - 1) (earlier - 1) (omega (arith, again.1, again.2)) (omega (arith, before, from)) in
          false≢true (sym e ∙ again.3);
    }

-- it hasn't: they are apart up to that one too
pub apart_more : (triples : List (ℕ × ℕ × ℤ)) (s : BTreeSet (ℕ × ℕ)) (i : ℕ) → i < length triples
    → HasPairs pair_of s (take i triples) → AreApart triples i
    → contains pair_cmp s (undirected (pair_of (get_or triples i (0, 0, pos 0)))) ≡ false → AreApart triples (i + 1)
apart_more triples s i lt has apart lacks k j before inside = elim (cases_lt j i) [
  | inl low ↦ apart k j before low
  | inr high ↦ let e : j ≡ i = omega (arith, high, inside) in rw e (last (omega (arith, before, e)))
]
  where
    known : k < i → is_same_pair (pair_of (get_or triples k none)) (pair_of (get_or triples i none)) ≡ true
        → list_any (λ x. is_same_pair (pair_of (get_or triples i none)) (pair_of x)) (take i triples) ≡ true
    known low same =
        let fits : k < length (take i triples) = omega (arith, low, length-take-le i triples (omega (arith, lt))) in
        let here : is_same_pair (pair_of (get_or triples i none)) (pair_of (get_or (take i triples) k none)) ≡ true =
        ap (λ x. is_same_pair (pair_of (get_or triples i none)) (pair_of x)) (get_or-take i triples k none low)
        ∙ same_turn (pair_of (get_or triples i none)) (pair_of (get_or triples k none)) ∙ same in
        list_any_at (λ x. is_same_pair (pair_of (get_or triples i none)) (pair_of x)) (take i triples) k none fits here

    last : k < i → is_same_pair (pair_of (get_or triples k (0, 0, pos 0))) (pair_of (get_or triples i (0, 0, pos 0))) ≡ false
    last low = false_from_ne_true _ (λ same. false≢true (sym lacks ∙ has (pair_of (get_or triples i none)) ∙ known low same))

pub apart_all : (triples : List (ℕ × ℕ × ℤ)) → AreApart triples (length triples)
    → AllPairs (λ s t. is_same_pair (pair_of s) (pair_of t) ≡ false) triples
apart_all triples apart i j d before inside =
    ap₂ (λ s t. is_same_pair (pair_of s) (pair_of t)) (get_or_default triples i d none (omega (arith, before, inside)))
    (get_or_default triples j d none inside) ∙ apart i j before inside

-- ---- of triples whose pairs are looked up

pub outside_here : (pairs : List (ℕ × ℕ)) (s : BTreeSet (ℕ × ℕ)) (triples : List (ℕ × ℕ × ℤ)) (i : ℕ) → HasPairs (λ p. p) s pairs
    → i < length triples
    → ((k : ℕ) (d : ℕ × ℕ × ℤ) → k < i → contains pair_cmp s (undirected (pair_of (get_or triples k d))) ≡ true)
    → contains pair_cmp s (undirected (pair_of (get_or triples i (0, 0, pos 0)))) ≡ false
    → IsFirstPlace (IsUnlisted pairs triples) triples (i + 1)
outside_here pairs s triples i has lt inside lacks = record {
  applies = (
    (omega arith, omega (arith, lt)),
    λ is. lacks_unlisted pairs s (pair_of (get_or triples i none)) has lacks
        (subst (IsListedEitherWay pairs) (at_place triples i) is),
  );
  none_before = λ earlier before from isnt. isnt
      (has_listed pairs s (pair_at triples earlier) has (inside (earlier - 1) none (omega (arith, from, before))));
}

pub inside_more : (s : BTreeSet (ℕ × ℕ)) (triples : List (ℕ × ℕ × ℤ)) (i : ℕ) → i < length triples
    → ((k : ℕ) (d : ℕ × ℕ × ℤ) → k < i → contains pair_cmp s (undirected (pair_of (get_or triples k d))) ≡ true)
    → contains pair_cmp s (undirected (pair_of (get_or triples i (0, 0, pos 0)))) ≡ true
    → (k : ℕ) (d : ℕ × ℕ × ℤ) → k < i + 1 → contains pair_cmp s (undirected (pair_of (get_or triples k d))) ≡ true
inside_more s triples i lt inside there k d low = elim (cases_lt k i) [
  | inl before ↦ inside k d before
  | inr after ↦ let e : k ≡ i = omega (arith, low, after) in rw e (rw (get_or_default triples i d none lt) there)
]
