-- For src/case_leaf.rt: closed links, least open links and their sum, the numbers of decisions, and what a leaf gives
-- back.
use Rattle.tsp_branch.proofs.Prelude.{ℕ, ◌+◌, ◌<◌, List, get_or, length, inl, inr, refl, ◌∙◌, arith, ◌≡◌, Bool, false, ◌*◌, ◌^◌, [], ◌∷◌, ◌++◌, drop, FitsSigned, ap, sym, to_z, of_z, drop-cons, add-one, ◌≢◌, true, subst, zero, suc, ◌≤◌, ◌==◌, cases_eq, cases_Bool, eq-eqb, ne_eqb, ints, get_or_default, reverse-append, length-reverse, w64, w128, int_wrap, filter, All, AllByRecursion, Contains, range_with_len, ℤ, pos, neg_ℤ, ◌+ℤ◌, ◌-ℤ◌, ◌*ℤ◌, reverse, ◌↔◌, ◌≤ℤ◌, ◌<ℤ◌, if◌then◌else◌, most_nodes, IsNode, nodes_to, IsFromTo, moved_to, most_64, total, triples_total, IsSumSized, least_at, IsMoved, first_bears, second_only, filter_in, filter_out, few_changes, changes_listed, changes_are, within, least_of, multiplied, AllowsLink, Allows, IsAllowed, IsLeastFrom, IsSumOfLeast, on_taken, decided_number, DecideOnce, families_with, sum_with, Decision, stack_of, IsDecision, IsOnPlaces, bears_on, changes, decided, marks_in, most_decided, most_combed}
use Rattle.std.proofs.lemmas.List.Elements.{All-contains, All-filter, All-from_recursion, Contains-get_or, recursion_from_All}
use Rattle.std.proofs.lemmas.List.Sorted.{IsPermutation-reverse, IsPermutation-sym, Contains-permutation}
use Rattle.std.proofs.lemmas.List.Sums.{length-filter, count_by-le-length}
use Rattle.tsp_theory.specs.Tour.{sum_int_by}
use Rattle.tsp_cases.specs.declared.family.Crossings.{Crossings}
use Rattle.tsp_branch.specs.states.LeafRows.{IsShut, no_link, IsOpenRow, decided_by}

-- P of the first i elements of a list
abbrev pub AllBelow : {X : Type 0} → (X → Type 0) → List X → ℕ → Type 0
AllBelow {X} P xs i = (k : ℕ) (d : X) → k < i → P (get_or xs k d)

pub below_none : {X : Type 0} (P : X → Type 0) (xs : List X) → AllBelow P xs 0
below_none P xs = λ k d lt. absurd (omega (arith, lt))

pub shut_none : {X : Type 0} (P : X → Type 0) (xs : List X) (a : ℤ) → IsShut (AllBelow P xs 0) a a
shut_none P xs a = inl (below_none P xs, refl)

-- one decision more: a link stays open if it allows it too
pub shut_more : {X : Type 0} (P : X → Type 0) (xs : List X) (i : ℕ) (d : X) (a b c : ℤ) → i < length xs → IsShut (AllBelow P xs i) a b → IsShut (P (get_or xs i d)) b c
    → IsShut (AllBelow P xs (i + 1)) a c
shut_more P xs i d a b c inside (inl one) (inl two) = inl (
  λ k e lt. elim (cases_eq k i) [
    | inl here ↦ rw here (rw (get_or_default xs i e d inside) two.0)
    | inr other ↦ one.0 k e (omega (arith, lt, other))
  ],
  two.1 ∙ one.1,
)
shut_more P xs i d a b c inside (inl one) (inr two) = inr (λ all. two.0 (all i d (omega arith)), two.1)
shut_more P xs i d a b c inside (inr one) (inl two) = inr (λ all. one.0 (λ k e lt. all k e (omega (arith, lt))), two.1 ∙ one.1)
shut_more P xs i d a b c inside (inr one) (inr two) = inr (λ all. two.0 (all i d (omega arith)), two.1)

-- equivalent conditions close the same link
pub shut_same : (A B : Type 0) (a b : ℤ) → (A → B) → (B → A) → IsShut A a b → IsShut B a b
shut_same A B a b to from (inl one) = inl (to one.0, one.1)
shut_same A B a b to from (inr one) = inr (λ h. one.0 (from h), one.1)

-- ---- what a leaf gives back to its bound, in the order in which code sums it

-- ---- sums of numbers

pub computed_of_64 : (sum number from : ℤ) (index : ℕ) → index < 2 ^ 32 → IsFromTo (neg_ℤ (pos (index * 2 ^ 63))) (pos (index * 2 ^ 63)) sum → FitsSigned w64 number → from ≡ number
    → to_z w128 (of_z w128 (sum +ℤ to_z w128 (of_z w128 from))) ≡ sum +ℤ number
computed_of_64 sum number from index few s fits is = omega (arith, ints, few, s.0, s.1, fits, is)

pub total_left : (numbers : List ℤ) (index : ℕ) (default : ℤ) → index < length numbers → total (drop index numbers) ≡ get_or numbers index default +ℤ total (drop (index + 1) numbers)
total_left numbers index default lt = ap total (drop-cons numbers index default lt) ∙ rw (add-one index) refl

-- ---- the numbers of taken pairs

taken_both : (ds es : List Decision) → triples_total (on_taken decided_number (ds ++ es)) ≡ triples_total (on_taken decided_number ds) +ℤ triples_total (on_taken decided_number es)
taken_both [] es = omega (arith, ints)
taken_both (d ∷ ds) es =
    let rest = taken_both ds es in
    elim (cases_Bool d.taken) [
      | inl t ↦ rw t (omega (arith, ints, rest))
      | inr f ↦ rw f rest
    ]

taken_turned : (ds : List Decision) → triples_total (on_taken decided_number (reverse ds)) ≡ triples_total (on_taken decided_number ds)
taken_turned [] = refl
taken_turned (d ∷ ds) =
    let split = ap (λ es. triples_total (on_taken decided_number es)) (reverse-append (d ∷ []) ds) in
    let both = taken_both (reverse ds) (d ∷ []) in
    let first = taken_both (d ∷ []) ds in
    let rest = taken_turned ds in
    omega (arith, ints, split, both, first, rest)

taken_passed : (case : List Decision) → triples_total (on_taken decided_number (filter (λ decision. decision.taken) case)) ≡ triples_total (on_taken decided_number case)
taken_passed [] = refl
taken_passed (d ∷ case) =
    let rest = taken_passed case in
    elim (cases_Bool d.taken) [
      | inl t ↦ rw t (omega (arith, ints, rest))
      | inr f ↦ rw f rest
    ]

-- the taken pairs of a case sum to the same in either order
pub taken_listed : (case taken : List Decision) → stack_of taken ≡ filter (λ decision. decision.taken) case
    → triples_total (on_taken decided_number taken) ≡ triples_total (on_taken decided_number case)
taken_listed case taken is = sym (taken_turned taken) ∙ ap (λ (ds : List Decision). triples_total (on_taken decided_number ds)) is ∙ taken_passed case

pub taken_few : (case taken : List Decision) (most : ℕ) → stack_of taken ≡ filter (λ decision. decision.taken) case → length case < most → length taken < most
taken_few case taken most is few =
    let test : Decision → Bool = λ decision. decision.taken in
    let first = sym (length-reverse taken) ∙ ap length is ∙ length-filter test case in
    let second = count_by-le-length test case in
    omega (arith, first, second, few)

-- the sum that the families give back depends on their least crossings alone, not on their sets
pub least_told : (crossed : List Crossings) (ms : List ℤ) (families : List (List (List ℕ))) → length crossed ≡ length families
    → least_of (multiplied (families_with crossed families) ms) ≡ sum_with false crossed ms
least_told [] ms families many = refl
least_told (own ∷ crossed) ms [] many = absurd (omega (arith, many))
least_told (own ∷ crossed) [] (sets ∷ families) many = refl
least_told (own ∷ crossed) (m ∷ ms) (sets ∷ families) many = ap (λ (z : ℤ). (m *ℤ pos own.least) +ℤ z) (least_told crossed ms families (omega (arith, many)))

-- ---- the sums of the code, each of which fits

abbrev held : ℤ → ℤ
held z = to_z w128 (of_z w128 z)

pub twice_held : (ps : ℤ) → IsFromTo (neg_ℤ (pos (2 ^ 95))) (pos (2 ^ 95)) ps → held (pos 2 *ℤ held ps) ≡ pos 2 *ℤ ps
twice_held ps p = omega (arith, ints, p.0, p.1)

pub less_fits : (crossed ps : ℤ) → IsFromTo (pos 0) (pos (2 ^ 95)) crossed → IsFromTo (neg_ℤ (pos (2 ^ 95))) (pos (2 ^ 95)) ps → FitsSigned w128 (held crossed -ℤ held (pos 2 *ℤ held ps))
less_fits crossed ps p q = rw (twice_held ps q) (omega (arith, ints, p.0, p.1, q.0, q.1))

pub less_held : (crossed ps : ℤ) → IsFromTo (pos 0) (pos (2 ^ 95)) crossed → IsFromTo (neg_ℤ (pos (2 ^ 95))) (pos (2 ^ 95)) ps
    → held (held crossed -ℤ held (pos 2 *ℤ held ps)) ≡ crossed -ℤ (pos 2 *ℤ ps)
less_held crossed ps p q = rw (twice_held ps q) (omega (arith, ints, p.0, p.1, q.0, q.1))

pub less_sized : (crossed ps : ℤ) → IsFromTo (pos 0) (pos (2 ^ 95)) crossed → IsFromTo (neg_ℤ (pos (2 ^ 95))) (pos (2 ^ 95)) ps
    → IsFromTo (neg_ℤ (pos (2 ^ 98))) (pos (2 ^ 98)) (crossed -ℤ (pos 2 *ℤ ps))
less_sized crossed ps p q = (omega (arith, ints, p.0, q.1), omega (arith, ints, p.1, q.0))

pub back_held : (taken less : ℤ) → IsFromTo (pos 0) (pos (2 ^ 95)) taken → IsFromTo (neg_ℤ (pos (2 ^ 98))) (pos (2 ^ 98)) less → held (held taken +ℤ held less) ≡ taken +ℤ less
back_held taken less p q = omega (arith, ints, p.0, p.1, q.0, q.1)

-- ---- a row of an ATSP's case: closed are the links that a decision doesn't allow

-- ---- the decisions of a case

all_within : (P : Decision → Type 0) (xs ys : List Decision) → ((x : Decision) → Contains xs x → Contains ys x) → All P ys → All P xs
all_within P xs ys inside all = λ k d lt. All-contains P ys (get_or xs k d) all (inside (get_or xs k d) (Contains-get_or xs k d lt))

turned : (P : Decision → Type 0) (xs : List Decision) → All P xs → All P (reverse xs)
turned P xs all = all_within P (reverse xs) xs (λ x c. Contains-permutation (reverse xs) xs x (IsPermutation-sym xs (reverse xs) (IsPermutation-reverse xs)) c) all

turned_back : (P : Decision → Type 0) (xs : List Decision) → All P (reverse xs) → All P xs
turned_back P xs all = all_within P xs (reverse xs) (λ x c. Contains-permutation xs (reverse xs) x (IsPermutation-reverse xs) c) all

-- ---- the decisions at a node with those that take their pair bear on its row as all do

avoided_allows : (pair : ℕ × ℕ) (i j : ℕ) → pair.0 ≢ i → AllowsLink false pair i j
avoided_allows pair i j other = λ e same. other (sym e)

pub all_passed : (P : Decision → Type 0) (test : Decision → Bool) (case own : List Decision) → stack_of own ≡ filter test case → All P case → All P own
all_passed P test case own is all = turned_back P own (subst (All P) (sym is) (All-filter test P case all))

-- plan: forwards by induction over the case (`each`): it is taken, or bears on the row, or allows the arc
-- (`avoided_allows`)
both_parts : (from x : ℕ) (case own taken : List Decision) → stack_of own ≡ filter (bears_on true from) case → stack_of taken ≡ filter (λ decision. decision.taken) case
    → (All (Allows from x) own × All (Allows from x) taken) ↔ All (Allows from x) case
both_parts from x case own taken own_is taken_is = (
  λ h. All-from_recursion P case (each case (recursion_from_All P (filter (bears_on true from) case) (subst (All P) own_is (turned P own h.0)))
      (recursion_from_All P (filter is_taken case) (subst (All P) taken_is (turned P taken h.1)))),
  λ all. (all_passed P (bears_on true from) case own own_is all, all_passed P is_taken case taken taken_is all),
)
  where
    P : Decision → Type 0
    P = Allows from x

    is_taken : Decision → Bool
    is_taken decision = decision.taken

    each : (case : List Decision) → AllByRecursion P (filter (bears_on true from) case) → AllByRecursion P (filter is_taken case) → AllByRecursion P case
    each [] a b = tt
    each (d ∷ case) a b = elim (cases_Bool d.taken) [
      | inl t ↦
          let more = subst (AllByRecursion P) (filter_in is_taken d case t) b in (
            more.0,
            each case (elim (cases_eq d.pair.0 from) [
              | inl same ↦ (subst (AllByRecursion P) (filter_in (bears_on true from) d case (first_bears true from d same)) a).1
              | inr other ↦ subst (AllByRecursion P) (filter_out (bears_on true from) d case (second_only from d other)) a
            ]) more.1,
          )
      | inr f ↦
          let more = subst (AllByRecursion P) (filter_out is_taken d case f) b in
          elim (cases_eq d.pair.0 from) [
            | inl same ↦
                let own = subst (AllByRecursion P) (filter_in (bears_on true from) d case (first_bears true from d same)) a in
                (own.0, each case own.1 more)
            | inr other ↦
                let own = subst (AllByRecursion P) (filter_out (bears_on true from) d case (second_only from d other)) a in
                (subst (λ (t : Bool). AllowsLink t d.pair from x) (sym f) (avoided_allows d.pair from x other), each case own more)
          ]
    ]

pub ends_inside : (n long : ℕ) (test : Decision → Bool) (case own : List Decision) → long ≡ n + 1 → stack_of own ≡ filter test case → All (IsDecision n) case
    → All (λ decision. decision.pair.1 < long) own
ends_inside n long test case own is own_is all = all_passed (λ decision. decision.pair.1 < long) test case own own_is
    (λ k d lt. let node = (all k d lt).1 in omega (arith, is, node.1))

-- both nodes of such a decision are in the row, and differ
pub both_inside : (n long : ℕ) (test : Decision → Bool) (case own : List Decision) → long ≡ n + 1 → stack_of own ≡ filter test case → All (IsDecision n) case
    → All (IsOnPlaces long) own
both_inside n long test case own is own_is all = all_passed (IsOnPlaces long) test case own own_is
    (λ k d lt. let node = all k d lt in (omega (arith, is, node.0.1), omega (arith, is, node.1.1), node.2))

-- ---- one link of the row

stays_closed : (A : Type 0) (a b : ℤ) → IsShut A a b → a ≡ no_link → b ≡ no_link
stays_closed A a b (inl kept) is = kept.1 ∙ is
stays_closed A a b (inr shut) is = shut.1

two_turns : (A B : Type 0) (a b c : ℤ) → IsShut A a b → IsShut B b c → IsShut (A × B) a c
two_turns A B a b c (inl one) (inl two) = inl ((one.0, two.0), two.1 ∙ one.1)
two_turns A B a b c (inl one) (inr two) = inr (λ h. two.0 h.1, two.1)
two_turns A B a b c (inr one) two = inr (λ h. one.0 h.0, stays_closed B b c two one.1)

allowed_if : (A B : Type 0) (a c : ℤ) → IsShut A a c → (A → B) → (B → A) → IsShut B a c
allowed_if A B a c (inl one) to from = inl (to one.0, one.1)
allowed_if A B a c (inr one) to from = inr (λ h. one.0 (from h), one.1)

-- closing the node itself, then its decisions, then the taken pairs leaves the allowed links open
pub opened : (n : ℕ) (w : ℕ → ℕ → ℤ) (case own taken : List Decision) (from long : ℕ) (old shut mid new : List ℤ) → n < long → ((x : ℕ) → IsNode n x → least_at old x ≡ w from x)
    → stack_of own ≡ filter (bears_on true from) case → stack_of taken ≡ filter (λ decision. decision.taken) case
    → least_at shut from ≡ no_link → ((x : ℕ) → x ≢ from → least_at shut x ≡ least_at old x)
    → ((x : ℕ) → x < long → IsShut (All (Allows from x) own) (least_at shut x) (least_at mid x))
    → ((x : ℕ) → x < long → IsShut (All (Allows from x) taken) (least_at mid x) (least_at new x)) → IsOpenRow n w case from new
opened n w case own taken from long old shut mid new room read own_is taken_is here others first second = λ x node.
    let inside : x < long = omega (arith, node.1, room) in
    let both = two_turns (All (Allows from x) own) (All (Allows from x) taken) (least_at shut x) (least_at mid x) (least_at new x) (first x inside) (second x inside) in
    let parts = both_parts from x case own taken own_is taken_is in
    elim (cases_eq x from) [
      | inl same ↦ inr (λ h. h.other (sym same), stays_closed _ (least_at shut x) (least_at new x) both (subst (λ (y : ℕ). least_at shut y ≡ no_link) (sym same) here))
      | inr other ↦ allowed_if (All (Allows from x) own × All (Allows from x) taken) (IsAllowed n case from x) (w from x) (least_at new x)
          (subst (λ (z : ℤ). IsShut (All (Allows from x) own × All (Allows from x) taken) z (least_at new x)) (others x other ∙ read x node) both)
          (λ h. record { node = node; other = λ same. other (sym same); each = parts.0 h }) (λ h. parts.1 h.each)
    ]

-- ---- the least open link

module _ (n : ℕ) (w : ℕ → ℕ → ℤ) (decisions : List Decision) (from : ℕ) (row : List ℤ) (least : ℤ) (open_row : IsOpenRow n w decisions from row) (small : (x : ℕ) → IsNode n x → w from x <ℤ no_link)
    (below : (x : ℕ) → IsNode n x → least ≤ℤ least_at row x) where
  pub none_allowed : least ≡ no_link → (x : ℕ) → IsAllowed n decisions from x → ⊥
  none_allowed is x allowed = elim (open_row x allowed.node) [
    | inl kept ↦ let less = small x allowed.node in let most = below x allowed.node in let same = kept.1 in omega (arith, ints, is, less, most, same)
    | inr shut ↦ shut.0 allowed
  ]

  least_below : (x : ℕ) → IsAllowed n decisions from x → least ≤ℤ w from x
  least_below x allowed = elim (open_row x allowed.node) [
    | inl kept ↦ let most = below x allowed.node in let same = kept.1 in omega (arith, ints, most, same)
    | inr shut ↦ absurd (shut.0 allowed)
  ]

  pub least_allowed : least ≢ no_link → (x : ℕ) → IsNode n x → least ≡ least_at row x → IsLeastFrom n w decisions from least
  least_allowed other x node is = elim (open_row x node) [
    | inl kept ↦ record { to = x; allowed = kept.0; reached = is ∙ kept.1; below = least_below }
    | inr shut ↦ absurd (other (is ∙ shut.1))
  ]

-- ---- the sum of the least links of all nodes of an ATSP, node by node, which fits 128 bits

-- the sum over one node more at the end
run_more : (f : ℕ → ℤ) (a n : ℕ) → sum_int_by f (range_with_len a (suc n)) ≡ sum_int_by f (range_with_len a n) +ℤ f (a + n)
run_more f a zero = let same : f a ≡ f (a + 0) = ap f (omega arith) in omega (arith, ints, same)
run_more f a (suc n) =
    let rest = run_more f (a + 1) n in
    let same : f ((a + 1) + n) ≡ f (a + suc n) = ap f (omega arith) in
    omega (arith, ints, rest, same)

-- equal numbers have equal sums
run_same : (f g : ℕ → ℤ) (a n : ℕ) → ((x : ℕ) → a ≤ x → x < a + n → f x ≡ g x) → sum_int_by f (range_with_len a n) ≡ sum_int_by g (range_with_len a n)
run_same f g a zero h = refl
run_same f g a (suc n) h =
    let first = h a (omega arith) (omega arith) in
    let rest = run_same f g (a + 1) n (λ x low high. h x (omega (arith, low)) (omega (arith, high))) in
    omega (arith, ints, first, rest)

-- the numbers with another one at one node
abbrev with_value : (ℕ → ℤ) → ℕ → ℤ → ℕ → ℤ
with_value f place z x = if x == place then z else f x

at_place : (f : ℕ → ℤ) (place : ℕ) (z : ℤ) → with_value f place z place ≡ z
at_place f place z = ap (λ b. if b then z else f place) (eq-eqb place place refl)

elsewhere : (f : ℕ → ℤ) (place x : ℕ) (z : ℤ) → x ≢ place → with_value f place z x ≡ f x
elsewhere f place x z other = ap (λ b. if b then z else f x) (ne_eqb x place other)

module _ (n : ℕ) (w : ℕ → ℕ → ℤ) (decisions : List Decision) where
  pub sum_none : IsSumOfLeast n w decisions 0 (pos 0)
  unfolding nodes_to
  sum_none = record { least = λ i. pos 0; each = λ i node. absurd (omega (arith, node.0, node.1)); sum_is = refl }

  pub sum_more : (last : ℕ) (sum z : ℤ) → IsSumOfLeast n w decisions last sum → IsLeastFrom n w decisions (last + 1) z → IsSumOfLeast n w decisions (last + 1) (sum +ℤ z)
  unfolding nodes_to
  sum_more last sum z is next =
      let more = with_value is.least (last + 1) z in
      let split : sum_int_by more (range_with_len 1 (last + 1)) ≡ sum_int_by more (range_with_len 1 last) +ℤ more (1 + last) =
      ap (λ k. sum_int_by more (range_with_len 1 k)) (add-one last) ∙ run_more more 1 last in
      let before = run_same more is.least 1 last (λ x low high. elsewhere is.least (last + 1) x z (λ same. omega (arith, same, high))) in
      let here : more (1 + last) ≡ z = ap more (omega arith) ∙ at_place is.least (last + 1) z in
      record {
        least = more;
        each = λ i node. elim (cases_eq i (last + 1)) [
          | inl same ↦ subst (λ (k : ℕ). IsLeastFrom n w decisions k (more k)) (sym same) (subst (IsLeastFrom n w decisions (last + 1)) (sym (at_place is.least (last + 1) z)) next)
          | inr other ↦ subst (IsLeastFrom n w decisions i) (sym (elsewhere is.least (last + 1) i z other)) (is.each i (node.0, omega (arith, node.1, other)))
        ];
        sum_is = let own = is.sum_is in omega (arith, ints, split, before, here, own);
      }

-- ---- in 128 bits

pub size_more : (sum z : ℤ) (count : ℕ) → IsSumSized count sum → FitsSigned w64 z → IsSumSized (count + 1) (sum +ℤ z)
size_more sum z count size fits = (omega (arith, ints, size.0, fits), omega (arith, ints, size.1, fits))

pub sum_computed : (sum z from : ℤ) (count : ℕ) → count ≤ most_nodes → IsSumSized count sum → FitsSigned w64 z → from ≡ z → to_z w128 (of_z w128 (sum +ℤ to_z w128 (of_z w128 from))) ≡ sum +ℤ z
sum_computed sum z from count few size fits is = omega (arith, ints, size.0, size.1, fits, is)

pub with_back : (sum back : ℤ) → IsSumSized most_nodes sum → IsFromTo (neg_ℤ (pos (2 ^ 99))) (pos (2 ^ 99)) back
    → to_z w128 (of_z w128 (to_z w128 (of_z w128 sum) +ℤ to_z w128 (of_z w128 back))) ≡ sum +ℤ back
with_back sum back size is = omega (arith, ints, size.0, size.1, is.0, is.1)

-- ---- the decisions of a case move the weights of a leaf, in 64 bits without an overflow

module _ (case : List Decision) (w : ℕ → ℕ → ℤ) (from x : ℕ) where
  -- weights with decisions fit, since those without are smaller
  pub decided_size : DecideOnce false case → IsFromTo (neg_ℤ (pos most_combed)) (pos most_combed) (w from x)
      → IsFromTo (neg_ℤ (pos most_decided)) (pos most_decided) (decided case w from x)
  decided_size once size =
      let sum = changes_are case w from x in
      let more = few_changes case once from x in
      (omega (arith, ints, size.0, more.0, sum), omega (arith, ints, size.1, more.1, sum))

  -- a weight that its changes moved, in 64 bits, is the one with decisions
  pub moved_is : (value : ℤ) → DecideOnce false case → IsFromTo (neg_ℤ (pos most_combed)) (pos most_combed) (w from x)
      → IsMoved (changes case from x) (w from x) value → value ≡ decided case w from x
  moved_is value once size moved =
      let whole = decided_size once size in
      moved_to (changes case from x) (w from x) value (decided case w from x) (changes_are case w from x)
      (within (decided case w from x) (omega (arith, ints, whole.0), omega (arith, ints, whole.1))) moved

  -- if pairs have no direction, so is a place of a row that the decisions listed at its node have changed
  pub changed_is : (directed : Bool) (listed : List Decision) (first value : ℤ) → directed ≡ false → DecideOnce directed case
      → stack_of listed ≡ filter (bears_on false from) case → first ≡ w from x
      → IsFromTo (neg_ℤ (pos most_combed)) (pos most_combed) first → IsMoved (changes listed from x) first value
      → (value ≡ decided_by directed case w from x) × (value <ℤ most_64)
  changed_is directed listed first value undirected once own is size moved =
      let each = subst (λ (d : Bool). DecideOnce d case) undirected once in
      let within_64 = subst (IsFromTo (neg_ℤ (pos most_combed)) (pos most_combed)) is size in
      let here = subst (λ (z : ℤ). IsMoved z (w from x) value) (changes_listed case listed from x own)
      (subst (λ (z : ℤ). IsMoved (changes listed from x) z value) is moved) in
      let same = moved_is value each within_64 here in
      let high = (decided_size each within_64).1 in (
        subst (λ (d : Bool). value ≡ decided_by d case w from x) (sym undirected) same,
        omega (arith, ints, same, high),
      )

  -- the same of a weight that the marks of all decisions moved
  pub marked_is : (directed : Bool) (value : ℤ) → DecideOnce directed case
      → value ≡ int_wrap w64 (w from x +ℤ marks_in directed case from x)
      → IsFromTo (neg_ℤ (pos most_combed)) (pos most_combed) (w from x)
      → (value ≡ decided_by directed case w from x) × IsFromTo (neg_ℤ (pos most_decided)) (pos most_decided) value
  marked_is true value once is size =
      let same = moved_to (pos 0) (w from x) value (w from x) (omega (arith, ints))
      (within (w from x) (omega (arith, ints, size.0), omega (arith, ints, size.1))) (inr is) in
      (same, (omega (arith, ints, same, size.0), omega (arith, ints, same, size.1)))
  marked_is false value once is size =
      let same = moved_is value once size (inr is) in
      (same, subst (IsFromTo (neg_ℤ (pos most_decided)) (pos most_decided)) (sym same) (decided_size once size))
