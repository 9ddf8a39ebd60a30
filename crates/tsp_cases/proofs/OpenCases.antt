-- The stack of decisions of the open case, one step further, and that no pair is decided twice (src/open_case.rt).
-- tsp_branch and tsp_routing import it, too.
use Rattle.tsp_cases.proofs.Prelude.{◌≡◌, ◌+◌, false, List, [], ◌∷◌, ◌++◌, refl, ap, ◌∙◌, ℕ, zero, suc, ◌==◌, ◌&&◌, Bool, true, ◌⊎◌, inl, inr, sym, arith, ◌≢◌, ◌-◌, ◌<◌, ◌≤◌, get_or, length, take, drop, subst, ap₂, cases_Bool, both_ways, or_cases, and_parts, eqb-true, eq-eqb, cases_eq, ne_eqb, ints, reverse-append, length-reverse, take_all, take_more, recursion_from_All, All-from_recursion, Vec, AllByRecursion, All, filter, list_any, pos, neg_ℤ, ◌+ℤ◌, reverse, IsFromTo, is_same_pair}
use Rattle.std.proofs.Math.Bool.{or-true}
use Rattle.std.proofs.lemmas.List.Sorted.{IsPermutation-reverse, list_any-IsPermutation}
use Rattle.std.proofs.lemmas.Map.Views.{any-filter_same}
use Rattle.tsp_cases.specs.Cases.{next_stack, DecideOnce, decided_number, is_same}
use Rattle.tsp_cases.specs.ListedCases.{is_decided}
use Rattle.tsp_cases.specs.declared.decision.Decision.{Decision}
use Rattle.tsp_cases.specs.declared.open_case.NodeDecisions.{NodeDecisions}
use Rattle.tsp_cases.specs.declared.open_case.OpenCase.{OpenCase}
use Rattle.tsp_cases.specs.states.OpenCases.{stack_of, signed, changes, AreFewChanges, IsDecision, change_of, bears_on, listed_at, AreByNode, HaveOneMore, HaveOneLess, decisions_in, IsOpenCase}

pub stack_more : (xs : List Decision) (d : Decision) → stack_of (xs ++ d ∷ []) ≡ d ∷ stack_of xs
stack_more xs d = reverse-append xs (d ∷ [])

pub next_avoided : (d : Decision) (xs : List Decision) → d.taken ≡ false → next_stack (stack_of (xs ++ d ∷ [])) ≡ next_stack (stack_of xs)
next_avoided d xs h = ap next_stack (stack_more xs d) ∙ rw h refl

-- ---- if no two decisions are on one pair, a weight changes by one decision at most

-- two pairs on the same two nodes are the same pair, in either order
abbrev pub Same : ℕ × ℕ → ℕ → ℕ → Type 0
Same p i j = ((p.0 ≡ i) × (p.1 ≡ j)) ⊎ ((p.1 ≡ i) × (p.0 ≡ j))

pub told : (p : ℕ × ℕ) (i j : ℕ) → is_same_pair p (i, j) ≡ true → Same p i j
told p i j h = elim (or_cases ((p.0 == i) && (p.1 == j)) ((p.1 == i) && (p.0 == j)) h) [
  | inl one ↦ let two = and_parts (p.0 == i) (p.1 == j) one in inl (eqb-true p.0 i two.0, eqb-true p.1 j two.1)
  | inr one ↦ let two = and_parts (p.1 == i) (p.0 == j) one in inr (eqb-true p.1 i two.0, eqb-true p.0 j two.1)
]

both_on : (p q : ℕ × ℕ) (i j : ℕ) → Same p i j → Same q i j → is_same_pair p q ≡ true
both_on p q i j (inl a) (inl b) = rw (eq-eqb p.0 q.0 (a.0 ∙ sym b.0), eq-eqb p.1 q.1 (a.1 ∙ sym b.1)) refl
both_on p q i j (inr a) (inr b) = rw (eq-eqb p.0 q.0 (a.1 ∙ sym b.1), eq-eqb p.1 q.1 (a.0 ∙ sym b.0)) refl
both_on p q i j (inl a) (inr b) = rw (eq-eqb p.1 q.0 (a.1 ∙ sym b.1), eq-eqb p.0 q.1 (a.0 ∙ sym b.0)) (or-true ((p.0 == q.0) && (p.1 == q.1)))
both_on p q i j (inr a) (inl b) = rw (eq-eqb p.1 q.0 (a.0 ∙ sym b.0), eq-eqb p.0 q.1 (a.1 ∙ sym b.1)) (or-true ((p.0 == q.0) && (p.1 == q.1)))

-- ---- what decisions change, in any order

pub changes_both : (ds es : List Decision) (i j : ℕ) → changes (ds ++ es) i j ≡ changes ds i j +ℤ changes es i j
changes_both [] es i j = omega (arith, ints)
changes_both (d ∷ ds) es i j = let rest = changes_both ds es i j in omega (arith, ints, rest)

pub changes_turned : (ds : List Decision) (i j : ℕ) → changes (reverse ds) i j ≡ changes ds i j
changes_turned [] i j = refl
changes_turned (d ∷ ds) i j =
    let split = ap (λ es. changes es i j) (reverse-append (d ∷ []) ds) in
    let both = changes_both (reverse ds) (d ∷ []) i j in
    let rest = changes_turned ds i j in
    omega (arith, ints, split, both, rest)

-- ---- decisions on different pairs

abbrev Apart : List Decision → Type 0
Apart [] = Unit {0}
Apart (d ∷ ds) = AllByRecursion (λ e. is_same_pair d.pair e.pair ≡ false) ds × Apart ds

apart : (ds : List Decision) → DecideOnce false ds → Apart ds
apart [] h = tt
apart (d ∷ ds) h = (
  recursion_from_All (λ e. is_same_pair d.pair e.pair ≡ false) ds (λ k e lt. h zero (suc k) e (omega arith) (omega arith)),
  apart ds (λ i j e below lt. h (suc i) (suc j) e (omega arith) (omega arith)),
)

none_else : (d : Decision) (ds : List Decision) (i j : ℕ) → is_same_pair d.pair (i, j) ≡ true → AllByRecursion (λ e. is_same_pair d.pair e.pair ≡ false) ds → changes ds i j ≡ pos 0
none_else d [] i j h k = refl
none_else d (e ∷ es) i j h k =
    let rest = none_else d es i j h k.1 in
    elim (cases_Bool (is_same_pair e.pair (i, j))) [
      | inl same ↦ absurd (both_ways (is_same_pair d.pair e.pair) k.0 (both_on d.pair e.pair i j (told d.pair i j h) (told e.pair i j same)))
      | inr other ↦ rw other (omega (arith, ints, rest))
    ]

signed_size : (taken : Bool) → IsFromTo (neg_ℤ decided_number) decided_number (signed taken)
signed_size true = (omega (arith, ints), omega (arith, ints))
signed_size false = (omega (arith, ints), omega (arith, ints))

changed_once : (ds : List Decision) (i j : ℕ) → Apart ds → IsFromTo (neg_ℤ decided_number) decided_number (changes ds i j)
changed_once [] i j h = (omega (arith, ints), omega (arith, ints))
changed_once (d ∷ ds) i j h = elim (cases_Bool (is_same_pair d.pair (i, j))) [
  | inl same ↦
      let none = none_else d ds i j same h.0 in
      let own = signed_size d.taken in
      rw same (omega (arith, ints, none, own.0), omega (arith, ints, none, own.1))
  | inr other ↦
      let rest = changed_once ds i j h.1 in
      rw other (omega (arith, ints, rest.0), omega (arith, ints, rest.1))
]

pub few_changes : (case : List Decision) → DecideOnce false case → AreFewChanges case
few_changes case once i j = changed_once case i j (apart case once)

-- ---- the decisions of the open case, listed at the nodes of their pairs, after one decision

-- ---- the stack of decisions

-- a stack without its last one
pub stack_less : (stack : List Decision) (last : Decision) (rest : List Decision) → stack_of stack ≡ last ∷ rest → stack_of (take (length stack - 1) stack) ≡ rest
stack_less stack last rest is =
    let k : ℕ = length stack - 1 in
    let long : length stack ≡ suc (length rest) = sym (length-reverse stack) ∙ ap length is in
    let lt : k < length stack = omega (arith, long) in
    let whole : take (k + 1) stack ≡ stack = take_all (k + 1) stack (omega (arith, long)) in
    let parts : stack_of stack ≡ get_or stack k last ∷ stack_of (take k stack) =
    ap stack_of (sym whole ∙ take_more stack k last lt) ∙ stack_more (take k stack) (get_or stack k last) in
    ap (λ (ds : List Decision). drop 1 ds) (sym parts ∙ is)

-- ---- the nodes in whose rows a decision changes weights

pub first_bears : (directed : Bool) (x : ℕ) (d : Decision) → d.pair.0 ≡ x → bears_on directed x d ≡ true
first_bears directed x d same = rw (eq-eqb d.pair.0 x same) refl

second_bears : (x : ℕ) (d : Decision) → d.pair.1 ≡ x → bears_on false x d ≡ true
second_bears x d same = rw (eq-eqb d.pair.1 x same) (or-true (d.pair.0 == x))

pub second_only : (x : ℕ) (d : Decision) → d.pair.0 ≢ x → bears_on true x d ≡ false
second_only x d first = rw (ne_eqb d.pair.0 x first) refl

neither_bears : (x : ℕ) (d : Decision) → d.pair.0 ≢ x → d.pair.1 ≢ x → bears_on false x d ≡ false
neither_bears x d first second = rw (ne_eqb d.pair.0 x first, ne_eqb d.pair.1 x second) refl

pub filter_in : (test : Decision → Bool) (d : Decision) (case : List Decision) → test d ≡ true → filter test (d ∷ case) ≡ d ∷ filter test case
filter_in test d case passes = rw passes refl

pub filter_out : (test : Decision → Bool) (d : Decision) (case : List Decision) → test d ≡ false → filter test (d ∷ case) ≡ filter test case
filter_out test d case fails = rw fails refl

-- a decision on a pair bears on the row of the pair's first node
same_bears : (directed : Bool) (pair : ℕ × ℕ) (d : Decision) → is_same directed pair d.pair ≡ true → bears_on directed pair.0 d ≡ true
same_bears true pair d h = first_bears true pair.0 d (sym (eqb-true pair.0 d.pair.0 (and_parts (pair.0 == d.pair.0) (pair.1 == d.pair.1) h).0))
same_bears false pair d h = elim (told pair d.pair.0 d.pair.1 h) [
  | inl straight ↦ first_bears false pair.0 d (sym straight.0)
  | inr turned ↦ second_bears pair.0 d (sym turned.1)
]

-- so the list at that node says whether the pair is decided
pub decided_at : (directed : Bool) (pair : ℕ × ℕ) (own case : List Decision) → stack_of own ≡ filter (bears_on directed pair.0) case
    → list_any (λ d. is_same directed pair d.pair) own ≡ is_decided directed case pair
decided_at directed pair own case is =
    let test : Decision → Bool = λ d. is_same directed pair d.pair in
    list_any-IsPermutation test own (stack_of own) (IsPermutation-reverse own)
    ∙ ap (list_any test) is ∙ any-filter_same test (bears_on directed pair.0) true (same_bears directed pair) case

-- ---- the lists with one decision more

abbrev pub AreListed : Bool → ℕ → List (Vec Decision) → List Decision → Type 0
AreListed directed n lists case = (x : ℕ) (default : Vec Decision) → x ≤ n → listed_at lists x default ≡ filter (bears_on directed x) case

pub more_directed : (n : ℕ) (old new : List (Vec Decision)) (case : List Decision) (d : Decision) → length old ≡ n + 1 → HaveOneMore d.pair.0 d old new
    → AreListed true n old case → AreListed true n new (d ∷ case)
more_directed n old new case d long more was x default most = elim (cases_eq d.pair.0 x) [
  | inl same ↦
      subst (λ (y : ℕ). listed_at new y default ≡ d ∷ listed_at old y default) same (more.here default default)
      ∙ ap (λ (ds : List Decision). d ∷ ds) (was x default most) ∙ sym (filter_in (bears_on true x) d case (first_bears true x d same))
  | inr other ↦
      more.others x default default (omega (arith, long, most)) (λ e. other (sym e))
      ∙ was x default most ∙ sym (filter_out (bears_on true x) d case (second_only x d other))
]

pub more_both : (n : ℕ) (old mid new : List (Vec Decision)) (case : List Decision) (d : Decision) → length old ≡ n + 1 → d.pair.0 ≢ d.pair.1
    → d.pair.0 < length old → d.pair.1 < length old
    → HaveOneMore d.pair.0 d old mid → HaveOneMore d.pair.1 d mid new → AreListed false n old case → AreListed false n new (d ∷ case)
more_both n old mid new case d long differ first_in second_in first second was x default most = elim (cases_eq d.pair.0 x) [
  | inl same ↦
      let apart : x ≢ d.pair.1 = λ e. differ (same ∙ e) in
      second.others x default default (omega (arith, long, most, first.places)) apart
      ∙ subst (λ (y : ℕ). listed_at mid y default ≡ d ∷ listed_at old y default) same (first.here default default)
      ∙ ap (λ (ds : List Decision). d ∷ ds) (was x default most) ∙ sym (filter_in (bears_on false x) d case (first_bears false x d same))
  | inr other ↦ elim (cases_eq d.pair.1 x) [
    | inl same ↦
        subst (λ (y : ℕ). listed_at new y default ≡ d ∷ listed_at mid y default) same (second.here default default)
        ∙ ap (λ (ds : List Decision). d ∷ ds) (first.others x default default (omega (arith, long, most)) (λ e. other (sym e)) ∙ was x default most)
        ∙ sym (filter_in (bears_on false x) d case (second_bears x d same))
    | inr neither ↦
        second.others x default default (omega (arith, long, most, first.places)) (λ e. neither (sym e))
        ∙ first.others x default default (omega (arith, long, most)) (λ e. other (sym e))
        ∙ was x default most ∙ sym (filter_out (bears_on false x) d case (neither_bears x d other neither))
  ]
]

-- ---- the lists with one decision less

pub less_directed : (n : ℕ) (old new : List (Vec Decision)) (case : List Decision) (d : Decision) → length old ≡ n + 1 → HaveOneLess d.pair.0 old new
    → AreListed true n old (d ∷ case) → AreListed true n new case
less_directed n old new case d long less was x default most = elim (cases_eq d.pair.0 x) [
  | inl same ↦
      subst (λ (y : ℕ). listed_at old y default ≡ d ∷ filter (bears_on true x) case → listed_at new y default ≡ filter (bears_on true x) case) same
      (less.here default default d (filter (bears_on true x) case))
      (was x default most ∙ filter_in (bears_on true x) d case (first_bears true x d same))
  | inr other ↦
      less.others x default default (omega (arith, long, most)) (λ e. other (sym e))
      ∙ was x default most ∙ filter_out (bears_on true x) d case (second_only x d other)
]

pub less_both : (n : ℕ) (old mid new : List (Vec Decision)) (case : List Decision) (d : Decision) → length old ≡ n + 1 → d.pair.0 ≢ d.pair.1
    → HaveOneLess d.pair.0 old mid → HaveOneLess d.pair.1 mid new → AreListed false n old (d ∷ case) → AreListed false n new case
less_both n old mid new case d long differ first second was x default most = elim (cases_eq d.pair.0 x) [
  | inl same ↦
      let apart : x ≢ d.pair.1 = λ e. differ (same ∙ e) in
      second.others x default default (omega (arith, long, most, first.places)) apart
      ∙ subst (λ (y : ℕ). listed_at old y default ≡ d ∷ filter (bears_on false x) case → listed_at mid y default ≡ filter (bears_on false x) case) same
      (first.here default default d (filter (bears_on false x) case))
      (was x default most ∙ filter_in (bears_on false x) d case (first_bears false x d same))
  | inr other ↦
      let between : listed_at mid x default ≡ filter (bears_on false x) (d ∷ case) =
      first.others x default default (omega (arith, long, most)) (λ e. other (sym e)) ∙ was x default most in
      elim (cases_eq d.pair.1 x) [
        | inl same ↦
            subst (λ (y : ℕ). listed_at mid y default ≡ d ∷ filter (bears_on false x) case → listed_at new y default ≡ filter (bears_on false x) case) same
            (second.here default default d (filter (bears_on false x) case))
            (between ∙ filter_in (bears_on false x) d case (second_bears x d same))
        | inr neither ↦
            second.others x default default (omega (arith, long, most, first.places)) (λ e. neither (sym e))
            ∙ between ∙ filter_out (bears_on false x) d case (neither_bears x d other neither)
      ]
]

-- ---- the lists by node, and the list of taken pairs

abbrev pub is_taken : Decision → Bool
is_taken decision = decision.taken

-- the lists by node have changed by a decision, and the list of taken pairs not yet
pub record ListsNow (n : ℕ) (case : List Decision) (old new : NodeDecisions) : Type 0 where
  pub directed : new.directed ≡ old.directed
  pub taken : new.taken ≡ old.taken
  pub places : length new.lists.items ≡ n + 1
  pub each : AreListed old.directed n new.lists.items case

pub now_more : (n : ℕ) (d : Decision) (case : List Decision) (old : NodeDecisions) (mid : List (Vec Decision)) (new : NodeDecisions) → AreByNode n old case → new.directed ≡ old.directed
    → new.taken ≡ old.taken → d.pair.0 ≢ d.pair.1
    → d.pair.0 < length old.lists.items → d.pair.1 < length old.lists.items → HaveOneMore d.pair.0 d old.lists.items mid
    → ((old.directed ≡ true) × (new.lists.items ≡ mid)) ⊎ ((old.directed ≡ false) × HaveOneMore d.pair.1 d mid new.lists.items)
    → ListsNow n (d ∷ case) old new
now_more n d case old mid new was directed taken differ first_in second_in first (inl one) = record {
  directed = directed;
  taken = taken;
  places = ap length one.1 ∙ first.places ∙ was.places;
  each = subst (λ (b : Bool). AreListed b n new.lists.items (d ∷ case)) (sym one.0)
      (subst (λ (ls : List (Vec Decision)). AreListed true n ls (d ∷ case)) (sym one.1)
      (more_directed n old.lists.items mid case d was.places first (subst (λ (b : Bool). AreListed b n old.lists.items case) one.0 was.each)));
}
now_more n d case old mid new was directed taken differ first_in second_in first (inr two) = record {
  directed = directed;
  taken = taken;
  places = two.1.places ∙ first.places ∙ was.places;
  each = subst (λ (b : Bool). AreListed b n new.lists.items (d ∷ case)) (sym two.0)
      (more_both n old.lists.items mid new.lists.items case d was.places differ first_in second_in first two.1 (subst (λ (b : Bool). AreListed b n old.lists.items case) two.0 was.each));
}

pub now_less : (n : ℕ) (d : Decision) (case : List Decision) (old : NodeDecisions) (mid : List (Vec Decision)) (new : NodeDecisions) → AreByNode n old (d ∷ case) → new.directed ≡ old.directed
    → new.taken ≡ old.taken → d.pair.0 ≢ d.pair.1
    → HaveOneLess d.pair.0 old.lists.items mid
    → ((old.directed ≡ true) × (new.lists.items ≡ mid)) ⊎ ((old.directed ≡ false) × HaveOneLess d.pair.1 mid new.lists.items)
    → ListsNow n case old new
now_less n d case old mid new was directed taken differ first (inl one) = record {
  directed = directed;
  taken = taken;
  places = ap length one.1 ∙ first.places ∙ was.places;
  each = subst (λ (b : Bool). AreListed b n new.lists.items case) (sym one.0)
      (subst (λ (ls : List (Vec Decision)). AreListed true n ls case) (sym one.1)
      (less_directed n old.lists.items mid case d was.places first (subst (λ (b : Bool). AreListed b n old.lists.items (d ∷ case)) one.0 was.each)));
}
now_less n d case old mid new was directed taken differ first (inr two) = record {
  directed = directed;
  taken = taken;
  places = two.1.places ∙ first.places ∙ was.places;
  each = subst (λ (b : Bool). AreListed b n new.lists.items case) (sym two.0)
      (less_both n old.lists.items mid new.lists.items case d was.places differ first two.1 (subst (λ (b : Bool). AreListed b n old.lists.items (d ∷ case)) two.0 was.each));
}

pub taken_more : (d : Decision) (case old new : List Decision) → d.taken ≡ true → stack_of old ≡ filter is_taken case → new ≡ old ++ d ∷ [] → stack_of new ≡ filter is_taken (d ∷ case)
taken_more d case old new taken was is =
    ap stack_of is ∙ stack_more old d ∙ ap (λ (ds : List Decision). d ∷ ds) was ∙ sym (filter_in is_taken d case taken)

pub taken_less : (d : Decision) (case old new : List Decision) → d.taken ≡ true → stack_of old ≡ filter is_taken (d ∷ case) → new ≡ take (length old - 1) old → stack_of new ≡ filter is_taken case
taken_less d case old new taken was is = ap stack_of is ∙ stack_less old d (filter is_taken case) (was ∙ filter_in is_taken d case taken)

pub by_node_now : (n : ℕ) (case : List Decision) (old mid new : NodeDecisions) → ListsNow n case old mid → new.directed ≡ mid.directed → new.lists ≡ mid.lists
    → stack_of new.taken.items ≡ filter is_taken case → AreByNode n new case
by_node_now n case old mid new now directed lists taken = record {
  places = ap (λ (v : Vec (Vec Decision)). length v.items) lists ∙ now.places;
  each = subst (λ (b : Bool). AreListed b n new.lists.items case) (sym (directed ∙ now.directed))
      (subst (λ (v : Vec (Vec Decision)). AreListed old.directed n v.items case) (sym lists) now.each);
  taken = taken;
}

-- ---- the open case with one decision more or less

pub case_more : (n : ℕ) (old new : OpenCase) (d : Decision) → IsOpenCase n old → IsDecision n d → new.stack.items ≡ old.stack.items ++ d ∷ [] → new.given.now ≡ old.given.now
    → AreByNode n new.by_node (d ∷ decisions_in old) → IsOpenCase n new
case_more n old new d is own stack_is given_is by_node =
    let more : decisions_in new ≡ d ∷ decisions_in old =
    ap₂ (λ (a b : List Decision). a ++ b) (ap stack_of stack_is ∙ stack_more old.stack.items d) given_is in
    record {
      pairs = subst (All (IsDecision n)) (sym more) (All-from_recursion (IsDecision n) (d ∷ decisions_in old) (own, recursion_from_All (IsDecision n) (decisions_in old) is.pairs));
      by_node = subst (λ (ds : List Decision). AreByNode n new.by_node ds) (sym more) by_node;
    }

pub one_above : (old new : OpenCase) (d : Decision) → old.stack.items ≡ new.stack.items ++ d ∷ [] → new.given.now ≡ old.given.now → decisions_in old ≡ d ∷ decisions_in new
one_above old new d stack_is given_is =
    ap₂ (λ (a b : List Decision). a ++ b) (ap stack_of stack_is ∙ stack_more new.stack.items d) (sym given_is)

pub case_less : (n : ℕ) (old new : OpenCase) (d : Decision) → IsOpenCase n old → decisions_in old ≡ d ∷ decisions_in new → AreByNode n new.by_node (decisions_in new) → IsOpenCase n new
case_less n old new d is above by_node = record {
  pairs = All-from_recursion (IsDecision n) (decisions_in new) (recursion_from_All (IsDecision n) (d ∷ decisions_in new) (subst (All (IsDecision n)) above is.pairs)).1;
  by_node = by_node;
}

pub first_pair : (n : ℕ) (old new : OpenCase) (d : Decision) → IsOpenCase n old → decisions_in old ≡ d ∷ decisions_in new → IsDecision n d
first_pair n old new d is above = (recursion_from_All (IsDecision n) (d ∷ decisions_in new) (subst (All (IsDecision n)) above is.pairs)).0

pub case_same : (n : ℕ) (old new : OpenCase) → IsOpenCase n old → old.stack.items ≡ new.stack.items → new.given.now ≡ old.given.now → AreByNode n new.by_node (decisions_in old) → IsOpenCase n new
case_same n old new is stack_is given_is by_node =
    let same : decisions_in old ≡ decisions_in new = ap₂ (λ (a b : List Decision). stack_of a ++ b) stack_is (sym given_is) in
    record {
      pairs = subst (All (IsDecision n)) same is.pairs;
      by_node = subst (λ (ds : List Decision). AreByNode n new.by_node ds) same by_node;
    }

-- ---- the weights that the decisions at a node change

pub changes_borne : (case : List Decision) (from x : ℕ) → changes (filter (bears_on false from) case) from x ≡ changes case from x
changes_borne [] from x = refl
changes_borne (d ∷ case) from x =
    let rest = changes_borne case from x in
    elim (cases_eq d.pair.0 from) [
      | inl same ↦ ap (λ (ds : List Decision). changes ds from x) (filter_in (bears_on false from) d case (first_bears false from d same)) ∙ omega (arith, ints, rest)
      | inr other ↦ elim (cases_eq d.pair.1 from) [
        | inl same ↦ ap (λ (ds : List Decision). changes ds from x) (filter_in (bears_on false from) d case (second_bears from d same)) ∙ omega (arith, ints, rest)
        | inr neither ↦
            let none : change_of d from x ≡ pos 0 = rw (ne_eqb d.pair.0 from other, ne_eqb d.pair.1 from neither) refl in
            ap (λ (ds : List Decision). changes ds from x) (filter_out (bears_on false from) d case (neither_bears from d other neither)) ∙ omega (arith, ints, rest, none)
      ]
    ]

-- the list of a node changes them as the case does, in either order
pub changes_listed : (case own : List Decision) (from x : ℕ) → stack_of own ≡ filter (bears_on false from) case → changes own from x ≡ changes case from x
changes_listed case own from x is = sym (changes_turned own from x) ∙ ap (λ (ds : List Decision). changes ds from x) is ∙ changes_borne case from x
