-- The exchange: among pairs that join all nodes, one that leaves a part can be replaced by any other that leaves it.
-- Step 2 of the cut argument in docs/proof.md rests on it. tsp_bound and tsp_cases import it, too.
use Rattle.tsp_theory.proofs.Prelude.{◌≡◌, ℕ, ◌+◌, Bool, true, false, not, ◌&&◌, ◌||◌, ◌==◌, cond, List, [], ◌∷◌, ◌++◌, length, length-append, get_or, ℤ, ◌≤ℤ◌, ◌⊎◌, inl, inr, refl, arith, ap, ap₂, sym, ◌∙◌, subst, cases_Bool, cases_eq, and_from, and_left, and_right, or_left, or_right, or_from, or_cases, or_parts, both_ways, false_from_ne_true, not-true, cond_both, eqb-true, eq-eqb, ne_eqb, get_or_append_left, get_or-append-add, All-nil, All-cons, All-head, All-tail, All-append, All-weaker, IsPermutation-refl, IsPermutation-sym, IsPermutation-trans, IsPermutation-cons, IsPermutation-append_right, IsPermutation-middle, IsPermutation-filter_both, All-permutation, All, list_any, filter}
use Rattle.std.proofs.lemmas.List.Folds.{list_any_none}
use Rattle.std.specs.List.Sorted.{IsPermutation}
use Rattle.tsp_theory.specs.Tree.{crosses, and_node, IsLeastLeaving}
use Rattle.tsp_theory.specs.Forest.{IsUncrossed, IsLeastJoin}

-- some pair crosses
abbrev pub IsCrossed : List (ℕ × ℕ) → (ℕ → Bool) → Type 0
IsCrossed xs part = list_any (crosses part) xs ≡ true

-- ---- the ends of a pair

pub crosses_turned : (part : ℕ → Bool) (a b : ℕ) → crosses part (a, b) ≡ crosses part (b, a)
crosses_turned part a b = turned (part a) (part b)
  where
    turned : (x y : Bool) → cond x (not y) y ≡ cond y (not x) x
    turned true true = refl
    turned true false = refl
    turned false true = refl
    turned false false = refl

pub crosses_both : (part : ℕ → Bool) (a b : ℕ) → part a ≡ true → part b ≡ true → crosses part (a, b) ≡ false
crosses_both part a b p q = rw (p, q) refl

pub crosses_neither : (part : ℕ → Bool) (a b : ℕ) → part a ≡ false → part b ≡ false → crosses part (a, b) ≡ false
crosses_neither part a b p q = rw (p, q) refl

-- both ends of a pair that doesn't cross are inside, or neither is
pub same_side : (part : ℕ → Bool) (pair : ℕ × ℕ) → crosses part pair ≡ false → part pair.0 ≡ part pair.1
same_side part pair = same (part pair.0) (part pair.1)
  where
    same : (x y : Bool) → cond x (not y) y ≡ false → x ≡ y
    same true true h = refl
    same true false h = h
    same false y h = sym h

pub crosses_not : (part : ℕ → Bool) (pair : ℕ × ℕ) → part pair.0 ≡ part pair.1 → crosses part pair ≡ false
crosses_not part pair = none (part pair.0) (part pair.1)
  where
    none : (x y : Bool) → x ≡ y → cond x (not y) y ≡ false
    none true y h = ap not (sym h)
    none false y h = sym h

other_side : (part : ℕ → Bool) (pair : ℕ × ℕ) → crosses part pair ≡ true → part pair.1 ≡ not (part pair.0)
other_side part pair = other (part pair.0) (part pair.1)
  where
    other : (x y : Bool) → cond x (not y) y ≡ true → y ≡ not x
    other true true h = sym h
    other true false h = refl
    other false y h = h

-- ---- a part and one node more

pub and_node_self : (part : ℕ → Bool) (v : ℕ) → and_node part v v ≡ true
and_node_self part v = or_left (v == v) (part v) (eq-eqb v v refl)

pub and_node_old : (part : ℕ → Bool) (v x : ℕ) → part x ≡ true → and_node part v x ≡ true
and_node_old part v x h = or_right (x == v) (part x) h

-- what holds of the node and of each of the part holds of both
pub and_node_all : (part : ℕ → Bool) (v : ℕ) (P : ℕ → Type 0) → P v → ((y : ℕ) → part y ≡ true → P y) → (x : ℕ)
    → and_node part v x ≡ true → P x
and_node_all part v P at_v at_part x h = elim (or_cases (x == v) (part x) h) [
  | inl e ↦ subst P (sym (eqb-true x v e)) at_v
  | inr t ↦ at_part x t
]

-- ---- parts that no pair leaves

pub uncrossed_left : (part : ℕ → Bool) (xs ys : List (ℕ × ℕ)) → IsUncrossed part (xs ++ ys) → IsUncrossed part xs
uncrossed_left part xs ys h k d low =
    subst (λ pair. crosses part pair ≡ false) (get_or_append_left xs ys d k low) (h k d (omega (arith, length-append xs ys, low)))

pub uncrossed_right : (part : ℕ → Bool) (xs ys : List (ℕ × ℕ)) → IsUncrossed part (xs ++ ys) → IsUncrossed part ys
uncrossed_right part xs ys h k d low =
    subst (λ pair. crosses part pair ≡ false) (get_or-append-add xs ys k d)
    (h (length xs + k) d (omega (arith, length-append xs ys, low)))

pub uncrossed_last : (part : ℕ → Bool) (pairs : List (ℕ × ℕ)) (pair : ℕ × ℕ) → IsUncrossed part (pairs ++ pair ∷ [])
    → crosses part pair ≡ false
uncrossed_last part pairs pair h = uncrossed_right part pairs (pair ∷ []) h 0 pair (omega arith)

pub uncrossed_from : (part : ℕ → Bool) (pairs : List (ℕ × ℕ)) → list_any (crosses part) pairs ≡ false → IsUncrossed part pairs
uncrossed_from part [] none = All-nil (λ pair. crosses part pair ≡ false)
uncrossed_from part (e ∷ es) none =
    let parts = or_parts (crosses part e) (list_any (crosses part) es) none in
    All-cons (λ pair. crosses part pair ≡ false) e es parts.0 (uncrossed_from part es parts.1)

-- what two such parts have in common, all that they have, and what one of them has alone
uncrossed_both : (of : Bool → Bool → Bool) (one two : ℕ → Bool) (pairs : List (ℕ × ℕ)) → IsUncrossed one pairs
    → IsUncrossed two pairs → IsUncrossed (λ v. of (one v) (two v)) pairs
uncrossed_both of one two pairs free also = λ k d low.
    let pair = get_or pairs k d in
    crosses_not (λ v. of (one v) (two v)) pair (ap₂ of (same_side one pair (free k d low)) (same_side two pair (also k d low)))

-- ---- two nodes are joined, or some part has one of them alone

pub record IsCut (pairs : List (ℕ × ℕ)) (a b : ℕ) : Type 0 where
  pub part : ℕ → Bool
  pub free : IsUncrossed part pairs
  pub inside : part a ≡ true
  pub outside : part b ≡ false

abbrev pub AreTied : List (ℕ × ℕ) → ℕ → ℕ → Type 0
AreTied pairs a b = (part : ℕ → Bool) → IsUncrossed part pairs → part a ≡ part b

cut_more : (pairs : List (ℕ × ℕ)) (e : ℕ × ℕ) (a b : ℕ) (part : ℕ → Bool) → IsUncrossed part pairs → crosses part e ≡ false
    → part a ≡ true → part b ≡ false → IsCut (e ∷ pairs) a b
cut_more pairs e a b part free here inside outside = record {
  part = part;
  free = All-cons (λ pair. crosses part pair ≡ false) e pairs here free;
  inside = inside;
  outside = outside;
}

-- a pair whose ends are x and y leaves the part
leaving_cut : (pairs : List (ℕ × ℕ)) (e : ℕ × ℕ) (a b x y : ℕ) → ((part : ℕ → Bool) → crosses part e ≡ crosses part (x, y))
    → (cut : IsCut pairs a b) → cut.part x ≡ true → cut.part y ≡ false
    → IsCut pairs a x ⊎ AreTied pairs a x → IsCut pairs y b ⊎ AreTied pairs y b → IsCut (e ∷ pairs) a b ⊎ AreTied (e ∷ pairs) a b
leaving_cut pairs e a b x y alike cut in_x out_y (inl first) other =
    let part : ℕ → Bool = λ v. cut.part v && first.part v in
    inl (cut_more pairs e a b part (uncrossed_both (λ p q. p && q) cut.part first.part pairs cut.free first.free)
    (alike part ∙ crosses_neither part x y (and_right (cut.part x) (first.part x) first.outside)
    (and_left (cut.part y) (first.part y) out_y))
    (and_from (cut.part a) (first.part a) cut.inside first.inside) (and_left (cut.part b) (first.part b) cut.outside))
leaving_cut pairs e a b x y alike cut in_x out_y (inr tied) (inl second) =
    let part : ℕ → Bool = λ v. cut.part v || second.part v in
    inl (cut_more pairs e a b part (uncrossed_both (λ p q. p || q) cut.part second.part pairs cut.free second.free)
    (alike part ∙ crosses_both part x y (or_left (cut.part x) (second.part x) in_x)
    (or_right (cut.part y) (second.part y) second.inside))
    (or_left (cut.part a) (second.part a) cut.inside) (or_from (cut.part b) (second.part b) cut.outside second.outside))
leaving_cut pairs e a b x y alike cut in_x out_y (inr tied) (inr also) = inr (λ part free.
    let earlier = All-tail (λ pair. crosses part pair ≡ false) e pairs free in
    tied part earlier ∙ (same_side part (x, y) (sym (alike part) ∙ All-head (λ pair. crosses part pair ≡ false) e pairs free)
    ∙ also part earlier))

cut_or_tied : (pairs : List (ℕ × ℕ)) (a b : ℕ) → IsCut pairs a b ⊎ AreTied pairs a b
cut_or_tied [] a b = elim (cases_eq b a) [
  | inl same ↦ inr (λ part free. ap part (sym same))
  | inr other ↦ inl (record {
    part = λ v. v == a;
    free = All-nil (λ pair. crosses (λ v. v == a) pair ≡ false);
    inside =
        eq-eqb a a refl;
    outside = ne_eqb b a other;
  })
]
cut_or_tied (e ∷ es) a b = elim (cut_or_tied es a b) [
  | inr tied ↦ inr (λ part free. tied part (All-tail (λ pair. crosses part pair ≡ false) e es free))
  | inl cut ↦ elim (cases_Bool (crosses cut.part e)) [
    | inr none ↦ inl (cut_more es e a b cut.part cut.free none cut.inside cut.outside)
    | inl leaves ↦ elim (cases_Bool (cut.part e.0)) [
      | inl here ↦ leaving_cut es e a b e.0 e.1 (λ part. refl) cut here (other_side cut.part e leaves ∙ ap not here)
          (cut_or_tied es a e.0) (cut_or_tied es e.1 b)
      | inr none ↦ leaving_cut es e a b e.1 e.0 (λ part. crosses_turned part e.0 e.1) cut
          (other_side cut.part e leaves ∙ ap not none) none (cut_or_tied es a e.1) (cut_or_tied es e.0 b)
    ]
  ]
]

-- ---- the pair that ties two nodes

abbrev differ : Bool → Bool → Bool
differ x y = cond x (not y) y

-- if a pair ties two nodes that a cut has apart, a part that has both or neither and that the earlier pairs don't
-- leave isn't left by the pair
-- plan: if the pair left the part, nothing would leave the part by which it differs from the cut (`uncrossed_both`)
tied_by : (a b : ℕ) (earlier : List (ℕ × ℕ)) (t : ℕ × ℕ) → IsCut earlier a b → AreTied (t ∷ earlier) a b → (part : ℕ → Bool)
    → IsUncrossed part earlier → part a ≡ part b
    → crosses part t ≡ false
tied_by a b earlier t cut tied part free same =
    false_from_ne_true (crosses part t) (λ leaves. elim (cases_Bool (crosses cut.part t)) [
      | inr none ↦ both_ways (cut.part a)
          (tied cut.part (All-cons (λ pair. crosses cut.part pair ≡ false) t earlier none cut.free) ∙ cut.outside) cut.inside
      | inl also ↦
          let part_of : ℕ → Bool = λ v. differ (cut.part v) (part v) in
          let level : part_of t.0 ≡ part_of t.1 =
          sym (ap₂ differ (other_side cut.part t also) (other_side part t leaves) ∙ both_turned (cut.part t.0) (part t.0)) in
          let ends : part_of a ≡ part_of b =
          tied part_of (All-cons (λ pair. crosses part_of pair ≡ false) t earlier (crosses_not part_of t level)
          (uncrossed_both differ cut.part part earlier cut.free free)) in
          not_itself (part a) (sym (ap (λ x. differ x (part a)) cut.inside) ∙ ends ∙ ap (λ x. differ x (part b)) cut.outside
          ∙ sym same)
    ])
  where
    both_turned : (x y : Bool) → differ (not x) (not y) ≡ differ x y
    both_turned true true = refl
    both_turned true false = refl
    both_turned false true = refl
    both_turned false false = refl

    not_itself : (x : Bool) → not x ≡ x → ⊥
    not_itself true h = both_ways true (sym h) refl
    not_itself false h = both_ways false refl (sym h)

-- one of the later pairs, which a pair between the two nodes replaces
pub record IsTie (a b : ℕ) (earlier later : List (ℕ × ℕ)) : Type 0 where
  pub pair : ℕ × ℕ
  pub rest : List (ℕ × ℕ)
  pub takes : IsPermutation later (pair ∷ rest)
  pub replaced : (part : ℕ → Bool) → IsUncrossed part earlier → IsUncrossed part rest → part a ≡ part b
      → crosses part pair ≡ false

tie : (a b : ℕ) (earlier later : List (ℕ × ℕ)) → IsCut earlier a b
    → ((part : ℕ → Bool) → IsUncrossed part earlier → IsUncrossed part later → part a ≡ part b) → IsTie a b earlier later
tie a b earlier [] cut joined =
    absurd (both_ways (cut.part a) (joined cut.part cut.free (All-nil (λ pair. crosses cut.part pair ≡ false)) ∙ cut.outside)
    cut.inside)
tie a b earlier (t ∷ ts) cut joined = elim (cut_or_tied (t ∷ earlier) a b) [
  | inr tied ↦ record {
    pair = t;
    rest = ts;
    takes = IsPermutation-refl (t ∷ ts);
    replaced = λ part free others same. tied_by a b earlier t cut tied part free same;
  }
  | inl still ↦
      let x = tie a b (t ∷ earlier) ts still (λ part free others.
      joined part (All-tail (λ pair. crosses part pair ≡ false) t earlier free)
      (All-cons (λ pair. crosses part pair ≡ false) t ts (All-head (λ pair. crosses part pair ≡ false) t earlier free) others)) in
      record {
        pair = x.pair;
        rest = t ∷ x.rest;
        takes = IsPermutation-trans _ _ _ (IsPermutation-cons t _ _ x.takes) (IsPermutation-middle (t ∷ []) x.pair x.rest);
        replaced = λ part free others same. x.replaced part
            (All-cons (λ pair. crosses part pair ≡ false) t earlier (All-head (λ pair. crosses part pair ≡ false) t x.rest others)
            free)
            (All-tail (λ pair. crosses part pair ≡ false) t x.rest others) same;
      }
]

-- ---- the exchange

-- with the earlier pairs these join all nodes: a part that none of them leaves has all nodes or none
abbrev pub JoinsBeside : (ℕ → Type 0) → List (ℕ × ℕ) → List (ℕ × ℕ) → Type 0
JoinsBeside Node earlier xs =
    (part : ℕ → Bool) → IsUncrossed part earlier → IsUncrossed part xs → (x y : ℕ) → Node x → Node y → part x ≡ part y

pub crossed_joins : (Node : ℕ → Type 0) (xs : List (ℕ × ℕ))
    → ((part : ℕ → Bool) (inside outside : ℕ) → Node inside → Node outside → part inside ≡ true → part outside ≡ false
    → IsCrossed xs part)
    → JoinsBeside Node [] xs
crossed_joins Node xs crossed part free also x y in_x in_y = elim (cases_Bool (part x)) [
  | inl t ↦ elim (cases_Bool (part y)) [
    | inl u ↦ t ∙ sym u
    | inr g ↦ absurd (both_ways (list_any (crosses part) xs) (list_any_none (crosses part) xs also)
        (crossed part x y in_x in_y t g))
  ]
  | inr f ↦ elim (cases_Bool (part y)) [
    | inl u ↦ absurd (both_ways (list_any (crosses part) xs) (list_any_none (crosses part) xs also)
        (crossed part y x in_y in_x u f))
    | inr g ↦ f ∙ sym g
  ]
]

-- a pair that leaves the part, and without which the others join all nodes beside another pair that leaves it
pub record IsExchange (Node : ℕ → Type 0) (part : ℕ → Bool) (earlier xs : List (ℕ × ℕ)) (e : ℕ × ℕ) : Type 0 where
  pub pair : ℕ × ℕ
  pub rest : List (ℕ × ℕ)
  pub takes : IsPermutation xs (pair ∷ rest)
  pub leaves : crosses part pair ≡ true
  pub joins : JoinsBeside Node (earlier ++ e ∷ []) rest

-- plan: the pairs that stay in the join's part or out of it are kept; of the others `tie` finds the one that the join
-- replaces
pub exchange : (Node : ℕ → Type 0) (w : ℕ → ℕ → ℤ) (earlier xs : List (ℕ × ℕ)) (e : ℕ × ℕ) (join : IsLeastJoin Node w earlier e)
    → JoinsBeside Node earlier xs
    → IsExchange Node join.part earlier xs e
exchange Node w earlier xs e join joins =
    let leaving : ℕ × ℕ → Bool = crosses join.part in
    let staying : ℕ × ℕ → Bool = λ pair. not (leaving pair) in
    let stay = filter staying xs in
    let leave = filter leaving xs in
    let parted : IsPermutation xs (stay ++ leave) = IsPermutation-filter_both staying leaving (λ pair. twice (leaving pair)) xs in
    let x = tie e.0 e.1 (earlier ++ stay) leave (record {
      part = join.part;
      free = All-append (λ pair. leaving pair ≡ false) earlier stay join.uncrossed
          (All-weaker (λ pair. staying pair ≡ true) (λ pair. leaving pair ≡ false) (λ pair. not-true (leaving pair)) stay
          (passing staying xs));
      inside = join.leaving.from;
      outside = join.leaving.to;
    }) (λ part free others. joins part (uncrossed_left part earlier stay free)
    (All-permutation (λ pair. crosses part pair ≡ false) (stay ++ leave) xs (IsPermutation-sym _ _ parted)
    (All-append (λ pair. crosses part pair ≡ false) stay leave (uncrossed_right part earlier stay free) others))
    e.0 e.1 join.from join.leaving.node) in
    let takes : IsPermutation xs (x.pair ∷ (stay ++ x.rest)) =
    IsPermutation-trans _ _ _ parted
    (IsPermutation-trans _ _ _ (IsPermutation-append_right stay _ _ x.takes) (IsPermutation-middle stay x.pair x.rest)) in
    record {
      pair = x.pair;
      rest = stay ++ x.rest;
      takes = takes;
      leaves = All-head (λ pair. leaving pair ≡ true) x.pair x.rest
          (All-permutation (λ pair. leaving pair ≡ true) leave (x.pair ∷ x.rest) x.takes (passing leaving xs));
      joins = λ part free others.
          let before = uncrossed_left part earlier (e ∷ []) free in
          let staying_free = uncrossed_left part stay x.rest others in
          let same = same_side part e (uncrossed_last part earlier e free) in
          let pair_free = x.replaced part (All-append (λ pair. crosses part pair ≡ false) earlier stay before staying_free)
          (uncrossed_right part stay x.rest others) same in
          joins part before (All-permutation (λ pair. crosses part pair ≡ false) (x.pair ∷ (stay ++ x.rest)) xs
          (IsPermutation-sym _ _ takes)
          (All-cons (λ pair. crosses part pair ≡ false) x.pair (stay ++ x.rest) pair_free others));
    }
  where
    twice : (b : Bool) → b ≡ not (not b)
    twice true = refl
    twice false = refl

    passing : (test : ℕ × ℕ → Bool) (pairs : List (ℕ × ℕ)) → All (λ pair. test pair ≡ true) (filter test pairs)
    passing test [] = All-nil (λ pair. test pair ≡ true)
    passing test (y ∷ ys) = cond_both (test y) (y ∷ filter test ys) (filter test ys) (All (λ pair. test pair ≡ true))
        (λ t. All-cons (λ pair. test pair ≡ true) y (filter test ys) t (passing test ys)) (λ f. passing test ys)

-- ---- the weight of a pair that leaves

-- both ends of the pair are nodes
abbrev pub IsPairOf : (ℕ → Type 0) → ℕ × ℕ → Type 0
IsPairOf Node e = Node e.0 × Node e.1

-- the least pair that leaves weighs no more than one that leaves, whichever way it is written
pub least_below : (Node : ℕ → Type 0) (w : ℕ → ℕ → ℤ) (grown : ℕ → Bool) (e f : ℕ × ℕ) → ((a b : ℕ) → w a b ≡ w b a)
    → IsLeastLeaving Node w grown e
    → IsPairOf Node f → crosses grown f ≡ true → w e.0 e.1 ≤ℤ w f.0 f.1
least_below Node w grown e f symmetric least of h = elim (cases_Bool (grown f.0)) [
  | inl p ↦ elim (cases_Bool (grown f.1)) [
    | inl q ↦ absurd (both_ways (crosses grown f) (crosses_both grown f.0 f.1 p q) h)
    | inr q ↦ least.least f.0 f.1 of.0 of.1 p q
  ]
  | inr p ↦ elim (cases_Bool (grown f.1)) [
    | inl q ↦ subst (λ z. w e.0 e.1 ≤ℤ z) (symmetric f.1 f.0) (least.least f.1 f.0 of.1 of.0 q p)
    | inr q ↦ absurd (both_ways (crosses grown f) (crosses_neither grown f.0 f.1 p q) h)
  ]
]
