-- For src/good_families.rt: teeth, handles and repeated nodes found by marks, and the first bad family. tsp_routing
-- imports it, too.
use Rattle.tsp_cases.proofs.Prelude.{◌≡◌, ◌≢◌, ◌∙◌, ℕ, ◌+◌, ◌<◌, ◌==◌, ◌||◌, true, false, List, [], ◌∷◌, ◌++◌, take, length, get_or, inl, inr, ap, sym, subst, arith, zero, suc, ◌*◌, ◌≤◌, Bool, map, drop, refl, drop-cons, add-one, ◌-◌, length-append, set, cases_eq, both_ways, eqb-true, eq-eqb, ne_eqb, or_cases, or_parts, cases_Bool, or_from, cases_lt, ints, get_or-set_same, get_or-set_other, get_or-take, length-take-le, take_more, get_or_default, length-map, get_or-map, get_or_append_left, get_or_push, All-more, All-nil, All-cons, All-head, All-tail, All-from_recursion, recursion_from_All, All-weaker, All-contains, Any-from_list_any, list_any_at, list_any_more, AllPairs-cons, Vec, All, Any, AllPairs, AllByRecursion, ◌↔◌, pos, Some, IsNode}
use Rattle.std.proofs.Math.Bool.{or-true, or-false, or_assoc}
use Rattle.std.proofs.Math.Path.{fun_ext}
use Rattle.std.proofs.lemmas.List.Quantifiers.{all_pairs_push}
use Rattle.tsp_cases.specs.Crossings.{has, lists_of, IsLeastLength, IsMostCost, sets_of, sets_crossed, AreTooMany, MostCostsAreUnique, families_in}
use Rattle.tsp_cases.specs.Families.{HasEachOnce, IsTooth, AreApart, IsComb, comb_of, IsLoneSet, IsLoneOrComb, IsGoodComb, IsToothCount, least_crossings_of, comb_with, IsGoodFamily, IsFamily, family_with, families_with, IsFirstBadFamily, AreFamilies}
use Rattle.tsp_cases.specs.declared.family.Crossings.{Crossings}
use Rattle.tsp_cases.specs.states.GoodFamilies.{is_marked, AreNew, AddsNoOther, AreTeeth, AreFamilyNumbers, AreUnmarked}

one_marked : (marks : List ℕ) (mark place x : ℕ) → place < length marks → is_marked (set marks place mark) mark x ≡ (is_marked marks mark x || (place == x))
one_marked marks mark place x lt = elim (cases_eq x place) [
  | inl same ↦
      let here : get_or (set marks place mark) x 0 ≡ mark = ap (λ k. get_or (set marks place mark) k 0) same ∙ get_or-set_same marks place mark 0 lt in
      eq-eqb (get_or (set marks place mark) x 0) mark here ∙ sym (ap (λ b. is_marked marks mark x || b) (eq-eqb place x (sym same)) ∙ or-true (is_marked marks mark x))
  | inr other ↦
      ap (λ m. m == mark) (get_or-set_other marks place x mark 0 other)
      ∙ sym (ap (λ b. is_marked marks mark x || b) (ne_eqb place x (λ e. other (sym e))) ∙ or-false (is_marked marks mark x))
]

pub others_kept : (marks old : List ℕ) (mark place : ℕ) → place < length marks → AddsNoOther mark old marks → AddsNoOther mark old (set marks place mark)
others_kept marks old mark place lt h other differ none x = elim (cases_eq x place) [
  | inl same ↦
      let here : get_or (set marks place mark) x 0 ≡ mark = ap (λ k. get_or (set marks place mark) k 0) same ∙ get_or-set_same marks place mark 0 lt in
      ne_eqb (get_or (set marks place mark) x 0) other (λ e. differ (sym e ∙ here))
  | inr apart ↦ ap (λ m. m == other) (get_or-set_other marks place x mark 0 apart) ∙ h other differ none x
]

module _ (old marks nodes : List ℕ) (mark index node : ℕ) (own : (x : ℕ) → is_marked marks mark x ≡ (is_marked old mark x || has (take index nodes) x))
    (lt : index < length nodes) (is : node ≡ get_or nodes index node) where
  pub marked_more : node < length marks → (x : ℕ) → is_marked (set marks node mark) mark x ≡ (is_marked old mark x || has (take (index + 1) nodes) x)
  marked_more within x = one_marked marks mark node x within
      ∙ ap (λ b. b || (node == x)) (own x)
      ∙ or_assoc (is_marked old mark x) (has (take index nodes) x) (node == x)
      ∙ ap (λ b. is_marked old mark x || b)
      (ap (λ m. has (take index nodes) x || (m == x)) is ∙ sym (list_any_more (λ other. other == x) nodes index node lt))

  pub new_more : AreNew (is_marked old mark) (take index nodes) → is_marked marks mark node ≡ false → AreNew (is_marked old mark) (take (index + 1) nodes)
  new_more new unmarked =
      let parts = or_parts (is_marked old mark node) (has (take index nodes) node) (sym (own node) ∙ unmarked) in
      let push : HasEachOnce (take index nodes ++ node ∷ []) = all_pairs_push (λ a b. a ≢ b) (take index nodes) node new.once
      (λ k d below e. both_ways (has (take index nodes) node) parts.1 (list_any_at (λ other. other == node) (take index nodes) k d below (eq-eqb (get_or (take index nodes) k d) node e))) in
      record {
        unused = All-more (λ x. is_marked old mark x ≡ false) nodes index node lt new.unused (subst (λ x. is_marked old mark x ≡ false) is parts.0);
        once = subst HasEachOnce (ap (λ x. take index nodes ++ x ∷ []) is ∙ sym (take_more nodes index node lt)) push;
      }

  pub marked_twice : is_marked marks mark node ≡ true → AreNew (is_marked old mark) nodes → ⊥
  marked_twice marked new = elim (or_cases (is_marked old mark node) (has (take index nodes) node) (sym (own node) ∙ marked)) [
    | inl before ↦ both_ways (is_marked old mark node) (subst (λ x. is_marked old mark x ≡ false) (sym is) (new.unused index node lt)) before
    | inr here ↦
        let found = Any-from_list_any (λ other. other == node) (take index nodes) here in
        let below : found.0 < index = omega (arith, found.2, length-take-le index nodes (omega (arith, lt))) in
        let same : get_or nodes found.0 node ≡ get_or nodes index node =
        sym (get_or-take index nodes found.0 node below) ∙ sym (get_or_known found.0 found.1 found.2 found.3) ∙ eqb-true found.1 node found.4 ∙ is in
        new.once found.0 index node below lt same
  ]
    where
      get_or_known : (k x : ℕ) → k < length (take index nodes) → get_or (take index nodes) k x ≡ x → x ≡ get_or (take index nodes) k node
      get_or_known k x inside e = sym e ∙ get_or_default (take index nodes) k x node inside

-- ---- whether sets are teeth of a handle, which don't meet, tooth by tooth by marks of nodes

-- ---- one tooth

-- a node is in a list, or isn't
pub has_found : (nodes : List ℕ) (k node : ℕ) → k < length nodes → get_or nodes k node ≡ node → has nodes node ≡ true
has_found nodes k node lt is = list_any_at (λ other. other == node) nodes k node lt (eq-eqb (get_or nodes k node) node is)

pub all_had : (P : ℕ → Type 0) (nodes : List ℕ) (node : ℕ) → All P nodes → has nodes node ≡ true → P node
all_had P nodes node all h =
    let found = Any-from_list_any (λ other. other == node) nodes h in
    subst P (eqb-true found.1 node found.4) (All-contains P nodes found.1 all (found.0, found.2, found.3))

pub all_by_had : (P : ℕ → Type 0) (nodes : List ℕ) → ((node : ℕ) → has nodes node ≡ true → P node) → All P nodes
all_by_had P nodes h = λ k d lt. h (get_or nodes k d) (list_any_at (λ other. other == get_or nodes k d) nodes k d lt (eq-eqb (get_or nodes k d) (get_or nodes k d) refl))

pub tooth_found : (n : ℕ) (handle : ℕ → Bool) (nodes : List ℕ) → All (IsNode n) nodes → Any (λ node. handle node ≡ true) nodes → Any (λ node. handle node ≡ false) nodes
    → IsTooth n handle (has nodes)
tooth_found n handle nodes are a b = record {
  inside = a.1;
  outside = b.1;
  inside_node = All-contains (IsNode n) nodes a.1 are (a.0, a.2, a.3);
  outside_node = All-contains (IsNode n) nodes b.1 are (b.0, b.2, b.3);
  inside_tooth = has_found nodes a.0 a.1 a.2 a.3;
  outside_tooth = has_found nodes b.0 b.1 b.2 b.3;
  in_handle = a.4;
  off_handle = b.4;
}

any_had : (P : ℕ → Type 0) (nodes : List ℕ) (node : ℕ) → has nodes node ≡ true → P node → Any P nodes
any_had P nodes node h p =
    let found = Any-from_list_any (λ other. other == node) nodes h in
    (found.0, found.1, found.2, found.3, subst P (sym (eqb-true found.1 node found.4)) p)

pub tooth_inside : (n : ℕ) (handle : ℕ → Bool) (nodes : List ℕ) → IsTooth n handle (has nodes) → Any (λ node. handle node ≡ true) nodes
tooth_inside n handle nodes is = any_had (λ node. handle node ≡ true) nodes is.inside is.inside_tooth is.in_handle

pub tooth_outside : (n : ℕ) (handle : ℕ → Bool) (nodes : List ℕ) → IsTooth n handle (has nodes) → Any (λ node. handle node ≡ false) nodes
tooth_outside n handle nodes is = any_had (λ node. handle node ≡ false) nodes is.outside is.outside_tooth is.off_handle

-- ---- tooth by tooth

pub sets_left : (sets : List (Vec ℕ)) (index : ℕ) (set : Vec ℕ) → index < length sets → set ≡ get_or sets index set
    → lists_of (drop index sets) ≡ set.items ∷ lists_of (drop (index + 1) sets)
sets_left sets index set lt is = ap lists_of (drop-cons sets index set lt ∙ ap (λ (k : ℕ). get_or sets index set ∷ drop k sets) (sym (add-one index)))
    ∙ ap (λ (s : Vec ℕ). s.items ∷ lists_of (drop (index + 1) sets)) (sym is)

pub next_teeth : (n : ℕ) (handle used new : ℕ → Bool) (tooth : List ℕ) (teeth : List (List ℕ)) → AreNew used tooth → IsTooth n handle (has tooth)
    → ((x : ℕ) → new x ≡ (used x || has tooth x)) → AreTeeth n handle new teeth ↔ AreTeeth n handle used (tooth ∷ teeth)
next_teeth n handle used new tooth teeth fresh is more =
    let same : new ≡ (λ x. used x || has tooth x) = fun_ext more in (
      λ rest. (fresh, is, subst (λ (f : ℕ → Bool). AreTeeth n handle f teeth) same rest),
      λ all. subst (λ (f : ℕ → Bool). AreTeeth n handle f teeth) (sym same) all.2,
    )

-- the next tooth
module _ (n : ℕ) (handle used start : ℕ → Bool) (teeth : List (Vec ℕ)) (index : ℕ) (tooth : Vec ℕ) (nodes : List ℕ)
    (lt : index < length teeth) (is : tooth ≡ get_or teeth index tooth) (read : nodes ≡ tooth.items) where
  left : lists_of (drop index teeth) ≡ nodes ∷ lists_of (drop (index + 1) teeth)
  left = sets_left teeth index tooth lt is ∙ ap (λ (ns : List ℕ). ns ∷ lists_of (drop (index + 1) teeth)) (sym read)

  pub nodes_here : All (λ set. All (IsNode n) set.items) teeth → All (IsNode n) nodes
  nodes_here are = subst (All (IsNode n)) (sym read) (subst (λ (set : Vec ℕ). All (IsNode n) set.items) (sym is) (are index tooth lt))

  pub teeth_on : (new : ℕ → Bool) → AreTeeth n handle used (lists_of (drop index teeth)) ↔ AreTeeth n handle start (lists_of teeth) → AreNew used nodes → IsTooth n handle (has nodes)
      → ((x : ℕ) → new x ≡ (used x || has nodes x)) → AreTeeth n handle new (lists_of (drop (index + 1) teeth)) ↔ AreTeeth n handle start (lists_of teeth)
  teeth_on new so_far fresh tooth_is more =
      let step = next_teeth n handle used new nodes (lists_of (drop (index + 1) teeth)) fresh tooth_is more in (
        λ rest. so_far.0 (subst (AreTeeth n handle used) (sym left) (step.0 rest)),
        λ all. step.1 (subst (AreTeeth n handle used) left (so_far.1 all)),
      )

  pub tooth_here : AreTeeth n handle used (lists_of (drop index teeth)) ↔ AreTeeth n handle start (lists_of teeth) → AreTeeth n handle start (lists_of teeth)
      → AreNew used nodes × IsTooth n handle (has nodes)
  tooth_here so_far all = let here : AreTeeth n handle used (nodes ∷ lists_of (drop (index + 1) teeth)) = subst (AreTeeth n handle used) left (so_far.1 all) in (here.0, here.1)

-- ---- the teeth of a comb

-- the teeth of a comb, all at once
record AreApartTeeth (n : ℕ) (handle used : ℕ → Bool) (teeth : List (List ℕ)) : Type 0 where
  reach : All (IsTooth n handle) (map has teeth)
  apart : AllPairs AreApart (map has teeth)
  once : All HasEachOnce teeth
  unused : AllByRecursion (λ tooth. All (λ node. used node ≡ false) tooth) teeth

none_twice : (used : ℕ → Bool) (tooth : List ℕ) (teeth : List (List ℕ)) → AllByRecursion (λ other. All (λ node. (used node || has tooth node) ≡ false) other) teeth
    → AllByRecursion (AreApart (has tooth)) (map has teeth) × AllByRecursion (λ other. All (λ node. used node ≡ false) other) teeth
none_twice used tooth [] h = (tt, tt)
none_twice used tooth (other ∷ teeth) h =
    let rest = none_twice used tooth teeth h.1 in (
      (
        λ node here. elim (cases_Bool (has other node)) [
          | inl there ↦ absurd (both_ways (has tooth node) (or_parts (used node) (has tooth node) (all_had (λ x. (used x || has tooth x) ≡ false) other node h.0 there)).1 here)
          | inr without ↦ without
        ],
        rest.0,
      ),
      (All-weaker (λ x. (used x || has tooth x) ≡ false) (λ x. used x ≡ false) (λ x both. (or_parts (used x) (has tooth x) both).0) other h.0, rest.1),
    )

all_unused : (used : ℕ → Bool) (tooth : List ℕ) (teeth : List (List ℕ)) → AllByRecursion (AreApart (has tooth)) (map has teeth) → AllByRecursion (λ other. All (λ node. used node ≡ false) other) teeth
    → AllByRecursion (λ other. All (λ node. (used node || has tooth node) ≡ false) other) teeth
all_unused used tooth [] h k = tt
all_unused used tooth (other ∷ teeth) h k = (
  all_by_had (λ x. (used x || has tooth x) ≡ false) other (λ node there. or_from (used node) (has tooth node) (all_had (λ x. used x ≡ false) other node k.0 there)
      (elim (cases_Bool (has tooth node)) [
        | inl here ↦ absurd (both_ways (has other node) (h.0 node here) there)
        | inr without ↦ without
      ])),
  all_unused used tooth teeth h.1 k.1,
)

pairs_rest : (tooth : ℕ → Bool) (teeth : List (ℕ → Bool)) → AllPairs AreApart (tooth ∷ teeth) → All (AreApart tooth) teeth × AllPairs AreApart teeth
pairs_rest tooth teeth h = (λ k d lt. h zero (suc k) d (omega arith) (omega (arith, lt)), λ i j d below lt. h (suc i) (suc j) d (omega (arith, below)) (omega (arith, lt)))

apart_teeth : (n : ℕ) (handle used : ℕ → Bool) (teeth : List (List ℕ)) → AreTeeth n handle used teeth → AreApartTeeth n handle used teeth
apart_teeth n handle used [] h = record {
  reach = All-nil (IsTooth n handle);
  apart = λ i j d below lt. absurd (omega (arith, lt));
  once = All-nil HasEachOnce;
  unused = tt;
}
apart_teeth n handle used (tooth ∷ teeth) h =
    let rest = apart_teeth n handle (λ x. used x || has tooth x) teeth h.2 in
    let none = none_twice used tooth teeth rest.unused in
    record {
      reach = All-cons (IsTooth n handle) (has tooth) (map has teeth) h.1 rest.reach;
      apart = AllPairs-cons AreApart (has tooth) (map has teeth) (All-from_recursion (AreApart (has tooth)) (map has teeth) none.0) rest.apart;
      once = All-cons HasEachOnce tooth teeth h.0.once rest.once;
      unused = (h.0.unused, none.1);
    }

teeth_apart : (n : ℕ) (handle used : ℕ → Bool) (teeth : List (List ℕ)) → AreApartTeeth n handle used teeth → AreTeeth n handle used teeth
teeth_apart n handle used [] h = tt
teeth_apart n handle used (tooth ∷ teeth) h =
    let pairs = pairs_rest (has tooth) (map has teeth) h.apart in (
      record { unused = h.unused.0; once = All-head HasEachOnce tooth teeth h.once },
      All-head (IsTooth n handle) (has tooth) (map has teeth) h.reach,
      teeth_apart n handle (λ x. used x || has tooth x) teeth (record {
        reach = All-tail (IsTooth n handle) (has tooth) (map has teeth) h.reach;
        apart = pairs.1;
        once = All-tail HasEachOnce tooth teeth h.once;
        unused = all_unused used tooth teeth (recursion_from_All (AreApart (has tooth)) (map has teeth) pairs.0) h.unused.1;
      }),
    )

none_used : (used : ℕ → Bool) (teeth : List (List ℕ)) → ((x : ℕ) → used x ≡ false) → AllByRecursion (λ tooth. All (λ node. used node ≡ false) tooth) teeth
none_used used [] h = tt
none_used used (tooth ∷ teeth) h = (λ k d lt. h (get_or tooth k d), none_used used teeth h)

-- ---- the comb

pub good_comb : (n half : ℕ) (used marked : ℕ → Bool) (handle : List ℕ) (teeth : List (List ℕ)) → length teeth ≡ 2 * half + 1 → 1 ≤ half → HasEachOnce handle
    → ((x : ℕ) → marked x ≡ has handle x) → AreTeeth n marked used teeth → IsGoodComb n (handle ∷ teeth)
good_comb n half used marked handle teeth odd some once same h =
    let is = subst (λ (f : ℕ → Bool). AreApartTeeth n f used teeth) (fun_ext same) (apart_teeth n marked used teeth h) in
    record {
      kind = inr (record { half = half; some = some; odd = length-map teeth has ∙ odd; reach = is.reach; apart = is.apart });
      once = All-cons HasEachOnce handle teeth once is.once;
    }

-- a family with teeth is a comb, and one without a lone set
pub comb_of_family : (n : ℕ) (handle : List ℕ) (teeth : List (List ℕ)) → 1 ≤ length teeth → IsLoneOrComb n (comb_of handle teeth) → IsComb n (comb_of handle teeth)
comb_of_family n handle [] some h = absurd (omega (arith, some))
comb_of_family n handle (tooth ∷ teeth) some (inl lone) = absurd (let none = lone.alone in cc)
comb_of_family n handle (tooth ∷ teeth) some (inr comb) = comb

pub lone_of_family : (n : ℕ) (handle : List ℕ) → IsLoneOrComb n (comb_of handle []) → IsLoneSet n (comb_of handle [])
lone_of_family n handle (inl lone) = lone
lone_of_family n handle (inr comb) = absurd (let odd = comb.odd in omega (arith, odd))

pub comb_teeth : (n : ℕ) (used marked : ℕ → Bool) (handle : List ℕ) (teeth : List (List ℕ)) → 1 ≤ length teeth → ((x : ℕ) → used x ≡ false) → ((x : ℕ) → marked x ≡ has handle x)
    → IsGoodComb n (handle ∷ teeth) → AreTeeth n marked used teeth
comb_teeth n used marked handle teeth some none same h = teeth_apart n marked used teeth (subst (λ (f : ℕ → Bool). AreApartTeeth n f used teeth) (sym (fun_ext same)) (record {
  reach = (comb_of_family n handle teeth some h.kind).reach;
  apart = (comb_of_family n handle teeth some h.kind).apart;
  once = All-tail HasEachOnce handle teeth h.once;
  unused = none_used used teeth none;
}))

-- by the sets of the family
module _ (n : ℕ) (sets : List (Vec ℕ)) (handle : Vec ℕ) (teeth : List (Vec ℕ)) (nodes : List ℕ) (same : sets ≡ handle ∷ teeth) (read : nodes ≡ handle.items) where
  told : lists_of sets ≡ nodes ∷ lists_of teeth
  told = ap lists_of same ∙ ap (λ (ns : List ℕ). ns ∷ lists_of teeth) (sym read)

  both : (P : ℕ → Type 0) → All (λ set. All P set.items) sets → All (λ set. All P set.items) (handle ∷ teeth)
  both P h = subst (All (λ (set : Vec ℕ). All P set.items)) same h

  pub rest_all : (P : ℕ → Type 0) → All (λ set. All P set.items) sets → All (λ set. All P set.items) teeth
  rest_all P h = All-tail (λ (set : Vec ℕ). All P set.items) handle teeth (both P h)

  pub first_all : (P : ℕ → Type 0) → All (λ set. All P set.items) sets → All P nodes
  first_all P h = subst (All P) (sym read) (All-head (λ (set : Vec ℕ). All P set.items) handle teeth (both P h))

  long_teeth : 1 ≤ length teeth → 1 ≤ length (lists_of teeth)
  long_teeth some = omega (arith, some, length-map teeth (λ set. set.items))

  pub counted : 1 ≤ length teeth → IsGoodComb n (lists_of sets) → IsToothCount (length teeth)
  counted some h =
      let comb = comb_of_family n nodes (lists_of teeth) (long_teeth some) (subst (IsGoodComb n) told h).kind in
      (comb.half, comb.some, sym (length-map (lists_of teeth) has ∙ length-map teeth (λ set. set.items)) ∙ comb.odd)

  pub handle_new : (old : ℕ → Bool) → ((x : ℕ) → old x ≡ false) → IsGoodComb n (lists_of sets) → AreNew old nodes
  handle_new old none h = record {
    unused = λ k d lt. none (get_or nodes k d);
    once = All-head HasEachOnce nodes (lists_of teeth) (subst (IsGoodComb n) told h).once;
  }

  module _ (old marked used : ℕ → Bool) (none : (x : ℕ) → old x ≡ false) (marks : (x : ℕ) → marked x ≡ (old x || has nodes x)) where
    own : (x : ℕ) → marked x ≡ has nodes x
    own x = marks x ∙ ap (λ b. b || has nodes x) (none x)

    pub comb_found : IsToothCount (length teeth) → AreNew old nodes → AreTeeth n marked used (lists_of teeth) → IsGoodComb n (lists_of sets)
    comb_found count new h =
        let long : length (lists_of teeth) ≡ length teeth = length-map teeth (λ set. set.items) in
        subst (IsGoodComb n) (sym told) (good_comb n count.0 used marked nodes (lists_of teeth) (long ∙ count.2) count.1 new.once own h)

    pub teeth_found : 1 ≤ length teeth → ((x : ℕ) → used x ≡ false) → IsGoodComb n (lists_of sets) → AreTeeth n marked used (lists_of teeth)
    teeth_found some unused h = comb_teeth n used marked nodes (lists_of teeth) (long_teeth some) unused own (subst (IsGoodComb n) told h)

    -- the marks are those of the set's nodes
    pub own_marks : (x : ℕ) → marked x ≡ has nodes x
    own_marks = own

    -- without teeth
    module _ (none_left : teeth ≡ []) where
      alone : lists_of sets ≡ nodes ∷ []
      alone = told ∙ ap (λ (ts : List (Vec ℕ)). nodes ∷ lists_of ts) none_left

      pub lone_found : AreNew old nodes → IsLoneSet n (comb_of nodes []) → IsGoodComb n (lists_of sets)
      lone_found new lone = subst (IsGoodComb n) (sym alone) (record { kind = inl lone; once = All-cons HasEachOnce nodes [] new.once (All-nil HasEachOnce) })

      pub lone_in : IsGoodComb n (lists_of sets) → IsLoneSet n (comb_of nodes [])
      lone_in h = lone_of_family n nodes (subst (IsGoodComb n) alone h).kind

pub no_sets : (sets : List (Vec ℕ)) → length sets ≡ 0 → sets ≡ []
no_sets [] none = refl
no_sets (set ∷ sets) none = absurd (omega (arith, none))

-- ---- a lone set, by marks of its nodes

-- a node that hasn't the mark
abbrev pub LeftOut : ℕ → (ℕ → Bool) → Type 0
LeftOut places marked = (node : ℕ) × (1 ≤ node) × (node < places) × (marked node ≡ false)

pub lone_by_marks : (n places : ℕ) (marked : ℕ → Bool) (nodes : List ℕ) → places ≡ n + 1 → All (IsNode n) nodes → ((x : ℕ) → marked x ≡ has nodes x) → 0 < length nodes → LeftOut places marked
    → IsLoneSet n (comb_of nodes [])
lone_by_marks n places marked nodes long are same some left = record {
  alone = refl;
  inside = get_or nodes 0 0;
  outside = left.0;
  inside_node = are 0 0 some;
  outside_node = (left.1, let low = left.2 in omega (arith, low, long));
  has_inside = has_found nodes 0 (get_or nodes 0 0) some (get_or_default nodes 0 (get_or nodes 0 0) 0 some);
  lacks_outside = sym (same left.0) ∙ left.3;
}

pub lone_left_out : (n places : ℕ) (marked : ℕ → Bool) (nodes : List ℕ) → places ≡ n + 1 → ((x : ℕ) → marked x ≡ has nodes x) → IsLoneSet n (comb_of nodes []) → LeftOut places marked
lone_left_out n places marked nodes long same lone =
    (lone.outside, lone.outside_node.0, (let high = lone.outside_node.1 in omega (arith, high, long)), same lone.outside ∙ lone.lacks_outside)

-- ---- which kind of family sets are: a lone set or a comb, another family, or none

-- ---- a lone set or a comb

teeth_of : (sets : List (List ℕ)) → length (comb_with sets).teeth ≡ length sets - 1
teeth_of [] = refl
teeth_of (handle ∷ teeth) = length-map teeth has ∙ (let e : length teeth ≡ suc (length teeth) - 1 = omega arith in e)

pub known_found : (n count : ℕ) (sets : List (List ℕ)) (own : Crossings) → length sets ≡ count → own.least ≡ least_crossings_of (count - 1) → own.most ≡ 3 → IsGoodComb n sets
    → AreFamilyNumbers n sets (Some own)
known_found n count sets own long least most good = (
  inl (record {
    kind = good.kind;
    least_is = least ∙ ap least_crossings_of (sym (teeth_of sets ∙ ap (λ (k : ℕ). k - 1) long));
    most_is = most;
  }),
  good.once,
)

-- ---- other families

-- no sets are no family
no_set_of_family : (n : ℕ) → IsGoodFamily n [] → ⊥
no_set_of_family n good = elim good.family [
  | inl known ↦ elim known.kind [
    | inl lone ↦ both_ways false refl lone.has_inside
    | inr comb ↦ let odd = comb.odd in omega (arith, odd)
  ]
  | inr other ↦
      let none : pos good.numbers.most ≡ pos 0 = other.most_is.most_is in
      let some = other.parted in
      omega (arith, ints, none, some)
]

pub other_found : (n : ℕ) (sets : List (List ℕ)) (own : Crossings) → (IsGoodComb n sets → ⊥) → All HasEachOnce sets → (AreTooMany n (sets_of sets) → ⊥) → 1 ≤ own.most
    → IsLeastLength n (sets_crossed (sets_of sets)) (pos own.least) → IsMostCost n (sets_crossed (sets_of sets)) (pos own.most) → AreFamilyNumbers n sets (Some own)
other_found n [] own unknown once few some least most = absurd (let none : pos own.most ≡ pos 0 = most.most_is in omega (arith, ints, none, some))
other_found n (handle ∷ teeth) own unknown once few some least most = (
  inr (record { unknown = λ kind. unknown (record { kind = kind; once = once }); few = few; parted = some; least_is = least; most_is = most }),
  once,
)

pub too_many : (n : ℕ) (sets : List (List ℕ)) → (IsGoodComb n sets → ⊥) → AreTooMany n (sets_of sets) → IsGoodFamily n sets → ⊥
too_many n [] unknown many good = no_set_of_family n good
too_many n (handle ∷ teeth) unknown many good = elim good.family [
  | inl known ↦ unknown (record { kind = known.kind; once = good.once })
  | inr other ↦ other.few many
]

pub one_part : (n most : ℕ) (sets : List (List ℕ)) → MostCostsAreUnique → (IsGoodComb n sets → ⊥) → most ≡ 0 → IsMostCost n (sets_crossed (sets_of sets)) (pos most) → IsGoodFamily n sets → ⊥
one_part n most [] unique unknown none is good = no_set_of_family n good
one_part n most (handle ∷ teeth) unique unknown none is good = elim good.family [
  | inl known ↦ unknown (record { kind = known.kind; once = good.once })
  | inr other ↦
      let same = unique n (sets_crossed (sets_of (handle ∷ teeth))) (pos most) (pos good.numbers.most) is other.most_is in
      let some = other.parted in
      omega (arith, ints, same, some, none)
]

-- ---- each node once

pub set_here : (sets : List (Vec ℕ)) (index : ℕ) (default : Vec ℕ) (nodes other : List ℕ) → index < length sets → nodes ≡ (get_or sets index default).items → get_or (lists_of sets) index other ≡ nodes
set_here sets index default nodes other lt same = get_or-map (λ (set : Vec ℕ). set.items) sets index default other lt ∙ sym same

pub lists_long : (sets : List (Vec ℕ)) → length (lists_of sets) ≡ length sets
lists_long sets = length-map sets (λ (set : Vec ℕ). set.items)

-- nodes of which none has the mark are new exactly if they are each there once
pub new_once : (marks : List ℕ) (mark : ℕ) (nodes : List ℕ) → AreUnmarked marks mark → HasEachOnce nodes → AreNew (is_marked marks mark) nodes
new_once marks mark nodes none once = record { unused = λ k d lt. none (get_or nodes k d); once = once }

pub once_more : (sets : List (Vec ℕ)) (index : ℕ) (default : Vec ℕ) (nodes : List ℕ) → index < length sets → nodes ≡ (get_or sets index default).items
    → ((k : ℕ) (d : List ℕ) → k < index → HasEachOnce (get_or (lists_of sets) k d)) → HasEachOnce nodes → (k : ℕ) (d : List ℕ) → k < index + 1 → HasEachOnce (get_or (lists_of sets) k d)
once_more sets index default nodes lt same before here k d less = elim (cases_eq k index) [
  | inl last ↦ subst (λ (m : ℕ). HasEachOnce (get_or (lists_of sets) m d)) (sym last) (subst HasEachOnce (sym (set_here sets index default nodes d lt same)) here)
  | inr other ↦ before k d (omega (arith, less, other))
]

-- ---- the families of a certificate, one after the other

-- ---- the sets of the next family

module _ (families : List (Vec (Vec ℕ))) (index : ℕ) (own : Vec (Vec ℕ)) (read : List (Vec ℕ)) (lt : index < length families) (is : own ≡ get_or families index own) (same : read ≡ own.items) where
  pub sets_here : lists_of read ≡ get_or (families_in families) index []
  sets_here = ap lists_of same ∙ ap (λ (f : Vec (Vec ℕ)). lists_of f.items) is ∙ sym (get_or-map (λ (f : Vec (Vec ℕ)). lists_of f.items) families index own [] lt)

  pub holds_here : (P : List (Vec ℕ) → Type 0) → All (λ f. P f.items) families → P read
  holds_here P all = subst P (sym same) (subst (λ (f : Vec (Vec ℕ)). P f.items) (sym is) (all index own lt))

-- ---- all families

-- each family so far has its least and most crossings
abbrev pub HaveNumbers : ℕ → List (List (List ℕ)) → List Crossings → Type 0
HaveNumbers n families crossed = (k : ℕ) (default : Crossings) → k < length crossed → AreFamilyNumbers n (get_or families k []) (Some (get_or crossed k default))

pub numbers_more : (n : ℕ) (families : List (List (List ℕ))) (crossed : List Crossings) (own : Crossings) → HaveNumbers n families crossed
    → AreFamilyNumbers n (get_or families (length crossed) []) (Some own)
    → HaveNumbers n families (crossed ++ own ∷ [])
numbers_more n families crossed own before here k default lt = elim (cases_lt k (length crossed)) [
  | inl old ↦ subst (λ (c : Crossings). AreFamilyNumbers n (get_or families k []) (Some c)) (sym (get_or_append_left crossed (own ∷ []) default k old)) (before k default old)
  | inr new ↦
      let last : length crossed ≡ k = omega (arith, new, lt, length-append crossed (own ∷ [])) in
      subst (λ (c : Crossings). AreFamilyNumbers n (get_or families k []) (Some c)) (sym (get_or_push crossed own default k last))
      (subst (λ (m : ℕ). AreFamilyNumbers n (get_or families m []) (Some own)) last here)
]

-- so each of them is good
pub good_so_far : (n place : ℕ) (families : List (List (List ℕ))) (crossed : List Crossings) → length crossed ≡ place → HaveNumbers n families crossed → (other : ℕ) → other < place
    → IsGoodFamily n (get_or families other [])
good_so_far n place families crossed many have other lt =
    let default : Crossings = record { least = 0; most = 0 } in
    let own = have other default (omega (arith, lt, many)) in
    record { numbers = get_or crossed other default; family = own.0; once = own.1 }

families_all : (n : ℕ) (crossed : List Crossings) (families : List (List (List ℕ))) → length crossed ≡ length families
    → ((k : ℕ) (default : Crossings) → k < length crossed → IsFamily n (family_with (get_or crossed k default) (get_or families k []))) → AllByRecursion (IsFamily n) (families_with crossed families)
families_all n [] families many h = tt
families_all n (own ∷ crossed) [] many h = absurd (omega (arith, many))
families_all n (own ∷ crossed) (sets ∷ families) many h = (h 0 own (omega arith), families_all n crossed families (omega (arith, many)) (λ k default lt. h (suc k) default (omega (arith, lt))))

pub all_good : (n : ℕ) (families : List (List (List ℕ))) (crossed : List Crossings) → length crossed ≡ length families → HaveNumbers n families crossed → AreFamilies n families crossed
all_good n families crossed many have =
    let good = good_so_far n (length families) families crossed many have in
    record {
      many = many;
      good = good;
      are = All-from_recursion (IsFamily n) (families_with crossed families) (families_all n crossed families many (λ k default lt. (have k default lt).0));
      once = λ k d lt. subst (All HasEachOnce) (get_or_default families k [] d lt) (good k lt).once;
    }

pub first_found : (n place : ℕ) (families : List (List (List ℕ))) → place < length families → ((other : ℕ) → other < place → IsGoodFamily n (get_or families other []))
    → (IsGoodFamily n (get_or families place []) → ⊥)
    → IsFirstBadFamily n families (place + 1)
first_found n place families lt before bad =
    let same : place + 1 - 1 ≡ place = omega arith in
    record {
      applies = ((omega arith, omega (arith, lt)), λ good. bad (subst (λ (k : ℕ). IsGoodFamily n (get_or families k [])) same good));
      none_before = λ other less from. before (other - 1) (omega (arith, less, from));
    }

-- ---- some two nodes cross each family

families_some : (n : ℕ) (crossed : List Crossings) (families : List (List (List ℕ))) → length crossed ≡ length families → AllByRecursion (IsFamily n) (families_with crossed families)
    → AllByRecursion (λ own. 1 ≤ own.most) crossed
families_some n [] families many are = tt
families_some n (own ∷ crossed) [] many are = absurd (omega (arith, many))
families_some n (own ∷ crossed) (sets ∷ families) many are = (some are.0, families_some n crossed families (omega (arith, many)) are.1)
  where
    some : IsFamily n (family_with own sets) → 1 ≤ own.most
    some (inl known) = omega (arith, known.most_is)
    some (inr other) = other.parted

pub all_some : (n : ℕ) (crossed : List Crossings) (families : List (List (List ℕ))) → length crossed ≡ length families → All (IsFamily n) (families_with crossed families)
    → All (λ own. 1 ≤ own.most) crossed
all_some n crossed families many are = All-from_recursion (λ own. 1 ≤ own.most) crossed (families_some n crossed families many (recursion_from_All (IsFamily n) (families_with crossed families) are))
