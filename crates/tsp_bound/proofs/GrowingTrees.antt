-- Prim's algorithm in src/prim.rt: what is known of the tree so far (`IsState`), of the nearest node inside for each
-- node outside (`IsPassed`), and of the tree with one more node.
use Rattle.tsp_bound.proofs.Prelude.{◌≡◌, ◌≢◌, ℕ, ◌+◌, ◌-◌, ◌<◌, ◌≤◌, ◌==◌, List, [], length, slice_index, get_or, inl, inr, refl, ap, sym, subst, ◌∙◌, arith, Bool, true, false, ◌∷◌, ◌++◌, length-append, set, cases_eq, eq-eqb, ne_eqb, or_parts, or_cases, eqb-true, eqb-false, ints, get_or-set_same, get_or-set_other, get_or-take, get_or_default, length-take-le, length-set, ℤ, pos, ◌≤ℤ◌, ◌<ℤ◌, ◌⊎◌, if◌then◌else◌, ◌+ℤ◌, weight_added, most_64, grows_more, grown_by_more, IsInner, weight_of, and_node, IsLeastLeaving, Grows, grown_by, least_at, IsNearer}
use Rattle.std.specs.List.{swap_remove}
use Rattle.tsp_theory.proofs.Exchange.{and_node_self, and_node_old}
use Rattle.tsp_bound.specs.states.Outside.{AreFromThree, AreBroughtNearer, AreInner, IsLeastPlace}

-- ---- the nodes from 3 on, one more

abbrev pub AreCounted : List ℕ → Type 0
AreCounted nodes = (k : ℕ) → k < length nodes → slice_index nodes k ≡ k + 3

-- ---- a pass over the list

-- the place with the least weight of those before this one, if there are any
abbrev pub FindsLeast : ℕ → List ℤ → ℤ → ℕ → Type 0
FindsLeast place least best nearest = ((place ≡ 0) × (best ≡ most_64))
    ⊎ ((nearest < place) × (best ≡ least_at least nearest) × ((k : ℕ) → k < place → best ≤ℤ least_at least k))

-- the places before this one have the nearer nodes, and the others are as they were
pub record IsPassed (next : ℕ) (weight : ℕ → ℤ) (nodes : List ℕ) (place : ℕ) (old_near : List ℕ) (old : List ℤ) (near : List ℕ) (new : List ℤ) : Type 0 where
  pub done : (k : ℕ) → k < place → k < length nodes → IsNearer (weight (slice_index nodes k)) next (slice_index old_near k) (least_at old k) (slice_index near k) (least_at new k)
  pub near_rest : (k : ℕ) → place ≤ k → slice_index near k ≡ slice_index old_near k
  pub rest : (k : ℕ) → place ≤ k → least_at new k ≡ least_at old k

pub passed_more : (next : ℕ) (weight : ℕ → ℤ) (nodes : List ℕ) (place : ℕ) (old_near : List ℕ) (old : List ℤ) (near : List ℕ) (new : List ℤ) (own_near : ℕ) (own : ℤ)
    → IsPassed next weight nodes place old_near old near new → place < length near → place < length new
    → IsNearer (weight (slice_index nodes place)) next (slice_index near place) (least_at new place) own_near own
    → IsPassed next weight nodes (place + 1) old_near old (set near place own_near) (set new place own)
passed_more next weight nodes place old_near old near new own_near own p near_in inside nearer = record {
  done = λ k below in_nodes. elim (cases_eq k place) [
    | inl same ↦ subst (λ (i : ℕ). IsNearer (weight (slice_index nodes i)) next (slice_index old_near i) (least_at old i)
        (slice_index (set near place own_near) i) (least_at (set new place own) i)) (sym same)
        (subst (λ (m : ℕ). IsNearer (weight (slice_index nodes place)) next (slice_index old_near place) (least_at old place) m (least_at (set new place own) place))
        (sym (get_or-set_same near place own_near 0 near_in))
        (subst (λ (z : ℤ). IsNearer (weight (slice_index nodes place)) next (slice_index old_near place) (least_at old place) own_near z) (sym (get_or-set_same new place own (pos 0) inside))
        (subst (λ (z : ℤ). IsNearer (weight (slice_index nodes place)) next (slice_index old_near place) z own_near own) (p.rest place (omega arith))
        (subst (λ (m : ℕ). IsNearer (weight (slice_index nodes place)) next m (least_at new place) own_near own) (p.near_rest place (omega arith)) nearer))))
    | inr other ↦
        subst (λ (m : ℕ). IsNearer (weight (slice_index nodes k)) next (slice_index old_near k) (least_at old k) m
        (least_at (set new place own) k)) (sym (get_or-set_other near place k own_near 0 other))
        (subst (λ (z : ℤ). IsNearer (weight (slice_index nodes k)) next (slice_index old_near k) (least_at old k) (slice_index near k) z) (sym (get_or-set_other new place k own (pos 0) other))
        (p.done k (omega (arith, below, other)) in_nodes))
  ];
  near_rest = λ k past. get_or-set_other near place k own_near 0 (λ same. omega (arith, past, same)) ∙ p.near_rest k (omega (arith, past));
  rest = λ k past. get_or-set_other new place k own (pos 0) (λ same. omega (arith, past, same)) ∙ p.rest k (omega (arith, past));
}

pub nearer_small : (weight : ℤ) (next old_near : ℕ) (old : ℤ) (near : ℕ) (new : ℤ) → weight <ℤ most_64
    → IsNearer weight next old_near old near new → new <ℤ most_64
nearer_small weight next old_near old near new small (inl kept) = omega (arith, ints, small, kept.1, kept.2)
nearer_small weight next old_near old near new small (inr taken) = omega (arith, ints, small, taken.1)

-- if the own weight is lower than the best so far
pub found_lower : (place : ℕ) (least : List ℤ) (best own : ℤ) (nearest : ℕ) → FindsLeast place least best nearest
    → place < length least → own <ℤ best
    → FindsLeast (place + 1) (set least place own) own place
found_lower place least best own nearest found inside less = inr (
  omega arith,
  sym (get_or-set_same least place own (pos 0) inside),
  λ k below. elim (cases_eq k place) [
    | inl same ↦
        let here : least_at (set least place own) k ≡ own = ap (λ i. least_at (set least place own) i) same ∙ get_or-set_same least place own (pos 0) inside in
        omega (arith, ints, here)
    | inr other ↦
        let there : least_at (set least place own) k ≡ least_at least k = get_or-set_other least place k own (pos 0) other in
        let under : best ≤ℤ least_at least k = before found k (omega (arith, below, other)) in
        omega (arith, ints, there, under, less)
  ],
)
  where
    before : FindsLeast place least best nearest → (k : ℕ) → k < place → best ≤ℤ least_at least k
    before (inl none) k below = absurd (omega (arith, none.0, below))
    before (inr some) k below = some.2 k below

-- if the own weight isn't lower than the best so far
pub found_higher : (place : ℕ) (least : List ℤ) (best own : ℤ) (nearest : ℕ) → FindsLeast place least best nearest
    → place < length least → own <ℤ most_64 → best ≤ℤ own
    → FindsLeast (place + 1) (set least place own) best nearest
found_higher place least best own nearest (inl none) inside small less = absurd (omega (arith, ints, none.1, small, less))
found_higher place least best own nearest (inr found) inside small less = inr (
  omega (arith, found.0),
  found.1 ∙ sym (get_or-set_other least place nearest own (pos 0) (λ same. omega (arith, found.0, same))),
  λ k below. elim (cases_eq k place) [
    | inl same ↦
        let here : least_at (set least place own) k ≡ own = ap (λ i. least_at (set least place own) i) same ∙ get_or-set_same least place own (pos 0) inside in
        omega (arith, ints, here, less)
    | inr other ↦
        let there : least_at (set least place own) k ≡ least_at least k = get_or-set_other least place k own (pos 0) other in
        let under : best ≤ℤ least_at least k = found.2 k (omega (arith, below, other)) in
        omega (arith, ints, there, under)
  ],
)

-- ---- one place taken away: the last one comes to it

abbrev pub moved_from : ℕ → ℕ → ℕ → ℕ
moved_from i last k = if k == i then last else k

pub removed_at : {X : Type 0} (xs : List X) (i k : ℕ) (d e : X) → i < length xs → k < length xs - 1
    → get_or (swap_remove xs i d) k e ≡ get_or xs (moved_from i (length xs - 1) k) e
removed_at xs i k d e inside below = get_or-take (length xs - 1) (set xs i (get_or xs (length xs - 1) d)) k e below ∙ elim (cases_eq k i) [
  | inl same ↦ rw (eq-eqb k i same)
      (ap (λ j. get_or (set xs i (get_or xs (length xs - 1) d)) j e) same ∙ get_or-set_same xs i (get_or xs (length xs - 1) d) e inside
      ∙ get_or_default xs (length xs - 1) d e (omega (arith, inside)))
  | inr other ↦ rw (ne_eqb k i other) (get_or-set_other xs i k (get_or xs (length xs - 1) d) e other)
]

pub removed_length : {X : Type 0} (xs : List X) (i : ℕ) (d : X) → length (swap_remove xs i d) ≡ length xs - 1
removed_length xs i d =
    length-take-le (length xs - 1) (set xs i (get_or xs (length xs - 1) d)) (omega (arith, length-set xs i (get_or xs (length xs - 1) d)))

-- each place that is left was another than the one taken away, and all others are left
pub moved_others : (i last k : ℕ) → i ≤ last → k < last → (moved_from i last k ≤ last) × (moved_from i last k ≢ i)
moved_others i last k inside below = elim (cases_eq k i) [
  | inl same ↦ rw (eq-eqb k i same) (omega arith, λ e. omega (arith, e, below, same))
  | inr other ↦ rw (ne_eqb k i other) (omega (arith, below), other)
]

pub moved_differ : (i last j k : ℕ) → j < last → k < last → j ≢ k → moved_from i last j ≢ moved_from i last k
moved_differ i last j k j_in k_in differ = elim (cases_eq j i) [
  | inl j_is ↦ elim (cases_eq k i) [
    | inl k_is ↦ absurd (differ (j_is ∙ sym k_is))
    | inr k_other ↦ rw (eq-eqb j i j_is, ne_eqb k i k_other) (λ e. omega (arith, e, k_in))
  ]
  | inr j_other ↦ elim (cases_eq k i) [
    | inl k_is ↦ rw (ne_eqb j i j_other, eq-eqb k i k_is) (λ e. omega (arith, e, j_in))
    | inr k_other ↦ rw (ne_eqb j i j_other, ne_eqb k i k_other) differ
  ]
]

pub moved_all : (i last j : ℕ) → i ≤ last → j ≤ last → j ≢ i → (k : ℕ) × (k < last) × (moved_from i last k ≡ j)
moved_all i last j i_in j_in differ = elim (cases_eq j last) [
  | inl same ↦ (i, omega (arith, i_in, same, differ), rw (eq-eqb i i refl) (sym same))
  | inr other ↦ (j, omega (arith, j_in, other), rw (ne_eqb j i differ) refl)
]

-- ---- a tree that grows from node 2, with a list of the nodes outside and the nearest node

-- the part that is grown from node 2 by these pairs
abbrev pub part_of : List (ℕ × ℕ) → ℕ → Bool
part_of pairs = grown_by (λ x. x == 2) pairs

-- a node of the part, and the weight from it
abbrev pub IsWeightFrom : (ℕ → ℕ → ℤ) → (ℕ → Bool) → ℕ → ℕ → ℤ → Type 0
IsWeightFrom w part node near weight = (part near ≡ true) × (weight ≡ w near node)

-- The state of a growth: the pairs so far and what they weigh. Each node that they don't reach is listed once, with the
-- nearest one that they reach and the weight between the two.
pub record IsState (n : ℕ) (w : ℕ → ℕ → ℤ) (outside near : List ℕ) (least : List ℤ) (pairs : List (ℕ × ℕ)) (weight : ℤ) : Type 0 where
  pub grows : Grows (IsInner n) w (λ x. x == 2) pairs
  pub weight_is : weight ≡ weight_of w pairs
  pub near_same : length near ≡ length outside
  pub same : length least ≡ length outside
  pub count : (2 + length pairs) + length outside ≡ n
  pub listed : (x : ℕ) → IsInner n x → part_of pairs x ≡ false → (k : ℕ) × (k < length outside) × (slice_index outside k ≡ x)
  pub inner : AreInner n outside
  pub free : (k : ℕ) → k < length outside → part_of pairs (slice_index outside k) ≡ false
  pub differ : (j k : ℕ) → j < length outside → k < length outside → j ≢ k → slice_index outside j ≢ slice_index outside k
  pub joined : (k : ℕ) → k < length outside → IsWeightFrom w (part_of pairs) (slice_index outside k) (slice_index near k) (least_at least k)
  pub least_is : (k a : ℕ) → k < length outside → IsInner n a → part_of pairs a ≡ true → least_at least k ≤ℤ w a (slice_index outside k)

lower_than_old : (weight : ℤ) (next old_near : ℕ) (old : ℤ) (near : ℕ) (new : ℤ) → IsNearer weight next old_near old near new
    → new ≤ℤ old
lower_than_old weight next old_near old near new (inl kept) = omega (arith, ints, kept.1)
lower_than_old weight next old_near old near new (inr taken) = omega (arith, ints, taken.1, taken.2)

lower_than_weight : (weight : ℤ) (next old_near : ℕ) (old : ℤ) (near : ℕ) (new : ℤ) → IsNearer weight next old_near old near new
    → new ≤ℤ weight
lower_than_weight weight next old_near old near new (inl kept) = omega (arith, ints, kept.1, kept.2)
lower_than_weight weight next old_near old near new (inr taken) = omega (arith, ints, taken.1)

-- ---- the start

-- plan: node 2 alone is inside, and each other node has it as its nearest, since every weight is below `most_64`
-- (`weighs`)
pub state_start : (n : ℕ) (w : ℕ → ℕ → ℤ) (outside old_near : List ℕ) (old : List ℤ) (near : List ℕ) (least : List ℤ)
    → AreFromThree n outside
    → ((k : ℕ) → k < length outside → least_at old k ≡ most_64)
    → AreBroughtNearer 2 (w 2) outside old_near old near least
    → ((k : ℕ) → k < length outside → w 2 (slice_index outside k) <ℤ most_64) → length near ≡ length outside
    → length least ≡ length outside
    → IsState n w outside near least [] (pos 0)
state_start n w outside old_near old near least from_three most nearer small near_same same = record {
  grows = tt;
  weight_is = refl;
  near_same = near_same;
  same = same;
  count = from_three.count;
  listed = λ x x_in out.
      let other : x ≢ 2 = eqb-false x 2 out in
      let third : 3 ≤ x = omega (arith, x_in, other) in
      let below : x - 3 < length outside = omega (arith, x_in, from_three.count, third) in
      (x - 3, below, from_three.each (x - 3) below ∙ omega (arith, third));
  inner = λ k below. let is = from_three.each k below in (omega (arith, is), omega (arith, is, below, from_three.count));
  free = λ k below. let is = from_three.each k below in ne_eqb (slice_index outside k) 2 (λ e. omega (arith, is, e));
  differ = λ j k j_in k_in other e. let first = from_three.each j j_in in let second = from_three.each k k_in in other (omega (arith, first, second, e));
  joined = λ k below. weighs k below (nearer k below);
  least_is = λ k a below a_in taken. subst (λ (b : ℕ). least_at least k ≤ℤ w b (slice_index outside k)) (sym (eqb-true a 2 taken))
      (lower_than_weight (w 2 (slice_index outside k)) 2 (slice_index old_near k) (least_at old k) (slice_index near k) (least_at least k) (nearer k below));
}
  where
    weighs : (k : ℕ) → k < length outside → IsNearer (w 2 (slice_index outside k)) 2 (slice_index old_near k) (least_at old k) (slice_index near k) (least_at least k)
        → IsWeightFrom w (part_of []) (slice_index outside k) (slice_index near k) (least_at least k)
    weighs k below (inl kept) = let is = most k below in let less = small k below in absurd (omega (arith, ints, kept.2, is, less))
    weighs k below (inr taken) = (
      subst (λ (a : ℕ). part_of [] a ≡ true) (sym taken.0) refl,
      subst (λ (a : ℕ). least_at least k ≡ w a (slice_index outside k)) (sym taken.0) taken.1,
    )

-- ---- the nodes that are left

pub inner_left : (n : ℕ) (outside new_outside : List ℕ) (place next : ℕ) → place < length outside
    → new_outside ≡ swap_remove outside place next → AreInner n outside → AreInner n new_outside
inner_left n outside new_outside place next inside is inner = λ k below.
    let last : ℕ = length outside - 1 in
    let shorter : length new_outside ≡ last = ap length is ∙ removed_length outside place next in
    let from = (moved_others place last k (omega (arith, inside)) (omega (arith, below, shorter))).0 in
    let at : slice_index new_outside k ≡ slice_index outside (moved_from place last k) =
    ap (λ xs. slice_index xs k) is ∙ removed_at outside place k next 0 inside (omega (arith, below, shorter)) in
    subst (IsInner n) (sym at) (inner (moved_from place last k) (omega (arith, from, inside)))

-- ---- the step: the nearest of the nodes outside comes inside

-- plan: the nearest node comes in (`grows_more`), the last one takes its place; each has its old nearest or the new
-- node
pub state_more : (n : ℕ) (w : ℕ → ℕ → ℤ) (outside new_outside near near_left new_near : List ℕ)
    (least left new_least : List ℤ) (pairs pushed : List (ℕ × ℕ)) (weight : ℤ) (place next joint : ℕ) (here : ℤ)
    → IsState n w outside near least pairs weight → IsLeastPlace least place → next ≡ slice_index outside place
    → joint ≡ slice_index near place → here ≡ least_at least place
    → new_outside ≡ swap_remove outside place next → near_left ≡ swap_remove near place joint
    → left ≡ swap_remove least place here
    → AreBroughtNearer next (w next) new_outside near_left left new_near new_least → length new_near ≡ length near_left
    → length new_least ≡ length left → pushed ≡ pairs ++ (joint, next) ∷ []
    → IsState n w new_outside new_near new_least pushed (weight +ℤ here)
state_more n w outside new_outside near near_left new_near least left new_least pairs pushed weight place next joint here s
    is_least next_is joint_is here_is outside_is near_is left_is nearer near_same same pushed_is =
    rw pushed_is (record {
      grows = grows_more (IsInner n) w pairs (λ x. x == 2) (joint, next) s.grows leaving;
      weight_is = ap (λ z. z +ℤ here) s.weight_is ∙ ap (λ z. weight_of w pairs +ℤ z) joins ∙ sym (weight_added w pairs (joint, next));
      same = same ∙ ap length left_is ∙ removed_length least place here ∙ ap (λ k. k - 1) s.same ∙ sym shorter;
      near_same = near_same ∙ ap length near_is ∙ removed_length near place joint ∙ ap (λ k. k - 1) s.near_same ∙ sym shorter;
      count = omega (arith, s.count, length-append pairs ((joint, next) ∷ []), shorter, in_list);
      listed = λ x x_in out.
          let parts = or_parts (x == next) (part_of pairs x) (sym (more x) ∙ out) in
          let was = s.listed x x_in parts.1 in
          let other : was.0 ≢ place = λ e. eqb-false x next parts.0 (sym was.2 ∙ ap (slice_index outside) e ∙ sym next_is) in
          let now = moved_all place last was.0 (omega (arith, in_list)) (omega (arith, was.1)) other in
          let below : now.0 < length new_outside = omega (arith, now.1, shorter) in
          (now.0, below, node_at now.0 below ∙ ap (slice_index outside) now.2 ∙ was.2);
      inner = λ k below. subst (IsInner n) (sym (node_at k below)) (s.inner (old_place k) (old_in k below));
      free = λ k below. more (slice_index new_outside k) ∙ subst (λ x. and_node (part_of pairs) next x ≡ false) (sym (node_at k below))
          (neither (old_place k) (old_in k below) (moved_others place last k (omega (arith, in_list)) (omega (arith, below, shorter))).1);
      differ = λ j k j_in k_in other e. s.differ (old_place j) (old_place k) (old_in j j_in) (old_in k k_in)
          (moved_differ place last j k (omega (arith, j_in, shorter)) (omega (arith, k_in, shorter)) other) (sym (node_at j j_in) ∙ e ∙ node_at k k_in);
      joined = λ k below. joined_now k below (nearer k below);
      least_is = λ k a below a_in taken. least_now k a below a_in (or_cases (a == next) (part_of pairs a) (sym (more a) ∙ taken));
    })
  where
    in_list : place < length outside
    in_list = omega (arith, is_least.inside, s.same)

    last : ℕ
    last = length outside - 1

    shorter : length new_outside ≡ last
    shorter = ap length outside_is ∙ removed_length outside place next

    joins : here ≡ w joint next
    joins = here_is ∙ (s.joined place in_list).1 ∙ ap (λ (a : ℕ). w a (slice_index outside place)) (sym joint_is) ∙ ap (w joint) (sym next_is)

    more : (x : ℕ) → part_of (pairs ++ (joint, next) ∷ []) x ≡ and_node (part_of pairs) next x
    more x = ap (λ part. part x) (grown_by_more pairs (λ y. y == 2) (joint, next))

    leaving : IsLeastLeaving (IsInner n) w (part_of pairs) (joint, next)
    leaving = record {
      from = ap (part_of pairs) joint_is ∙ (s.joined place in_list).0;
      to = ap (part_of pairs) next_is ∙ s.free place in_list;
      node = subst (IsInner n) (sym next_is) (s.inner place in_list);
      least = λ a b a_in b_in a_taken b_free.
          let at = s.listed b b_in b_free in
          let first : least_at least place ≤ℤ least_at least at.0 = is_least.none_less at.0 (omega (arith, at.1, s.same)) in
          let second : least_at least at.0 ≤ℤ w a b = subst (λ (x : ℕ). least_at least at.0 ≤ℤ w a x) at.2 (s.least_is at.0 a at.1 a_in a_taken) in
          let own = joins in
          omega (arith, ints, first, second, own, here_is);
    }

    old_place : ℕ → ℕ
    old_place k = moved_from place last k

    old_in : (k : ℕ) → k < length new_outside → old_place k < length outside
    old_in k below =
        let is = (moved_others place last k (omega (arith, in_list)) (omega (arith, below, shorter))).0 in
        omega (arith, is, in_list)

    node_at : (k : ℕ) → k < length new_outside → slice_index new_outside k ≡ slice_index outside (old_place k)
    node_at k below = ap (λ xs. slice_index xs k) outside_is ∙ removed_at outside place k next 0 in_list (omega (arith, below, shorter))

    left_at : (k : ℕ) → k < length new_outside → least_at left k ≡ least_at least (old_place k)
    left_at k below = ap (λ xs. least_at xs k) left_is ∙ removed_at least place k here (pos 0) is_least.inside (omega (arith, below, shorter, s.same))
        ∙ ap (λ m. least_at least (moved_from place (m - 1) k)) s.same

    near_at : (k : ℕ) → k < length new_outside → slice_index near_left k ≡ slice_index near (old_place k)
    near_at k below = ap (λ xs. slice_index xs k) near_is ∙ removed_at near place k joint 0 (omega (arith, in_list, s.near_same)) (omega (arith, below, shorter, s.near_same))
        ∙ ap (λ m. slice_index near (moved_from place (m - 1) k)) s.near_same

    neither : (j : ℕ) → j < length outside → j ≢ place → and_node (part_of pairs) next (slice_index outside j) ≡ false
    neither j j_in other = rw (ne_eqb (slice_index outside j) next (λ e. s.differ j place j_in in_list other (e ∙ next_is))) (s.free j j_in)

    joined_now : (k : ℕ) → k < length new_outside → IsNearer (w next (slice_index new_outside k)) next (slice_index near_left k) (least_at left k) (slice_index new_near k) (least_at new_least k)
        → IsWeightFrom w (part_of (pairs ++ (joint, next) ∷ [])) (slice_index new_outside k) (slice_index new_near k) (least_at new_least k)
    joined_now k below (inl kept) =
        let old = s.joined (old_place k) (old_in k below) in
        let a : ℕ = slice_index near (old_place k) in
        let is : slice_index new_near k ≡ a = kept.0 ∙ near_at k below in (
          ap (part_of (pairs ++ (joint, next) ∷ [])) is ∙ more a ∙ and_node_old (part_of pairs) next a old.0,
          kept.1 ∙ left_at k below ∙ old.1 ∙ ap (w a) (sym (node_at k below)) ∙ ap (λ (b : ℕ). w b (slice_index new_outside k)) (sym is),
        )
    joined_now k below (inr taken) = (
      ap (part_of (pairs ++ (joint, next) ∷ [])) taken.0 ∙ more next ∙ and_node_self (part_of pairs) next,
      taken.1 ∙ ap (λ (b : ℕ). w b (slice_index new_outside k)) (sym taken.0),
    )

    least_now : (k a : ℕ) → k < length new_outside → IsInner n a → ((a == next) ≡ true) ⊎ (part_of pairs a ≡ true) → least_at new_least k ≤ℤ w a (slice_index new_outside k)
    least_now k a below a_in (inl same_node) = subst (λ (b : ℕ). least_at new_least k ≤ℤ w b (slice_index new_outside k)) (sym (eqb-true a next same_node))
        (lower_than_weight (w next (slice_index new_outside k)) next (slice_index near_left k) (least_at left k) (slice_index new_near k) (least_at new_least k) (nearer k below))
    least_now k a below a_in (inr taken) =
        let first : least_at new_least k ≤ℤ least_at left k =
        lower_than_old (w next (slice_index new_outside k)) next (slice_index near_left k) (least_at left k) (slice_index new_near k) (least_at new_least k) (nearer k below) in
        let old : least_at least (old_place k) ≤ℤ w a (slice_index outside (old_place k)) = s.least_is (old_place k) a (old_in k below) a_in taken in
        let second : least_at least (old_place k) ≤ℤ w a (slice_index new_outside k) = subst (λ (x : ℕ). least_at least (old_place k) ≤ℤ w a x) (sym (node_at k below)) old in
        let at = left_at k below in
        omega (arith, ints, first, second, at)
