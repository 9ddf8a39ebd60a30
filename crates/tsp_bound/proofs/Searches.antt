-- The tree of boxes (src/boxes.rt), its search (src/search.rt) and the lists of links (src/all_pairs.rt): what a write
-- changes, which boxes may be skipped, orders of 64-bit weights, and divisions by the scale.
use Rattle.tsp_bound.proofs.Prelude.{◌≡◌, ◌≢◌, ℕ, zero, suc, ◌+◌, ◌*◌, ◌/◌, ◌<◌, ◌≤◌, Bool, true, List, length, Option, ℤ, pos, ◌≤ℤ◌, ◌⊎◌, inl, inr, refl, arith, ap, sym, ◌∙◌, subst, w64, to_z, of_z, SFits, false, negsuc, neg_ℤ, ◌+ℤ◌, ◌-ℤ◌, ◌*ℤ◌, ◌-◌, ◌^◌, set, cases_eq, ints, to_z-of_z, get_or-set_same, get_or-set_other, nat_abs, IsFromTo, scaled_up, same_scale, IsScale, most_number}
use Rattle.std.proofs.lemmas.Nat.{div-add-mod', mod_below, mul-le, div_below}
use Rattle.std.specs.Bool.{OnTrue}
use Rattle.std.specs.Int.Signed.{lt_z, le_z}
use Rattle.tsp_bound.specs.declared.area.Area.{Area}
use Rattle.tsp_bound.specs.declared.search.Best.{Best}
use Rattle.tsp_bound.specs.states.Boxes.{up, node_of, box_at, AreHeldFrom, AreHeld, IsRefit, IsBelowAll, IsFound, IsBest, IsSearched, no_weight}
use Rattle.tsp_bound.specs.states.Components.{IsNearest}
use Rattle.tsp_bound.specs.states.Potentials.{IsInverse}

-- ---- numbers of boxes

half_cases : (y v : ℕ) → y / 2 ≡ v → (y ≡ 2 * v) ⊎ (y ≡ 2 * v + 1)
half_cases y v h = elim (cases_eq y (2 * v)) [
  | inl same ↦ inl same
  | inr other ↦ inr (omega (arith, h, other))
]

pub up_below : (h x : ℕ) → up h x ≤ x
up_below zero x = omega arith
up_below (suc h) x = omega (arith, up_below h x)

-- the box above another is no leaf
pub up_inner : (n h x : ℕ) → x < 2 * n → up (suc h) x < n
up_inner n h x k = omega (arith, up_below h x)

up_half : (h x : ℕ) → up h (x / 2) ≡ up (suc h) x
up_half zero x = refl
up_half (suc h) x = ap (λ (y : ℕ). y / 2) (up_half h x)

reach_within : (fuel x : ℕ) → x ≤ fuel → 1 ≤ x → (h : ℕ) × (up h x ≡ 1)
reach_within zero x few some = absurd (omega arith)
reach_within (suc fuel) x few some = elim (cases_eq x 1) [
  | inl same ↦ (0, same)
  | inr other ↦
      let rest = reach_within fuel (x / 2) (omega (arith, few, some)) (omega (arith, other, some)) in
      (suc rest.0, sym (up_half rest.0 x) ∙ rest.1)
]

-- each box lies below the box 1
pub reach : (x : ℕ) → 1 ≤ x → (h : ℕ) × (up h x ≡ 1)
reach x some = reach_within x x (omega arith) some

-- ---- writes to boxes

-- a box that holds what its halves hold
pub held_refit : {A : Type 0} (none : A) (In : A → ℕ → Type 0) (low new_low : ℕ) (places : List ℕ) (outside : ℕ → Bool) (old : List A) (v : ℕ) (area : A) → length old ≡ 2 * length places
    → v < length places → low ≤ 2 * v → ((m : ℕ) → new_low ≤ m → m ≢ v → low ≤ m)
    → ((p : ℕ) → In (box_at none old (2 * v)) p → In area p) → ((p : ℕ) → In (box_at none old (2 * v + 1)) p → In area p)
    → AreHeldFrom In low places outside (box_at none old) → AreHeldFrom In new_low places outside (box_at none (set old v area))
held_refit {A = A} none In low new_low places outside old v area len v_in twice step left right held j zero j_in out from =
    let other : length places + j ≢ v = λ e. omega (arith, e, v_in) in
    subst (λ (a : A). In a (node_of places j)) (sym (get_or-set_other old v (length places + j) area _ other)) (held j zero j_in out (step (length places + j) from other))
held_refit {A = A} none In low new_low places outside old v area len v_in twice step left right held j (suc h) j_in out from = elim (cases_eq (up (suc h) (length places + j)) v) [
  | inl same ↦
      let is : box_at none (set old v area) (up (suc h) (length places + j)) ≡ area = ap (box_at none (set old v area)) same ∙ get_or-set_same old v area _ (omega (arith, len, v_in)) in
      subst (λ (a : A). In a (node_of places j)) (sym is) (elim (half_cases (up h (length places + j)) v same) [
        | inl even ↦ left (node_of places j) (subst (λ (k : ℕ). In (box_at none old k) (node_of places j)) even (held j h j_in out (omega (arith, even, twice))))
        | inr odd ↦ right (node_of places j) (subst (λ (k : ℕ). In (box_at none old k) (node_of places j)) odd (held j h j_in out (omega (arith, odd, twice))))
      ])
  | inr other ↦ subst (λ (a : A). In a (node_of places j)) (sym (get_or-set_other old v (up (suc h) (length places + j)) area _ other))
      (held j (suc h) j_in out (step (up (suc h) (length places + j)) from other))
]

-- the boxes from v on are fitted, so v is next
pub refit_more : {A : Type 0} (none : A) (In : A → ℕ → Type 0) (places : List ℕ) (outside : ℕ → Bool) (old new : List A) (v : ℕ) → length old ≡ 2 * length places → 1 ≤ v → v < length places
    → IsRefit none In old new v → AreHeldFrom In (v + 1) places outside (box_at none old) → AreHeldFrom In v places outside (box_at none new)
refit_more {A = A} none In places outside old new v len some v_in r held = subst (λ (areas : List A). AreHeldFrom In v places outside (box_at none areas)) (sym r.is)
    (held_refit none In (v + 1) v places outside old v r.box len v_in (omega (arith, some)) (λ m from other. omega (arith, from, other)) r.left r.right held)

leaf_is : (places : List ℕ) (node j h : ℕ) → j < length places → up h (length places + j) ≡ length places + node → j ≡ node
leaf_is places node j zero j_in same = omega (arith, same)
leaf_is places node j (suc h) j_in same = absurd (omega (arith, up_inner (length places) h (length places + j) (omega (arith, j_in)), same))

-- one leaf more
pub leaf_more : {A : Type 0} (none : A) (In : A → ℕ → Type 0) (places : List ℕ) (old : List A) (node : ℕ) (area : A) → length old ≡ 2 * length places
    → node < length places → In area (node_of places node)
    → ((j : ℕ) → j < node → In (box_at none old (length places + j)) (node_of places j))
    → (j : ℕ) → j < node + 1 → In (box_at none (set old (length places + node) area) (length places + j)) (node_of places j)
leaf_more {A = A} none In places old node area len node_in own done j j_in = elim (cases_eq j node) [
  | inl same ↦ subst (λ (k : ℕ). In (box_at none (set old (length places + node) area) (length places + k)) (node_of places k)) (sym same)
      (subst (λ (a : A). In a (node_of places node)) (sym (get_or-set_same old (length places + node) area _ (omega (arith, len, node_in)))) own)
  | inr other ↦ subst (λ (a : A). In a (node_of places j))
      (sym (get_or-set_other old (length places + node) (length places + j) area _ (λ e. other (omega (arith, e))))) (done j (omega (arith, other, j_in)))
]

-- the leaves alone
pub held_leaves : {A : Type 0} (none : A) (In : A → ℕ → Type 0) (places : List ℕ) (outside : ℕ → Bool) (areas : List A)
    → ((j : ℕ) → j < length places → In (box_at none areas (length places + j)) (node_of places j)) → AreHeldFrom In (length places) places outside (box_at none areas)
held_leaves none In places outside areas leaves j zero j_in out from = leaves j j_in
held_leaves none In places outside areas leaves j (suc h) j_in out from = absurd (omega (arith, from, up_inner (length places) h (length places + j) (omega (arith, j_in))))

-- ---- the search

-- a box without a lighter place outside leaves the best as it is
pub searched_none : (w : ℕ → ℕ → ℤ) (places : List ℕ) (outside : ℕ → Bool) (from : ℕ) (v : ℕ) (best : Best)
    → ((j h : ℕ) → j < length places → outside j ≡ true → up h (length places + j) ≡ v → best.weight ≤ℤ w from (node_of places j))
    → IsSearched w places outside from v best best
searched_none w places outside from v best below = record {
  kept = omega (arith, ints);
  below = below;
  found = inl refl;
}

-- a box that is left alone, as no node in it can be lighter
pub searched_alone : (In : Option Area → ℕ → Type 0) (IsOne : ℕ → Type 0) (w : ℕ → ℕ → ℤ) (places : List ℕ) (outside : ℕ → Bool) (area : ℕ → Option Area) (from : ℕ) (v : ℕ) (best : Best)
    → SFits w64 best.weight → 1 ≤ v → AreHeld In places outside area → ((j : ℕ) → j < length places → IsOne (node_of places j))
    → IsBelowAll IsOne (In (area v)) (w from) (to_z w64 (of_z w64 best.weight)) → IsSearched w places outside from v best best
searched_alone In IsOne w places outside area from v best fits some held ones worse = searched_none w places outside from v best (λ j h j_in out above.
    subst (λ (z : ℤ). z ≤ℤ w from (node_of places j)) (to_z-of_z w64 best.weight fits)
    (worse (node_of places j) (ones j j_in) (subst (λ (k : ℕ). In (area k) (node_of places j)) above (held j h j_in out (omega (arith, some, above))))))

found_after : (w : ℕ → ℕ → ℤ) (places : List ℕ) (outside : ℕ → Bool) (from : ℕ) (u v : ℕ) (old half new : Best)
    → IsSearched w places outside from u old half → IsSearched w places outside from v half new → (new ≡ old) ⊎ IsFound w places outside from new
found_after w places outside from u v old half new first second = elim second.found [
  | inl same ↦ elim first.found [
    | inl before ↦ inl (same ∙ before)
    | inr found ↦ inr (subst (λ (b : Best). IsFound w places outside from b) (sym same) found)
  ]
  | inr found ↦ inr found
]

-- a leaf: its place is the only one below it
pub leaf_below : (w : ℕ → ℕ → ℤ) (places : List ℕ) (outside : ℕ → Bool) (from : ℕ) (node : ℕ) (weight : ℤ)
    → (outside node ≡ true → weight ≤ℤ w from (node_of places node))
    → (j h : ℕ) → j < length places → outside j ≡ true → up h (length places + j) ≡ length places + node → weight ≤ℤ w from (node_of places j)
leaf_below w places outside from node weight own j h j_in out above =
    let mine : j ≡ node = leaf_is places node j h j_in above in
    subst (λ (k : ℕ). weight ≤ℤ w from (node_of places k)) (sym mine) (own (subst (λ (k : ℕ). outside k ≡ true) mine out))

both_below : (w : ℕ → ℕ → ℤ) (places : List ℕ) (outside : ℕ → Bool) (from : ℕ) (v near far : ℕ) (old half new : Best) → v < length places
    → near / 2 ≡ v → far / 2 ≡ v → near ≢ far → IsSearched w places outside from near old half → IsSearched w places outside from far half new
    → (j h : ℕ) → j < length places → outside j ≡ true → up h (length places + j) ≡ v → new.weight ≤ℤ w from (node_of places j)
both_below w places outside from v near far old half new inner is its different first second j zero j_in out above = absurd (omega (arith, inner, above))
both_below w places outside from v near far old half new inner is its different first second j (suc h) j_in out above = elim (cases_eq (up h (length places + j)) near) [
  | inl mine ↦ let a = first.below j h j_in out mine in let b = second.kept in omega (arith, ints, a, b)
  | inr other ↦ second.below j h j_in out (omega (arith, above, is, its, different, other))
]

-- one half of a box and then the other
pub searched_both : (w : ℕ → ℕ → ℤ) (places : List ℕ) (outside : ℕ → Bool) (from : ℕ) (v near far : ℕ) (old half new : Best) → v < length places
    → near / 2 ≡ v → far / 2 ≡ v → near ≢ far → IsSearched w places outside from near old half → IsSearched w places outside from far half new → IsSearched w places outside from v old new
searched_both w places outside from v near far old half new inner is its different first second = record {
  kept = let a = first.kept in let b = second.kept in omega (arith, ints, a, b);
  below = both_below w places outside from v near far old half new inner is its different first second;
  found = found_after w places outside from near far old half new first second;
}

-- after the search of the box 1, no place outside is lighter than the best
pub searched_all : (w : ℕ → ℕ → ℤ) (places : List ℕ) (outside : ℕ → Bool) (from : ℕ) (old new : Best) → IsSearched w places outside from 1 old new
    → (j : ℕ) → j < length places → outside j ≡ true → new.weight ≤ℤ w from (node_of places j)
searched_all w places outside from old new all j j_in out =
    let top = reach (length places + j) (omega arith) in
    all.below j top.0 j_in out top.1

-- ---- the best place after the search is the nearest one, as `Components` asks

pub found_some : (w : ℕ → ℕ → ℤ) (places : List ℕ) (outside : ℕ → Bool) (from : ℕ) (best : Best) → IsBest w places outside from best
    → best.weight ≢ no_weight → IsFound w places outside from best
found_some w places outside from best all other = elim all.found [
  | inl same ↦ absurd (other (ap (λ (b : Best). b.weight) same))
  | inr found ↦ found
]

pub nearest_is : (w : ℕ → ℕ → ℤ) (places : List ℕ) (outside : ℕ → Bool) (from : ℕ) (best : Best) (weight : ℤ) → IsBest w places outside (node_of places from) best
    → IsFound w places outside (node_of places from) best → weight ≡ best.weight
    → IsNearest (length places) (λ i j. w (node_of places i) (node_of places j)) outside from (record { weight = weight; from = from; to = best.place })
nearest_is w places outside from best weight all found is = record {
  from_is = refl;
  to_in = found.node_in;
  to_out = found.out;
  weight_is = is ∙ found.weight_is;
  least = λ x x_in out. subst (λ (z : ℤ). z ≤ℤ w (node_of places from) (node_of places x)) (sym is) (all.least x x_in out);
}

-- ---- orders of integers from comparisons of 64-bit words

pub less_seen : (a b : ℤ) → SFits w64 b → lt_z a (to_z w64 (of_z w64 b)) ≡ true → a ≤ℤ b
less_seen a b f h =
    let k : lt_z a b ≡ true = simp to_z-of_z at h in
    grind (arith, ints)

pub no_more_seen : (a b : ℤ) → SFits w64 a → SFits w64 b → le_z (to_z w64 (of_z w64 a)) (to_z w64 (of_z w64 b)) ≡ true → a ≤ℤ b
no_more_seen a b f g h =
    let k : le_z a b ≡ true = simp to_z-of_z at h in
    grind (arith, ints)

sum_above : (a b q r s : ℤ) → a ≤ℤ b → r ≤ℤ s → (a +ℤ (q +ℤ r)) ≤ℤ (b +ℤ (q +ℤ s))
sum_above a b q r s h k = omega (arith, ints, h, k)

-- a weight grows with its cost and with the potential of its other end
pub weight_above : (scale cost other own least potential : ℤ) → IsScale scale → cost ≤ℤ other → least ≤ℤ potential
    → ((scale *ℤ cost) +ℤ (own +ℤ least)) ≤ℤ ((scale *ℤ other) +ℤ (own +ℤ potential))
weight_above (pos s) cost other own least potential scale h k = sum_above (pos s *ℤ cost) (pos s *ℤ other) own least potential (scaled_up s cost other h) k
weight_above (negsuc s) cost other own least potential scale h k = absurd (omega (arith, ints, scale.0))

pub on_true_still : (test : Bool) (P Q : Type 0) → (P → Q) → OnTrue test P → OnTrue test Q
on_true_still true P Q still known = still known
on_true_still false P Q still known = tt

-- the best weight less the numbers of both ends, as the code computes it
pub left_is : (best own least left : ℤ) → SFits w64 best → IsFromTo (neg_ℤ (pos most_number)) (pos most_number) own → IsFromTo (neg_ℤ (pos most_number)) (pos most_number) least
    → left ≡ to_z w64 (of_z w64 best) -ℤ to_z w64 (of_z w64 (to_z w64 (of_z w64 own) +ℤ to_z w64 (of_z w64 least)))
    → left ≡ best -ℤ (own +ℤ least)
left_is best own least left fits p q is =
    let same = to_z-of_z w64 best fits in
    let sum : to_z w64 (of_z w64 (to_z w64 (of_z w64 own) +ℤ to_z w64 (of_z w64 least))) ≡ own +ℤ least = omega (arith, ints, p.0, p.1, q.0, q.1) in
    omega (arith, ints, same, sum, is)

pub enough_is : (left scale cost : ℤ) → SFits w64 left → IsScale scale → to_z w64 (of_z w64 left) ≤ℤ (to_z w64 (of_z w64 scale) *ℤ cost) → left ≤ℤ (scale *ℤ cost)
enough_is left scale cost fits is_scale h =
    subst (λ (z : ℤ). z ≤ℤ (scale *ℤ cost)) (to_z-of_z w64 left fits) (subst (λ (z : ℤ). to_z w64 (of_z w64 left) ≤ℤ (z *ℤ cost)) (same_scale scale is_scale) h)

-- if that difference is at most the least scaled cost into a box, no edge into the box weighs less than the best
pub best_below : (best left scale cost other own least number weight : ℤ) → IsScale scale → left ≡ best -ℤ (own +ℤ least) → left ≤ℤ (scale *ℤ cost)
    → cost ≤ℤ other → least ≤ℤ number → ((scale *ℤ other) +ℤ (own +ℤ number)) ≤ℤ weight → best ≤ℤ weight
best_below best left scale cost other own least number weight is_scale is enough further no_less high =
    let above = weight_above scale cost other own least number is_scale further no_less in
    omega (arith, ints, above, is, enough, high)

-- ---- the division of a weight by the scale, done as a product with the scale's inverse

-- a quotient by the inverse, rounded up, is no less than the true one
enough : (w s m : ℕ) → 1 ≤ w → 2 ^ 64 ≤ s * m → w ≤ s * ((w - 1) * m / 2 ^ 64 + 1)
enough w s m some inverse =
    let p : ℕ = (w - 1) * m in
    let q : ℕ = p / 2 ^ 64 in
    let below : p + 1 ≤ (q + 1) * 2 ^ 64 = omega (arith, div-add-mod' p (2 ^ 64), mod_below p (2 ^ 64) (omega arith)) in
    let wide : (w - 1) * 2 ^ 64 ≤ (w - 1) * (s * m) = mul-le (w - 1) (2 ^ 64) (w - 1) (s * m) (omega arith) inverse in
    let scaled : s * (p + 1) ≤ s * ((q + 1) * 2 ^ 64) = mul-le s (p + 1) s ((q + 1) * 2 ^ 64) (omega arith) below in
    let left : (w - 1) * (s * m) ≡ s * ((w - 1) * m) = omega arith in
    let right : s * ((q + 1) * 2 ^ 64) ≡ s * (q + 1) * 2 ^ 64 = omega arith in
    let open_up : s * (p + 1) ≡ s * p + s = omega arith in
    let some_scale : 0 < s = no_scale s inverse in
    omega (arith, wide, scaled, left, right, open_up, some_scale)
  where
    no_scale : (s : ℕ) → 2 ^ 64 ≤ s * m → 0 < s
    no_scale zero h = absurd (omega (arith, h))
    no_scale (suc s) h = omega arith

quotient_fits : (w m : ℕ) → w < 2 ^ 63 → m < 2 ^ 64 → (w - 1) * m / 2 ^ 64 < 2 ^ 63 - 1
quotient_fits w m small few =
    let product : (w - 1) * m ≤ (2 ^ 63 - 2) * (2 ^ 64 - 1) = mul-le (w - 1) m (2 ^ 63 - 2) (2 ^ 64 - 1) (omega arith) (omega arith) in
    div_below ((w - 1) * m) (2 ^ 64) (2 ^ 63 - 1) (omega arith) (omega (arith, product))

-- the same for words of 64 bits
pub cost_enough : (weight scale : ℤ) (m : ℕ) → SFits w64 weight → pos 1 ≤ℤ weight → IsScale scale → scale ≢ pos 1 → IsInverse scale m → m < 2 ^ 64
    → weight ≤ℤ (scale *ℤ to_z w64 (of_z w64 (to_z w64 ((nat_abs (to_z w64 (of_z w64 weight)) - 1) * m / 2 ^ 64) +ℤ pos 1)))
cost_enough (pos w) (pos s) m fits some is_scale other inverse few =
    let same = to_z-of_z w64 (pos w) fits in
    let small : w < 2 ^ 63 = omega (arith, ints, fits) in
    let q : ℕ = (w - 1) * m / 2 ^ 64 in
    let room : q < 2 ^ 63 - 1 = quotient_fits w m small few in
    let inner : to_z w64 q ≡ pos q = omega (arith, ints, room) in
    let outer : to_z w64 (of_z w64 (pos q +ℤ pos 1)) ≡ pos (q + 1) = omega (arith, ints, room) in
    let more : w ≤ s * (q + 1) = enough w s m (omega (arith, ints, some)) (inverse other) in
    rw (same, inner, outer) (omega (arith, ints, more))
cost_enough (negsuc w) scale m fits some is_scale other inverse few = absurd (omega (arith, ints, some))
cost_enough (pos w) (negsuc s) m fits some is_scale other inverse few = absurd (omega (arith, ints, is_scale.0))
