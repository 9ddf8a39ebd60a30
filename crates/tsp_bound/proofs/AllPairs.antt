-- For src/all_pairs.rt: the twelve least links of each place, by one pass over all pairs, and the number that no
-- unlisted link is below.
use Rattle.tsp_bound.proofs.Prelude.{◌≡◌, ◌≢◌, ℕ, ◌+◌, ◌*◌, ◌<◌, ◌≤◌, List, Option, length, set, drop, take, get_or, ℤ, pos, ◌≤ℤ◌, ◌<ℤ◌, ◌⊎◌, inl, inr, refl, arith, ap, sym, subst, ◌∙◌, IfSome, w64, to_z, of_z, SFits, cases_eq, cases_lt, ints, to_z-of_z, get_or-set_same, get_or-set_other, get_or-take, get_or-drop, least_at}
use Rattle.tsp_bound.specs.declared.search.Link.{Link}
use Rattle.tsp_bound.specs.states.Components.{IsKeptLink, IsOffered, kept_at, empty_link, IsOwnLink, IsKnown, IsPut, IsTaken, IsSeen, AreOffered, links_kept}
use Rattle.tsp_bound.specs.states.Boxes.{no_weight}

pub no_more_where_not : (a b : ℤ) → (b <ℤ a → ⊥) → a ≤ℤ b
no_more_where_not a b h = grind (arith, ints, h)

-- ---- a link more in the lists

-- the new number of a place, as the code computes it
pub bound_seen : (old dropped bound : ℤ) → SFits w64 old → SFits w64 dropped → SFits w64 bound → dropped ≤ℤ to_z w64 (of_z w64 old) → bound ≤ℤ to_z w64 (of_z w64 dropped)
    → to_z w64 (of_z w64 bound) ≤ℤ old
bound_seen old dropped bound f g h first second =
    let a = to_z-of_z w64 old f in
    let b = to_z-of_z w64 dropped g in
    let c = to_z-of_z w64 bound h in
    omega (arith, ints, a, b, c, first, second)

-- a link of the list is the new one, or it was there before
link_put : (old links : List Link) (x slot : ℕ) (link : Link) (y k : ℕ) → links ≡ set old (links_kept * x + slot) link → links_kept * x + slot < length old → slot < links_kept → k < links_kept
    → ((y ≡ x) × (kept_at links y k ≡ link)) ⊎ (kept_at links y k ≡ kept_at old y k)
link_put old links x slot link y k is inside few k_in = elim (cases_eq (links_kept * y + k) (links_kept * x + slot)) [
  | inl same ↦ inl (
    omega (arith, same, few, k_in),
    ap (λ (ls : List Link). kept_at ls y k) is ∙ (ap (λ i. get_or (set old (links_kept * x + slot) link) i empty_link) same ∙ get_or-set_same old (links_kept * x + slot) link empty_link inside),
  )
  | inr other ↦ inr (ap (λ (ls : List Link). kept_at ls y k) is ∙ get_or-set_other old (links_kept * x + slot) (links_kept * y + k) link empty_link other)
]

bound_put : (old bounds : List ℤ) (x : ℕ) (bound : ℤ) (y : ℕ) → bounds ≡ set old x bound → x < length old → bound ≤ℤ least_at old x → least_at bounds y ≤ℤ least_at old y
bound_put old bounds x bound y is inside lower = elim (cases_eq y x) [
  | inl same ↦
      let here : least_at bounds x ≡ bound = ap (λ xs. least_at xs x) is ∙ get_or-set_same old x bound (pos 0) inside in
      subst (λ (i : ℕ). least_at bounds i ≤ℤ least_at old i) (sym same) (omega (arith, ints, here, lower))
  | inr other ↦
      let there : least_at bounds y ≡ least_at old y = ap (λ xs. least_at xs y) is ∙ get_or-set_other old x y bound (pos 0) other in
      omega (arith, ints, there)
]

pub own_taken : (n : ℕ) (w : ℕ → ℕ → ℤ) (link : Link) (old_links : List Link) (old_bounds : List ℤ) (links : List Link) (bounds : List ℤ)
    → length old_links ≡ links_kept * n → link.from < n → link.to < n → link.weight ≡ w link.from link.to → IsTaken link old_links old_bounds links bounds
    → ((x k : ℕ) → x < n → k < links_kept → IsOwnLink n w x (kept_at old_links x k)) → (x k : ℕ) → x < n → k < links_kept → IsOwnLink n w x (kept_at links x k)
own_taken n w link old_links old_bounds links bounds long from_in to_in is (inl same) own x k x_in k_in =
    subst (λ (ls : List Link). IsOwnLink n w x (kept_at ls x k)) (sym same.0) (own x k x_in k_in)
own_taken n w link old_links old_bounds links bounds long from_in to_in is (inr put) own x k x_in k_in =
    elim (link_put old_links links link.from put.slot link x k put.links_is (omega (arith, long, from_in, put.few)) put.few k_in) [
      | inl here ↦ subst (IsOwnLink n w x) (sym here.1) (λ some. (sym here.0, to_in, subst (λ (m : ℕ). link.weight ≡ w m link.to) (sym here.0) is))
      | inr there ↦ subst (IsOwnLink n w x) (sym there) (own x k x_in k_in)
    ]

-- a pair that is known, as its link is listed or weighs at least the number of its place, stays known
-- plan: a link that goes away weighs no less than the new number of its place
pub known_taken : (n : ℕ) (w : ℕ → ℕ → ℤ) (link : Link) (old_links : List Link) (old_bounds : List ℤ) (links : List Link) (bounds : List ℤ)
    → length old_links ≡ links_kept * n → length old_bounds ≡ n → link.from < n → IsTaken link old_links old_bounds links bounds
    → (x y : ℕ) → IsKnown w old_links old_bounds x y → IsKnown w links bounds x y
known_taken n w link old_links old_bounds links bounds long as_many from_in (inl same) x y known unlisted =
    subst (λ (ls : List Link). IsKnown w ls bounds x y) (sym same.0) (subst (λ (bs : List ℤ). IsKnown w old_links bs x y) (sym same.1) known) unlisted
known_taken n w link old_links old_bounds links bounds long as_many from_in (inr put) x y known unlisted =
    no_more_where_not (least_at bounds x) (w x y) (λ less.
    let lower : least_at bounds x ≤ℤ least_at old_bounds x = bound_put old_bounds bounds link.from put.bound x put.bounds_is (omega (arith, as_many, from_in)) put.lower in
    let old : least_at old_bounds x ≤ℤ w x y = known (λ k k_in to_is weight_is. elim (cases_eq (links_kept * x + k) (links_kept * link.from + put.slot)) [
      | inl same ↦
          let x_is : x ≡ link.from = omega (arith, same, put.few, k_in) in
          let k_is : k ≡ put.slot = omega (arith, same, put.few, k_in) in
          let here : least_at bounds x ≡ put.bound = ap (λ xs. least_at xs x) put.bounds_is ∙ (ap (least_at (set old_bounds link.from put.bound)) x_is
          ∙ get_or-set_same old_bounds link.from put.bound (pos 0) (omega (arith, as_many, from_in))) in
          let gone : (kept_at old_links link.from put.slot).weight ≡ w x y = subst (λ (i : ℕ). (get_or old_links i empty_link).weight ≡ w x y) same weight_is in
          let below = put.below in
          omega (arith, ints, here, gone, below, less)
      | inr other ↦
          let still : kept_at links x k ≡ kept_at old_links x k =
          ap (λ (ls : List Link). kept_at ls x k) put.links_is ∙ get_or-set_other old_links (links_kept * link.from + put.slot) (links_kept * x + k) link empty_link other in
          unlisted k k_in (ap (λ (l : Link). l.to) still ∙ to_is) (ap (λ (l : Link). l.weight) still ∙ weight_is)
    ]) in
    omega (arith, ints, lower, old, less))

-- the pair of the new link is known
pub known_new : (n : ℕ) (w : ℕ → ℕ → ℤ) (link : Link) (old_links : List Link) (old_bounds : List ℤ) (links : List Link) (bounds : List ℤ)
    → length old_links ≡ links_kept * n → link.from < n → link.weight ≡ w link.from link.to → IsTaken link old_links old_bounds links bounds
    → IsKnown w links bounds link.from link.to
known_new n w link old_links old_bounds links bounds long from_in is (inl same) unlisted =
    let high = same.2 in
    let here : least_at bounds link.from ≡ least_at old_bounds link.from = ap (λ xs. least_at xs link.from) same.1 in
    omega (arith, ints, here, high, is)
known_new n w link old_links old_bounds links bounds long from_in is (inr put) unlisted =
    let here : kept_at links link.from put.slot ≡ link = ap (λ (ls : List Link). kept_at ls link.from put.slot) put.links_is
    ∙ get_or-set_same old_links (links_kept * link.from + put.slot) link empty_link (omega (arith, long, from_in, put.few)) in
    absurd (unlisted put.slot put.few (ap (λ (l : Link). l.to) here) (ap (λ (l : Link). l.weight) here ∙ is))

-- ---- a pass over the pairs

seen_more : (first last from next x y : ℕ) → IsSeen first last from (next + 1) x y → IsSeen first last from next x y ⊎ ((x ≡ from) × (y ≡ next))
seen_more first last from next x y (inl low) = inl (inl low)
seen_more first last from next x y (inr (inl row)) = inl (inr (inl row))
seen_more first last from next x y (inr (inr own)) = elim (cases_eq y next) [
  | inl same ↦ inr (own.0, same)
  | inr other ↦ let below = own.1 in inl (inr (inr (own.0, omega (arith, below, other))))
]

-- a pair more: its link at each of both places
pub listed_more : (n : ℕ) (w : ℕ → ℕ → ℤ) (first last from next : ℕ) (there back : Link) (old_links : List Link) (old_bounds : List ℤ)
    (some_links : List Link) (some_bounds : List ℤ) (links : List Link) (bounds : List ℤ)
    → length old_links ≡ links_kept * n → length old_bounds ≡ n → length some_links ≡ links_kept * n → length some_bounds ≡ n → from < n → next < n
    → there.from ≡ from → there.to ≡ next → there.weight ≡ w from next → back.from ≡ next → back.to ≡ from → back.weight ≡ w next from
    → IsTaken there old_links old_bounds some_links some_bounds → IsTaken back some_links some_bounds links bounds
    → AreOffered n w first last from next old_links old_bounds → AreOffered n w first last from (next + 1) links bounds
listed_more n w first last from next there back old_links old_bounds some_links some_bounds links bounds
    long as_many some_long some_many from_in next_in t_from t_to t_weight b_from b_to b_weight taken after h =
    let t_in : there.from < n = subst (λ (i : ℕ). i < n) (sym t_from) from_in in
    let b_in : back.from < n = subst (λ (i : ℕ). i < n) (sym b_from) next_in in
    let t_is : there.weight ≡ w there.from there.to = rw (t_from, t_to) t_weight in
    let b_is : back.weight ≡ w back.from back.to = rw (b_from, b_to) b_weight in
    let still : (x y : ℕ) → IsKnown w old_links old_bounds x y → IsKnown w links bounds x y = λ x y known.
    known_taken n w back some_links some_bounds links bounds some_long some_many b_in after x y
    (known_taken n w there old_links old_bounds some_links some_bounds long as_many t_in taken x y known) in
    let t_known : IsKnown w links bounds from next = known_taken n w back some_links some_bounds links bounds some_long some_many b_in after from next
    (subst (λ (i : ℕ). IsKnown w some_links some_bounds i next) t_from (subst (λ (i : ℕ). IsKnown w some_links some_bounds there.from i) t_to
    (known_new n w there old_links old_bounds some_links some_bounds long t_in t_is taken))) in
    let b_known : IsKnown w links bounds next from =
    subst (λ (i : ℕ). IsKnown w links bounds i from) b_from (subst (λ (i : ℕ). IsKnown w links bounds back.from i) b_to
    (known_new n w back some_links some_bounds links bounds some_long b_in b_is after)) in
    record {
      own = own_taken n w back some_links some_bounds links bounds some_long b_in (subst (λ (i : ℕ). i < n) (sym b_to) from_in) b_is after
          (own_taken n w there old_links old_bounds some_links some_bounds long t_in (subst (λ (i : ℕ). i < n) (sym t_to) next_in) t_is taken h.own);
      known = λ x y less y_in seen. elim (seen_more first last from next x y seen) [
        | inl before ↦ let was = h.known x y less y_in before in (still x y was.0, still y x was.1)
        | inr here ↦ (
          subst (λ (i : ℕ). IsKnown w links bounds i y) (sym here.0) (subst (λ (i : ℕ). IsKnown w links bounds from i) (sym here.1) t_known),
          subst (λ (i : ℕ). IsKnown w links bounds y i) (sym here.0) (subst (λ (i : ℕ). IsKnown w links bounds i from) (sym here.1) b_known),
        )
      ];
    }

-- a row, or a block of columns, that begins has the pairs of the one that ended
listed_seen : (n : ℕ) (w : ℕ → ℕ → ℤ) (first last from next new_first new_last new_from new_next : ℕ) (links : List Link) (bounds : List ℤ)
    → ((x y : ℕ) → x < y → y < n → IsSeen new_first new_last new_from new_next x y → IsSeen first last from next x y)
    → AreOffered n w first last from next links bounds → AreOffered n w new_first new_last new_from new_next links bounds
listed_seen n w first last from next new_first new_last new_from new_next links bounds seen h = record {
  own = h.own;
  known = λ x y less y_in is. h.known x y less y_in (seen x y less y_in is);
}

pub row_ended : (n : ℕ) (w : ℕ → ℕ → ℤ) (first last from next : ℕ) (links : List Link) (bounds : List ℤ) → last ≤ next
    → AreOffered n w first last from next links bounds → AreOffered n w first last (from + 1) 0 links bounds
row_ended n w first last from next links bounds all = listed_seen n w first last from next first last (from + 1) 0 links bounds again
  where
    again : (x y : ℕ) → x < y → y < n → IsSeen first last (from + 1) 0 x y → IsSeen first last from next x y
    again x y less y_in (inl low) = inl low
    again x y less y_in (inr (inl row)) = elim (cases_eq x from) [
      | inl same ↦ let below = row.0 in inr (inr (same, omega (arith, below, all)))
      | inr other ↦ let before = row.1 in inr (inl (row.0, omega (arith, before, other)))
    ]
    again x y less y_in (inr (inr own)) = absurd (omega (arith, own.1))

-- the node at a place of a part
pub node_in_part : (order front part : List ℕ) (start last k : ℕ) → front ≡ take last order → part ≡ drop start front → start + k < last
    → get_or part k 0 ≡ get_or order (start + k) 0
node_in_part order front part start last k front_is part_is below = ap (λ xs. get_or xs k 0) part_is ∙ (get_or-drop start front k 0
    ∙ (ap (λ xs. get_or xs (start + k) 0) front_is ∙ get_or-take last order (start + k) 0 below))

-- ---- links that are found

-- a link from a place to one of another label, with its own weight
pub record IsEnding (n : ℕ) (w : ℕ → ℕ → ℤ) (label : ℕ → ℕ) (from : ℕ) (link : Link) : Type 0 where
  pub from_is : link.from ≡ from
  pub to_in : link.to < n
  pub to_out : label link.to ≢ label from
  pub weight_is : link.weight ≡ w from link.to

pub ending_offered : (n : ℕ) (w : ℕ → ℕ → ℤ) (label : ℕ → ℕ) (from : ℕ) (best : Option Link) (link new : Link) → IfSome best (IsEnding n w label from)
    → IsEnding n w label from link → IsOffered best link new → IsEnding n w label from new
ending_offered n w label from best link new old own offered = elim offered.one [
  | inl same ↦ subst (IsEnding n w label from) (sym same) own
  | inr was ↦ subst (λ (o : Option Link). IfSome o (IsEnding n w label from)) was old
]

-- a link of the place that weighs at most its listed links to other components, and at most the number of the place
-- plan: by whether a link to another component is listed: it weighs at least the best listed one, or at least the
-- number of the place
pub kept_link : (n : ℕ) (w : ℕ → ℕ → ℤ) (label : ℕ → ℕ) (from : ℕ) (links : List Link) (bounds : List ℤ) (link : Link) → from < n
    → link.weight ≤ℤ no_weight → link.weight ≢ no_weight
    → AreOffered n w n 0 0 0 links bounds → IsOwnLink n w from link
    → ((k : ℕ) → k < links_kept → (kept_at links from k).weight ≢ no_weight → label (kept_at links from k).to ≢ label from
    → link.weight ≤ℤ (kept_at links from k).weight)
    → link.weight ≤ℤ least_at bounds from → IsKeptLink n w label from link
kept_link n w label from links bounds link from_in fits some listed own least below = record {
  from_is = (own some).0;
  to_in = (own some).1;
  weight_is = (own some).2;
  least = λ x x_in out. no_more_where_not link.weight (w from x) (λ less.
      let number : least_at bounds from ≤ℤ w from x = known x x_in (λ e. out (ap label e)) (λ k k_in to_is weight_is.
      let is_one : (kept_at links from k).weight ≢ no_weight = λ e. omega (arith, ints, e, weight_is, less, fits) in
      let more = least k k_in is_one (subst (λ (i : ℕ). label i ≢ label from) (sym to_is) out) in
      omega (arith, ints, more, weight_is, less)) in
      omega (arith, ints, number, below, less));
}
  where
    known : (x : ℕ) → x < n → x ≢ from → IsKnown w links bounds from x
    known x x_in other = elim (cases_lt x from) [
      | inl before ↦ (listed.known x from before from_in (inl from_in)).1
      | inr after ↦ (listed.known from x (omega (arith, after, other)) x_in (inl x_in)).0
    ]
