-- For src/kept_rows.rt: rows kept from leaf to leaf stay right if marks are added and taken off where multipliers or
-- decisions differ.
use Rattle.tsp_branch.proofs.Prelude.{◌≡◌, ℕ, zero, suc, ◌+◌, ◌<◌, ◌==◌, List, [], ◌∷◌, ◌++◌, length, replicate, inl, inr, refl, sym, ap, subst, ◌∙◌, arith, ◌-◌, ◌&&◌, Bool, true, false, None, take, set, cases_Bool, cases_lt, both_ways, cases_eq, eq-eqb, ints, int_wrap-add_left, int_wrap-add_same, length-append, get_or_append_left, get_or-replicate, get_or_past, length-replicate, get_or_push, take_more, Vec, w64, int_wrap, All, ◌⊎◌, ℤ, pos, neg_ℤ, ◌+ℤ◌, ◌*ℤ◌, slice_index_or as get_or, if◌then◌else◌, IsFromTo, weight_between, most_between, entry, is_same_pair, sum_int_by, least_at, IsMoved}
use Rattle.std.proofs.Math.Bool.{or-true}
use Rattle.std.proofs.lemmas.Option.{none-some, same_Some}
use Rattle.tsp_cases.proofs.OpenCases.{Same, told, stack_more}
use Rattle.tsp_cases.proofs.SetSums.{added_none, combed_at, wrapped_by, apart_is}
use Rattle.tsp_cases.specs.Cases.{decide, next_stack}
use Rattle.tsp_cases.specs.Families.{HasEachOnce}
use Rattle.tsp_cases.specs.ListedCases.{most_crossed}
use Rattle.tsp_branch.specs.declared.kept_rows.KeptRows.{KeptRows}
use Rattle.tsp_cases.specs.declared.decision.Decision.{Decision}
use Rattle.tsp_cases.specs.declared.sets.SetPlace.{SetPlace}
use Rattle.tsp_branch.specs.states.KeptRows.{kept_weight, unmarked, IsKeptRow, AreRows, AreRowsIfAny, AreAdded, AreDifferences, AreEnds, added_between, AreTwoNodes, IsAddedAt, HoldsRows}
use Rattle.tsp_cases.specs.states.OpenCases.{signed, changes, marks_in, IsNextStack, stack_of}
use Rattle.tsp_cases.specs.states.Sets.{added, places_with, IsSetTable, AreSmallMultipliers, summed_from, multipliers_at, set_in, twice_in, inside_both, set_crossings, most_combed, set_weight}

-- ---- one row more

-- a place below one more is below, or the last one
last_or_below : (k n : ℕ) → k < n + 1 → (k < n) ⊎ (k ≡ n)
last_or_below zero zero less = inr refl
last_or_below zero (suc n) less = inl (omega arith)
last_or_below (suc k) zero less = absurd (omega (arith, less))
last_or_below (suc k) (suc n) less = one_more (last_or_below k n (omega (arith, less)))
  where
    one_more : (k < n) ⊎ (k ≡ n) → (suc k < suc n) ⊎ (suc k ≡ suc n)
    one_more (inl below) = inl (omega (arith, below))
    one_more (inr same) = inr (ap suc same)

pub rows_more : (n : ℕ) (cost weight : ℕ → ℕ → ℤ) (count : ℕ) (rows : List (Vec ℤ)) (row : Vec ℤ) → AreRows n cost weight count rows
    → IsKeptRow n (cost (count + 1)) (weight (count + 1)) row.items → AreRows n cost weight (count + 1) (rows ++ row ∷ [])
rows_more n cost weight count rows row are last = record {
  many = omega (arith, length-append rows (row ∷ []), are.many);
  each = λ k default less. by_place k default (last_or_below k count less);
}
  where
    by_place : (k : ℕ) (default : Vec ℤ) → (k < count) ⊎ (k ≡ count) → IsKeptRow n (cost (k + 1)) (weight (k + 1)) (get_or (rows ++ row ∷ []) k default).items
    by_place k default (inl below) = subst (λ (r : Vec ℤ). IsKeptRow n (cost (k + 1)) (weight (k + 1)) r.items)
        (sym (get_or_append_left rows (row ∷ []) default k (omega (arith, below, are.many)))) (are.each k default below)
    by_place k default (inr same) = subst (λ (m : ℕ). IsKeptRow n (cost (m + 1)) (weight (m + 1)) (get_or (rows ++ row ∷ []) m default).items) (sym same)
        (subst (λ (r : Vec ℤ). IsKeptRow n (cost (count + 1)) (weight (count + 1)) r.items) (sym (get_or_push rows row default count are.many)) last)

-- ---- rows and ends under other multipliers

added_sum : (a b : ℤ) (nodes : List ℕ) (x : ℕ) → added (a +ℤ b) nodes x ≡ added a nodes x +ℤ added b nodes x
added_sum a b [] x = refl
added_sum a b (node ∷ nodes) x =
    let rest = added_sum a b nodes x in
    elim (cases_Bool (node == x)) [
      | inl here ↦ rw here (omega (arith, ints, rest))
      | inr other ↦ rw other (omega (arith, ints, rest))
    ]

twice_sum : (old new differences : List ℤ) (families : List (List (List ℕ))) (place : SetPlace) (x : ℕ) → AreDifferences old new differences
    → twice_in new families place x ≡ twice_in old families place x +ℤ twice_in differences families place x
twice_sum old new differences families place x are =
    let own : List ℕ = set_in families place in
    let more = are place.family in
    let twice : pos 2 *ℤ get_or new place.family (pos 0) ≡ (pos 2 *ℤ get_or old place.family (pos 0)) +ℤ (pos 2 *ℤ get_or differences place.family (pos 0)) = omega (arith, ints, more) in
    ap (λ (z : ℤ). added z own x) twice ∙ added_sum (pos 2 *ℤ get_or old place.family (pos 0)) (pos 2 *ℤ get_or differences place.family (pos 0)) own x

inside_sum : (old new differences : List ℤ) (families : List (List (List ℕ))) (places : List SetPlace) (x : ℕ) → AreDifferences old new differences
    → inside_both new families places x ≡ inside_both old families places x +ℤ inside_both differences families places x
inside_sum old new differences families [] x are = refl
inside_sum old new differences families (place ∷ places) x are =
    let own = twice_sum old new differences families place x are in
    let rest = inside_sum old new differences families places x are in
    omega (arith, ints, own, rest)

pub row_brought : (n : ℕ) (cost was is change : ℕ → ℤ) (old new : List ℤ) → length new ≡ length old → ((x : ℕ) → is x ≡ was x +ℤ change x)
    → ((x : ℕ) → IsMoved (change x) (least_at old x) (least_at new x)) → IsKeptRow n cost was old → IsKeptRow n cost is new
row_brought n cost was is change old new same sum moved kept = record {
  long = same ∙ kept.long;
  weights = λ x x_in. wrapped_by (change x) (least_at old x) (least_at new x) (least_at old x) (moved x) refl
      ∙ int_wrap-add_same w64 (least_at old x) (was x) (change x) (kept.weights x x_in) ∙ ap (int_wrap w64) (sym (sum x));
  costs = kept.costs;
}

some_of : {A : Type 0} (xs : List A) (k : ℕ) → k < length xs → A
some_of [] k less = absurd (omega (arith, less))
some_of (x ∷ xs) k less = x

pub rows_brought : (n : ℕ) (scale : ℤ) (families : List (List (List ℕ))) (cost marks : ℕ → ℕ → ℤ) (old new differences : List ℤ) (by_node : List (Vec SetPlace)) (rows brought : List (Vec ℤ))
    → AreDifferences old new differences → IsSetTable n families by_node → AreAdded differences families by_node rows brought → AreRowsIfAny n cost (kept_weight scale families cost marks old) rows
    → AreRowsIfAny n cost (kept_weight scale families cost marks new) brought
rows_brought n scale families cost marks old new differences by_node rows brought are table more all some =
    let kept = all (omega (arith, some, more.many)) in
    record {
      many = more.many ∙ kept.many;
      each = λ k default less.
          let inside : k < length rows = omega (arith, less, kept.many) in
          let list : Vec SetPlace = some_of by_node (k + 1) (omega (arith, less, table.count)) in
          let listed = table.said (k + 1) list (omega (arith, less)) in
          row_brought n (cost (k + 1)) (kept_weight scale families cost marks old (k + 1)) (kept_weight scale families cost marks new (k + 1))
          (λ x. inside_both differences families (places_with 0 families (k + 1)) x)
          (get_or rows k default).items (get_or brought k default).items (more.long k default default inside)
          (λ x. let sum = inside_sum old new differences families (places_with 0 families (k + 1)) x are in omega (arith, ints, sum))
          (λ x. subst (λ (ns : List SetPlace). IsMoved (inside_both differences families ns x) (least_at (get_or rows k default).items x) (least_at (get_or brought k default).items x)) listed
          (more.moved k x default default list inside)) (kept.each k default less);
    }

abbrev at_sets : ℤ → List (List ℕ) → ℕ → ℤ
at_sets number sets x = sum_int_by (λ set. added number set x) sets

family_sum : (a b : ℤ) (sets : List (List ℕ)) (x : ℕ) → at_sets (a +ℤ b) sets x ≡ at_sets a sets x +ℤ at_sets b sets x
family_sum a b [] x = refl
family_sum a b (set ∷ sets) x = let own = added_sum a b set x in let rest = family_sum a b sets x in omega (arith, ints, own, rest)

abbrev taken_from : ℕ → List ℤ → List (List (List ℕ)) → ℕ → ℤ
taken_from first multipliers families x = summed_from first (λ multiplier set. added multiplier set x) multipliers families

ends_sum : (first : ℕ) (old new differences : List ℤ) (families : List (List (List ℕ))) (x : ℕ) → AreDifferences old new differences
    → taken_from first new families x ≡ taken_from first old families x +ℤ taken_from first differences families x
ends_sum first old new differences [] x are = refl
ends_sum first old new differences (sets ∷ families) x are =
    let own = ap (λ (z : ℤ). at_sets z sets x) (are first) ∙ family_sum (get_or old first (pos 0)) (get_or differences first (pos 0)) sets x in
    let rest = ends_sum (suc first) old new differences families x are in
    omega (arith, ints, own, rest)

pub ends_brought : (n : ℕ) (families : List (List (List ℕ))) (old new differences ends brought : List ℤ) → AreDifferences old new differences → length brought ≡ length ends
    → ((x : ℕ) → IsMoved (neg_ℤ (multipliers_at differences families x)) (least_at ends x) (least_at brought x)) → AreEnds n old families ends → AreEnds n new families brought
ends_brought n families old new differences ends brought are same moved was = record {
  places = same ∙ was.places;
  taken = λ x x_in.
      let change : ℤ = neg_ℤ (multipliers_at differences families x) in
      let sum : neg_ℤ (multipliers_at old families x) +ℤ change ≡ neg_ℤ (multipliers_at new families x) =
      (let all = ends_sum 0 old new differences families x are in omega (arith, ints, all)) in
      wrapped_by change (least_at ends x) (least_at brought x) (least_at ends x) (moved x) refl
      ∙ int_wrap-add_same w64 (least_at ends x) (neg_ℤ (multipliers_at old families x)) change (was.taken x x_in) ∙ ap (int_wrap w64) sum;
}

-- ---- before the first leaf all multipliers are 0

none_at : (count k : ℕ) → get_or (replicate count (pos 0)) k (pos 0) ≡ pos 0
none_at count k = elim (cases_lt k count) [
  | inl less ↦ get_or-replicate count k (pos 0) (pos 0) less
  | inr past ↦ get_or_past (replicate count (pos 0)) k (pos 0) (omega (arith, past, length-replicate count (pos 0)))
]

twice_none : (count : ℕ) (families : List (List (List ℕ))) (place : SetPlace) (x : ℕ) → twice_in (replicate count (pos 0)) families place x ≡ pos 0
twice_none count families place x = ap (λ (z : ℤ). added (pos 2 *ℤ z) (set_in families place) x) (none_at count place.family) ∙ added_none (set_in families place) x

inside_none : (count : ℕ) (families : List (List (List ℕ))) (places : List SetPlace) (x : ℕ) → inside_both (replicate count (pos 0)) families places x ≡ pos 0
inside_none count families [] x = refl
inside_none count families (place ∷ places) x =
    let own = twice_none count families place x in
    let rest = inside_none count families places x in
    omega (arith, ints, own, rest)

pub kept_at_start : (n family_count : ℕ) (scale held : ℤ) (families : List (List (List ℕ))) (cost marks : ℕ → ℕ → ℤ) (rows : List (Vec ℤ)) → held ≡ scale
    → ((i x : ℕ) → marks i x ≡ pos 0)
    → AreRowsIfAny n cost (λ i x. held *ℤ cost i x) rows → AreRowsIfAny n cost (kept_weight scale families cost marks (replicate family_count (pos 0))) rows
kept_at_start n family_count scale held families cost marks rows same empty all some =
    let kept = all some in
    record {
      many = kept.many;
      each = λ k default less.
          let row = kept.each k default less in
          record {
            long = row.long;
            costs = row.costs;
            weights = λ x x_in. row.weights x x_in ∙ ap (int_wrap w64)
                (let none = inside_none family_count families (places_with 0 families (k + 1)) x in let whole = ap
                (λ (z : ℤ). z *ℤ cost (k + 1) x) same in let mark = empty (k + 1) x in omega (arith, ints, none, whole, mark));
          };
    }

family_none : (sets : List (List ℕ)) (x : ℕ) → at_sets (pos 0) sets x ≡ pos 0
family_none [] x = refl
family_none (set ∷ sets) x = let own = added_none set x in let rest = family_none sets x in omega (arith, ints, own, rest)

none_taken : (first count : ℕ) (families : List (List (List ℕ))) (x : ℕ) → taken_from first (replicate count (pos 0)) families x ≡ pos 0
none_taken first count [] x = refl
none_taken first count (sets ∷ families) x =
    let own = ap (λ (z : ℤ). at_sets z sets x) (none_at count first) ∙ family_none sets x in
    let rest = none_taken (suc first) count families x in
    omega (arith, ints, own, rest)

pub ends_at_start : (n family_count places : ℕ) (families : List (List (List ℕ))) → places ≡ n + 1 → AreEnds n (replicate family_count (pos 0)) families (replicate places (pos 0))
ends_at_start n family_count places families same = record {
  places = length-replicate places (pos 0) ∙ same;
  taken = λ x x_in. ap (int_wrap w64) (let one = none_at places x in let two = none_taken 0 family_count families x in omega (arith, ints, one, two));
}

pub small_at_start : (family_count : ℕ) → AreSmallMultipliers (replicate family_count (pos 0))
small_at_start family_count k default less =
    rw (get_or-replicate family_count k (pos 0) default (omega (arith, less, length-replicate family_count (pos 0)))) (omega (arith, ints), omega (arith, ints))

-- ---- the sums that the sets add, row by row

-- the rows before this one have their sums, and the others are as they were
pub record IsAddedTo (index : ℕ) (multipliers : List ℤ) (families : List (List (List ℕ))) (by_node : List (Vec SetPlace)) (old new : List (Vec ℤ)) : Type 0 where
  pub many : length new ≡ length old
  pub long : (k : ℕ) (a b : Vec ℤ) → k < length old → length (get_or new k a).items ≡ length (get_or old k b).items
  pub moved : (k x : ℕ) (a b : Vec ℤ) (c : Vec SetPlace) → k < index → k < length old
      → IsMoved (inside_both multipliers families (get_or by_node (k + 1) c).items x) (least_at (get_or old k b).items x) (least_at (get_or new k a).items x)
  pub rest : (k : ℕ) (a b : Vec ℤ) → index < k + 1 → k < length old → get_or new k a ≡ get_or old k b

-- ---- a row plus both numbers has the weights of the leaf

pub kept_at : (scale : ℤ) (potentials multipliers : List ℤ) (families : List (List (List ℕ))) (cost : ℕ → ℕ → ℤ) (from x : ℕ) (m k kept value : ℤ)
    → All (All HasEachOnce) families → IsFromTo (pos 0) (pos most_crossed) (set_crossings multipliers families from x)
    → IsFromTo (neg_ℤ (pos most_between)) (pos most_between) (weight_between scale potentials cost from x)
    → int_wrap w64 m ≡ int_wrap w64 (entry potentials from +ℤ neg_ℤ (multipliers_at multipliers families from))
    → int_wrap w64 k ≡ int_wrap w64 (entry potentials x +ℤ neg_ℤ (multipliers_at multipliers families x))
    → int_wrap w64 kept ≡ int_wrap w64 (kept_weight scale families cost unmarked multipliers from x) → value ≡ int_wrap w64 (kept +ℤ int_wrap w64 (m +ℤ k))
    → (value ≡ set_weight scale potentials multipliers families cost from x) × IsFromTo (neg_ℤ (pos most_combed)) (pos most_combed) value
kept_at scale potentials multipliers families cost from x m k kept value once crossed size m_is k_is kept_is value_is =
    let scaled : ℤ = scale *ℤ cost from x in
    let both : ℤ = int_wrap w64 (m +ℤ k) in
    let inside : ℤ = inside_both multipliers families (places_with 0 families from) x in
    let apart : ℤ = int_wrap w64 (scaled +ℤ both) in
    let first = apart_is scaled (entry potentials from) (entry potentials x) (multipliers_at multipliers families from) (multipliers_at multipliers families x) m k both apart m_is k_is refl refl in
    let order : ((scaled +ℤ inside) +ℤ pos 0) +ℤ both ≡ (scaled +ℤ both) +ℤ inside = omega (arith, ints) in
    let gained : value ≡ int_wrap w64 (apart +ℤ inside) =
    value_is ∙ int_wrap-add_same w64 kept ((scaled +ℤ inside) +ℤ pos 0) both kept_is ∙ ap (int_wrap w64) order ∙ sym (int_wrap-add_left w64 (scaled +ℤ both) inside) in
    combed_at scale potentials multipliers families cost from x apart value once crossed (inr first, size) (inr gained)

-- the same with the marks of decisions
pub marked_at : (scale : ℤ) (potentials multipliers : List ℤ) (families : List (List (List ℕ))) (cost marks : ℕ → ℕ → ℤ) (from x : ℕ) (m k kept value : ℤ)
    → All (All HasEachOnce) families → IsFromTo (pos 0) (pos most_crossed) (set_crossings multipliers families from x)
    → IsFromTo (neg_ℤ (pos most_between)) (pos most_between) (weight_between scale potentials cost from x)
    → int_wrap w64 m ≡ int_wrap w64 (entry potentials from +ℤ neg_ℤ (multipliers_at multipliers families from))
    → int_wrap w64 k ≡ int_wrap w64 (entry potentials x +ℤ neg_ℤ (multipliers_at multipliers families x))
    → int_wrap w64 kept ≡ int_wrap w64 (kept_weight scale families cost marks multipliers from x) → value ≡ int_wrap w64 (kept +ℤ int_wrap w64 (m +ℤ k))
    → (value ≡ int_wrap w64 (set_weight scale potentials multipliers families cost from x +ℤ marks from x))
    × IsFromTo (neg_ℤ (pos most_combed)) (pos most_combed) (set_weight scale potentials multipliers families cost from x)
marked_at scale potentials multipliers families cost marks from x m k kept value once crossed size m_is k_is kept_is value_is =
    let w : ℤ = set_weight scale potentials multipliers families cost from x in
    let mark : ℤ = marks from x in
    let both : ℤ = int_wrap w64 (m +ℤ k) in
    let without : ℤ = kept_weight scale families cost unmarked multipliers from x in
    let least : ℤ = int_wrap w64 (without +ℤ both) in
    let first = kept_at scale potentials multipliers families cost from x m k without least once crossed size m_is k_is refl refl in
    let order : kept_weight scale families cost marks multipliers from x +ℤ both ≡ (without +ℤ both) +ℤ mark = omega (arith, ints) in
    let is : value ≡ int_wrap w64 (least +ℤ mark) =
    value_is ∙ int_wrap-add_same w64 kept (kept_weight scale families cost marks multipliers from x) both kept_is ∙ ap (int_wrap w64) order
    ∙ sym (int_wrap-add_left w64 (without +ℤ both) mark) in (
      is ∙ ap (λ (z : ℤ). int_wrap w64 (z +ℤ mark)) first.0,
      subst (IsFromTo (neg_ℤ (pos most_combed)) (pos most_combed)) first.0 first.1,
    )

-- ---- the decisions of a case as marks in the rows kept from leaf to leaf

-- ---- equal marks

pub same_rows : (n : ℕ) (cost w v : ℕ → ℕ → ℤ) (rows : List (Vec ℤ)) → ((i x : ℕ) → w i x ≡ v i x) → AreRowsIfAny n cost w rows → AreRowsIfAny n cost v rows
same_rows n cost w v rows same all some =
    let kept = all some in
    record {
      many = kept.many;
      each = λ k default less.
          let row = kept.each k default less in
          record {
            long = row.long;
            costs = row.costs;
            weights = λ x x_in. row.weights x x_in ∙ ap (int_wrap w64) (same (k + 1) x);
          };
    }

pub same_marks : (n family_count : ℕ) (scale : ℤ) (families : List (List (List ℕ))) (cost a b : ℕ → ℕ → ℤ) (kept : KeptRows) → ((i x : ℕ) → a i x ≡ b i x)
    → HoldsRows n family_count scale families cost a kept → HoldsRows n family_count scale families cost b kept
same_marks n family_count scale families cost a b kept same held = record {
  multipliers = held.multipliers;
  differences = held.differences;
  small = held.small;
  ends = held.ends;
  rows = same_rows n cost (kept_weight scale families cost a kept.multipliers.items) (kept_weight scale families cost b kept.multipliers.items) kept.rows.items
      (λ i x. let is = same i x in omega (arith, ints, is)) held.rows;
}

-- ---- a number between two nodes

on_pair : (pair : ℕ × ℕ) (number : ℤ) (i x : ℕ) → pair.0 ≡ i → pair.1 ≡ x → added_between pair number i x ≡ number
on_pair pair number i x first second = rw (eq-eqb pair.0 i first, eq-eqb pair.1 x second) refl

on_turned : (pair : ℕ × ℕ) (number : ℤ) (i x : ℕ) → pair.1 ≡ i → pair.0 ≡ x → added_between pair number i x ≡ number
on_turned pair number i x first second = rw (eq-eqb pair.1 i first, eq-eqb pair.0 x second)
    (ap (λ (b : Bool). if b then number else pos 0) (or-true ((pair.0 == i) && (pair.1 == x))))

off_pair : (pair : ℕ × ℕ) (number : ℤ) (i x : ℕ) → (Same pair i x → ⊥) → added_between pair number i x ≡ pos 0
off_pair pair number i x none = elim (cases_Bool (is_same_pair pair (i, x))) [
  | inl same ↦ absurd (none (told pair i x same))
  | inr other ↦ rw other refl
]

-- a number added in both rows of a pair is in each row between its node and the other one
abbrev IsRowMarked : ℕ × ℕ → ℤ → ℕ → List ℤ → List ℤ → Type 0
IsRowMarked pair number k old new =
    (length new ≡ length old) × ((x : ℕ) → IsMoved (added_between pair number (k + 1) x) (least_at old x) (least_at new x))

-- plan: by whether the row is that of the first node, of the second, or of neither, and by the place in it
marked_between : (n : ℕ) (pair : ℕ × ℕ) (number : ℤ) (old mid new : List (Vec ℤ)) (k : ℕ) (default : Vec ℤ) → AreTwoNodes n pair
    → IsAddedAt (pair.0 - 1) pair.1 number old mid → IsAddedAt (pair.1 - 1) pair.0 number mid new → k < length old
    → IsRowMarked pair number k (get_or old k default).items (get_or new k default).items
marked_between n pair number old mid new k default own first second less = elim (cases_eq k (pair.0 - 1)) [
  | inl here ↦
      let node : pair.0 ≡ k + 1 = omega (arith, here, own.0) in
      let after : get_or new k default ≡ get_or mid k default =
      second.others k default default (omega (arith, less, first.many)) (λ e. own.2 (omega (arith, e, here, own.0, own.1))) in
      subst (λ (row : Vec ℤ). IsRowMarked pair number k (get_or old k default).items row.items) (sym after)
      (subst (λ (j : ℕ). IsRowMarked pair number k (get_or old j default).items (get_or mid j default).items) (sym here) (
        first.long default default,
        λ x. elim (cases_eq x pair.1) [
          | inl same ↦ subst (λ (z : ℤ). IsMoved z (least_at (get_or old (pair.0 - 1) default).items x) (least_at (get_or mid (pair.0 - 1) default).items x))
              (sym (on_pair pair number (k + 1) x node (sym same)))
              (subst (λ (y : ℕ). IsMoved number (least_at (get_or old (pair.0 - 1) default).items y) (least_at (get_or mid (pair.0 - 1) default).items y)) (sym same)
              (inr (first.here default default)))
          | inr other ↦ inl (
            first.beside x default default other,
            off_pair pair number (k + 1) x (λ is. elim is [
              | inl straight ↦ other (sym straight.1)
              | inr turned ↦ own.2 (node ∙ sym turned.0)
            ]),
          )
        ],
      ))
  | inr away ↦
      let before : get_or mid k default ≡ get_or old k default = first.others k default default less away in
      elim (cases_eq k (pair.1 - 1)) [
        | inl here ↦
            let node : pair.1 ≡ k + 1 = omega (arith, here, own.1) in
            subst (λ (row : Vec ℤ). IsRowMarked pair number k row.items (get_or new k default).items) before
            (subst (λ (j : ℕ). IsRowMarked pair number k (get_or mid j default).items (get_or new j default).items) (sym here) (
              second.long default default,
              λ x. elim (cases_eq x pair.0) [
                | inl same ↦ subst (λ (z : ℤ). IsMoved z (least_at (get_or mid (pair.1 - 1) default).items x) (least_at (get_or new (pair.1 - 1) default).items x))
                    (sym (on_turned pair number (k + 1) x node (sym same)))
                    (subst (λ (y : ℕ). IsMoved number (least_at (get_or mid (pair.1 - 1) default).items y) (least_at (get_or new (pair.1 - 1) default).items y)) (sym same)
                    (inr (second.here default default)))
                | inr other ↦ inl (
                  second.beside x default default other,
                  off_pair pair number (k + 1) x (λ is. elim is [
                    | inl straight ↦ own.2 (straight.0 ∙ sym node)
                    | inr turned ↦ other (sym turned.1)
                  ]),
                )
              ],
            ))
        | inr apart ↦
            let after : get_or new k default ≡ get_or mid k default = second.others k default default (omega (arith, less, first.many)) apart in
            let same : (get_or new k default).items ≡ (get_or old k default).items = ap (λ (row : Vec ℤ). row.items) (after ∙ before) in (
              ap length same,
              λ x. inl (
                ap (λ (zs : List ℤ). least_at zs x) same,
                off_pair pair number (k + 1) x (λ is. elim is [
                  | inl straight ↦ away (omega (arith, straight.0))
                  | inr turned ↦ apart (omega (arith, turned.0))
                ]),
              ),
            )
      ]
]

pub rows_marked : (n : ℕ) (scale : ℤ) (families : List (List (List ℕ))) (cost marks : ℕ → ℕ → ℤ) (multipliers : List ℤ) (pair : ℕ × ℕ) (number : ℤ) (old mid new : List (Vec ℤ))
    → AreTwoNodes n pair → IsAddedAt (pair.0 - 1) pair.1 number old mid → IsAddedAt (pair.1 - 1) pair.0 number mid new
    → AreRowsIfAny n cost (kept_weight scale families cost marks multipliers) old
    → AreRowsIfAny n cost (kept_weight scale families cost (λ i x. added_between pair number i x +ℤ marks i x) multipliers) new
rows_marked n scale families cost marks multipliers pair number old mid new own first second all some =
    let kept = all (omega (arith, some, first.many, second.many)) in
    record {
      many = second.many ∙ first.many ∙ kept.many;
      each = λ k default less.
          let row = marked_between n pair number old mid new k default own first second (omega (arith, less, kept.many)) in
          row_brought n (cost (k + 1)) (kept_weight scale families cost marks multipliers (k + 1))
          (kept_weight scale families cost (λ i x. added_between pair number i x +ℤ marks i x) multipliers (k + 1)) (λ x. added_between pair number (k + 1) x)
          (get_or old k default).items (get_or new k default).items row.0 (λ x. omega (arith, ints)) row.1 (kept.each k default less);
    }

-- ---- the number of a decision

-- one decision more
pub decision_more : (directed : Bool) (d : Decision) (case : List Decision) (number : ℤ) (i x : ℕ) → directed ≡ false → number ≡ signed d.taken
    → added_between d.pair number i x +ℤ marks_in directed case i x ≡ marks_in directed (d ∷ case) i x
decision_more true d case number i x both is = absurd (both_ways true both refl)
decision_more false d case number i x both is = ap (λ (z : ℤ). added_between d.pair z i x +ℤ changes case i x) is

-- one decision less
pub decision_less : (d : Decision) (case : List Decision) (number : ℤ) (i x : ℕ) → number ≡ neg_ℤ (signed d.taken)
    → added_between d.pair number i x +ℤ changes (d ∷ case) i x ≡ changes case i x
decision_less d case number i x is = elim (cases_Bool (is_same_pair d.pair (i, x))) [
  | inl same ↦ rw same (omega (arith, ints, is))
  | inr other ↦ rw other (omega (arith, ints))
]

-- ---- the stack of decisions

-- the stack up to a place, and with one decision more
pub stack_to : (stack : List Decision) (left : ℕ) (d : Decision) → left < length stack
    → stack_of (take (left + 1) stack) ≡ get_or stack left d ∷ stack_of (take left stack)
stack_to stack left d less = ap stack_of (take_more stack left d less) ∙ stack_more (take left stack) (get_or stack left d)

pub turned_next : (stack next rest : List Decision) (d : Decision) (is_open : Bool) → d.taken ≡ true
    → next_stack (stack_of stack) ≡ next_stack (d ∷ rest) → IsNextStack stack is_open next → stack_of next ≡ decide d.pair false rest
turned_next stack next rest d true taken same is = same_Some (stack_of next) (decide d.pair false rest) (sym is ∙ same ∙ rw taken refl)
turned_next stack next rest d false taken same is = absurd (none-some (decide d.pair false rest) (sym is.0 ∙ same ∙ rw taken refl))

pub none_next : (stack next : List Decision) (is_open : Bool) → next_stack (stack_of stack) ≡ None → IsNextStack stack is_open next → next ≡ []
none_next stack next true none is = absurd (none-some (stack_of next) (sym none ∙ is))
none_next stack next false none is = is.1

-- if pairs have a direction, nothing is marked
pub directed_same : (directed : Bool) (a b : List Decision) (i x : ℕ) → directed ≡ true → marks_in directed a i x ≡ marks_in directed b i x
directed_same true a b i x is = refl
directed_same false a b i x is = absurd (both_ways false refl is)

-- ---- before the first leaf

none_marked : (directed : Bool) (i x : ℕ) → marks_in directed [] i x ≡ pos 0
none_marked true i x = refl
none_marked false i x = refl

pub held_at_start : (n family_count places : ℕ) (scale : ℤ) (families : List (List (List ℕ))) (cost : ℕ → ℕ → ℤ) (directed : Bool) (kept : KeptRows)
    → kept.multipliers.items ≡ replicate family_count (pos 0) → kept.differences.items ≡ replicate family_count (pos 0)
    → kept.ends.items ≡ replicate places (pos 0) → places ≡ n + 1 → AreRowsIfAny n cost (λ i x. scale *ℤ cost i x) kept.rows.items
    → HoldsRows n family_count scale families cost (marks_in directed []) kept
held_at_start n family_count places scale families cost directed kept none as_many ends same rows = record {
  multipliers = ap length none ∙ length-replicate family_count (pos 0);
  differences = ap length as_many ∙ length-replicate family_count (pos 0);
  small = subst AreSmallMultipliers (sym none) (small_at_start family_count);
  ends = subst (λ (ms : List ℤ). AreEnds n ms families kept.ends.items) (sym none) (subst (AreEnds n (replicate family_count (pos 0)) families) (sym ends)
      (ends_at_start n family_count places families same));
  rows = subst (λ (ms : List ℤ). AreRowsIfAny n cost (kept_weight scale families cost (marks_in directed []) ms) kept.rows.items) (sym none)
      (kept_at_start n family_count scale scale families cost (marks_in directed []) kept.rows.items refl (none_marked directed) rows);
}
