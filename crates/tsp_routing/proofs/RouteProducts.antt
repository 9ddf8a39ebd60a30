-- For src/plan_leaf.rt and the other sums of a leaf for routes: they fit 128 bits, made of multipliers, counts of
-- routes and kept rows.
use Rattle.tsp_routing.proofs.Prelude.{ℕ, List, [], ◌∷◌, ℤ, ◌≤ℤ◌, arith, ◌≡◌, ◌∙◌, ◌+◌, ◌*◌, ◌==◌, ◌&&◌, ◌||◌, Bool, true, false, not, cond, refl, sym, ap, ◌^◌, ◌≤◌, ap₂, subst, to_z, of_z, FitsSigned, ◌<◌, drop, length, get_or, drop-cons, add-one, zero, suc, take, ◌++◌, inl, inr, length-append, cases_lt, ints, fits_signed_from_abs, to_z-of_z, get_or_append_left, get_or_push, recursion_from_All, Vec, w64, w128, AllByRecursion, filter, All, pos, neg_ℤ, max, min, if◌then◌else◌, ◌-ℤ◌, ◌*ℤ◌, negsuc, ◌+ℤ◌, int_lt, unsigned_abs, Option, Some, None, most_nodes, most_potential, IsNode, IsFromTo, none_or_one, from_size, product_size, size_of, moved_on, moved_to, weight_between, most_between, sum_int_by, length_of, links, IsCustomer, crosses, IsMoved, sets_come_to, multiplied, crossings_of, has, families_with, family_crossings, comb_with, HasEachOnce, Crossings, Decision, bears_on, places_with, IsApart, inside_both, set_crossings, set_weight}
use Rattle.tsp_routing.specs.PlanBounds.{low_of, high_of, most_surplus, least_times, limits_total, most_link}
use Rattle.tsp_routing.specs.PlanVerdicts.{sizes_total, most_of_multipliers}
use Rattle.tsp_routing.specs.QRoutes.{IsLeastAmong, IsQRoute}
use Rattle.tsp_routing.specs.states.LeafWeights.{numbers_total, IsWeightRow, AreFirstRows}

pub sizes_low : (ms : List ℤ) → pos 0 ≤ℤ sizes_total ms
sizes_low [] = omega (arith, ints)
sizes_low (m ∷ ms) = omega (arith, ints, sizes_low ms)

pub each_small : (most : ℕ) (ms : List ℤ) → sizes_total ms ≤ℤ pos most
    → AllByRecursion (IsFromTo (neg_ℤ (pos most)) (pos most)) ms
each_small most [] h = tt
each_small most (m ∷ ms) h =
    let low = sizes_low ms in
    (from_size most m (omega (arith, ints, low, h)), each_small most ms (omega (arith, ints, h)))

-- one size more fits 128 bits
pub record IsSizeMore (sum m from : ℤ) (index : ℕ) : Type 0 where
  pub fits : FitsSigned w128 (sum +ℤ to_z w128 (of_z w128 from))
  pub is : to_z w128 (of_z w128 (sum +ℤ to_z w128 (of_z w128 from))) ≡ sum +ℤ pos (unsigned_abs m)
  pub size : IsFromTo (pos 0) (pos ((index + 1) * most_of_multipliers)) (sum +ℤ pos (unsigned_abs m))

pub size_more : (sum m from : ℤ) (index : ℕ) → index < 2 ^ 64 → IsFromTo (pos 0) (pos (index * most_of_multipliers)) sum
    → IsFromTo (neg_ℤ (pos most_of_multipliers)) (pos most_of_multipliers) m → from ≡ pos (unsigned_abs m) → IsSizeMore sum m from index
size_more sum m from index few sums own is =
    let size : unsigned_abs m ≤ most_of_multipliers = size_of most_of_multipliers m own in
    let same : to_z w128 (of_z w128 from) ≡ pos (unsigned_abs m) = omega (arith, ints, is, size) in
    record {
      fits = omega (arith, ints, few, sums.0, sums.1, same, size);
      is = omega (arith, ints, few, sums.0, sums.1, same, size);
      size = (omega (arith, ints, sums.0), omega (arith, ints, sums.1, size));
    }

-- ---- the limits on how often plans cross one set

abbrev low_step : Bool → Bool → ℕ → ℕ → ℕ
low_step taken here half k = if not taken && here then max (2 * half + 2) k else k

abbrev high_step : Bool → Bool → ℕ → ℕ → ℕ
high_step taken here half k = if taken && here then min (2 * half) k else k

or_false : (b : Bool) → b ≡ (b || false)
or_false true = refl
or_false false = refl

skip_low : (taken : Bool) (half k : ℕ) → low_step taken false half k ≡ k
skip_low true half k = refl
skip_low false half k = refl

low_on : (place : ℕ) (limit : Decision) (case : List Decision) (own : ℕ)
    → low_of place (filter (bears_on true place) case) own ≡ low_of place case own → (b : Bool) → bears_on true place limit ≡ b
    → low_of place (cond b (limit ∷ filter (bears_on true place) case) (filter (bears_on true place) case)) own
    ≡ low_of place (limit ∷ case) own
low_on place limit case own rest true same = ap (λ (k : ℕ). low_step limit.taken (limit.pair.0 == place) limit.pair.1 k) rest
low_on place limit case own rest false same = rest
    ∙ sym (ap (λ (b : Bool). low_step limit.taken b limit.pair.1 (low_of place case own))
    (or_false (limit.pair.0 == place) ∙ same) ∙ skip_low limit.taken limit.pair.1 (low_of place case own))

-- those on other sets say nothing of it
pub low_own : (place : ℕ) (case : List Decision) (own : ℕ) → low_of place (filter (bears_on true place) case) own ≡ low_of place case own
low_own place [] own = refl
low_own place (limit ∷ case) own = low_on place limit case own (low_own place case own) (bears_on true place limit) refl

skip_high : (taken : Bool) (half k : ℕ) → high_step taken false half k ≡ k
skip_high true half k = refl
skip_high false half k = refl

high_on : (place : ℕ) (limit : Decision) (case : List Decision) (own : ℕ)
    → high_of place (filter (bears_on true place) case) own ≡ high_of place case own → (b : Bool) → bears_on true place limit ≡ b
    → high_of place (cond b (limit ∷ filter (bears_on true place) case) (filter (bears_on true place) case)) own
    ≡ high_of place (limit ∷ case) own
high_on place limit case own rest true same = ap (λ (k : ℕ). high_step limit.taken (limit.pair.0 == place) limit.pair.1 k) rest
high_on place limit case own rest false same = rest
    ∙ sym (ap (λ (b : Bool). high_step limit.taken b limit.pair.1 (high_of place case own))
    (or_false (limit.pair.0 == place) ∙ same) ∙ skip_high limit.taken limit.pair.1 (high_of place case own))

-- those on other sets say nothing of it
pub high_own : (place : ℕ) (case : List Decision) (own : ℕ) → high_of place (filter (bears_on true place) case) own ≡ high_of place case own
high_own place [] own = refl
high_own place (limit ∷ case) own = high_on place limit case own (high_own place case own) (bears_on true place limit) refl

-- ---- a number times a count of routes, as the code computes it

abbrev IsLeft : ℤ → Type 0
IsLeft z = IsFromTo (neg_ℤ (pos most_surplus)) (pos most_surplus) z

abbrev IsProduct : ℤ → Type 0
IsProduct z = IsFromTo (neg_ℤ (pos (most_nodes * most_surplus))) (pos (most_nodes * most_surplus)) z

factors : (count : ℕ) (z from : ℤ) → count ≤ most_nodes → IsLeft z → from ≡ pos count
    → to_z w128 (of_z w128 from) *ℤ to_z w128 (of_z w128 z) ≡ pos count *ℤ z
factors count z from few size is =
    let first : to_z w128 (of_z w128 from) ≡ pos count = omega (arith, ints, few, is) in
    let second : to_z w128 (of_z w128 z) ≡ z = omega (arith, ints, size.0, size.1) in
    ap₂ (λ a b. a *ℤ b) first second

sized : (count : ℕ) (z : ℤ) → count ≤ most_nodes → IsLeft z → IsProduct (pos count *ℤ z)
sized count z few size = product_size most_nodes most_surplus (pos count) z few (size_of most_surplus z size)

fits : (z : ℤ) → IsProduct z → FitsSigned w128 z
fits z size = fits_signed_from_abs w128 z (let less = size_of (most_nodes * most_surplus) z size in omega (arith, less))

pub product_fits : (count : ℕ) (z from : ℤ) → count ≤ most_nodes → IsLeft z → from ≡ pos count
    → FitsSigned w128 (to_z w128 (of_z w128 from) *ℤ to_z w128 (of_z w128 z))
product_fits count z from few size is =
    subst (FitsSigned w128) (sym (factors count z from few size is)) (fits (pos count *ℤ z) (sized count z few size))

pub product_is : (count : ℕ) (z from : ℤ) → count ≤ most_nodes → IsLeft z → from ≡ pos count
    → (to_z w128 (of_z w128 (to_z w128 (of_z w128 from) *ℤ to_z w128 (of_z w128 z))) ≡ pos count *ℤ z) × IsProduct (pos count *ℤ z)
product_is count z from few size is =
    let whole = sized count z few size in
    (ap (λ y. to_z w128 (of_z w128 y)) (factors count z from few size is) ∙ same (pos count *ℤ z) whole, whole)
  where
    same : (y : ℤ) → IsProduct y → to_z w128 (of_z w128 y) ≡ y
    same y h = omega (arith, ints, h.0, h.1)

pub surplus_is : (each own from : ℤ) → IsFromTo (neg_ℤ (pos (2 ^ 83))) (pos (2 ^ 83)) each
    → IsFromTo (neg_ℤ (pos most_potential)) (pos most_potential) own → from ≡ to_z w64 (of_z w64 own)
    → to_z w128 (of_z w128 (to_z w128 (of_z w128 each) -ℤ to_z w128 (of_z w128 (pos 2 *ℤ to_z w128 (of_z w128 from)))))
    ≡ each -ℤ (pos 2 *ℤ own)
surplus_is each own from size own_size is = omega (arith, ints, size.0, size.1, own_size.0, own_size.1, is)

-- ---- a number times a count of crossings

size_refl : (z : ℤ) → FitsSigned w64 z → unsigned_abs z ≤ 2 ^ 63
size_refl (pos n) h = omega (arith, ints, h)
size_refl (negsuc n) h = omega (arith, ints, h)

set_size : (count : ℕ) (z : ℤ) → count ≤ 2 ^ 33 → IsFromTo (neg_ℤ (pos (2 ^ 33 * unsigned_abs z))) (pos (2 ^ 33 * unsigned_abs z)) (pos count *ℤ z)
set_size count z few = product_size (2 ^ 33) (unsigned_abs z) (pos count) z few (omega arith)

set_fits : (count : ℕ) (z : ℤ) → count ≤ 2 ^ 33 → FitsSigned w64 z → FitsSigned w128 (pos count *ℤ z)
set_fits count z few fits =
    let own = size_refl z fits in
    let less = size_of (2 ^ 33 * unsigned_abs z) (pos count *ℤ z) (set_size count z few) in
    fits_signed_from_abs w128 (pos count *ℤ z) (omega (arith, less, own))

set_factors : (count : ℕ) (z a b : ℤ) → count ≤ 2 ^ 33 → FitsSigned w64 z → a ≡ pos count → b ≡ z
    → to_z w128 (of_z w128 a) *ℤ to_z w128 (of_z w128 b) ≡ pos count *ℤ z
set_factors count z a b few fits first second =
    let left : to_z w128 (of_z w128 a) ≡ pos count = omega (arith, ints, few, first) in
    let right : to_z w128 (of_z w128 b) ≡ z = omega (arith, ints, fits, second) in
    ap₂ (λ x y. x *ℤ y) left right

pub set_product_fits : (count : ℕ) (z a b : ℤ) → count ≤ 2 ^ 33 → FitsSigned w64 z → a ≡ pos count → b ≡ z
    → FitsSigned w128 (to_z w128 (of_z w128 a) *ℤ to_z w128 (of_z w128 b))
set_product_fits count z a b few fits first second =
    subst (FitsSigned w128) (sym (set_factors count z a b few fits first second)) (set_fits count z few fits)

pub set_product : (count : ℕ) (z a b : ℤ) → count ≤ 2 ^ 33 → FitsSigned w64 z → a ≡ pos count → b ≡ z
    → (to_z w128 (of_z w128 (to_z w128 (of_z w128 a) *ℤ to_z w128 (of_z w128 b))) ≡ pos count *ℤ z)
    × IsFromTo (neg_ℤ (pos (unsigned_abs z * 2 ^ 33))) (pos (unsigned_abs z * 2 ^ 33)) (pos count *ℤ z)
set_product count z a b few fits first second =
    let size = set_size count z few in (
      ap (λ y. to_z w128 (of_z w128 y)) (set_factors count z a b few fits first second)
          ∙ to_z-of_z w128 (pos count *ℤ z) (set_fits count z few fits),
      (omega (arith, ints, size.0), omega (arith, ints, size.1)),
    )

-- the count is the most or the least, by the sign of the multiplier
pub below_zero : (low high : ℕ) (z : ℤ) → int_lt z (pos 0) ≡ true → pos high *ℤ z ≡ least_times low high z
below_zero low high (pos m) less = absurd (grind (arith, ints))
below_zero low high (negsuc m) less = refl

pub from_zero : (low high : ℕ) (z : ℤ) → int_lt z (pos 0) ≡ false → pos low *ℤ z ≡ least_times low high z
from_zero low high (pos m) more = refl
from_zero low high (negsuc m) more = absurd (grind (arith, ints))

-- ---- one after the other

pub sizes_left : (ms : List ℤ) (index : ℕ) (default : ℤ) → index < length ms
    → sizes_total (drop index ms) ≡ pos (unsigned_abs (get_or ms index default)) +ℤ sizes_total (drop (index + 1) ms)
sizes_left ms index default lt = ap sizes_total (drop-cons ms index default lt) ∙ rw (add-one index) refl

pub numbers_left : (case : List Decision) (own place : ℕ) (crossed : List Crossings) (ms : List ℤ) (index : ℕ) (c : Crossings) (m : ℤ)
    → index < length crossed → index < length ms
    → numbers_total case own place (drop index crossed) (drop index ms)
    ≡ least_times (low_of place case (get_or crossed index c).least) (high_of place case own) (get_or ms index m)
    +ℤ numbers_total case own (place + 1) (drop (index + 1) crossed) (drop (index + 1) ms)
numbers_left case own place crossed ms index c m lt less =
    ap₂ (numbers_total case own place) (drop-cons crossed index c lt) (drop-cons ms index m less) ∙ rw (add-one index) refl

-- ---- what they are of families

pub numbers_of_families : (case : List Decision) (own place : ℕ) (crossed : List Crossings) (lists : List (List (List ℕ))) (ms : List ℤ)
    → length crossed ≡ length lists
    → limits_total case own place (families_with crossed lists) ms ≡ numbers_total case own place crossed ms
numbers_of_families case own place [] lists ms many = refl
numbers_of_families case own place (c ∷ crossed) [] ms many = absurd (omega (arith, many))
numbers_of_families case own place (c ∷ crossed) (sets ∷ lists) [] many = refl
numbers_of_families case own place (c ∷ crossed) (sets ∷ lists) (m ∷ ms) many =
    ap (λ z. least_times (low_of place case c.least) (high_of place case own) m +ℤ z)
    (numbers_of_families case own (place + 1) crossed lists ms (omega (arith, many)))

-- ---- a list of decisions, of which as many are taken as it has or more, is taken whole

pub taken_all : {X : Type 0} (xs : List X) (k : ℕ) → length xs ≤ k → take k xs ≡ xs
taken_all [] zero le = refl
taken_all [] (suc k) le = refl
taken_all (x ∷ xs) zero le = absurd (omega (arith, le))
taken_all {X} (x ∷ xs) (suc k) le = ap (λ (ys : List X). x ∷ ys) (taken_all xs k (omega (arith, le)))

-- ---- crossings of single sets, times their multipliers, are no more than the sizes of these

one_crossed : (sets : List (List ℕ)) (i j : ℕ) → length sets ≡ 1
    → (pos 0 ≤ℤ family_crossings (comb_with sets) i j) × (family_crossings (comb_with sets) i j ≤ℤ pos 1)
one_crossed [] i j is = absurd (omega (arith, is))
one_crossed (set ∷ []) i j is =
    let own = none_or_one (crosses (has set) (i, j)) in
    (omega (arith, ints, own.0), omega (arith, ints, own.1))
one_crossed (set ∷ other ∷ sets) i j is = absurd (omega (arith, is))

pub signed_crossings : (crossed : List Crossings) (lists : List (List (List ℕ))) (ms : List ℤ) (i j : ℕ)
    → AllByRecursion (λ sets. length sets ≡ 1) lists
    → (neg_ℤ (sizes_total ms) ≤ℤ crossings_of (multiplied (families_with crossed lists) ms) i j)
    × (crossings_of (multiplied (families_with crossed lists) ms) i j ≤ℤ sizes_total ms)
signed_crossings [] lists [] i j single = (omega (arith, ints), omega (arith, ints))
signed_crossings [] lists (m ∷ ms) i j single =
    let rest = signed_crossings [] lists ms i j single in
    (omega (arith, ints, rest.0, rest.1), omega (arith, ints, rest.0, rest.1))
signed_crossings (own ∷ crossed) [] [] i j single = (omega (arith, ints), omega (arith, ints))
signed_crossings (own ∷ crossed) [] (m ∷ ms) i j single =
    let rest = signed_crossings (own ∷ crossed) [] ms i j single in
    (omega (arith, ints, rest.0, rest.1), omega (arith, ints, rest.0, rest.1))
signed_crossings (own ∷ crossed) (sets ∷ lists) [] i j single = (omega (arith, ints), omega (arith, ints))
signed_crossings (own ∷ crossed) (sets ∷ lists) (m ∷ ms) i j single =
    let rest = signed_crossings crossed lists ms i j single.1 in
    let one = one_crossed sets i j single.0 in
    let size = product_size (unsigned_abs m) 1 m (family_crossings (comb_with sets) i j) (omega arith)
    (small (family_crossings (comb_with sets) i j) one.0 one.1) in
    (omega (arith, ints, rest.0, size.0), omega (arith, ints, rest.1, size.1))
  where
    small : (z : ℤ) → pos 0 ≤ℤ z → z ≤ℤ pos 1 → unsigned_abs z ≤ 1
    small (pos k) low high = omega (arith, ints, high)
    small (negsuc k) low high = absurd (omega (arith, ints, low))

-- ---- walks by other words for the same loads and weights

sums_same : (n depot : ℕ) (a b : ℕ → ℕ) (nodes : List ℕ) → ((x : ℕ) → IsNode n x → a x ≡ b x)
    → AllByRecursion (IsCustomer n depot) nodes
    → sum_int_by (λ x. pos (a x)) nodes ≡ sum_int_by (λ x. pos (b x)) nodes
sums_same n depot a b [] same customers = refl
sums_same n depot a b (x ∷ nodes) same customers =
    ap₂ (λ (k : ℕ) z. pos k +ℤ z) (same x customers.0.0) (sums_same n depot a b nodes same customers.1)

q_route_same : (n depot : ℕ) (a b : ℕ → ℕ) (room other : ℕ) (nodes : List ℕ) → ((x : ℕ) → IsNode n x → a x ≡ b x) → room ≡ other
    → IsQRoute n depot a room nodes → IsQRoute n depot b other nodes
q_route_same n depot a b room other nodes same is q_route =
    let sum = sums_same n depot a b nodes same (recursion_from_All (IsCustomer n depot) nodes q_route.customers) in
    let within = q_route.within in
    record { some = q_route.some; customers = q_route.customers; within = omega (arith, ints, sum, is, within); straight = q_route.straight }

weights_same : (v w : ℕ → ℕ → ℤ) (pairs : List (ℕ × ℕ)) → ((i j : ℕ) → v i j ≡ w i j)
    → sum_int_by (λ link. v link.0 link.1) pairs ≡ sum_int_by (λ link. w link.0 link.1) pairs
weights_same v w [] same = refl
weights_same v w (link ∷ pairs) same = ap₂ (λ x y. x +ℤ y) (same link.0 link.1) (weights_same v w pairs same)

pub least_same : (n depot : ℕ) (a b : ℕ → ℕ) (room other : ℕ) (v w : ℕ → ℕ → ℤ) (found : Option ℤ)
    → ((x : ℕ) → IsNode n x → a x ≡ b x) → room ≡ other → ((i j : ℕ) → v i j ≡ w i j)
    → IsLeastAmong (IsQRoute n depot a room) (λ nodes. length_of v (depot ∷ nodes)) found
    → IsLeastAmong (IsQRoute n depot b other) (λ nodes. length_of w (depot ∷ nodes)) found
least_same n depot a b room other v w None loads is weights least = λ nodes q_route.
    least nodes (q_route_same n depot b a other room nodes (λ x x_in. sym (loads x x_in)) (sym is) q_route)
least_same n depot a b room other v w (Some each) loads is weights least = (
  (
    least.0.0,
    q_route_same n depot a b room other least.0.0 loads is least.0.1,
    least.0.2 ∙ weights_same v w (links (depot ∷ least.0.0)) weights,
  ),
  λ nodes q_route.
      let own = least.1 nodes (q_route_same n depot b a other room nodes (λ x x_in. sym (loads x x_in)) (sym is) q_route) in
      subst (λ (z : ℤ). each ≤ℤ z) (weights_same v w (links (depot ∷ nodes)) weights) own,
)

-- ---- the entry of a row, once the multipliers of sets that have both nodes are added

signed_size : (base crossings : ℤ) → IsFromTo (neg_ℤ (pos most_between)) (pos most_between) base
    → IsFromTo (neg_ℤ (pos most_of_multipliers)) (pos most_of_multipliers) crossings
    → IsFromTo (neg_ℤ (pos most_link)) (pos most_link) (base -ℤ crossings)
signed_size base crossings p q = (omega (arith, ints, p.0, q.1), omega (arith, ints, p.1, q.0))

signed_fits : (w : ℤ) → IsFromTo (neg_ℤ (pos most_link)) (pos most_link) w → FitsSigned w64 w
signed_fits w size = omega (arith, ints, size.0, size.1)

pub signed_at : (scale : ℤ) (potentials multipliers : List ℤ) (families : List (List (List ℕ))) (cost : ℕ → ℕ → ℤ) (from x : ℕ)
    (apart value : ℤ) → All (All HasEachOnce) families
    → IsFromTo (neg_ℤ (pos most_of_multipliers)) (pos most_of_multipliers) (set_crossings multipliers families from x)
    → IsApart scale potentials multipliers families cost from x apart
    → IsMoved (inside_both multipliers families (places_with 0 families from) x) apart value
    → (value ≡ set_weight scale potentials multipliers families cost from x)
    × IsFromTo (neg_ℤ (pos most_link)) (pos most_link) value
signed_at scale potentials multipliers families cost from x apart value once crossed is gained =
    let base : ℤ = weight_between scale potentials cost from x in
    let w : ℤ = set_weight scale potentials multipliers families cost from x in
    let crossings : ℤ = set_crossings multipliers families from x in
    let size : IsFromTo (neg_ℤ (pos most_link)) (pos most_link) w = signed_size base crossings is.1 crossed in
    let come = sets_come_to multipliers families from x once in
    let to : value ≡ w = moved_to (neg_ℤ crossings) base value w (omega (arith, ints)) (signed_fits w size)
    (subst (λ (z : ℤ). IsMoved z base value) come (moved_on _ _ _ _ _ is.0 gained)) in
    (to, subst (λ (z : ℤ). IsFromTo (neg_ℤ (pos most_link)) (pos most_link) z) (sym to) size)

-- ---- the kept rows of weights between nodes, with the row of the next node at the end

pub weights_more : (n : ℕ) (w : ℕ → ℕ → ℤ) (count : ℕ) (rows : List (Vec ℤ)) (row : Vec ℤ) → AreFirstRows n w count rows
    → IsWeightRow n (w (count + 1)) row.items → AreFirstRows n w (count + 1) (rows ++ row ∷ [])
weights_more n w count rows row are last = record {
  many = omega (arith, length-append rows (row ∷ []), are.many);
  each = λ k default less. elim (cases_lt k count) [
    | inl below ↦
        subst (λ (r : Vec ℤ). IsWeightRow n (w (k + 1)) r.items)
        (sym (get_or_append_left rows (row ∷ []) default k (omega (arith, below, are.many)))) (are.each k default below)
    | inr above ↦
        let same : count ≡ k = omega (arith, less, above) in
        subst (λ (m : ℕ). IsWeightRow n (w (m + 1)) (get_or (rows ++ row ∷ []) m default).items) same
        (subst (λ (r : Vec ℤ). IsWeightRow n (w (count + 1)) r.items) (sym (get_or_push rows row default count are.many)) last)
  ];
}
