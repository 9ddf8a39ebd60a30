-- The formula for the place of a pair gives the place of its cell in the list of its layout, and other pairs have none
-- (src/layout.rt). tsp_cost and tsp_file import it, too.
use Rattle.std.proofs.Common.{◌≡◌, ◌≢◌, ℕ, suc, zero, min, max, ◌+◌, ◌-◌, ◌*◌, ◌/◌, ◌<◌, ◌≤◌, Bool, true, false, cond, List, [], ◌∷◌, ◌++◌, length, get_or, map, Some, None, refl, sym, ap, subst, ◌∙◌, ⊎_elim, arith, length-append}
use Rattle.std.specs.Prelude.{nat_lt, nat_le, ◌==◌, IsTrue, Decides}
use Rattle.std.specs.List.{filter, flat_map, range_with_len, position_or_len, Contains}
use Rattle.std.proofs.lemmas.Bool.{cases_lt, ltb-true, leb-true, le-leb, lt-leb}
use Rattle.std.proofs.lemmas.Bool.Decides.{Decides-and, Decides-eqb}
use Rattle.std.proofs.lemmas.List.{get_or-map, get_or_append_left, get_or-append_right}
use Rattle.std.proofs.lemmas.List.FromFn.{length-range_with_len, get_or-range_with_len}
use Rattle.std.proofs.lemmas.List.Quantifiers.{position-Some}
use Rattle.std.proofs.lemmas.List.Sums.{position_or_len_is, passes_at_first}
use Rattle.tsp_format.specs.declared.layout.Layout.{Layout}
use Rattle.tsp_format.specs.declared.layout.Layout.TheVariants.{FullMatrix, UpperRow, LowerRow, UpperDiagRow, LowerDiagRow, UpperCol, LowerCol, UpperDiagCol, LowerDiagCol}
use Rattle.tsp_format.specs.Nodes.{nodes_to, IsNode, is_listed, cells, cells_of_line, line_len_of}
use Rattle.tsp_format.specs.Place.{is_same_cell, place_of, place_by_table}
use Rattle.tsp_format.proofs.Pairs.{cells-lines, line_counted, cells_differ}

-- ---- the numbers of a run that pass a test are a run

filter-map : {X Y : Type 0} (p : Y → Bool) (f : X → Y) (xs : List X) → filter p (map f xs) ≡ map f (filter (λ x. p (f x)) xs)
filter-map p f [] = refl
filter-map p f (x ∷ xs) = by_test (p (f x)) (filter-map p f xs)
  where
    by_test : (b : Bool) → filter p (map f xs) ≡ map f (filter (λ y. p (f y)) xs)
        → cond b (f x ∷ filter p (map f xs)) (filter p (map f xs)) ≡ map f (cond b (x ∷ filter (λ y. p (f y)) xs) (filter (λ y. p (f y)) xs))
    by_test true rest = ap (λ ys. f x ∷ ys) rest
    by_test false rest = rest

all_pass : {X : Type 0} (xs : List X) → filter (λ x. true) xs ≡ xs
all_pass [] = refl
all_pass (x ∷ xs) = ap (λ ys. x ∷ ys) (all_pass xs)

runs_same : (a b m n : ℕ) → a ≡ b → m ≡ n → range_with_len a m ≡ range_with_len b n
runs_same a b m n first long = cc

from_step : (k a n : ℕ) (rest : List ℕ) → rest ≡ range_with_len (max (a + 1) k) (n - (k - (a + 1)))
    → cond (nat_le k a) (a ∷ rest) rest ≡ range_with_len (max a k) (suc n - (k - a))
from_step k a n rest e = ⊎_elim later here (cases_lt a k)
  where
    later : a < k → cond (nat_le k a) (a ∷ rest) rest ≡ range_with_len (max a k) (suc n - (k - a))
    later lt = ap (λ b. cond b (a ∷ rest) rest) (lt-leb k a lt) ∙ e ∙ runs_same (max (a + 1) k) (max a k) (n - (k - (a + 1))) (suc n - (k - a)) (omega arith) (omega arith)

    here : k ≤ a → cond (nat_le k a) (a ∷ rest) rest ≡ range_with_len (max a k) (suc n - (k - a))
    here le = ap (λ b. cond b (a ∷ rest) rest) (le-leb k a le)
        ∙ ap (λ ys. a ∷ ys) (e ∙ runs_same (max (a + 1) k) (a + 1) (n - (k - (a + 1))) n (omega arith) (omega arith))
        ∙ runs_same a (max a k) (suc n) (suc n - (k - a)) (omega arith) (omega arith)

-- those from k on
from_on : (k a n : ℕ) → filter (λ m. nat_le k m) (range_with_len a n) ≡ range_with_len (max a k) (n - (k - a))
from_on k a zero = runs_same (max a k) (max a k) 0 (zero - (k - a)) refl (omega arith)
from_on k a (suc n) = from_step k a n (filter (λ m. nat_le k m) (range_with_len (a + 1) n)) (from_on k (a + 1) n)

upto_step : (k a n : ℕ) (rest : List ℕ) → rest ≡ range_with_len (a + 1) (min n (suc k - (a + 1)))
    → cond (nat_le a k) (a ∷ rest) rest ≡ range_with_len a (min (suc n) (suc k - a))
upto_step k a n rest e = ⊎_elim past here (cases_lt k a)
  where
    past : k < a → cond (nat_le a k) (a ∷ rest) rest ≡ range_with_len a (min (suc n) (suc k - a))
    past lt = ap (λ b. cond b (a ∷ rest) rest) (lt-leb a k lt)
        ∙ (e ∙ runs_same (a + 1) (a + 1) (min n (suc k - (a + 1))) 0 refl (omega arith))
        ∙ runs_same a a 0 (min (suc n) (suc k - a)) refl (omega arith)

    here : a ≤ k → cond (nat_le a k) (a ∷ rest) rest ≡ range_with_len a (min (suc n) (suc k - a))
    here le = ap (λ b. cond b (a ∷ rest) rest) (le-leb a k le) ∙ ap (λ ys. a ∷ ys) e
        ∙ runs_same a a (suc (min n (suc k - (a + 1)))) (min (suc n) (suc k - a)) refl (omega arith)

-- those up to k
upto : (k a n : ℕ) → filter (λ m. nat_le m k) (range_with_len a n) ≡ range_with_len a (min n (suc k - a))
upto k a zero = runs_same a a 0 (min zero (suc k - a)) refl (omega arith)
upto k a (suc n) = upto_step k a n (filter (λ m. nat_le m k) (range_with_len (a + 1) n)) (upto k (a + 1) n)

under_step : (k a n : ℕ) (rest : List ℕ) → rest ≡ range_with_len (a + 1) (min n (k - (a + 1)))
    → cond (nat_lt a k) (a ∷ rest) rest ≡ range_with_len a (min (suc n) (k - a))
under_step k a n rest e = ⊎_elim here past (cases_lt a k)
  where
    past : k ≤ a → cond (nat_lt a k) (a ∷ rest) rest ≡ range_with_len a (min (suc n) (k - a))
    past le = ap (λ b. cond b (a ∷ rest) rest) (lt-leb (suc a) k (omega arith))
        ∙ (e ∙ runs_same (a + 1) (a + 1) (min n (k - (a + 1))) 0 refl (omega arith))
        ∙ runs_same a a 0 (min (suc n) (k - a)) refl (omega arith)

    here : a < k → cond (nat_lt a k) (a ∷ rest) rest ≡ range_with_len a (min (suc n) (k - a))
    here lt = ap (λ b. cond b (a ∷ rest) rest) (le-leb (suc a) k lt) ∙ ap (λ ys. a ∷ ys) e
        ∙ runs_same a a (suc (min n (k - (a + 1)))) (min (suc n) (k - a)) refl (omega arith)

-- those below k
under : (k a n : ℕ) → filter (λ m. nat_lt m k) (range_with_len a n) ≡ range_with_len a (min n (k - a))
under k a zero = runs_same a a 0 (min zero (k - a)) refl (omega arith)
under k a (suc n) = under_step k a n (filter (λ m. nat_lt m k) (range_with_len (a + 1) n)) (under k (a + 1) n)

-- ---- the cells of a line

-- the pair of a line and a number in it, and the first number of a line
abbrev pair_in : Layout → ℕ → ℕ → ℕ × ℕ
pair_in FullMatrix k m = (k, m)
pair_in UpperRow k m = (k, m)
pair_in LowerRow k m = (k, m)
pair_in UpperDiagRow k m = (k, m)
pair_in LowerDiagRow k m = (k, m)
pair_in UpperCol k m = (m, k)
pair_in LowerCol k m = (m, k)
pair_in UpperDiagCol k m = (m, k)
pair_in LowerDiagCol k m = (m, k)

abbrev first_of : Layout → ℕ → ℕ
first_of FullMatrix k = 1
first_of UpperRow k = k + 1
first_of LowerRow k = 1
first_of UpperDiagRow k = k
first_of LowerDiagRow k = 1
first_of UpperCol k = 1
first_of LowerCol k = k + 1
first_of UpperDiagCol k = 1
first_of LowerDiagCol k = k

line_is : (layout : Layout) (n k : ℕ) → 1 ≤ k → k ≤ n
    → cells_of_line layout n k ≡ map (pair_in layout k) (range_with_len (first_of layout k) (line_len_of layout n k))
unfolding cells_of_line nodes_to
line_is FullMatrix n k low high =
    filter-map (is_listed FullMatrix) (λ j. (k, j)) (range_with_len 1 n) ∙ ap (map (λ j. (k, j))) (all_pass (range_with_len 1 n))
line_is UpperRow n k low high = filter-map (is_listed UpperRow) (λ j. (k, j)) (range_with_len 1 n)
    ∙ ap (map (λ j. (k, j))) (from_on (suc k) 1 n ∙ runs_same (max 1 (suc k)) (k + 1) (n - (suc k - 1)) (n - k) (omega arith) (omega arith))
line_is LowerRow n k low high =
    filter-map (is_listed LowerRow) (λ j. (k, j)) (range_with_len 1 n) ∙ ap (map (λ j. (k, j))) (under k 1 n ∙ runs_same 1 1 (min n (k - 1)) (k - 1) refl (omega arith))
line_is UpperDiagRow n k low high = filter-map (is_listed UpperDiagRow) (λ j. (k, j)) (range_with_len 1 n)
    ∙ ap (map (λ j. (k, j))) (from_on k 1 n ∙ runs_same (max 1 k) k (n - (k - 1)) (n - k + 1) (omega arith) (omega arith))
line_is LowerDiagRow n k low high = filter-map (is_listed LowerDiagRow) (λ j. (k, j)) (range_with_len 1 n)
    ∙ ap (map (λ j. (k, j))) (upto k 1 n ∙ runs_same 1 1 (min n (suc k - 1)) k refl (omega arith))
line_is UpperCol n k low high =
    filter-map (is_listed UpperCol) (λ i. (i, k)) (range_with_len 1 n) ∙ ap (map (λ i. (i, k))) (under k 1 n ∙ runs_same 1 1 (min n (k - 1)) (k - 1) refl (omega arith))
line_is LowerCol n k low high = filter-map (is_listed LowerCol) (λ i. (i, k)) (range_with_len 1 n)
    ∙ ap (map (λ i. (i, k))) (from_on (suc k) 1 n ∙ runs_same (max 1 (suc k)) (k + 1) (n - (suc k - 1)) (n - k) (omega arith) (omega arith))
line_is UpperDiagCol n k low high = filter-map (is_listed UpperDiagCol) (λ i. (i, k)) (range_with_len 1 n)
    ∙ ap (map (λ i. (i, k))) (upto k 1 n ∙ runs_same 1 1 (min n (suc k - 1)) k refl (omega arith))
line_is LowerDiagCol n k low high = filter-map (is_listed LowerDiagCol) (λ i. (i, k)) (range_with_len 1 n)
    ∙ ap (map (λ i. (i, k))) (from_on k 1 n ∙ runs_same (max 1 k) k (n - (k - 1)) (n - k + 1) (omega arith) (omega arith))

pub line_at : (layout : Layout) (n k at : ℕ) (d : ℕ × ℕ) → 1 ≤ k → k ≤ n → at < line_len_of layout n k
    → get_or (cells_of_line layout n k) at d ≡ pair_in layout k (first_of layout k + at)
line_at layout n k at d low high lt =
    let run = range_with_len (first_of layout k) (line_len_of layout n k) in
    let inside : at < length run = omega (arith, lt, length-range_with_len (first_of layout k) (line_len_of layout n k)) in
    ap (λ xs. get_or xs at d) (line_is layout n k low high)
    ∙ get_or-map (pair_in layout k) run at 0 d inside
    ∙ ap (pair_in layout k) (get_or-range_with_len (first_of layout k) (line_len_of layout n k) at 0 lt)

-- ---- lines one after the other

-- where line k begins, if each line adds its length
module _ {X : Type 0} (line : ℕ → List X) (before : ℕ → ℕ) (n : ℕ) (steps : (l : ℕ) → 1 ≤ l → l ≤ n → before (l + 1) ≡ before l + length (line l)) where
  grows : (a gap : ℕ) → 1 ≤ a → a + gap ≤ n + 1 → before a ≤ before (a + gap)
  grows a zero low high = let same : before a ≡ before (a + zero) = ap before {x = a} {y = a + zero} (omega arith) in omega arith
  grows a (suc gap) low high =
      let first : before (a + 1) ≡ before a + length (line a) = steps a low (omega arith) in
      let same : before (a + 1 + gap) ≡ before (a + suc gap) = ap before {x = a + 1 + gap} {y = a + suc gap} (omega arith) in
      let rest = grows (a + 1) gap (omega arith) (omega arith) in
      omega arith

  at_first : (a m at p : ℕ) (d : X) → at < length (line a) → p ≡ at
      → (p < length (line a ++ flat_map line (range_with_len (a + 1) m))) × (get_or (line a ++ flat_map line (range_with_len (a + 1) m)) p d ≡ get_or (line a) at d)
  at_first a m at p d lt same =
      let rest = flat_map line (range_with_len (a + 1) m) in
      let inside : p < length (line a) = omega arith in
      (omega (arith, length-append (line a) rest), get_or_append_left (line a) rest d p inside ∙ ap (λ i. get_or (line a) i d) same)

  at_later : (a m p : ℕ) (d x : X) → length (line a) ≤ p → (p - length (line a) < length (flat_map line (range_with_len (a + 1) m)))
      × (get_or (flat_map line (range_with_len (a + 1) m)) (p - length (line a)) d ≡ x)
      → (p < length (line a ++ flat_map line (range_with_len (a + 1) m))) × (get_or (line a ++ flat_map line (range_with_len (a + 1) m)) p d ≡ x)
  at_later a m p d x past there =
      let rest = flat_map line (range_with_len (a + 1) m) in
      (omega (arith, length-append (line a) rest, there.0), get_or-append_right (line a) rest (length (line a)) p d refl past ∙ there.1)

  lines_at : (a m k at p : ℕ) (d : X) → a + m ≡ n + 1 → 1 ≤ a → a ≤ k → k ≤ n → at < length (line k) → p + before a ≡ before k + at
      → (p < length (flat_map line (range_with_len a m))) × (get_or (flat_map line (range_with_len a m)) p d ≡ get_or (line k) at d)
  lines_at a zero k at p d ends low from to lt here = absurd (omega arith)
  lines_at a (suc m) k at p d ends low from to lt here = ⊎_elim
      (λ later.
      let first : before (a + 1) ≡ before a + length (line a) = steps a low (omega arith) in
      let same : before (a + 1 + (k - (a + 1))) ≡ before k = ap before {x = a + 1 + (k - (a + 1))} {y = k} (omega arith) in
      let rest = grows (a + 1) (k - (a + 1)) (omega arith) (omega arith) in
      let past : length (line a) ≤ p = omega arith in
      at_later a m p d (get_or (line k) at d) past (lines_at (a + 1) m k at (p - length (line a)) d (omega arith) (omega arith) (omega arith) to lt (omega arith)))
      (λ le.
      let same : a ≡ k = omega arith in
      let value : before a ≡ before k = ap before same in
      let longer : length (line a) ≡ length (line k) = ap (λ l. length (line l)) same in
      let found = at_first a m at p d (omega arith) (omega arith) in
      (found.0, found.1 ∙ ap (λ l. get_or (line l) at d) same))
      (cases_lt a k)

-- ---- halves

-- twice the half: of two numbers in a row one is even
even_product : (k : ℕ) → 2 * (suc k * k / 2) ≡ suc k * k
even_product zero = refl
even_product (suc k) = let one = even_product k in omega (arith, one)

-- 0 + 1 + .. + (k - 1)
abbrev below_all : ℕ → ℕ
below_all k = k * (k - 1) / 2

below_all_is : (k : ℕ) → below_all (suc k) ≡ suc k * k / 2
below_all_is k = ap (λ m. suc k * m / 2) (omega arith)

below_all_step : (k : ℕ) → below_all (suc k) ≡ below_all k + k
below_all_step zero = refl
below_all_step (suc k) =
    let first = below_all_is k in
    let second = below_all_is (suc k) in
    let one = even_product k in
    let two = even_product (suc k) in
    omega (arith, first, second, one, two)

below_all_small : (k n : ℕ) → suc k ≤ n → below_all (suc k) ≤ k * n
below_all_small zero n le = omega arith
below_all_small (suc k) n le =
    let step = below_all_step (suc k) in
    let rest = below_all_small k n (omega arith) in
    omega (arith, step, rest)

pub half_below : (k n : ℕ) → k ≤ n → k * (k - 1) / 2 ≤ (k - 1) * n
half_below zero n le = omega arith
half_below (suc k) n le = subst (λ (m : ℕ). below_all (suc k) ≤ m * n) (omega arith) (below_all_small k n le)

-- ---- all cells

-- how many cells are in the lines before line k
abbrev before_above : ℕ → ℕ → ℕ
before_above n k = (k - 1) * n - below_all k

abbrev before_below : ℕ → ℕ
before_below k = (k - 1) * (k - 2) / 2

abbrev before_from_diagonal : ℕ → ℕ → ℕ
before_from_diagonal n k = (k - 1) * (n + 1) - below_all k

abbrev before : Layout → ℕ → ℕ → ℕ
before FullMatrix n k = (k - 1) * n
before UpperRow n k = before_above n k
before LowerRow n k = before_below k
before UpperDiagRow n k = before_from_diagonal n k
before LowerDiagRow n k = below_all k
before UpperCol n k = before_below k
before LowerCol n k = before_above n k
before UpperDiagCol n k = below_all k
before LowerDiagCol n k = before_from_diagonal n k

level_step : (n k : ℕ) → (suc k + 1 - 1) * n ≡ (suc k - 1) * n + n
level_step n k = rw (less k, more k) (omega arith)
  where
    less : (k : ℕ) → suc k - 1 ≡ k
    less k = omega arith

    more : (k : ℕ) → suc k + 1 - 1 ≡ suc k
    more k = omega arith

above_step : (n k : ℕ) → suc k ≤ n → before_above n (suc k + 1) ≡ before_above n (suc k) + (n - suc k)
above_step n k le =
    let level = level_step n k in
    let less : (suc k - 1) * n ≡ k * n = ap (λ m. m * n) {x = suc k - 1} {y = k} (omega arith) in
    let next : below_all (suc k + 1) ≡ below_all (suc (suc k)) = ap below_all {x = suc k + 1} {y = suc (suc k)} (omega arith) in
    let step = below_all_step (suc k) in
    let small = below_all_small k n le in
    omega (arith, level, less, next, step, small)

from_diagonal_step : (n k : ℕ) → suc k ≤ n → before_from_diagonal n (suc k + 1) ≡ before_from_diagonal n (suc k) + (n - suc k + 1)
from_diagonal_step n k le =
    let level = level_step (n + 1) k in
    let less : (suc k - 1) * (n + 1) ≡ k * (n + 1) = ap (λ m. m * (n + 1)) {x = suc k - 1} {y = k} (omega arith) in
    let next : below_all (suc k + 1) ≡ below_all (suc (suc k)) = ap below_all {x = suc k + 1} {y = suc (suc k)} (omega arith) in
    let step = below_all_step (suc k) in
    let small = below_all_small k n le in
    omega (arith, level, less, next, step, small)

diagonal_step : (k : ℕ) → below_all (suc k + 1) ≡ below_all (suc k) + suc k
diagonal_step k = ap below_all {x = suc k + 1} {y = suc (suc k)} (omega arith) ∙ below_all_step (suc k)

below_is : (k : ℕ) → before_below (suc k) ≡ below_all k
below_is k =
    let first : suc k - 1 ≡ k = omega arith in
    let second : suc k - 2 ≡ k - 1 = omega arith in
    rw (first, second)

below_step : (k : ℕ) → before_below (suc k + 1) ≡ before_below (suc k) + (suc k - 1)
below_step k =
    let next : before_below (suc k + 1) ≡ before_below (suc (suc k)) = ap before_below {x = suc k + 1} {y = suc (suc k)} (omega arith) in
    let here = below_is k in
    let after = below_is (suc k) in
    let step = below_all_step k in
    omega (arith, next, here, after, step)

before_step : (layout : Layout) (n k : ℕ) → suc k ≤ n
    → before layout n (suc k + 1) ≡ before layout n (suc k) + line_len_of layout n (suc k)
before_step FullMatrix n k le = level_step n k
before_step UpperRow n k le = above_step n k le
before_step LowerRow n k le = below_step k
before_step UpperDiagRow n k le = from_diagonal_step n k le
before_step LowerDiagRow n k le = diagonal_step k
before_step UpperCol n k le = below_step k
before_step LowerCol n k le = above_step n k le
before_step UpperDiagCol n k le = diagonal_step k
before_step LowerDiagCol n k le = from_diagonal_step n k le

before_first : (layout : Layout) (n : ℕ) → before layout n 1 ≡ 0
before_first FullMatrix n = omega arith
before_first UpperRow n = omega arith
before_first LowerRow n = refl
before_first UpperDiagRow n = omega arith
before_first LowerDiagRow n = refl
before_first UpperCol n = refl
before_first LowerCol n = omega arith
before_first UpperDiagCol n = refl
before_first LowerDiagCol n = omega arith

steps : (layout : Layout) (n l : ℕ) → 1 ≤ l → l ≤ n
    → before layout n (l + 1) ≡ before layout n l + length (cells_of_line layout n l)
steps layout n zero low high = absurd (omega (arith, low))
steps layout n (suc k) low high =
    before_step layout n k high ∙ ap (λ m. before layout n (suc k) + m) (sym (line_counted layout n (suc k) low high))

-- the cell at an index of line k
cell_at : (layout : Layout) (n k at : ℕ) (d : ℕ × ℕ) → 1 ≤ k → k ≤ n → at < line_len_of layout n k
    → (before layout n k + at < length (cells layout n)) × (get_or (cells layout n) (before layout n k + at) d ≡ pair_in layout k (first_of layout k + at))
unfolding nodes_to
cell_at layout n k at d low high lt =
    let inside : at < length (cells_of_line layout n k) = omega (arith, lt, line_counted layout n k low high) in
    let found = lines_at (cells_of_line layout n) (before layout n) n (steps layout n) 1 n k at (before layout n k + at) d (omega arith) (omega arith) low high
    inside (omega (arith, before_first layout n)) in
    (omega (arith, found.0, ap length (cells-lines layout n)), ap (λ xs. get_or xs (before layout n k + at) d) (cells-lines layout n) ∙ found.1 ∙ line_at layout n k at d low high lt)

-- ---- the first place of a pair

same_pair : (pair cell : ℕ × ℕ) → Decides (is_same_cell pair cell) ((cell.0 ≡ pair.0) × (cell.1 ≡ pair.1))
same_pair pair cell = Decides-and (cell.0 == pair.0) (cell.1 == pair.1) (Decides-eqb cell.0 pair.0) (Decides-eqb cell.1 pair.1)

pair_is : (a b : ℕ × ℕ) → (a.0 ≡ b.0) × (a.1 ≡ b.1) → a ≡ b
pair_is a b same = ap (λ m. (m, a.1)) same.0 ∙ ap (λ m. (b.0, m)) same.1

other_pair : (pair cell : ℕ × ℕ) → cell ≢ pair → is_same_cell pair cell ≡ false
other_pair pair cell other = is_false (is_same_cell pair cell) (λ e. other (pair_is cell pair ((same_pair pair cell).0 e)))
  where
    is_false : (b : Bool) → b ≢ true → b ≡ false
    is_false true not_true = absurd (not_true refl)
    is_false false not_true = refl

-- a pair at an index of the cells is there first
pub place_from : (layout : Layout) (n at : ℕ) (pair : ℕ × ℕ) → at < length (cells layout n)
    → ((d : ℕ × ℕ) → get_or (cells layout n) at d ≡ pair) → place_of layout n pair ≡ Some at
unfolding place_of
place_from layout n at pair lt here =
    let xs = cells layout n in
    let found : position_or_len (is_same_cell pair) xs ≡ at = position_or_len_is (is_same_cell pair) xs at pair (omega (arith, lt))
    (λ k below. other_pair pair (get_or xs k pair) (λ same. cells_differ layout n k at pair below lt (same ∙ sym (here pair))))
    (λ inside. (same_pair pair (get_or xs at pair)).1 (ap (λ cell. cell.0) (here pair), ap (λ cell. cell.1) (here pair))) in
    ap (λ k. cond (nat_lt k (length xs)) (Some k) None) found ∙ ap (λ b. cond b (Some at) None) (le-leb (suc at) (length xs) lt)

-- and a pair with a place is a cell
pub stands_at : (layout : Layout) (n at : ℕ) (pair : ℕ × ℕ) → place_of layout n pair ≡ Some at → (d : ℕ × ℕ)
    → get_or (cells layout n) at d ≡ pair
unfolding place_of
stands_at layout n at pair here d =
    let cell = get_or (cells layout n) at d in
    pair_is cell pair ((same_pair pair cell).0 (position-Some (is_same_cell pair) (cells layout n) at d here).1)

-- a pair that is no cell has no place
pub no_place : (layout : Layout) (n : ℕ) (pair : ℕ × ℕ) → ¬ Contains (cells layout n) pair → place_of layout n pair ≡ None
unfolding place_of
no_place layout n pair out =
    let xs = cells layout n in
    let at = position_or_len (is_same_cell pair) xs in
    ⊎_elim
    (λ inside.
    let same = (same_pair pair (get_or xs at pair)).0 (passes_at_first (is_same_cell pair) xs pair inside) in
    absurd (out (at, inside, pair_is (get_or xs at pair) pair same)))
    (λ past. ap (λ b. cond b (Some at) None) (lt-leb (suc at) (length xs) (omega arith)))
    (cases_lt at (length xs))

-- ---- the place of each cell

-- a number of line k at its place
line_place : (layout : Layout) (n k m : ℕ) → IsNode n k → first_of layout k ≤ m → m - first_of layout k < line_len_of layout n k
    → (place_of layout n (pair_in layout k m) ≡ Some (before layout n k + (m - first_of layout k))) × (before layout n k + (m - first_of layout k) < length (cells layout n))
line_place layout n k m node low high =
    let at = m - first_of layout k in
    let whole : first_of layout k + at ≡ m = omega arith in (
      place_from layout n (before layout n k + at) (pair_in layout k m) (cell_at layout n k at (0, 0) node.0 node.1 high).0
          (λ d. (cell_at layout n k at d node.0 node.1 high).1 ∙ ap (pair_in layout k) whole),
      (cell_at layout n k at (0, 0) node.0 node.1 high).0,
    )

abbrev HasPlace : Layout → ℕ → ℕ → ℕ → Type 0
HasPlace layout n i j =
    (place_of layout n (i, j) ≡ Some (place_by_table layout n i j)) × (place_by_table layout n i j < length (cells layout n))

has_place : (layout : Layout) (n i j : ℕ) → IsNode n i → IsNode n j → IsTrue (is_listed layout (i, j)) → HasPlace layout n i j
has_place FullMatrix n i j hi hj listed = line_place FullMatrix n i j hi (omega arith) (omega arith)
has_place UpperRow n i j hi hj listed = let above = ltb-true i j listed in
    let same : j - (i + 1) ≡ j - i - 1 = omega arith in
    rw (← same) (line_place UpperRow n i j hi (omega arith) (omega arith))
has_place LowerRow n i j hi hj listed = let above = ltb-true j i listed in line_place LowerRow n i j hi (omega arith) (omega arith)
has_place UpperDiagRow n i j hi hj listed = let above = leb-true i j listed in line_place UpperDiagRow n i j hi (omega arith) (omega arith)
has_place LowerDiagRow n i j hi hj listed = let above = leb-true j i listed in line_place LowerDiagRow n i j hi (omega arith) (omega arith)
has_place UpperCol n i j hi hj listed = let above = ltb-true i j listed in line_place UpperCol n j i hj (omega arith) (omega arith)
has_place LowerCol n i j hi hj listed = let above = ltb-true j i listed in
    let same : i - (j + 1) ≡ i - j - 1 = omega arith in
    rw (← same) (line_place LowerCol n j i hj (omega arith) (omega arith))
has_place UpperDiagCol n i j hi hj listed = let above = leb-true i j listed in line_place UpperDiagCol n j i hj (omega arith) (omega arith)
has_place LowerDiagCol n i j hi hj listed = let above = leb-true j i listed in line_place LowerDiagCol n j i hj (omega arith) (omega arith)

pub placed : (layout : Layout) (n i j : ℕ) → IsNode n i → IsNode n j → IsTrue (is_listed layout (i, j))
    → place_of layout n (i, j) ≡ Some (place_by_table layout n i j)
placed layout n i j hi hj listed = (has_place layout n i j hi hj listed).0

pub place_within : (layout : Layout) (n i j : ℕ) → IsNode n i → IsNode n j → IsTrue (is_listed layout (i, j))
    → place_by_table layout n i j < length (cells layout n)
place_within layout n i j hi hj listed = (has_place layout n i j hi hj listed).1
