-- The pairs of a layout in the order of its cells, for the laws in src/layout.rt, and words that are found in a list,
-- for `value_of` in src/word.rt. Crates above import it, too.
use Rattle.std.proofs.Common.{◌≡◌, ℕ, Bool, List, [], ◌∷◌, ◌++◌, refl, ap, ◌∙◌, ◌≢◌, suc, zero, ◌+◌, ◌-◌, ◌<◌, true, false, cond, length, get_or, map, sym, subst, arith, min, ◌*◌, ◌/◌, ◌≤◌, Option, None, Some}
use Rattle.std.proofs.lemmas.Bool.Decides.{nat_tests}
use Rattle.std.proofs.lemmas.List.{length-map, get_or-map}
use Rattle.std.proofs.lemmas.List.Concat.{length-flat_map}
use Rattle.std.proofs.lemmas.List.Elements.{filter-append, All-nil, All-head, All-tail, All-append, All-map, All-filter, All-contains, filter_passes, Contains-append_left, Contains-append_right}
use Rattle.std.proofs.lemmas.List.FromFn.{length-range_with_len, get_or-range_with_len}
use Rattle.std.proofs.lemmas.List.Kept.{AllPairs-cons, AllPairs-filter}
use Rattle.std.proofs.lemmas.List.Sums.{sum_by-cons}
use Rattle.std.proofs.lemmas.Slice.Eq.{bytes_eq-Decides}
use Rattle.std.specs.List.{filter, flat_map, range_with_len, All, AllPairs, Contains, sum_by, find}
use Rattle.std.specs.Prelude.{◌↔◌, IsTrue, if◌then◌else◌, nat_lt, nat_le, IsNone}
use Rattle.std.specs.Str.{bytes_eq}
use Rattle.tsp_format.specs.Nodes.{nodes_to, is_listed, pairs_of_line, cells, cells_of_line, IsNode, goes_by_columns, cell_count_of, line_len_of}
use Rattle.tsp_format.specs.declared.layout.Layout.{Layout}
use Rattle.tsp_format.specs.declared.layout.Layout.TheVariants.{FullMatrix, UpperRow, LowerRow, UpperDiagRow, LowerDiagRow, UpperCol, LowerCol, UpperDiagCol, LowerDiagCol}

filter-flat_map : {X Y : Type 0} (p : Y → Bool) (f : X → List Y) (xs : List X)
    → filter p (flat_map f xs) ≡ flat_map (λ x. filter p (f x)) xs
filter-flat_map p f [] = refl
filter-flat_map p f (x ∷ xs) = filter-append p (f x) (flat_map f xs) ∙ ap (λ ys. filter p (f x) ++ ys) (filter-flat_map p f xs)

pub cells-lines : (layout : Layout) (n : ℕ) → cells layout n ≡ flat_map (cells_of_line layout n) (nodes_to n)
unfolding cells cells_of_line
cells-lines layout n = filter-flat_map (is_listed layout) (pairs_of_line layout n) (nodes_to n)

-- ---- which pairs are cells, and that no cell appears twice

-- ---- elements of lists

pub Contains-tail : {X : Type 0} (y : X) (ys : List X) (x : X) → Contains ys x → Contains (y ∷ ys) x
Contains-tail y ys x h = (suc h.0, omega (arith, h.1), h.2)

Contains-cond : {X : Type 0} (b : Bool) (y : X) (ys : List X) (x : X) → Contains ys x → Contains (cond b (y ∷ ys) ys) x
Contains-cond true y ys x h = Contains-tail y ys x h
Contains-cond false y ys x h = h

Contains-cond_head : {X : Type 0} (b : Bool) (y : X) (ys : List X) → b ≡ true → Contains (cond b (y ∷ ys) ys) y
Contains-cond_head true y ys e = (0, omega arith, refl)
Contains-cond_head false y ys e = absurd cc

-- an element at an index that passes is kept
kept_at : {X : Type 0} (p : X → Bool) (xs : List X) (x : X) (k : ℕ) → p x ≡ true → k < length xs → get_or xs k x ≡ x
    → Contains (filter p xs) x
kept_at p [] x k passes lt e = absurd (omega (arith, lt))
kept_at p (y ∷ ys) x zero passes lt e =
    let same : y ≡ x = e in
    subst (λ z. Contains (filter p (y ∷ ys)) z) same (Contains-cond_head (p y) y (filter p ys) (ap p same ∙ passes))
kept_at p (y ∷ ys) x (suc k) passes lt e = Contains-cond (p y) y (filter p ys) x (kept_at p ys x k passes (omega (arith, lt)) e)

joined_at : {X Y : Type 0} (f : X → List Y) (xs : List X) (x : X) (y : Y) (k : ℕ) → Contains (f x) y → k < length xs
    → get_or xs k x ≡ x → Contains (flat_map f xs) y
joined_at f [] x y k h lt e = absurd (omega (arith, lt))
joined_at f (z ∷ zs) x y zero h lt e =
    let same : x ≡ z = sym e in
    Contains-append_left (f z) (flat_map f zs) y (subst (λ w. Contains (f w) y) same h)
joined_at f (z ∷ zs) x y (suc k) h lt e =
    Contains-append_right (f z) (flat_map f zs) y (joined_at f zs x y k h (omega (arith, lt)) e)

Contains-map : {X Y : Type 0} (f : X → Y) (xs : List X) (x : X) → Contains xs x → Contains (map f xs) (f x)
Contains-map f xs x h = (h.0, omega (arith, h.1, length-map xs f), get_or-map f xs h.0 x (f x) h.1 ∙ ap f h.2)

All-flat_map : {X Y : Type 0} (P : Y → Type 0) (Q : X → Type 0) (f : X → List Y) → ((x : X) → Q x → All P (f x)) → (xs : List X)
    → All Q xs → All P (flat_map f xs)
All-flat_map P Q f each [] all = All-nil P
All-flat_map P Q f each (x ∷ xs) all =
    All-append P (f x) (flat_map f xs) (each x (All-head Q x xs all)) (All-flat_map P Q f each xs (All-tail Q x xs all))

-- ---- the nodes

pub all_nodes : (n : ℕ) → All (IsNode n) (nodes_to n)
unfolding nodes_to
all_nodes n = λ k d lt.
    let short : k < n = omega (arith, lt, length-range_with_len 1 n) in
    let at : get_or (range_with_len 1 n) k d ≡ 1 + k = get_or-range_with_len 1 n k d short in
    (omega (arith, at), omega (arith, at))

node_stands : (n i : ℕ) → IsNode n i → Contains (nodes_to n) i
unfolding nodes_to
node_stands n i h =
    let short : i - 1 < n = omega (arith, h.0, h.1) in
    let at : get_or (range_with_len 1 n) (i - 1) i ≡ 1 + (i - 1) = get_or-range_with_len 1 n (i - 1) i short in
    (i - 1, omega (arith, short, length-range_with_len 1 n), omega (arith, at, h.0))

-- ---- the pairs

abbrev IsPair : ℕ → ℕ × ℕ → Type 0
IsPair n c = IsNode n c.0 × IsNode n c.1

-- all pairs, by columns or by rows
abbrev line : Bool → ℕ → ℕ → List (ℕ × ℕ)
line order n k = map (λ m. if order then (m, k) else (k, m)) (nodes_to n)

abbrev pairs : Bool → ℕ → List (ℕ × ℕ)
pairs order n = flat_map (line order n) (nodes_to n)

all_pairs : (order : Bool) (n : ℕ) → All (IsPair n) (pairs order n)
all_pairs order n = All-flat_map (IsPair n) (IsNode n) (line order n) (each order) (nodes_to n) (all_nodes n)
  where
    each : (by_columns : Bool) (k : ℕ) → IsNode n k → All (IsPair n) (line by_columns n k)
    each true k node = All-map (IsPair n) (λ m. (m, k)) (nodes_to n) (λ i d lt. (all_nodes n i d lt, node))
    each false k node = All-map (IsPair n) (λ m. (k, m)) (nodes_to n) (λ i d lt. (node, all_nodes n i d lt))

pair_stands : (order : Bool) (n i j : ℕ) → IsNode n i → IsNode n j → Contains (pairs order n) (i, j)
pair_stands true n i j hi hj =
    let stands = node_stands n j hj in
    let inside = Contains-map (λ m. (m, j)) (nodes_to n) i (node_stands n i hi) in
    joined_at (line true n) (nodes_to n) j (i, j) stands.0 inside stands.1 stands.2
pair_stands false n i j hi hj =
    let stands = node_stands n i hi in
    let inside = Contains-map (λ m. (i, m)) (nodes_to n) j (node_stands n j hj) in
    joined_at (line false n) (nodes_to n) i (i, j) stands.0 inside stands.1 stands.2

pub cell_is : (layout : Layout) (n i j : ℕ)
    → Contains (cells layout n) (i, j) ↔ (IsNode n i × IsNode n j × IsTrue (is_listed layout (i, j)))
unfolding cells
cell_is layout n i j = (
  λ h.
      let in_range : IsPair n (i, j) = All-contains (IsPair n) (cells layout n) (i, j)
      (All-filter (is_listed layout) (IsPair n) (pairs (goes_by_columns layout) n) (all_pairs (goes_by_columns layout) n)) h in
      let passes : is_listed layout (i, j) ≡ true = All-contains (λ c. is_listed layout c ≡ true) (cells layout n) (i, j) (filter_passes (is_listed layout) (pairs (goes_by_columns layout) n)) h in
      (in_range.0, in_range.1, passes),
  λ h.
      let stands = pair_stands (goes_by_columns layout) n i j h.0 h.1 in
      kept_at (is_listed layout) (pairs (goes_by_columns layout) n) (i, j) stands.0 h.2 stands.1 stands.2,
)

-- ---- no cell appears twice

abbrev Differ : {X : Type 0} → X → X → Type 0
Differ a b = a ≢ b

AllPairs-head : {X : Type 0} (R : X → X → Type 0) (x : X) (xs : List X) → AllPairs R (x ∷ xs) → All (R x) xs
AllPairs-head R x xs h = λ k d lt. h 0 (suc k) d (omega arith) (omega (arith, lt))

AllPairs-tail : {X : Type 0} (R : X → X → Type 0) (x : X) (xs : List X) → AllPairs R (x ∷ xs) → AllPairs R xs
AllPairs-tail R x xs h = λ i j d lt within. h (suc i) (suc j) d (omega (arith, lt)) (omega (arith, within))

AllPairs-append : {X : Type 0} (R : X → X → Type 0) (xs ys : List X) → AllPairs R xs → AllPairs R ys → All (λ x. All (R x) ys) xs
    → AllPairs R (xs ++ ys)
AllPairs-append R [] ys first second across = second
AllPairs-append R (x ∷ xs) ys first second across =
    AllPairs-cons R x (xs ++ ys)
    (All-append (R x) xs ys (AllPairs-head R x xs first) (All-head (λ z. All (R z) ys) x xs across))
    (AllPairs-append R xs ys (AllPairs-tail R x xs first) second (All-tail (λ z. All (R z) ys) x xs across))

AllPairs-nil : {X : Type 0} (R : X → X → Type 0) → AllPairs R []
AllPairs-nil R = λ i j d lt within. absurd (omega (arith, within))

-- numbers of a run differ after f, as `back` undoes f
run_differs : {Y : Type 0} (f : ℕ → Y) (back : Y → ℕ) → ((m : ℕ) → back (f m) ≡ m) → (a n : ℕ)
    → AllPairs Differ (map f (range_with_len a n))
run_differs {Y = Y} f back undoes a n = λ i j d lt within.
    let short : j < n = omega (arith, within, length-map (range_with_len a n) f, length-range_with_len a n) in
    let at_i = place i d (omega (arith, lt, short)) in
    let at_j = place j d short in
    λ same. let numbers : a + i ≡ a + j = sym at_i ∙ ap back same ∙ at_j in omega (arith, numbers, lt)
  where
    place : (k : ℕ) (d : Y) → k < n → back (get_or (map f (range_with_len a n)) k d) ≡ a + k
    place k d lt =
        let inside : k < length (range_with_len a n) = omega (arith, lt, length-range_with_len a n) in
        ap back (get_or-map f (range_with_len a n) k 0 d inside) ∙ undoes (get_or (range_with_len a n) k 0) ∙ get_or-range_with_len a n k 0 lt

-- The lines are distinguished by `line`, and the places of one line by `place`.
lines_differ : (f : ℕ → ℕ → ℕ × ℕ) (line place : ℕ × ℕ → ℕ) → ((k m : ℕ) → line (f k m) ≡ k) → ((k m : ℕ) → place (f k m) ≡ m)
    → (c n a m : ℕ) → AllPairs Differ (flat_map (λ k. map (f k) (range_with_len c n)) (range_with_len a m))
lines_differ f line place line_is place_is c n a zero = AllPairs-nil Differ
lines_differ f line place line_is place_is c n a (suc m) =
    AllPairs-append Differ (map (f a) (range_with_len c n)) (flat_map (λ k. map (f k) (range_with_len c n)) (range_with_len (a + 1) m))
    (run_differs (f a) place (place_is a) c n)
    (lines_differ f line place line_is place_is c n (a + 1) m)
    (All-map (λ x. All (Differ x) (flat_map (λ k. map (f k) (range_with_len c n)) (range_with_len (a + 1) m))) (f a) (range_with_len c n) (λ i d lt. across (get_or (range_with_len c n) i d)))
  where
    later : All (λ k. a < k) (range_with_len (a + 1) m)
    later = λ k d lt.
        let short : k < m = omega (arith, lt, length-range_with_len (a + 1) m) in
        omega (arith, get_or-range_with_len (a + 1) m k d short)

    across : (i : ℕ) → All (Differ (f a i)) (flat_map (λ k. map (f k) (range_with_len c n)) (range_with_len (a + 1) m))
    across i = All-flat_map (Differ (f a i)) (λ k. a < k) (λ k. map (f k) (range_with_len c n))
        (λ k above. All-map (Differ (f a i)) (f k) (range_with_len c n) (λ at d lt same.
        let numbers : a ≡ k = sym (line_is a i) ∙ ap line same ∙ line_is k (get_or (range_with_len c n) at d) in omega (arith, numbers, above)))
        (range_with_len (a + 1) m) later

pairs_differ : (order : Bool) (n : ℕ) → AllPairs Differ (pairs order n)
unfolding nodes_to
pairs_differ true n = lines_differ (λ j i. (i, j)) (λ c. c.1) (λ c. c.0) (λ j i. refl) (λ j i. refl) 1 n 1 n
pairs_differ false n = lines_differ (λ i j. (i, j)) (λ c. c.0) (λ c. c.1) (λ i j. refl) (λ i j. refl) 1 n 1 n

pub cells_differ : (layout : Layout) (n : ℕ) → AllPairs (λ a b. a ≢ b) (cells layout n)
unfolding cells
cells_differ layout n =
    AllPairs-filter (λ a b. a ≢ b) (is_listed layout) (pairs (goes_by_columns layout) n) (pairs_differ (goes_by_columns layout) n)

-- ---- how many cells a line has, and how many there are in all

-- ---- how many of a run of numbers pass a test

one_more : {X : Type 0} (b : Bool) (x : X) (xs : List X) → length (cond b (x ∷ xs) xs) ≡ cond b 1 0 + length xs
one_more true x xs = omega arith
one_more false x xs = omega arith

alike : {X Y : Type 0} (b : Bool) (x : X) (xs : List X) (y : Y) (ys : List Y) → length xs ≡ length ys
    → length (cond b (x ∷ xs) xs) ≡ length (cond b (y ∷ ys) ys)
alike true x xs y ys e = ap suc e
alike false x xs y ys e = e

length-filter-map : {X Y : Type 0} (p : Y → Bool) (f : X → Y) (xs : List X)
    → length (filter p (map f xs)) ≡ length (filter (λ x. p (f x)) xs)
length-filter-map p f [] = refl
length-filter-map p f (x ∷ xs) =
    alike (p (f x)) (f x) (filter p (map f xs)) x (filter (λ y. p (f y)) xs) (length-filter-map p f xs)

above_step : (k a n count : ℕ) → count ≡ n - (k - (a + 1)) → cond (nat_le k a) 1 0 + count ≡ suc n - (k - a)
above_step k a n count e = grind (arith, nat_tests)

-- of n numbers from a on, those from k on
above : (k a n : ℕ) → length (filter (λ m. nat_le k m) (range_with_len a n)) ≡ n - (k - a)
above k a zero = omega arith
above k a (suc n) = one_more (nat_le k a) a (filter (λ m. nat_le k m) (range_with_len (a + 1) n))
    ∙ above_step k a n (length (filter (λ m. nat_le k m) (range_with_len (a + 1) n))) (above k (a + 1) n)

below_step : (k a n count : ℕ) → count ≡ min n (k - (a + 1)) → cond (nat_lt a k) 1 0 + count ≡ min (suc n) (k - a)
below_step k a n count e = grind (arith, nat_tests)

-- of n numbers from a on, those below k
below : (k a n : ℕ) → length (filter (λ m. nat_lt m k) (range_with_len a n)) ≡ min n (k - a)
below k a zero = omega arith
below k a (suc n) = one_more (nat_lt a k) a (filter (λ m. nat_lt m k) (range_with_len (a + 1) n))
    ∙ below_step k a n (length (filter (λ m. nat_lt m k) (range_with_len (a + 1) n))) (below k (a + 1) n)

upto_step : (k a n count : ℕ) → count ≡ min n (suc k - (a + 1)) → cond (nat_le a k) 1 0 + count ≡ min (suc n) (suc k - a)
upto_step k a n count e = grind (arith, nat_tests)

-- of n numbers from a on, those up to k
upto : (k a n : ℕ) → length (filter (λ m. nat_le m k) (range_with_len a n)) ≡ min n (suc k - a)
upto k a zero = omega arith
upto k a (suc n) = one_more (nat_le a k) a (filter (λ m. nat_le m k) (range_with_len (a + 1) n))
    ∙ upto_step k a n (length (filter (λ m. nat_le m k) (range_with_len (a + 1) n))) (upto k (a + 1) n)

all_pass : {X : Type 0} (xs : List X) → length (filter (λ x. true) xs) ≡ length xs
all_pass [] = refl
all_pass (x ∷ xs) = ap suc (all_pass xs)

-- ---- lines

pub line_counted : (layout : Layout) (n k : ℕ) → 1 ≤ k → k ≤ n → length (cells_of_line layout n k) ≡ line_len_of layout n k
unfolding cells_of_line nodes_to
line_counted FullMatrix n k low high =
    length-filter-map (is_listed FullMatrix) (λ j. (k, j)) (range_with_len 1 n) ∙ all_pass (range_with_len 1 n) ∙ length-range_with_len 1 n
line_counted UpperRow n k low high =
    length-filter-map (is_listed UpperRow) (λ j. (k, j)) (range_with_len 1 n) ∙ above (suc k) 1 n ∙ omega arith
line_counted LowerRow n k low high =
    length-filter-map (is_listed LowerRow) (λ j. (k, j)) (range_with_len 1 n) ∙ below k 1 n ∙ omega arith
line_counted UpperDiagRow n k low high =
    length-filter-map (is_listed UpperDiagRow) (λ j. (k, j)) (range_with_len 1 n) ∙ above k 1 n ∙ omega arith
line_counted LowerDiagRow n k low high =
    length-filter-map (is_listed LowerDiagRow) (λ j. (k, j)) (range_with_len 1 n) ∙ upto k 1 n ∙ omega arith
line_counted UpperCol n k low high =
    length-filter-map (is_listed UpperCol) (λ i. (i, k)) (range_with_len 1 n) ∙ below k 1 n ∙ omega arith
line_counted LowerCol n k low high =
    length-filter-map (is_listed LowerCol) (λ i. (i, k)) (range_with_len 1 n) ∙ above (suc k) 1 n ∙ omega arith
line_counted UpperDiagCol n k low high =
    length-filter-map (is_listed UpperDiagCol) (λ i. (i, k)) (range_with_len 1 n) ∙ upto k 1 n ∙ omega arith
line_counted LowerDiagCol n k low high =
    length-filter-map (is_listed LowerDiagCol) (λ i. (i, k)) (range_with_len 1 n) ∙ above k 1 n ∙ omega arith

-- ---- sums over a run of numbers

sum_alike : (f g : ℕ → ℕ) (a m : ℕ) → ((k : ℕ) → a ≤ k → k < a + m → f k ≡ g k)
    → sum_by f (range_with_len a m) ≡ sum_by g (range_with_len a m)
sum_alike f g a zero same = refl
sum_alike f g a (suc m) same =
    let first : f a ≡ g a = same a (omega arith) (omega arith) in
    let rest : sum_by f (range_with_len (a + 1) m) ≡ sum_by g (range_with_len (a + 1) m) = sum_alike f g (a + 1) m (λ k low high. same k (omega arith) (omega arith)) in
    omega (arith, sum_by-cons f a (range_with_len (a + 1) m), sum_by-cons g a (range_with_len (a + 1) m))

sum_level : (n a m : ℕ) → sum_by (λ k. n) (range_with_len a m) ≡ m * n
sum_level n a zero = omega arith
sum_level n a (suc m) = let rest = sum_level n (a + 1) m in omega (arith, rest, sum_by-cons (λ k. n) a (range_with_len (a + 1) m))

-- n - a, .., 1, 0
sum_down : (n a m : ℕ) → a + m ≡ n + 1 → 2 * sum_by (λ k. n - k) (range_with_len a m) + m ≡ m * m
sum_down n a zero e = omega arith
sum_down n a (suc m) e =
    let rest = sum_down n (a + 1) m (omega arith) in
    let first : n - a ≡ m = omega arith in
    omega (arith, rest, first, sum_by-cons (λ k. n - k) a (range_with_len (a + 1) m))

-- n - a + 1, .., 2, 1
sum_down_to_one : (n a m : ℕ) → a + m ≡ n + 1 → 2 * sum_by (λ k. n - k + 1) (range_with_len a m) ≡ m * m + m
sum_down_to_one n a zero e = omega arith
sum_down_to_one n a (suc m) e =
    let rest = sum_down_to_one n (a + 1) m (omega arith) in
    let first : n - a + 1 ≡ suc m = omega arith in
    omega (arith, rest, first, sum_by-cons (λ k. n - k + 1) a (range_with_len (a + 1) m))

-- a - 1, a, ..
sum_up : (a m : ℕ) → 1 ≤ a → 2 * sum_by (λ k. k - 1) (range_with_len a m) + 3 * m ≡ m * (2 * a + m)
sum_up a zero low = omega arith
sum_up a (suc m) low =
    let rest = sum_up (a + 1) m (omega arith) in
    let first : a - 1 + 1 ≡ a = omega arith in
    omega (arith, rest, first, sum_by-cons (λ k. k - 1) a (range_with_len (a + 1) m))

-- a, a + 1, ..
sum_up_from : (a m : ℕ) → 2 * sum_by (λ k. k) (range_with_len a m) + m ≡ m * (2 * a + m)
sum_up_from a zero = omega arith
sum_up_from a (suc m) = let rest = sum_up_from (a + 1) m in omega (arith, rest, sum_by-cons (λ k. k) a (range_with_len (a + 1) m))

half_without : (n sum : ℕ) → 2 * sum + n ≡ n * n → sum ≡ n * (n - 1) / 2
half_without n sum e = by_cases n e
  where
    by_cases : (n : ℕ) → 2 * sum + n ≡ n * n → sum ≡ n * (n - 1) / 2
    by_cases zero e = omega arith
    by_cases (suc m) e = let less : suc m - 1 ≡ m = omega arith in rw less (omega arith)

half_with : (n sum : ℕ) → 2 * sum ≡ n * n + n → sum ≡ n * (n + 1) / 2
half_with n sum e = omega arith

-- ---- all cells

-- the numbers of cells of all lines sum to that of the layout
total : (layout : Layout) (n : ℕ) → sum_by (line_len_of layout n) (range_with_len 1 n) ≡ cell_count_of layout n
total FullMatrix n = sum_level n 1 n
total UpperRow n = half_without n _ (sum_down n 1 n (omega arith))
total LowerRow n = half_without n _ (let all = sum_up 1 n (omega arith) in omega (arith, all))
total UpperDiagRow n = half_with n _ (sum_down_to_one n 1 n (omega arith))
total LowerDiagRow n = half_with n _ (let all = sum_up_from 1 n in omega (arith, all))
total UpperCol n = half_without n _ (let all = sum_up 1 n (omega arith) in omega (arith, all))
total LowerCol n = half_without n _ (sum_down n 1 n (omega arith))
total UpperDiagCol n = half_with n _ (let all = sum_up_from 1 n in omega (arith, all))
total LowerDiagCol n = half_with n _ (sum_down_to_one n 1 n (omega arith))

pub cells_counted : (layout : Layout) (n : ℕ) → length (cells layout n) ≡ cell_count_of layout n
unfolding nodes_to
cells_counted layout n = ap length (cells-lines layout n)
    ∙ length-flat_map (cells_of_line layout n) (range_with_len 1 n)
    ∙ sum_alike (λ k. length (cells_of_line layout n k)) (line_len_of layout n) 1 n (λ k low high. line_counted layout n k low (omega arith))
    ∙ total layout n

-- ---- the value with a word, found in the list of all values

passes_at : {X : Type 0} (b : Bool) (test : X → Bool) (x found : X) (rest : Option X) → test x ≡ b
    → (rest ≡ Some found → test found ≡ true) → cond b (Some x) rest ≡ Some found → test found ≡ true
passes_at true test x found rest e later h = let same : x ≡ found = cc in subst (λ y. test y ≡ true) same e
passes_at false test x found rest e later h = later h

-- the value that is found passes the test
pub found_passes : {X : Type 0} (test : X → Bool) (xs : List X) (found : X) → find test xs ≡ Some found → test found ≡ true
found_passes test [] found h = absurd cc
found_passes test (x ∷ xs) found h = passes_at (test x) test x found (find test xs) refl (found_passes test xs found) h

-- If each value is found by its own word, the one that is found is the one with the word.
pub found_is_known : {V : Type 0} (text : V → List ℕ) (values : List V)
    → ((value : V) → find (λ other. bytes_eq (text value) (text other)) values ≡ Some value)
    → (word : List ℕ) (found : Option V) → found ≡ find (λ value. bytes_eq word (text value)) values → (value : V)
    → (found ≡ Some value) ↔ (word ≡ text value)
found_is_known text values each word found e value = (
  λ h. (bytes_eq-Decides word (text value)).0 (found_passes (λ v. bytes_eq word (text v)) values value (sym e ∙ h)),
  λ same. e ∙ subst (λ w. find (λ v. bytes_eq w (text v)) values ≡ Some value) (sym same) (each value),
)

none_has : {V : Type 0} (text : V → List ℕ) (word : List ℕ) (found : Option V)
    → ((value : V) → (found ≡ Some value) ↔ (word ≡ text value)) → IsNone found ↔ ((value : V) → word ≢ text value)
none_has text word None known = ((λ none value same. let h = (known value).1 same in absurd cc), λ h. refl)
none_has text word (Some v) known = ((λ h. absurd cc), (λ h. absurd (h v ((known v).0 refl))))

-- and none is found if no value has it
pub none_is_unknown : {V : Type 0} (text : V → List ℕ) (values : List V)
    → ((value : V) → find (λ other. bytes_eq (text value) (text other)) values ≡ Some value)
    → (word : List ℕ) (found : Option V) → found ≡ find (λ value. bytes_eq word (text value)) values
    → IsNone found ↔ ((value : V) → word ≢ text value)
none_is_unknown text values each word found e = none_has text word found (found_is_known text values each word found e)
