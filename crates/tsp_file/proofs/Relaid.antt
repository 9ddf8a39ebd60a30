-- Weights listed in one layout, and the same costs listed in another, for src/relayout.rt and the searches in
-- src/typed.rt. tsp_cost imports it, too.
use Rattle.tsp_file.proofs.Prelude.{◌≡◌, ◌≢◌, ℕ, ◌<◌, false, List, [], length, Option, Some, None, refl, sym, ap, ◌∙◌, inl, inr, ⊎_elim, arith, to_z, of_z, ◌+◌, ◌-◌, ◌≤◌, Bool, true, ◌∷◌, ◌++◌, map, take, subst, cases_lt, le-ltb, lt-leb, false≢true, le-leb, ints, take_more, take_all, append_assoc, map-append, length-map, get_or-map, get_or_past, get_or_default, flat_map_more, ext_get_or, w64, Contains, All, flat_map, option_map, option_or, nat_lt, nat_le, unwrap_or, slice_index_or, ◌⊎◌, ◌↔◌, IsTrue, ℤ, pos, is_some, slice_index_or as get_or, cells-lines, cell_is, most_weight, IsNode, is_listed, cells, nodes_to, cells_of_line, place_of, place_by_table, IsSymmetric, WeightFormat, ByFunction, Listed, Layout, FullMatrix, UpperRow, LowerRow, UpperDiagRow, LowerDiagRow, UpperCol, LowerCol, UpperDiagCol, LowerDiagCol}
use Rattle.std.proofs.lemmas.Bool.Decides.{nat_tests}
use Rattle.std.proofs.lemmas.List.Elements.{All-map}
use Rattle.std.proofs.lemmas.List.FromFn.{length-range_with_len, get_or-range_with_len}
use Rattle.tsp_format.proofs.Places.{placed, place_within, place_from, stands_at, no_place}
use Rattle.tsp_format.specs.declared.kinds.WeightKind.TheVariants.{Explicit}
use Rattle.tsp_file.specs.Cost.{weight_at, listed_cost, cost_by, cost, layout_of, ListsWeights, UnlistedHaveNoPlace}
use Rattle.tsp_file.specs.Fields.{Fields, nodes_of}
use Rattle.tsp_file.specs.Relayout.{HoldsPairs, HoldsDiagonal, lists_diagonal, HasListedWeights, with_weights, costs_in, CanGo, IsRelaid}
use Rattle.tsp_file.specs.Valid.{IsWithin, IsInRange}

-- the cost of a cell is the weight at its place
pub cost_of_cell : (layout : Layout) (n : ℕ) (weights : List ℤ) (i j place : ℕ) → place_of layout n (i, j) ≡ Some place
    → listed_cost layout n weights i j ≡ slice_index_or weights place (pos 0)
unfolding listed_cost
cost_of_cell layout n weights i j place here =
    ap (λ o. unwrap_or (option_or (option_map (λ at. slice_index_or weights at (pos 0)) o) (weight_at layout n weights (j, i)))
    (pos 0)) here

-- the cost of another pair is that of the mirrored pair
pub cost_mirrored : (layout : Layout) (n : ℕ) (weights : List ℤ) (i j place : ℕ) → place_of layout n (i, j) ≡ None
    → place_of layout n (j, i) ≡ Some place
    → listed_cost layout n weights i j ≡ slice_index_or weights place (pos 0)
unfolding listed_cost
cost_mirrored layout n weights i j place out there =
    ap (λ o. unwrap_or (option_or (option_map (λ at. slice_index_or weights at (pos 0)) o) (weight_at layout n weights (j, i)))
    (pos 0)) out
    ∙ ap (λ o. unwrap_or (option_map (λ at. slice_index_or weights at (pos 0)) o) (pos 0)) there

pub cost_unlisted : (layout : Layout) (n : ℕ) (weights : List ℤ) (i j : ℕ) → place_of layout n (i, j) ≡ None
    → place_of layout n (j, i) ≡ None → listed_cost layout n weights i j ≡ pos 0
unfolding listed_cost
cost_unlisted layout n weights i j out too =
    ap (λ o. unwrap_or (option_or (option_map (λ at. slice_index_or weights at (pos 0)) o) (weight_at layout n weights (j, i)))
    (pos 0)) out
    ∙ ap (λ o. unwrap_or (option_map (λ at. slice_index_or weights at (pos 0)) o) (pos 0)) too

-- ---- a weight in 64 bits

pub weight_read : (weight : ℤ) → IsWithin most_weight weight → to_z w64 (of_z w64 weight) ≡ weight
weight_read weight size = omega (arith, ints, size.0, size.1)

-- ---- triangles

-- of two pairs that mirror each other a triangle lists one at most
not_both : (i j : ℕ) → (nat_lt i j ≡ false) ⊎ (nat_lt j i ≡ false)
not_both i j = ⊎_elim (λ lt. inr (le-ltb j i (omega arith))) (λ le. inl (le-ltb i j le)) (cases_lt i j)

not_both_of : (i j : ℕ) → i ≢ j → (nat_le i j ≡ false) ⊎ (nat_le j i ≡ false)
not_both_of i j other = ⊎_elim (λ lt. inr (lt-leb j i lt)) (λ le. inl (lt-leb i j (omega (arith, other)))) (cases_lt i j)

one_half : (layout : Layout) (i j : ℕ) → layout ≢ FullMatrix → i ≢ j
    → (is_listed layout (i, j) ≡ false) ⊎ (is_listed layout (j, i) ≡ false)
one_half FullMatrix i j half other = absurd (half refl)
one_half UpperRow i j half other = not_both i j
one_half LowerRow i j half other = not_both j i
one_half UpperDiagRow i j half other = not_both_of i j other
one_half LowerDiagRow i j half other = not_both_of j i (λ same. other (sym same))
one_half UpperCol i j half other = not_both i j
one_half LowerCol i j half other = not_both j i
one_half UpperDiagCol i j half other = not_both_of i j other
one_half LowerDiagCol i j half other = not_both_of j i (λ same. other (sym same))

-- a diagonal that isn't listed
pub diagonal_unlisted : (layout : Layout) (i : ℕ) → is_listed layout (1, 1) ≡ false → is_listed layout (i, i) ≡ false
diagonal_unlisted FullMatrix i e = e
diagonal_unlisted UpperRow i e = le-ltb i i (omega arith)
diagonal_unlisted LowerRow i e = le-ltb i i (omega arith)
diagonal_unlisted UpperDiagRow i e = absurd (false≢true (sym e))
diagonal_unlisted LowerDiagRow i e = absurd (false≢true (sym e))
diagonal_unlisted UpperCol i e = le-ltb i i (omega arith)
diagonal_unlisted LowerCol i e = le-ltb i i (omega arith)
diagonal_unlisted UpperDiagCol i e = absurd (false≢true (sym e))
diagonal_unlisted LowerDiagCol i e = absurd (false≢true (sym e))

-- symmetric costs of a pair or of the mirrored one
pub turned : (cost : ℕ → ℕ → ℤ) → IsSymmetric cost → (i j : ℕ) → cost j i ≡ cost i j
turned cost even i j = ⊎_elim
    (λ below. even j i (λ same. absurd (omega (arith, below, same))))
    (λ le. ⊎_elim (λ above. even j i (λ same. absurd (omega (arith, above, same))))
    (λ ge. let same : i ≡ j = omega (arith, le, ge) in ap (λ k. cost k i) (sym same) ∙ ap (λ k. cost i k) same) (cases_lt j i))
    (cases_lt i j)

pub either_way : (cost : ℕ → ℕ → ℤ) → IsSymmetric cost → (i j : ℕ) (pair : ℕ × ℕ) → (pair ≡ (i, j)) ⊎ (pair ≡ (j, i))
    → cost pair.0 pair.1 ≡ cost i j
either_way cost even i j pair one =
    ⊎_elim (λ e. ap (λ p. cost p.0 p.1) e) (λ e. ap (λ p. cost p.0 p.1) e ∙ turned cost even i j) one

swapped : (a b : Option ℤ) → (a ≡ None) ⊎ (b ≡ None) → unwrap_or (option_or a b) (pos 0) ≡ unwrap_or (option_or b a) (pos 0)
swapped None None one = refl
swapped None (Some b) one = refl
swapped (Some a) None one = refl
swapped (Some a) (Some b) one = ⊎_elim (λ e. absurd cc) (λ e. absurd cc) one

no_weight : (layout : Layout) (n : ℕ) (weights : List ℤ) (i j : ℕ) → place_of layout n (i, j) ≡ None
    → weight_at layout n weights (i, j) ≡ None
no_weight layout n weights i j out = ap (option_map (λ at. slice_index_or weights at (pos 0))) out

pub triangle_even : (layout : Layout) (n : ℕ) (weights : List ℤ) → layout ≢ FullMatrix → UnlistedHaveNoPlace layout n
    → IsSymmetric (listed_cost layout n weights)
unfolding listed_cost
triangle_even layout n weights half unlisted i j other =
    swapped (weight_at layout n weights (i, j)) (weight_at layout n weights (j, i))
    (⊎_elim (λ out. inl (no_weight layout n weights i j (unlisted i j out)))
    (λ out. inr (no_weight layout n weights j i (unlisted j i out))) (one_half layout i j half other))

-- ---- numbers that are nodes, and others

node_or_not : (n i : ℕ) → (¬ IsNode n i) ⊎ IsNode n i
node_or_not n i = ⊎_elim (λ lt. inl (λ h. absurd (omega (arith, h.0))))
    (λ low. ⊎_elim (λ past. inl (λ h. absurd (omega (arith, h.1)))) (λ high. inr (low, high)) (cases_lt n i))
    (cases_lt i 1)

pub nodes_or_not : (n i j : ℕ) → (¬ (IsNode n i × IsNode n j)) ⊎ (IsNode n i × IsNode n j)
nodes_or_not n i j = ⊎_elim (λ out. inl (λ h. out h.0))
    (λ here. ⊎_elim (λ out. inl (λ h. out h.1)) (λ there. inr (here, there)) (node_or_not n j))
    (node_or_not n i)

-- costs are symmetric if those between nodes are
pub even_between_nodes : (layout : Layout) (n : ℕ) (weights : List ℤ)
    → ((i j : ℕ) → ¬ (IsNode n i × IsNode n j) → place_of layout n (i, j) ≡ None)
    → ((i j : ℕ) → IsNode n i → IsNode n j → i < j → listed_cost layout n weights i j ≡ listed_cost layout n weights j i)
    → IsSymmetric (listed_cost layout n weights)
even_between_nodes layout n weights out inside i j other = ⊎_elim
    (λ outside. cost_unlisted layout n weights i j (out i j outside) (out j i (λ nodes. outside (nodes.1, nodes.0)))
    ∙ sym (cost_unlisted layout n weights j i (out j i (λ nodes. outside (nodes.1, nodes.0))) (out i j outside)))
    (λ nodes. ⊎_elim (λ lt. inside i j nodes.0 nodes.1 lt) (λ le. sym (inside j i nodes.1 nodes.0 (omega (arith, other))))
    (cases_lt i j))
    (nodes_or_not n i j)

-- ---- pairs that are no cells

-- the laws of layouts
abbrev pub CellsAreListed : Type 0
CellsAreListed =
    (layout : Layout) (n i j : ℕ)
    → Contains (cells layout n) (i, j) ↔ (IsNode n i × IsNode n j × IsTrue (is_listed layout (i, j)))

abbrev pub OnlyCellsHavePlaces : Type 0
OnlyCellsHavePlaces = (layout : Layout) (n : ℕ) (pair : ℕ × ℕ) → ¬ Contains (cells layout n) pair → place_of layout n pair ≡ None

pub unlisted_has_no_place : CellsAreListed → OnlyCellsHavePlaces → (layout : Layout) (n : ℕ) → UnlistedHaveNoPlace layout n
unlisted_has_no_place listed places layout n i j out =
    places layout n (i, j) (λ h. false≢true (sym out ∙ ((listed layout n i j).0 h).2))

pub outside_has_no_place : CellsAreListed → OnlyCellsHavePlaces → (layout : Layout) (n i j : ℕ) → ¬ (IsNode n i × IsNode n j)
    → place_of layout n (i, j) ≡ None
outside_has_no_place listed places layout n i j out =
    places layout n (i, j) (λ h. let cell = (listed layout n i j).0 h in out (cell.0, cell.1))

-- ---- the weights that a file lists

-- a valid file lists as many weights as its layout has cells
pub lists : (f : Fields) (layout : Layout) (n : ℕ) (weights : List ℤ) → IsInRange f → f.weight_format ≡ Some (Listed layout)
    → f.dimension ≡ Some n
    → f.weights ≡ Some weights → ListsWeights f layout n weights
lists f layout n weights range format dimension stand =
    let held = range.weights weights stand in
    let same_n : held.n ≡ n = cc in
    let same_layout : held.layout ≡ layout = cc in
    record {
      format = format;
      dimension = dimension;
      weights_are = stand;
      some = (range.dimension n dimension).0;
      most = omega (arith, held.few_nodes);
      filled = held.count ∙ ap (λ l. length (cells l held.n)) same_layout ∙ ap (λ m. length (cells layout m)) same_n;
      sizes = held.sizes;
    }

-- the cost of a file is that of its weights
pub cost_of_listed : (f : Fields) (layout : Layout) (n : ℕ) (weights : List ℤ) → f.weight_kind ≡ Some Explicit
    → ListsWeights f layout n weights → (i j : ℕ) → listed_cost layout n weights i j ≡ cost f i j
unfolding cost
cost_of_listed f layout n weights kind held i j = sym (
    ap (λ k. cost_by k f i j) kind
    ∙ ap (λ o. listed_cost (layout_of o) (unwrap_or f.dimension 0) (unwrap_or f.weights []) i j) held.format
    ∙ ap (λ o. listed_cost layout (unwrap_or o 0) (unwrap_or f.weights []) i j) held.dimension
    ∙ ap (λ o. listed_cost layout n (unwrap_or o []) i j) held.weights_are)

-- a layout isn't FUNCTION, and isn't missing
pub not_by_function : (o : Option WeightFormat) (layout : Layout) → o ≡ Some (Listed layout) → o ≡ Some ByFunction → ⊥
not_by_function o layout listed function = cc

pub not_missing : {A : Type 0} (o : Option A) (x : A) → o ≡ Some x → o ≡ None → ⊥
not_missing o x there none = cc

pub same_layout : (o : Option WeightFormat) (a b : Layout) → o ≡ Some (Listed a) → o ≡ Some (Listed b) → a ≡ b
same_layout o a b first second = cc

-- ---- the weights of a file, listed anew in another layout, have the same costs

-- ---- the loops over cells and lines

-- one cell more
pub cell_more : {X Y : Type 0} (f : X → Y) (xs : List X) (before items : List Y) (k : ℕ) (x : X) (y : Y) → k < length xs
    → get_or xs k x ≡ x → y ≡ f x
    → items ≡ before ++ map f (take k xs) → items ++ y ∷ [] ≡ before ++ map f (take (k + 1) xs)
cell_more f xs before items k x y lt here value so_far =
    let step : map f (take (k + 1) xs) ≡ map f (take k xs) ++ y ∷ [] =
    ap (map f) (take_more xs k x lt ∙ ap (λ z. take k xs ++ z ∷ []) here) ∙ map-append f (take k xs) (x ∷ [])
    ∙ ap (λ z. map f (take k xs) ++ z ∷ []) (sym value) in
    ap (λ ys. ys ++ y ∷ []) so_far ∙ append_assoc before (map f (take k xs)) (y ∷ []) ∙ ap (λ ys. before ++ ys) (sym step)

-- one line more
pub line_more : {X Y : Type 0} (f : X → Y) (line_of : ℕ → List X) (n line : ℕ) (items laid : List Y) → 1 ≤ line → line ≤ n
    → items ≡ map f (flat_map line_of (take (line - 1) (nodes_to n)))
    → laid ≡ items ++ map f (line_of line) → laid ≡ map f (flat_map line_of (take (line + 1 - 1) (nodes_to n)))
unfolding nodes_to
line_more f line_of n line items laid low high so_far value =
    let before = take (line - 1) (nodes_to n) in
    let inside : line - 1 < length (nodes_to n) = omega (arith, length-range_with_len 1 n) in
    let here : get_or (nodes_to n) (line - 1) 0 ≡ line = get_or-range_with_len 1 n (line - 1) 0 (omega arith) ∙ omega arith in
    let next : line - 1 + 1 ≡ line + 1 - 1 = omega arith in
    let more : take (line + 1 - 1) (nodes_to n) ≡ before ++ line ∷ [] = ap (λ k. take k (nodes_to n)) (sym next)
    ∙ take_more (nodes_to n) (line - 1) 0 inside ∙ ap (λ z. before ++ z ∷ []) here in
    value ∙ ap (λ ys. ys ++ map f (line_of line)) so_far ∙ sym (map-append f (flat_map line_of before) (line_of line))
    ∙ ap (map f) (flat_map_more line_of [] before line ∙ ap (flat_map line_of) (sym more))

-- all lines are all cells
pub lines_all : {Y : Type 0} (f : ℕ × ℕ → Y) (layout : Layout) (n line : ℕ) (items : List Y) → n ≤ line - 1
    → items ≡ map f (flat_map (cells_of_line layout n) (take (line - 1) (nodes_to n)))
    → items ≡ map f (cells layout n)
unfolding nodes_to
lines_all f layout n line items past so_far =
    so_far ∙ ap (λ ks. map f (flat_map (cells_of_line layout n) ks))
    (take_all (line - 1) (nodes_to n) (omega (arith, length-range_with_len 1 n))) ∙ ap (map f) (sym (cells-lines layout n))

-- ---- sizes

read_within : (weights : List ℤ) (k : ℕ) → All (IsWithin most_weight) weights → IsWithin most_weight (get_or weights k (pos 0))
read_within weights k sizes = ⊎_elim
    (λ inside. sizes k (pos 0) inside)
    (λ past. subst (IsWithin most_weight) (sym (get_or_past weights k (pos 0) past)) (grind (arith, ints), grind (arith, ints)))
    (cases_lt k (length weights))

one_within : (weights : List ℤ) (a b : Option ℕ) → All (IsWithin most_weight) weights
    → IsWithin most_weight (unwrap_or
    (option_or (option_map (λ k. get_or weights k (pos 0)) a) (option_map (λ k. get_or weights k (pos 0)) b)) (pos 0))
one_within weights (Some k) b sizes = read_within weights k sizes
one_within weights None (Some k) sizes = read_within weights k sizes
one_within weights None None sizes = (grind (arith, ints), grind (arith, ints))

-- a cost is of the size of a weight
pub cost_within : (layout : Layout) (n : ℕ) (weights : List ℤ) → All (IsWithin most_weight) weights → (i j : ℕ)
    → IsWithin most_weight (listed_cost layout n weights i j)
unfolding listed_cost
cost_within layout n weights sizes i j = one_within weights (place_of layout n (i, j)) (place_of layout n (j, i)) sizes

pub all_within : (layout : Layout) (n : ℕ) (cost : ℕ → ℕ → ℤ) → ((i j : ℕ) → IsWithin most_weight (cost i j))
    → All (IsWithin most_weight) (costs_in layout n cost)
all_within layout n cost sizes =
    All-map (IsWithin most_weight) (λ cell. cost cell.0 cell.1) (cells layout n)
    (λ k d lt. sizes (get_or (cells layout n) k d).0 (get_or (cells layout n) k d).1)

-- ---- pairs that a layout doesn't list

pub no_cell : (layout : Layout) (n i j : ℕ) → is_listed layout (i, j) ≡ false → place_of layout n (i, j) ≡ None
no_cell layout n = unlisted_has_no_place cell_is no_place layout n

pub outside : (layout : Layout) (n i j : ℕ) → ¬ (IsNode n i × IsNode n j) → place_of layout n (i, j) ≡ None
outside layout n = outside_has_no_place cell_is no_place layout n

pub cost_outside : (layout : Layout) (n : ℕ) (weights : List ℤ) (i j : ℕ) → ¬ (IsNode n i × IsNode n j)
    → listed_cost layout n weights i j ≡ pos 0
cost_outside layout n weights i j out =
    cost_unlisted layout n weights i j (outside layout n i j out) (outside layout n j i (λ nodes. out (nodes.1, nodes.0)))

-- of two different nodes a layout lists one of both pairs, or both
one_listed : (layout : Layout) (i j : ℕ) → is_listed layout (i, j) ≡ false → is_listed layout (j, i) ≡ false → i ≡ j
one_listed FullMatrix i j here there = absurd (false≢true (sym here))
one_listed UpperRow i j here there = grind (arith, nat_tests, here, there)
one_listed LowerRow i j here there = grind (arith, nat_tests, here, there)
one_listed UpperDiagRow i j here there = grind (arith, nat_tests, here, there)
one_listed LowerDiagRow i j here there = grind (arith, nat_tests, here, there)
one_listed UpperCol i j here there = grind (arith, nat_tests, here, there)
one_listed LowerCol i j here there = grind (arith, nat_tests, here, there)
one_listed UpperDiagCol i j here there = grind (arith, nat_tests, here, there)
one_listed LowerDiagCol i j here there = grind (arith, nat_tests, here, there)

-- a layout lists the whole diagonal, or nothing of it
diagonal_listed : (layout : Layout) (i : ℕ) → lists_diagonal layout ≡ true → is_listed layout (i, i) ≡ true
diagonal_listed FullMatrix i e = refl
diagonal_listed UpperRow i e = absurd (false≢true e)
diagonal_listed LowerRow i e = absurd (false≢true e)
diagonal_listed UpperDiagRow i e = le-leb i i (omega arith)
diagonal_listed LowerDiagRow i e = le-leb i i (omega arith)
diagonal_listed UpperCol i e = absurd (false≢true e)
diagonal_listed LowerCol i e = absurd (false≢true e)
diagonal_listed UpperDiagCol i e = le-leb i i (omega arith)
diagonal_listed LowerDiagCol i e = le-leb i i (omega arith)

-- ---- costs that the layout holds

-- the weight at the place of a cell
pub laid_at : (to : Layout) (n : ℕ) (cost : ℕ → ℕ → ℤ) (i j place : ℕ) → place_of to n (i, j) ≡ Some place
    → place < length (cells to n) → get_or (costs_in to n cost) place (pos 0) ≡ cost i j
laid_at to n cost i j place here inside =
    get_or-map (λ cell. cost cell.0 cell.1) (cells to n) place (i, j) (pos 0) inside
    ∙ ap (λ cell. cost cell.0 cell.1) (stands_at to n place (i, j) here (i, j))

diagonal_zero : (to : Layout) (cost : ℕ → ℕ → ℤ) (i : ℕ) → HoldsDiagonal to cost → is_listed to (i, i) ≡ false → cost i i ≡ pos 0
diagonal_zero to cost i holds unlisted =
    ⊎_elim (λ listed. absurd (false≢true (sym unlisted ∙ diagonal_listed to i listed))) (λ zero. zero i) holds

mirrored : (to : Layout) (cost : ℕ → ℕ → ℤ) (i j : ℕ) → HoldsPairs to cost → is_listed to (i, j) ≡ false → cost j i ≡ cost i j
mirrored to cost i j holds unlisted = ⊎_elim
    (λ full. absurd (false≢true (sym unlisted ∙ ap (λ layout. is_listed layout (i, j)) full)))
    (λ even. turned cost even i j)
    holds

-- each cost is as before
-- plan: by the pair: of other numbers than nodes, listed (`placed`, `laid_at`), mirrored (`mirrored`), or on a diagonal
-- that isn't listed
pub costs_kept : (to : Layout) (n : ℕ) (cost : ℕ → ℕ → ℤ) → ((i j : ℕ) → ¬ (IsNode n i × IsNode n j) → cost i j ≡ pos 0)
    → HoldsPairs to cost → HoldsDiagonal to cost
    → (i j : ℕ) → listed_cost to n (costs_in to n cost) i j ≡ cost i j
costs_kept to n cost none pairs diagonal i j = ⊎_elim
    (λ out. cost_outside to n (costs_in to n cost) i j out ∙ sym (none i j out))
    (λ nodes. by_listed (is_listed to (i, j)) nodes refl)
    (nodes_or_not n i j)
  where
    weights : List ℤ
    weights = costs_in to n cost

    by_mirror : (b : Bool) → IsNode n i × IsNode n j → is_listed to (i, j) ≡ false → is_listed to (j, i) ≡ b
        → listed_cost to n weights i j ≡ cost i j
    by_mirror true nodes out listed =
        let place = place_by_table to n j i in
        let here : place_of to n (j, i) ≡ Some place = placed to n j i nodes.1 nodes.0 listed in
        cost_mirrored to n weights i j place (no_cell to n i j out) here
        ∙ laid_at to n cost j i place here (place_within to n j i nodes.1 nodes.0 listed)
        ∙ mirrored to cost i j pairs out
    by_mirror false nodes out too =
        let same : i ≡ j = one_listed to i j out too in
        let own : is_listed to (i, i) ≡ false = ap (λ k. is_listed to (i, k)) same ∙ out in
        cost_unlisted to n weights i j (no_cell to n i j out) (no_cell to n j i too)
        ∙ sym (ap (cost i) (sym same) ∙ diagonal_zero to cost i diagonal own)

    by_listed : (b : Bool) → IsNode n i × IsNode n j → is_listed to (i, j) ≡ b → listed_cost to n weights i j ≡ cost i j
    by_listed true nodes listed =
        let place = place_by_table to n i j in
        let here : place_of to n (i, j) ≡ Some place = placed to n i j nodes.0 nodes.1 listed in
        cost_of_cell to n weights i j place here ∙ laid_at to n cost i j place here (place_within to n i j nodes.0 nodes.1 listed)
    by_listed false nodes out = by_mirror (is_listed to (j, i)) nodes out refl

-- ---- a file's own layout holds its costs

-- the weights are the costs of the cells, in their order
pub own_costs : (layout : Layout) (n : ℕ) (weights : List ℤ) → length weights ≡ length (cells layout n)
    → costs_in layout n (listed_cost layout n weights) ≡ weights
own_costs layout n weights filled = ext_get_or (pos 0) (costs_in layout n (listed_cost layout n weights)) weights
    (length-map (cells layout n) (λ cell. listed_cost layout n weights cell.0 cell.1) ∙ sym filled)
    (λ k lt.
    let inside : k < length (cells layout n) =
    omega (arith, lt, length-map (cells layout n) (λ cell. listed_cost layout n weights cell.0 cell.1)) in
    let cell = get_or (cells layout n) k (0, 0) in
    get_or-map (λ cell. listed_cost layout n weights cell.0 cell.1) (cells layout n) k (0, 0) (pos 0) inside
    ∙ cost_of_cell layout n weights cell.0 cell.1 k
    (place_from layout n k cell inside (λ d. get_or_default (cells layout n) k d (0, 0) inside)))

full_or_not : (layout : Layout) → (layout ≡ FullMatrix) ⊎ (layout ≢ FullMatrix)
full_or_not FullMatrix = inl refl
full_or_not UpperRow = inr (λ e. absurd cc)
full_or_not LowerRow = inr (λ e. absurd cc)
full_or_not UpperDiagRow = inr (λ e. absurd cc)
full_or_not LowerDiagRow = inr (λ e. absurd cc)
full_or_not UpperCol = inr (λ e. absurd cc)
full_or_not LowerCol = inr (λ e. absurd cc)
full_or_not UpperDiagCol = inr (λ e. absurd cc)
full_or_not LowerDiagCol = inr (λ e. absurd cc)

-- the costs of a triangle are symmetric, and its own layout holds the costs of any weights
pub triangle_holds : (layout : Layout) (n : ℕ) (weights : List ℤ) → layout ≢ FullMatrix
    → IsSymmetric (listed_cost layout n weights)
triangle_holds layout n weights half = triangle_even layout n weights half (no_cell layout n)

pub own_pairs : (layout : Layout) (n : ℕ) (weights : List ℤ) → HoldsPairs layout (listed_cost layout n weights)
own_pairs layout n weights = ⊎_elim (λ full. inl full) (λ half. inr (triangle_holds layout n weights half)) (full_or_not layout)

pub own_diagonal : (layout : Layout) (n : ℕ) (weights : List ℤ) → HoldsDiagonal layout (listed_cost layout n weights)
own_diagonal layout n weights = by_diagonal (lists_diagonal layout) refl
  where
    by_diagonal : (b : Bool) → lists_diagonal layout ≡ b → HoldsDiagonal layout (listed_cost layout n weights)
    by_diagonal true listed = inl listed
    by_diagonal false out = inr (λ i.
        let none : place_of layout n (i, i) ≡ None = no_cell layout n i i (diagonal_unlisted layout i out) in
        cost_unlisted layout n weights i i none none)

-- ---- the file

-- from a statement on the listed weights to one on the file's nodes and costs
pub of_file : (P : ℕ → (ℕ → ℕ → ℤ) → Type 0) (f : Fields) (layout : Layout) (n : ℕ) (weights : List ℤ)
    → f.weight_kind ≡ Some Explicit
    → ListsWeights f layout n weights → P n (listed_cost layout n weights) → P (nodes_of f) (cost f)
of_file P f layout n weights explicit held holds =
    let nodes : n ≡ nodes_of f = sym (ap (λ o. unwrap_or o 0) held.dimension) in
    let costs : listed_cost layout n weights ≡ cost f = λ t i j. cost_of_listed f layout n weights explicit held i j t in
    subst (λ k. P k (cost f)) nodes (subst (λ c. P n c) costs holds)

-- and back
pub of_weights : (P : ℕ → (ℕ → ℕ → ℤ) → Type 0) (f : Fields) (layout : Layout) (n : ℕ) (weights : List ℤ)
    → f.weight_kind ≡ Some Explicit
    → ListsWeights f layout n weights → P (nodes_of f) (cost f) → P n (listed_cost layout n weights)
of_weights P f layout n weights explicit held holds =
    let nodes : nodes_of f ≡ n = ap (λ o. unwrap_or o 0) held.dimension in
    let costs : cost f ≡ listed_cost layout n weights = λ t i j. sym (cost_of_listed f layout n weights explicit held i j) t in
    subst (λ k. P k (listed_cost layout n weights)) nodes (subst (λ c. P (nodes_of f) c) costs holds)

pub has_weights : (f : Fields) (layout : Layout) (n : ℕ) (weights : List ℤ) → f.weight_kind ≡ Some Explicit
    → ListsWeights f layout n weights → HasListedWeights f
has_weights f layout n weights explicit held = (explicit, ap is_some held.weights_are)

pub pairs_held : (f : Fields) (layout : Layout) (n : ℕ) (weights : List ℤ) (to : Layout) → f.weight_kind ≡ Some Explicit
    → ListsWeights f layout n weights
    → HoldsPairs to (listed_cost layout n weights) → HoldsPairs to (cost f)
pairs_held f layout n weights to explicit held = of_file (λ k c. HoldsPairs to c) f layout n weights explicit held

pub can_go : (f : Fields) (layout : Layout) (n : ℕ) (weights : List ℤ) (to : Layout) → f.weight_kind ≡ Some Explicit
    → ListsWeights f layout n weights
    → HoldsPairs to (listed_cost layout n weights) → HoldsDiagonal to (listed_cost layout n weights) → CanGo f to
can_go f layout n weights to explicit held pairs diagonal = record {
  listed = has_weights f layout n weights explicit held;
  pairs = pairs_held f layout n weights to explicit held pairs;
  diagonal = of_file (λ k c. HoldsDiagonal to c) f layout n weights explicit held diagonal;
}

-- a file's own layout
pub own_layout : (f : Fields) (layout : Layout) (n : ℕ) (weights : List ℤ) (to : Layout) → f.weight_kind ≡ Some Explicit
    → ListsWeights f layout n weights → layout ≡ to
    → CanGo f to × ((f.weight_format ≡ Some (Listed to)) × (f.weights ≡ Some (costs_in to (nodes_of f) (cost f))))
own_layout f layout n weights to explicit held same =
    let stand : f.weights ≡ Some (costs_in layout n (listed_cost layout n weights)) = held.weights_are
    ∙ ap Some (sym (own_costs layout n weights held.filled)) in
    subst (λ own. CanGo f own × ((f.weight_format ≡ Some (Listed own)) × (f.weights ≡ Some (costs_in own (nodes_of f) (cost f)))))
    same (
      can_go f layout n weights layout explicit held (own_pairs layout n weights) (own_diagonal layout n weights),
      (held.format, of_file (λ k c. f.weights ≡ Some (costs_in layout k c)) f layout n weights explicit held stand),
    )

-- ---- the file with the new weights

explicit_cost : (f : Fields) (i j : ℕ) → f.weight_kind ≡ Some Explicit
    → cost f i j ≡ listed_cost (layout_of f.weight_format) (nodes_of f) (unwrap_or f.weights []) i j
unfolding cost
explicit_cost f i j explicit = ap (λ k. cost_by k f i j) explicit

pub relaid : (f : Fields) (to : Layout) (new : Fields) → CanGo f to → new ≡ with_weights f to (costs_in to (nodes_of f) (cost f))
    → IsRelaid f to new
relaid f to new can fields = record {
  can_go = can;
  fields = fields;
  costs = λ i j. ap (λ g. cost g i j) fields
      ∙ explicit_cost (with_weights f to (costs_in to (nodes_of f) (cost f))) i j can.listed.0
      ∙ costs_kept to (nodes_of f) (cost f) (λ a b out. explicit_cost f a b can.listed.0
      ∙ cost_outside (layout_of f.weight_format) (nodes_of f) (unwrap_or f.weights []) a b out) can.pairs can.diagonal i j;
}

pub already : (f : Fields) (to : Layout) → CanGo f to → f.weight_format ≡ Some (Listed to)
    → f.weights ≡ Some (costs_in to (nodes_of f) (cost f)) → IsRelaid f to f
already f to can format stand = relaid f to f can
    (ap (λ (o : Option WeightFormat). record f { weight_format = o }) format
    ∙ ap (λ (o : Option (List ℤ)). record f { weight_format = Some (Listed to); weights = o }) stand)
