-- A full matrix made in place from its listed half (the end of src/relayout.rt): lines are moved to their rows from the
-- last on, then the diagonal and the mirrored cells are written.
use Rattle.tsp_file.proofs.Prelude.{◌≡◌, ◌≢◌, ℕ, suc, zero, ◌+◌, ◌-◌, ◌*◌, ◌<◌, ◌≤◌, Bool, true, false, List, ◌++◌, length, map, take, Some, refl, sym, ap, subst, ◌∙◌, inl, inr, ⊎_elim, arith, slice_index_or as get_or, slice_set, unwrap_or, ◌⊎◌, nat_le, ℤ, pos, flat_map, CopiedTo, SameBelow, SameFrom, cases_lt, cases_eq, leb-true, mul-le, length-map, get_or-map, get_or_default, length-append, get_or_append_left, get_or-append_right, get_or-set_same, get_or-set_other, ext_get_or, length-take-le, get_or-take, Layout, FullMatrix, UpperRow, LowerRow, UpperDiagRow, LowerDiagRow, UpperCol, LowerCol, UpperDiagCol, LowerDiagCol, IsNode, nodes_to, is_listed, cells, cells_of_line, line_len_of, place_of, IsSymmetric, line_counted, cells_counted}
use Rattle.std.proofs.lemmas.Option.{none-some}
use Rattle.tsp_format.proofs.Places.{placed, place_from, stands_at, line_at}
use Rattle.tsp_file.specs.Cost.{listed_cost}
use Rattle.tsp_file.specs.Relayout.{costs_in}
use Rattle.tsp_file.specs.states.Drafts.{first_own, past_own, places_before, line_start_of, goes_above, is_on_side, IsCostOfCell, HasSide, KeepsCosts, HasLaterLines, Fills}
use Rattle.tsp_file.proofs.Relaid.{turned, nodes_or_not, diagonal_unlisted, cost_unlisted, line_more, lines_all, own_costs, no_cell, outside}

-- ---- the cells of the lines before one

line_short : (layout : Layout) (n k : ℕ) → IsNode n k → line_len_of layout n k ≤ n
line_short FullMatrix n k node = omega arith
line_short UpperRow n k node = omega arith
line_short LowerRow n k node = omega (arith, node.1)
line_short UpperDiagRow n k node = omega (arith, node.0, node.1)
line_short LowerDiagRow n k node = omega (arith, node.1)
line_short UpperCol n k node = omega (arith, node.1)
line_short LowerCol n k node = omega arith
line_short UpperDiagCol n k node = omega (arith, node.1)
line_short LowerDiagCol n k node = omega (arith, node.0, node.1)

abbrev pub before : Layout → ℕ → ℕ → List (ℕ × ℕ)
before from n line = flat_map (cells_of_line from n) (take line (nodes_to n))

-- with one line more
before_more : {Y : Type 0} (f : ℕ × ℕ → Y) (from : Layout) (n line : ℕ) → IsNode n line
    → map f (before from n line) ≡ map f (before from n (line - 1)) ++ map f (cells_of_line from n line)
before_more f from n line node =
    let items = map f (before from n (line - 1)) in
    let same : line + 1 - 1 ≡ line = omega arith in
    sym (line_more f (cells_of_line from n) n line items (items ++ map f (cells_of_line from n line)) node.0 node.1 refl refl
    ∙ ap (λ k. map f (before from n k)) same)

-- they need no more places than this many rows of the full matrix
few_before : (from : Layout) (n k : ℕ) → k ≤ n → length (before from n k) ≤ k * n
few_before from n zero low = omega arith
few_before from n (suc k) low =
    let f = λ (cell : ℕ × ℕ). cell in
    let node : IsNode n (suc k) = (omega arith, low) in
    let less : suc k - 1 ≡ k = omega arith in
    let more = ap length (before_more f from n (suc k) node) in
    let parts = length-append (map f (before from n (suc k - 1))) (map f (cells_of_line from n (suc k))) in
    let one = length-map (before from n (suc k)) f in
    let two = length-map (before from n (suc k - 1)) f in
    let three = length-map (cells_of_line from n (suc k)) f in
    let fewer : length (before from n (suc k - 1)) ≤ k * n =
    subst (λ m. length (before from n m) ≤ k * n) (sym less) (few_before from n k (omega (arith, low))) in
    let short = line_short from n (suc k) node in
    let counted = line_counted from n (suc k) node.0 node.1 in
    omega (arith, more, parts, one, two, three, fewer, short, counted)

-- ---- the loop that moves them

pub record SpreadTo (from : Layout) (n line kept : ℕ) (half items : List ℤ) : Type 0 where
  pub front : take kept items ≡ map (λ cell. listed_cost from n half cell.0 cell.1) (before from n line)
  pub lines : HasLaterLines from n line half items

-- how many weights are still at the beginning
pub kept_less : (from : Layout) (n line kept len : ℕ) → IsNode n line → kept ≡ length (before from n line)
    → len ≡ line_len_of from n line
    → (kept ≡ length (before from n (line - 1)) + len) × (kept ≤ line * n) × (length (before from n (line - 1)) ≤ (line - 1) * n)
kept_less from n line kept len node is_kept is_len =
    let f = λ (cell : ℕ × ℕ). cell in
    let more = ap length (before_more f from n line node) in
    let parts = length-append (map f (before from n (line - 1))) (map f (cells_of_line from n line)) in
    let one = length-map (before from n line) f in
    let two = length-map (before from n (line - 1)) f in
    let three = length-map (cells_of_line from n line) f in
    let counted = line_counted from n line node.0 node.1 in (
      omega (arith, more, parts, one, two, three, counted, is_kept, is_len),
      omega (arith, few_before from n line node.1, is_kept),
      few_before from n (line - 1) (omega (arith, node.1)),
    )

-- plan: entry by entry (`ext_get_or`): one in the line was copied, and one behind the line is as before
pub spread_more : (from : Layout) (n line kept len start : ℕ) (half items new : List ℤ) → IsNode n line → length items ≡ n * n
    → kept ≡ length (before from n line)
    → len ≡ line_len_of from n line → start ≡ line_start_of from n line → start + len ≤ line * n
    → SpreadTo from n line kept half items
    → CopiedTo items new (kept - len) start len → SameBelow items new start → SameFrom items new (start + len)
    → length new ≡ length items
    → SpreadTo from n (line - 1) (kept - len) half new
spread_more from n line kept len start half items new node size is_kept is_len starts within so_far moved below behind same =
    let f = λ (cell : ℕ × ℕ). listed_cost from n half cell.0 cell.1 in
    let left = map f (before from n (line - 1)) in
    let own = map f (cells_of_line from n line) in
    let less = kept_less from n line kept len node is_kept is_len in
    let rows : line * n ≤ n * n = mul-le line n n n node.1 (omega arith) in
    let left_len : length left ≡ kept - len = omega (arith, length-map (before from n (line - 1)) f, less.0) in
    let own_len : length own ≡ len =
    omega (arith, length-map (cells_of_line from n line) f, line_counted from n line node.0 node.1, is_len) in
    let high : kept - len ≤ start = omega (arith, less.0, less.2, starts) in
    let parts : take kept items ≡ left ++ own = so_far.front ∙ before_more f from n line node in
    let read : (k : ℕ) → k < kept → get_or items k (pos 0) ≡ get_or (left ++ own) k (pos 0) = λ k lt.
    sym (get_or-take kept items k (pos 0) lt) ∙ ap (λ xs. get_or xs k (pos 0)) parts in
    let front_len : length (take (kept - len) new) ≡ kept - len =
    length-take-le (kept - len) new (omega (arith, same, size, rows, less.1)) in
    record {
      front = ext_get_or (pos 0) (take (kept - len) new) left (front_len ∙ sym left_len)
          (λ k lt.
          let inside : k < kept - len = omega (arith, lt, front_len) in
          get_or-take (kept - len) new k (pos 0) inside ∙ below k (pos 0) (omega (arith, inside, high))
          ∙ read k (omega (arith, inside))
          ∙ get_or_append_left left own (pos 0) k (omega (arith, inside, left_len)));
      lines = λ l k past high_l lt.
          ⊎_elim
          (λ later.
          let row : line * n ≤ (l - 1) * n = mul-le line n (l - 1) n (omega (arith, later)) (omega arith) in
          behind (line_start_of from n l + k) (pos 0) (omega (arith, row, within)) ∙ so_far.lines l k later high_l lt)
          (λ here.
          let is : line ≡ l = omega (arith, here, past) in
          subst (λ m. (k < line_len_of from n m) → get_or new (line_start_of from n m + k) (pos 0) ≡ f
          (get_or (cells_of_line from n m) k (0, 0))) is
          (λ inside.
          let place : start + k ≡ line_start_of from n line + k = ap (λ s. s + k) starts in
          ap (λ p. get_or new p (pos 0)) (sym place)
          ∙ moved (start + k) (pos 0) (omega arith) (omega (arith, inside, is_len))
          ∙ ap (λ p. get_or items p (pos 0)) {x = kept - len + (start + k - start)} {y = kept - len + k} (omega arith)
          ∙ read (kept - len + k) (omega (arith, inside, is_len, less.0))
          ∙ get_or-append_right left own (kept - len) (kept - len + k) (pos 0) left_len (omega arith)
          ∙ ap (λ p. get_or own p (pos 0)) {x = kept - len + k - (kept - len)} {y = k} (omega arith)
          ∙ get_or-map f (cells_of_line from n line) k (0, 0) (pos 0)
          (omega (arith, inside, is_len, own_len, length-map (cells_of_line from n line) f))) lt)
          (cases_lt line l);
    }

-- ---- the rows have their costs

first_is : (layout : Layout) (n i : ℕ) → IsNode n i → places_before layout i + 1 ≡ first_own layout i
first_is FullMatrix n i node = omega arith
first_is UpperRow n i node = omega arith
first_is LowerRow n i node = omega arith
first_is UpperDiagRow n i node = omega (arith, node.0)
first_is LowerDiagRow n i node = omega arith
first_is UpperCol n i node = omega arith
first_is LowerCol n i node = omega arith
first_is UpperDiagCol n i node = omega arith
first_is LowerDiagCol n i node = omega (arith, node.0)

count_is : (layout : Layout) (n i : ℕ) → IsNode n i → first_own layout i + line_len_of layout n i ≡ past_own layout n i
count_is FullMatrix n i node = omega arith
count_is UpperRow n i node = omega (arith, node.1)
count_is LowerRow n i node = omega (arith, node.0)
count_is UpperDiagRow n i node = omega (arith, node.1)
count_is LowerDiagRow n i node = omega arith
count_is UpperCol n i node = omega (arith, node.0)
count_is LowerCol n i node = omega (arith, node.1)
count_is UpperDiagCol n i node = omega arith
count_is LowerDiagCol n i node = omega (arith, node.1)

-- a cell of a line has the cost of its row and column
cell_cost : (cost : ℕ → ℕ → ℤ) (layout : Layout) (n i k : ℕ) → IsSymmetric cost → IsNode n i → k < line_len_of layout n i
    → cost (get_or (cells_of_line layout n i) k (0, 0)).0 (get_or (cells_of_line layout n i) k (0, 0)).1 ≡ cost i
    (first_own layout i + k)
cell_cost cost FullMatrix n i k even node lt =
    ap (λ (cell : ℕ × ℕ). cost cell.0 cell.1) (line_at FullMatrix n i k (0, 0) node.0 node.1 lt)
cell_cost cost UpperRow n i k even node lt =
    ap (λ (cell : ℕ × ℕ). cost cell.0 cell.1) (line_at UpperRow n i k (0, 0) node.0 node.1 lt)
cell_cost cost LowerRow n i k even node lt =
    ap (λ (cell : ℕ × ℕ). cost cell.0 cell.1) (line_at LowerRow n i k (0, 0) node.0 node.1 lt)
cell_cost cost UpperDiagRow n i k even node lt =
    ap (λ (cell : ℕ × ℕ). cost cell.0 cell.1) (line_at UpperDiagRow n i k (0, 0) node.0 node.1 lt)
cell_cost cost LowerDiagRow n i k even node lt =
    ap (λ (cell : ℕ × ℕ). cost cell.0 cell.1) (line_at LowerDiagRow n i k (0, 0) node.0 node.1 lt)
cell_cost cost UpperCol n i k even node lt =
    ap (λ (cell : ℕ × ℕ). cost cell.0 cell.1) (line_at UpperCol n i k (0, 0) node.0 node.1 lt) ∙ turned cost even i (1 + k)
cell_cost cost LowerCol n i k even node lt =
    ap (λ (cell : ℕ × ℕ). cost cell.0 cell.1) (line_at LowerCol n i k (0, 0) node.0 node.1 lt) ∙ turned cost even i (i + 1 + k)
cell_cost cost UpperDiagCol n i k even node lt =
    ap (λ (cell : ℕ × ℕ). cost cell.0 cell.1) (line_at UpperDiagCol n i k (0, 0) node.0 node.1 lt) ∙ turned cost even i (1 + k)
cell_cost cost LowerDiagCol n i k even node lt =
    ap (λ (cell : ℕ × ℕ). cost cell.0 cell.1) (line_at LowerDiagCol n i k (0, 0) node.0 node.1 lt) ∙ turned cost even i (i + k)

own_cost : (from : Layout) (n : ℕ) (half full : List ℤ) → IsSymmetric (listed_cost from n half) → HasLaterLines from n 0 half full
    → (i j : ℕ) → IsNode n i → first_own from i ≤ j → j < past_own from n i
    → IsCostOfCell (listed_cost from n half) n full i j
own_cost from n half full even lines i j node low high =
    let first = first_is from n i node in
    let count = count_is from n i node in
    let k : ℕ = j - first_own from i in
    let inside : k < line_len_of from n i = omega (arith, count, low, high) in
    let place : (i - 1) * n + (j - 1) ≡ line_start_of from n i + k = omega (arith, first, low) in
    let column : first_own from i + k ≡ j = omega (arith, low) in
    ap (λ p. get_or full p (pos 0)) place ∙ lines i k (omega (arith, node.0)) node.1 inside
    ∙ cell_cost (listed_cost from n half) from n i k even node inside
    ∙ ap (listed_cost from n half i) column

-- a cell on the side of a layout's lines is one of them, or on a diagonal that isn't listed
abbrev OwnOrDiagonal : Layout → ℕ → ℕ → ℕ → Type 0
OwnOrDiagonal from n i j = ((first_own from i ≤ j) × (j < past_own from n i)) ⊎ ((i ≡ j) × (is_listed from (1, 1) ≡ false))

strictly : (a b : ℕ) → nat_le a b ≡ true → (a < b) ⊎ (a ≡ b)
strictly a b le = let low = leb-true a b le in ⊎_elim (λ lt. inl lt) (λ ge. inr (omega (arith, low, ge))) (cases_lt a b)

on_side : (from : Layout) (n i j : ℕ) → from ≢ FullMatrix → IsNode n i → IsNode n j → is_on_side (goes_above from) i j ≡ true
    → OwnOrDiagonal from n i j
on_side FullMatrix n i j half row column side = absurd (half refl)
on_side UpperRow n i j half row column side =
    ⊎_elim (λ lt. inl (omega (arith, lt), omega (arith, column.1))) (λ same. inr (same, refl)) (strictly i j side)
on_side LowerRow n i j half row column side =
    ⊎_elim (λ lt. inl (omega (arith, column.0), omega (arith, lt))) (λ same. inr (sym same, refl)) (strictly j i side)
on_side UpperDiagRow n i j half row column side = let low = leb-true i j side in inl (omega (arith, low), omega (arith, column.1))
on_side LowerDiagRow n i j half row column side = let low = leb-true j i side in inl (omega (arith, column.0), omega (arith, low))
on_side UpperCol n i j half row column side =
    ⊎_elim (λ lt. inl (omega (arith, column.0), omega (arith, lt))) (λ same. inr (sym same, refl)) (strictly j i side)
on_side LowerCol n i j half row column side =
    ⊎_elim (λ lt. inl (omega (arith, lt), omega (arith, column.1))) (λ same. inr (same, refl)) (strictly i j side)
on_side UpperDiagCol n i j half row column side = let low = leb-true j i side in inl (omega (arith, column.0), omega (arith, low))
on_side LowerDiagCol n i j half row column side = let low = leb-true i j side in inl (omega (arith, low), omega (arith, column.1))

-- all cells on the listed side, once the diagonal is 0
pub side_filled : (from : Layout) (n : ℕ) (half full : List ℤ) → from ≢ FullMatrix → IsSymmetric (listed_cost from n half)
    → HasLaterLines from n 0 half full
    → (new : List ℤ) → KeepsCosts (listed_cost from n half) n full new
    → (is_listed from (1, 1) ≡ false → (i : ℕ) → IsNode n i → IsCostOfCell (listed_cost from n half) n new i i)
    → HasSide (goes_above from) (listed_cost from n half) n new
side_filled from n half full partly even lines new keeps diagonal i j row column side =
    ⊎_elim
    (λ own. keeps i j row column (own_cost from n half full even lines i j row own.0 own.1))
    (λ same. subst (λ k. IsCostOfCell (listed_cost from n half) n new i k) same.0 (diagonal same.1 i row))
    (on_side from n i j partly row column side)

-- a diagonal that isn't listed costs 0
pub zero_diagonal : (from : Layout) (n : ℕ) (half : List ℤ) (i : ℕ) → is_listed from (1, 1) ≡ false
    → listed_cost from n half i i ≡ pos 0
zero_diagonal from n half i out =
    let none = no_cell from n i i (diagonal_unlisted from i out) in
    cost_unlisted from n half i i none none

-- ---- a cell that is written

-- no two cells have one place
one_place : (n a b i j : ℕ) → IsNode n a → IsNode n b → IsNode n i → IsNode n j → (a - 1) * n + (b - 1) ≡ (i - 1) * n + (j - 1)
    → ◌≡◌ {A = ℕ × ℕ} (a, b) (i, j)
one_place n a b i j la lb li lj same =
    sym (stands_at FullMatrix n ((a - 1) * n + (b - 1)) (a, b) (placed FullMatrix n a b la lb refl) (0, 0))
    ∙ stands_at FullMatrix n ((a - 1) * n + (b - 1)) (i, j) (placed FullMatrix n i j li lj refl ∙ ap (λ p. Some p) (sym same))
    (0, 0)

pub cell_written : (cost : ℕ → ℕ → ℤ) (n : ℕ) (items : List ℤ) (i j place : ℕ) (value : ℤ) → IsNode n i → IsNode n j
    → place ≡ (i - 1) * n + (j - 1) → place < length items → cost i j ≡ value
    → KeepsCosts cost n items (slice_set items place value) × IsCostOfCell cost n (slice_set items place value) i j
cell_written cost n items i j place value row column is inside same =
    let new = slice_set items place value in
    let here : IsCostOfCell cost n new i j = ap (λ p. get_or new p (pos 0)) (sym is)
    ∙ get_or-set_same items place value (pos 0) inside ∙ sym same in (
      λ a b la lb had. ⊎_elim
          (λ one. subst (λ (cell : ℕ × ℕ). IsCostOfCell cost n new cell.0 cell.1)
          (sym (one_place n a b i j la lb row column (one ∙ is))) here)
          (λ other. get_or-set_other items place ((a - 1) * n + (b - 1)) value (pos 0) other ∙ had)
          (cases_eq ((a - 1) * n + (b - 1)) place),
      here,
    )

-- ---- the whole matrix

pub whole_is : (cost : ℕ → ℕ → ℤ) (n : ℕ) (full : List ℤ) → length full ≡ n * n
    → ((i j : ℕ) → IsNode n i → IsNode n j → IsCostOfCell cost n full i j) → full ≡ costs_in FullMatrix n cost
whole_is cost n full size has =
    let f = λ (cell : ℕ × ℕ). cost cell.0 cell.1 in
    let all : List (ℕ × ℕ) = cells FullMatrix n in
    let counted = cells_counted FullMatrix n in
    ext_get_or (pos 0) full (costs_in FullMatrix n cost) (omega (arith, size, length-map all f, counted))
    (λ k lt.
    let inside : k < length all = omega (arith, lt, size, counted) in
    let cell = get_or all k (0, 0) in
    let at : place_of FullMatrix n (cell.0, cell.1) ≡ Some k =
    place_from FullMatrix n k cell inside (λ d. get_or_default all k d (0, 0) inside) in
    let nodes : IsNode n cell.0 × IsNode n cell.1 = ⊎_elim
    (λ out. absurd (none-some k (sym (outside FullMatrix n cell.0 cell.1 out) ∙ at))) (λ here. here)
    (nodes_or_not n cell.0 cell.1) in
    let place : (cell.0 - 1) * n + (cell.1 - 1) ≡ k =
    ap (λ o. unwrap_or o 0) (sym (placed FullMatrix n cell.0 cell.1 nodes.0 nodes.1 refl) ∙ at) in
    ap (λ p. get_or full p (pos 0)) (sym place) ∙ has cell.0 cell.1 nodes.0 nodes.1
    ∙ sym (get_or-map f all k (0, 0) (pos 0) inside))

-- ---- the loop begins with all weights at the beginning

cells_before : {Y : Type 0} (f : ℕ × ℕ → Y) (from : Layout) (n : ℕ) → map f (before from n n) ≡ map f (cells from n)
cells_before f from n =
    let past : n ≤ n + 1 - 1 = omega arith in
    let same : n ≡ n + 1 - 1 = omega arith in
    lines_all f from n (n + 1) (map f (before from n n)) past (ap (λ k. map f (before from n k)) same)

pub all_before : (from : Layout) (n : ℕ) → length (cells from n) ≡ length (before from n n)
all_before from n =
    let f = λ (cell : ℕ × ℕ). cell in
    omega (arith, ap length (cells_before f from n), length-map (before from n n) f, length-map (cells from n) f)

pub spread_begins : (from : Layout) (n count : ℕ) (half items : List ℤ) → length half ≡ length (cells from n)
    → take count items ≡ half → SpreadTo from n n count half items
spread_begins from n count half items filled front = record {
  front = front ∙ sym (own_costs from n half filled) ∙ sym (cells_before (λ cell. listed_cost from n half cell.0 cell.1) from n);
  lines = λ l k past high lt. absurd (omega (arith, past, high));
}

-- ---- the costs across the diagonal

pair_path : (a b i j : ℕ) → a ≡ i → b ≡ j → ◌≡◌ {A = ℕ × ℕ} (a, b) (i, j)
pair_path a b i j row column = ap (λ (k : ℕ). let cell : ℕ × ℕ = (k, b) in cell) row
    ∙ ap (λ (k : ℕ). let cell : ℕ × ℕ = (i, k) in cell) column

-- one cell of the diagonal more
pub diagonal_more : (cost : ℕ → ℕ → ℤ) (n node place : ℕ) (old items : List ℤ) → ((i : ℕ) → cost i i ≡ pos 0) → IsNode n node
    → place ≡ (node - 1) * n + (node - 1) → place < length items
    → Fills cost n old items (λ i j. (i ≡ j) × (i < node))
    → Fills cost n old (slice_set items place (pos 0)) (λ i j. (i ≡ j) × (i < node + 1))
diagonal_more cost n node place old items nothing here is inside so_far =
    let written = cell_written cost n items node node place (pos 0) here here is inside (nothing node) in (
      λ a b la lb had. written.0 a b la lb (so_far.0 a b la lb had),
      λ i j row column kind. ⊎_elim
          (λ earlier. written.0 i j row column (so_far.1 i j row column (kind.0, earlier)))
          (λ last.
          let same : node ≡ i = omega (arith, last, kind.1) in
          subst (λ (cell : ℕ × ℕ). IsCostOfCell cost n (slice_set items place (pos 0)) cell.0 cell.1) {x = (node, node)} {y =
          (i, j)} (pair_path node node i j same (same ∙ kind.0)) written.1)
          (cases_lt i node),
    )

-- one cell of a row more
pub column_more : (above : Bool) (cost : ℕ → ℕ → ℤ) (n row first j place : ℕ) (value : ℤ) (old items : List ℤ) → IsSymmetric cost
    → HasSide above cost n old → IsNode n row → IsNode n j
    → is_on_side above j row ≡ true → value ≡ get_or items ((j - 1) * n + (row - 1)) (pos 0) → place ≡ (row - 1) * n + (j - 1)
    → place < length items
    → Fills cost n old items (λ i k. (i ≡ row) × (first ≤ k) × (k < j))
    → Fills cost n old (slice_set items place value) (λ i k. (i ≡ row) × (first ≤ k) × (k < j + 1))
column_more above cost n row first j place value old items even side here there on read is inside so_far =
    let source : IsCostOfCell cost n items j row = so_far.0 j row there here (side j row there here on) in
    let same : cost row j ≡ value = sym (read ∙ source ∙ turned cost even row j) in
    let written = cell_written cost n items row j place value here there is inside same in (
      λ a b la lb had. written.0 a b la lb (so_far.0 a b la lb had),
      λ i k li lk kind. ⊎_elim
          (λ earlier. written.0 i k li lk (so_far.1 i k li lk (kind.0, kind.1, earlier)))
          (λ last.
          let column : j ≡ k = omega (arith, last, kind.2) in
          subst (λ (cell : ℕ × ℕ). IsCostOfCell cost n (slice_set items place value) cell.0 cell.1) {x = (row, j)} {y = (i, k)}
          (pair_path row j i k (sym kind.0) column) written.1)
          (cases_lt k j),
    )

-- the cells that a part fills are more of the whole matrix
pub fills_more : (above : Bool) (cost : ℕ → ℕ → ℤ) (n : ℕ) (old middle new : List ℤ) (Done Part All : ℕ → ℕ → Type 0)
    → HasSide above cost n old → Fills cost n old middle Done → (HasSide above cost n middle → Fills cost n middle new Part)
    → ((i j : ℕ) → IsNode n i → IsNode n j → All i j → Done i j ⊎ Part i j)
    → Fills cost n old new All
fills_more above cost n old middle new Done Part All side so_far part split =
    let more = part (λ i j li lj on. so_far.0 i j li lj (side i j li lj on)) in (
      λ i j li lj had. more.0 i j li lj (so_far.0 i j li lj had),
      λ i j li lj all. ⊎_elim (λ done. more.0 i j li lj (so_far.1 i j li lj done)) (λ here. more.1 i j li lj here)
          (split i j li lj all),
    )
