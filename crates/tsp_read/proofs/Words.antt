-- The words of tours and matrices as they are written are the items of their lines. Part of the proof of the law
-- `canonical_texts_are_read_back`.
use Rattle.tsp_read.proofs.Prelude.{◌≡◌, ℕ, ◌+◌, ◌≤◌, true, false, cond, List, [], ◌∷◌, ◌++◌, length, map, refl, sym, ap, ◌∙◌, arith, append_assoc, Result, ◌^◌, ◌<◌, Bool, subst, take, drop, Some, None, and_from, and_parts, not_from_true, not_from_false, and_left, and_right, false≢true, leb-true, length-append, take-append-drop, map-append, list_all-append, sum_by-cons, decimal, signed_decimal, list_all, filter, flat_map, slice_split, sum_by, enumerate_from, ℤ, not, ◌&&◌, nat_le, nat_abs, codes, result_err, NumberFault, most_nodes, most_tour_nodes, most_weight, most_multiplier, field_word, kind_word, weight_kind_word, weight_format_word, coord_kind_word, display_kind_word, NodeCoordPart, TypeKey, EdgeWeightTypeKey, EdgeWeightFormatKey, NodeCoordTypeKey, DisplayDataTypeKey, Known, within_abs, number_line, ended_by_mark, node_list, pair_list, triple_list, weight_line, matrix_lines, is_node, is_node_list, is_within, is_pair_of, is_triple_of, Words, has_line, kind_named, weight_kind_named, weight_format_named, coord_kind_named, display_kind_named, row_of, is_not_empty, first_word, Item, Line, number, node_or_end, is_end, ends_tour, tour_node, tours_in, place_of_tour, Place}
use Rattle.std.proofs.lemmas.List.Elements.{filter-append}
use Rattle.tsp_format.specs.declared.kinds.CoordKind.{CoordKind}
use Rattle.tsp_format.specs.declared.kinds.CoordKind.TheVariants as coord_kinds
use Rattle.tsp_format.specs.declared.kinds.DisplayKind.{DisplayKind}
use Rattle.tsp_format.specs.declared.kinds.DisplayKind.TheVariants as display_kinds
use Rattle.tsp_format.specs.declared.kinds.Kind.{Kind}
use Rattle.tsp_format.specs.declared.kinds.Kind.TheVariants as kinds
use Rattle.tsp_format.specs.declared.kinds.WeightFormat.{WeightFormat}
use Rattle.tsp_format.specs.declared.kinds.WeightFormat.TheVariants as formats
use Rattle.tsp_format.specs.declared.kinds.WeightKind.{WeightKind}
use Rattle.tsp_format.specs.declared.kinds.WeightKind.TheVariants as weight_kinds
use Rattle.tsp_format.specs.declared.layout.Layout.TheVariants as layouts
use Rattle.tsp_read.proofs.Groups.{AreSpelled, entry_words}
use Rattle.tsp_read.proofs.NumbersReadBack.{NumberLaws, listed_back, node_goes_on, end_read, end_ends, no_rows, has_room, decimal_plain, signed_plain, size_from, are_pair, pair_words, triple_words, are_triple}
use Rattle.tsp_read.proofs.Onto.{AllTaken, taken-append, IsWhole, written_line}
use Rattle.tsp_read.proofs.Text.{split_at, is_plain_word, WritesWords, no_words_written, both_words, number_line_written}

abbrev pub tour_words : List ℕ → List (List ℕ)
tour_words tour = map decimal tour ++ codes "-1" ∷ []

-- the nodes among words
abbrev pub nodes_among : List (List ℕ) → List (List ℕ)
nodes_among words = filter (λ word. not (ends_tour word)) words

kept_node : NumberLaws → (k : ℕ) → is_node most_nodes k ≡ true → not (ends_tour (decimal k)) ≡ true
kept_node laws k is = not_from_false (ends_tour (decimal k)) (node_goes_on laws most_nodes k (omega arith) is)

one_kept : (word : List ℕ) → not (ends_tour word) ≡ true → nodes_among (word ∷ []) ≡ word ∷ []
one_kept word e = ap (λ b. cond b (word ∷ []) []) e

node_count : NumberLaws → (earlier : List (List ℕ)) (k : ℕ) → is_node most_nodes k ≡ true
    → length (nodes_among (earlier ++ decimal k ∷ [])) ≡ length (nodes_among earlier) + 1
node_count laws earlier k is =
    ap length (filter-append (λ word. not (ends_tour word)) earlier (decimal k ∷ []) ∙ ap (λ (ws : List (List ℕ)). nodes_among earlier ++ ws) (one_kept (decimal k) (kept_node laws k is)))
    ∙ length-append (nodes_among earlier) (decimal k ∷ [])

-- the nodes of one tour, and its end
tour_taken : NumberLaws → (n : ℕ) (earlier : List (List ℕ)) (tour : List ℕ)
    → length (nodes_among earlier) + length tour ≤ most_tour_nodes → list_all (is_node most_nodes) tour ≡ true
    → AllTaken n place_of_tour earlier (tour_words tour)
tour_taken laws n earlier [] room all = (
  no_rows (result_err (node_or_end most_nodes (codes "-1"))) false false (nat_le most_tour_nodes (length (nodes_among earlier)) && not (is_end most_nodes (codes "-1"))) false
      (ap (λ (r : Result ℤ NumberFault). result_err r) (end_read laws most_nodes)) refl refl
      (and_right (nat_le most_tour_nodes (length (nodes_among earlier))) (not (is_end most_nodes (codes "-1"))) (not_from_true (is_end most_nodes (codes "-1")) (end_ends laws most_nodes))) refl,
  tt,
)
tour_taken laws n earlier (k ∷ tour) room all =
    let both = and_parts (is_node most_nodes k) (list_all (is_node most_nodes) tour) all in
    let count = node_count laws earlier k both.0 in (
      no_rows (result_err (node_or_end most_nodes (decimal k))) false false (nat_le most_tour_nodes (length (nodes_among earlier)) && not (is_end most_nodes (decimal k))) false
          (ap (λ (r : Result ℤ NumberFault). result_err r) (listed_back laws most_nodes k (omega arith) both.0)) refl refl
          (and_left (nat_le most_tour_nodes (length (nodes_among earlier))) (not (is_end most_nodes (decimal k))) (has_room most_tour_nodes (length (nodes_among earlier)) (length tour) room)) refl,
      tour_taken laws n (earlier ++ decimal k ∷ []) tour (omega (arith, count)) both.1,
    )

tour_count : NumberLaws → (earlier : List (List ℕ)) (tour : List ℕ) → list_all (is_node most_nodes) tour ≡ true
    → length (nodes_among (earlier ++ tour_words tour)) ≡ length (nodes_among earlier) + length tour
tour_count laws earlier [] all =
    ap length (filter-append (λ word. not (ends_tour word)) earlier (codes "-1" ∷ []))
    ∙ ap (λ b. length (nodes_among earlier ++ cond (not b) (codes "-1" ∷ []) [])) (end_ends laws most_nodes)
    ∙ length-append (nodes_among earlier) []
tour_count laws earlier (k ∷ tour) all =
    let both = and_parts (is_node most_nodes k) (list_all (is_node most_nodes) tour) all in
    ap (λ (ws : List (List ℕ)). length (nodes_among ws)) (sym (append_assoc earlier (decimal k ∷ []) (tour_words tour)))
    ∙ tour_count laws (earlier ++ decimal k ∷ []) tour both.1 ∙ omega (arith, node_count laws earlier k both.0)

pub tours_taken : NumberLaws → (n : ℕ) (earlier : List (List ℕ)) (tours : List (List ℕ))
    → length (nodes_among earlier) + sum_by length tours ≤ most_tour_nodes → list_all is_node_list tours ≡ true
    → AllTaken n place_of_tour earlier (flat_map tour_words tours)
tours_taken laws n earlier [] room all = tt
tours_taken laws n earlier (tour ∷ tours) room all =
    let both = and_parts (is_node_list tour) (list_all is_node_list tours) all in
    let nodes = (and_parts (nat_le 1 (length tour)) (list_all (is_node most_nodes) tour) both.0).1 in
    let total = sum_by-cons (λ (t : List ℕ). length t) tour tours in
    taken-append n place_of_tour earlier (tour_words tour) (flat_map tour_words tours) (tour_taken laws n earlier tour (omega (arith, total)) nodes)
    (tours_taken laws n (earlier ++ tour_words tour) tours (omega (arith, total, tour_count laws earlier tour nodes)) both.1)

none_ends : NumberLaws → (tour : List ℕ) → list_all (is_node most_nodes) tour ≡ true
    → list_all (λ word. not (ends_tour word)) (map decimal tour) ≡ true
none_ends laws [] all = refl
none_ends laws (k ∷ tour) all =
    let both = and_parts (is_node most_nodes k) (list_all (is_node most_nodes) tour) all in
    and_from (not (ends_tour (decimal k))) (list_all (λ word. not (ends_tour word)) (map decimal tour)) (kept_node laws k both.0) (none_ends laws tour both.1)

nodes_back : NumberLaws → (tour : List ℕ) → list_all (is_node most_nodes) tour ≡ true → map tour_node (map decimal tour) ≡ tour
nodes_back laws [] all = refl
nodes_back laws (k ∷ tour) all =
    let both = and_parts (is_node most_nodes k) (list_all (is_node most_nodes) tour) all in
    ap (λ r. nat_abs (number r) ∷ map tour_node (map decimal tour)) (listed_back laws most_nodes k (omega arith) both.0) ∙ ap (λ (ks : List ℕ). k ∷ ks) (nodes_back laws tour both.1)

filled_tour : (tour : List ℕ) → nat_le 1 (length tour) ≡ true → is_not_empty (map decimal tour) ≡ true
filled_tour [] e = absurd (false≢true e)
filled_tour (k ∷ tour) e = refl

pub tours_back : NumberLaws → (tours : List (List ℕ)) → list_all is_node_list tours ≡ true
    → tours_in (flat_map tour_words tours) ≡ tours
tours_back laws [] all = refl
tours_back laws (tour ∷ tours) all =
    let both = and_parts (is_node_list tour) (list_all is_node_list tours) all in
    let parts = and_parts (nat_le 1 (length tour)) (list_all (is_node most_nodes) tour) both.0 in
    let rest = flat_map tour_words tours in
    ap (λ (ws : List (List ℕ)). map (map tour_node) (filter is_not_empty (slice_split ends_tour ws))) (append_assoc (map decimal tour) (codes "-1" ∷ []) rest)
    ∙ ap (λ (pieces : List (List (List ℕ))). map (map tour_node) (filter is_not_empty pieces))
    (split_at ends_tour (map decimal tour) (codes "-1") rest (none_ends laws tour parts.1) (end_ends laws most_nodes))
    ∙ ap (λ b. map (map tour_node) (cond b (map decimal tour ∷ filter is_not_empty (slice_split ends_tour rest)) (filter is_not_empty (slice_split ends_tour rest)))) (filled_tour tour parts.0)
    ∙ ap (λ (t : List ℕ). t ∷ tours_in rest) (nodes_back laws tour parts.1) ∙ ap (λ (ts : List (List ℕ)). tour ∷ ts) (tours_back laws tours both.1)

-- ---- the lines of a section's numbers

one_plain : (word : List ℕ) → is_plain_word word ≡ true → list_all is_plain_word (word ∷ []) ≡ true
one_plain word plain = and_from (is_plain_word word) true plain refl

-- ---- by node

pub values_written : {X : Type 0} {size : ℕ} {value : Words → X} {number_place : Place} {n : ℕ} {fits : X → Bool} {spell : X → Words}
    → AreSpelled size value number_place n fits spell → n < 2 ^ 32 → (i : ℕ) (xs : List X) → i + length xs ≤ n → list_all fits xs ≡ true
    → WritesWords (flat_map (λ (entry : ℕ × X). number_line (decimal entry.0) (spell entry.1)) (enumerate_from (i + 1) xs)) (flat_map (entry_words spell) (enumerate_from (i + 1) xs))
values_written spelled few i [] room all = no_words_written
values_written {X} {n = n} {fits = fits} {spell = spell} spelled few i (x ∷ xs) room all =
    let both = and_parts (fits x) (list_all fits xs) all in
    both_words (number_line (decimal (i + 1)) (spell x)) (flat_map (λ (entry : ℕ × X). number_line (decimal entry.0) (spell entry.1)) (enumerate_from (i + 1 + 1) xs))
    (entry_words spell (i + 1, x)) (flat_map (entry_words spell) (enumerate_from (i + 1 + 1) xs))
    (number_line_written (decimal (i + 1)) (spell x) (decimal_plain (i + 1) (omega arith)) (spelled.plain x both.0))
    (values_written spelled few (i + 1) xs (omega arith) both.1)

-- ---- lists that -1 ends

pub node_plain : (n k : ℕ) → n < 2 ^ 32 → is_node n k ≡ true → is_plain_word (decimal k) ≡ true
node_plain n k few is =
    let most = leb-true k n (and_parts (nat_le 1 k) (nat_le k n) is).1 in
    decimal_plain k (omega arith)

pub end_written : WritesWords (codes "-1" ++ 10 ∷ []) (codes "-1" ∷ [])
end_written = number_line_written (codes "-1") [] refl refl

nodes_written : (n : ℕ) → n < 2 ^ 32 → (nodes : List ℕ) → list_all (is_node n) nodes ≡ true
    → WritesWords (flat_map (λ node. number_line (decimal node) []) nodes) (map decimal nodes)
nodes_written n few [] all = no_words_written
nodes_written n few (k ∷ nodes) all =
    let both = and_parts (is_node n k) (list_all (is_node n) nodes) all in
    both_words (number_line (decimal k) []) (flat_map (λ node. number_line (decimal node) []) nodes) (decimal k ∷ []) (map decimal nodes)
    (number_line_written (decimal k) [] (node_plain n k few both.0) refl) (nodes_written n few nodes both.1)

pub node_lines_written : (n : ℕ) → n < 2 ^ 32 → (nodes : List ℕ) → list_all (is_node n) nodes ≡ true
    → WritesWords (node_list nodes) (map decimal nodes ++ codes "-1" ∷ [])
node_lines_written n few nodes all =
    both_words (flat_map (λ node. number_line (decimal node) []) nodes) (codes "-1" ++ 10 ∷ []) (map decimal nodes) (codes "-1" ∷ []) (nodes_written n few nodes all) end_written

-- one line for each pair, or triple
pub lines_written : {A : Type 0} (fits : A → Bool) (line : A → List ℕ) (words : A → List (List ℕ))
    → ((x : A) → fits x ≡ true → WritesWords (line x) (words x))
    → (xs : List A) → list_all fits xs ≡ true → WritesWords (flat_map line xs) (flat_map words xs)
lines_written fits line words each [] all = no_words_written
lines_written fits line words each (x ∷ xs) all =
    let both = and_parts (fits x) (list_all fits xs) all in
    both_words (line x) (flat_map line xs) (words x) (flat_map words xs) (each x both.0) (lines_written fits line words each xs both.1)

-- and the line of the -1
pub list_written : {A : Type 0} (fits : A → Bool) (line : A → List ℕ) (words : A → List (List ℕ))
    → ((x : A) → fits x ≡ true → WritesWords (line x) (words x))
    → (xs : List A) → list_all fits xs ≡ true
    → WritesWords (ended_by_mark (flat_map line xs)) (flat_map words xs ++ codes "-1" ∷ [])
list_written fits line words each xs all =
    both_words (flat_map line xs) (codes "-1" ++ 10 ∷ []) (flat_map words xs) (codes "-1" ∷ []) (lines_written fits line words each xs all) end_written

tour_written : (tour : List ℕ) → is_node_list tour ≡ true → WritesWords (node_list tour) (tour_words tour)
tour_written tour fits =
    node_lines_written most_nodes (omega arith) tour (and_parts (nat_le 1 (length tour)) (list_all (is_node most_nodes) tour) fits).1

pub tour_lines_written : (tours : List (List ℕ)) → list_all is_node_list tours ≡ true
    → WritesWords (flat_map node_list tours) (flat_map tour_words tours)
tour_lines_written tours all = lines_written is_node_list node_list tour_words tour_written tours all

pub pair_written : (n : ℕ) → n < 2 ^ 32 → (pair : ℕ × ℕ) → is_pair_of n pair ≡ true
    → WritesWords (number_line (decimal pair.0) (decimal pair.1 ∷ [])) (pair_words pair)
pair_written n few pair fits =
    let are = are_pair n pair fits in
    number_line_written (decimal pair.0) (decimal pair.1 ∷ []) (node_plain n pair.0 few are.first) (one_plain (decimal pair.1) (node_plain n pair.1 few are.second))

pub pair_lines_written : (n : ℕ) → n < 2 ^ 32 → (pairs : List (ℕ × ℕ)) → list_all (is_pair_of n) pairs ≡ true
    → WritesWords (pair_list pairs) (flat_map pair_words pairs ++ codes "-1" ∷ [])
pair_lines_written n few pairs all =
    list_written (is_pair_of n) (λ (pair : ℕ × ℕ). number_line (decimal pair.0) (decimal pair.1 ∷ [])) pair_words (pair_written n few) pairs all

triple_written : (n : ℕ) → n < 2 ^ 32 → (triple : ℕ × ℕ × ℤ) → is_triple_of n triple ≡ true
    → WritesWords (number_line (decimal triple.0) (decimal triple.1 ∷ signed_decimal triple.2 ∷ [])) (triple_words triple)
triple_written n few triple fits =
    let are = are_triple n triple fits in
    let b = decimal triple.1 in
    let c = signed_decimal triple.2 in
    let small = size_from 0 most_multiplier triple.2 are.1 in
    let second = node_plain n triple.1 few are.0.second in
    number_line_written (decimal triple.0) (b ∷ c ∷ []) (node_plain n triple.0 few are.0.first)
    (and_from (is_plain_word b) (list_all is_plain_word (c ∷ [])) second (one_plain c (signed_plain triple.2 (omega (arith, small)))))

pub triple_lines_written : (n : ℕ) → n < 2 ^ 32 → (triples : List (ℕ × ℕ × ℤ)) → list_all (is_triple_of n) triples ≡ true
    → WritesWords (triple_list triples) (flat_map triple_words triples ++ codes "-1" ∷ [])
triple_lines_written n few triples all =
    list_written (is_triple_of n) (λ (triple : ℕ × ℕ × ℤ). number_line (decimal triple.0) (decimal triple.1 ∷ signed_decimal triple.2 ∷ [])) triple_words (triple_written n few) triples all

-- ---- weights

pub weight_line_written : (first : ℤ) (rest : List ℤ) → list_all (is_within most_weight) (first ∷ rest) ≡ true
    → WritesWords (number_line (signed_decimal first) (map signed_decimal rest)) (map signed_decimal (first ∷ rest))
weight_line_written first rest all =
    let both = and_parts (is_within most_weight first) (list_all (is_within most_weight) rest) all in
    number_line_written (signed_decimal first) (map signed_decimal rest) (weight_plain first both.0) (weights_plain rest both.1)
  where
    weight_plain : (z : ℤ) → is_within most_weight z ≡ true → is_plain_word (signed_decimal z) ≡ true
    weight_plain z inside =
        let small = within_abs most_weight z inside in
        signed_plain z (omega (arith, small))

    weights_plain : (zs : List ℤ) → list_all (is_within most_weight) zs ≡ true → list_all is_plain_word (map signed_decimal zs) ≡ true
    weights_plain [] all = refl
    weights_plain (z ∷ zs) all =
        let both = and_parts (is_within most_weight z) (list_all (is_within most_weight) zs) all in
        and_from (is_plain_word (signed_decimal z)) (list_all is_plain_word (map signed_decimal zs)) (weight_plain z both.0) (weights_plain zs both.1)

-- ---- the weights of a matrix as they are written, row by row of the layout

-- what passes for all of a list passes for its front and for the rest
both_parts : {A : Type 0} (p : A → Bool) (len : ℕ) (xs : List A) → list_all p xs ≡ true
    → (list_all p (take len xs) ≡ true) × (list_all p (drop len xs) ≡ true)
both_parts p len xs all =
    and_parts (list_all p (take len xs)) (list_all p (drop len xs)) (sym (list_all-append p (take len xs) (drop len xs)) ∙ ap (list_all p) (take-append-drop len xs) ∙ all)

one_line : (weights : List ℤ) → list_all (is_within most_weight) weights ≡ true
    → WritesWords (weight_line weights) (map signed_decimal weights)
one_line [] all = no_words_written
one_line (first ∷ rest) all = weight_line_written first rest all

pub matrix_lines_written : (lens : List ℕ) (weights : List ℤ) → list_all (is_within most_weight) weights ≡ true
    → WritesWords (matrix_lines lens weights) (map signed_decimal weights)
matrix_lines_written [] weights all = one_line weights all
matrix_lines_written (len ∷ lens) weights all =
    let parts = both_parts (is_within most_weight) len weights all in
    subst (λ (words : List (List ℕ)). WritesWords (matrix_lines (len ∷ lens) weights) words)
    (sym (map-append signed_decimal (take len weights) (drop len weights)) ∙ ap (map signed_decimal) (take-append-drop len weights))
    (both_words (weight_line (take len weights)) (matrix_lines lens (drop len weights)) (map signed_decimal (take len weights)) (map signed_decimal (drop len weights))
    (one_line (take len weights) parts.0) (matrix_lines_written lens (drop len weights) parts.1))

-- ---- keywords with a list of accepted words, as they are written

-- ---- TypeKey

pub kind_row : (earlier : List Item) (value : Kind) → has_line TypeKey earlier ≡ false
    → row_of earlier (Line (Known TypeKey) (written_line (field_word TypeKey) (kind_word value))) ≡ None
kind_row earlier kinds.Tsp unseen = rw unseen refl
kind_row earlier kinds.Atsp unseen = rw unseen refl
kind_row earlier kinds.Cvrp unseen = rw unseen refl
kind_row earlier kinds.Tour unseen = rw unseen refl
kind_row earlier kinds.Potentials unseen = rw unseen refl
kind_row earlier kinds.Branches unseen = rw unseen refl

pub kind_whole : (value : Kind) → IsWhole (kind_word value)
kind_whole kinds.Tsp = record { one_line = refl; begins_filled = refl; ends_filled = refl }
kind_whole kinds.Atsp = record { one_line = refl; begins_filled = refl; ends_filled = refl }
kind_whole kinds.Cvrp = record { one_line = refl; begins_filled = refl; ends_filled = refl }
kind_whole kinds.Tour = record { one_line = refl; begins_filled = refl; ends_filled = refl }
kind_whole kinds.Potentials = record { one_line = refl; begins_filled = refl; ends_filled = refl }
kind_whole kinds.Branches = record { one_line = refl; begins_filled = refl; ends_filled = refl }

pub kind_back : (value : Kind) → kind_named (first_word (kind_word value)) ≡ Some value
kind_back kinds.Tsp = refl
kind_back kinds.Atsp = refl
kind_back kinds.Cvrp = refl
kind_back kinds.Tour = refl
kind_back kinds.Potentials = refl
kind_back kinds.Branches = refl

-- ---- EdgeWeightTypeKey

pub weight_kind_row : (earlier : List Item) (value : WeightKind) → has_line EdgeWeightTypeKey earlier ≡ false
    → has_line NodeCoordPart earlier ≡ false
    → row_of earlier (Line (Known EdgeWeightTypeKey) (written_line (field_word EdgeWeightTypeKey) (weight_kind_word value))) ≡ None
weight_kind_row earlier weight_kinds.Explicit unseen none = rw unseen refl
weight_kind_row earlier weight_kinds.Euc2d unseen none = rw unseen refl
weight_kind_row earlier weight_kinds.Ceil2d unseen none = rw unseen refl
weight_kind_row earlier weight_kinds.Man2d unseen none = rw unseen refl
weight_kind_row earlier weight_kinds.Max2d unseen none = rw unseen refl
weight_kind_row earlier weight_kinds.Att unseen none = rw unseen refl
weight_kind_row earlier weight_kinds.Euc3d unseen none = rw (unseen, none) refl
weight_kind_row earlier weight_kinds.Man3d unseen none = rw (unseen, none) refl
weight_kind_row earlier weight_kinds.Max3d unseen none = rw (unseen, none) refl

pub weight_kind_whole : (value : WeightKind) → IsWhole (weight_kind_word value)
weight_kind_whole weight_kinds.Explicit = record { one_line = refl; begins_filled = refl; ends_filled = refl }
weight_kind_whole weight_kinds.Euc2d = record { one_line = refl; begins_filled = refl; ends_filled = refl }
weight_kind_whole weight_kinds.Ceil2d = record { one_line = refl; begins_filled = refl; ends_filled = refl }
weight_kind_whole weight_kinds.Man2d = record { one_line = refl; begins_filled = refl; ends_filled = refl }
weight_kind_whole weight_kinds.Max2d = record { one_line = refl; begins_filled = refl; ends_filled = refl }
weight_kind_whole weight_kinds.Att = record { one_line = refl; begins_filled = refl; ends_filled = refl }
weight_kind_whole weight_kinds.Euc3d = record { one_line = refl; begins_filled = refl; ends_filled = refl }
weight_kind_whole weight_kinds.Man3d = record { one_line = refl; begins_filled = refl; ends_filled = refl }
weight_kind_whole weight_kinds.Max3d = record { one_line = refl; begins_filled = refl; ends_filled = refl }

pub weight_kind_back : (value : WeightKind) → weight_kind_named (first_word (weight_kind_word value)) ≡ Some value
weight_kind_back weight_kinds.Explicit = refl
weight_kind_back weight_kinds.Euc2d = refl
weight_kind_back weight_kinds.Ceil2d = refl
weight_kind_back weight_kinds.Man2d = refl
weight_kind_back weight_kinds.Max2d = refl
weight_kind_back weight_kinds.Att = refl
weight_kind_back weight_kinds.Euc3d = refl
weight_kind_back weight_kinds.Man3d = refl
weight_kind_back weight_kinds.Max3d = refl

-- ---- EdgeWeightFormatKey

pub weight_format_row : (earlier : List Item) (value : WeightFormat) → has_line EdgeWeightFormatKey earlier ≡ false
    → row_of earlier (Line (Known EdgeWeightFormatKey) (written_line (field_word EdgeWeightFormatKey) (weight_format_word value))) ≡ None
weight_format_row earlier formats.ByFunction unseen = rw unseen refl
weight_format_row earlier (formats.Listed layouts.FullMatrix) unseen = rw unseen refl
weight_format_row earlier (formats.Listed layouts.UpperRow) unseen = rw unseen refl
weight_format_row earlier (formats.Listed layouts.LowerRow) unseen = rw unseen refl
weight_format_row earlier (formats.Listed layouts.UpperDiagRow) unseen = rw unseen refl
weight_format_row earlier (formats.Listed layouts.LowerDiagRow) unseen = rw unseen refl
weight_format_row earlier (formats.Listed layouts.UpperCol) unseen = rw unseen refl
weight_format_row earlier (formats.Listed layouts.LowerCol) unseen = rw unseen refl
weight_format_row earlier (formats.Listed layouts.UpperDiagCol) unseen = rw unseen refl
weight_format_row earlier (formats.Listed layouts.LowerDiagCol) unseen = rw unseen refl

pub weight_format_whole : (value : WeightFormat) → IsWhole (weight_format_word value)
weight_format_whole formats.ByFunction = record { one_line = refl; begins_filled = refl; ends_filled = refl }
weight_format_whole (formats.Listed layouts.FullMatrix) = record { one_line = refl; begins_filled = refl; ends_filled = refl }
weight_format_whole (formats.Listed layouts.UpperRow) = record { one_line = refl; begins_filled = refl; ends_filled = refl }
weight_format_whole (formats.Listed layouts.LowerRow) = record { one_line = refl; begins_filled = refl; ends_filled = refl }
weight_format_whole (formats.Listed layouts.UpperDiagRow) = record { one_line = refl; begins_filled = refl; ends_filled = refl }
weight_format_whole (formats.Listed layouts.LowerDiagRow) = record { one_line = refl; begins_filled = refl; ends_filled = refl }
weight_format_whole (formats.Listed layouts.UpperCol) = record { one_line = refl; begins_filled = refl; ends_filled = refl }
weight_format_whole (formats.Listed layouts.LowerCol) = record { one_line = refl; begins_filled = refl; ends_filled = refl }
weight_format_whole (formats.Listed layouts.UpperDiagCol) = record { one_line = refl; begins_filled = refl; ends_filled = refl }
weight_format_whole (formats.Listed layouts.LowerDiagCol) = record { one_line = refl; begins_filled = refl; ends_filled = refl }

pub weight_format_back : (value : WeightFormat) → weight_format_named (first_word (weight_format_word value)) ≡ Some value
weight_format_back formats.ByFunction = refl
weight_format_back (formats.Listed layouts.FullMatrix) = refl
weight_format_back (formats.Listed layouts.UpperRow) = refl
weight_format_back (formats.Listed layouts.LowerRow) = refl
weight_format_back (formats.Listed layouts.UpperDiagRow) = refl
weight_format_back (formats.Listed layouts.LowerDiagRow) = refl
weight_format_back (formats.Listed layouts.UpperCol) = refl
weight_format_back (formats.Listed layouts.LowerCol) = refl
weight_format_back (formats.Listed layouts.UpperDiagCol) = refl
weight_format_back (formats.Listed layouts.LowerDiagCol) = refl

-- ---- NodeCoordTypeKey

pub coord_kind_row : (earlier : List Item) (value : CoordKind) → has_line NodeCoordTypeKey earlier ≡ false
    → has_line NodeCoordPart earlier ≡ false
    → row_of earlier (Line (Known NodeCoordTypeKey) (written_line (field_word NodeCoordTypeKey) (coord_kind_word value))) ≡ None
coord_kind_row earlier coord_kinds.TwoD unseen none = rw unseen refl
coord_kind_row earlier coord_kinds.ThreeD unseen none = rw (unseen, none) refl
coord_kind_row earlier coord_kinds.NoCoords unseen none = rw unseen refl

pub coord_kind_whole : (value : CoordKind) → IsWhole (coord_kind_word value)
coord_kind_whole coord_kinds.TwoD = record { one_line = refl; begins_filled = refl; ends_filled = refl }
coord_kind_whole coord_kinds.ThreeD = record { one_line = refl; begins_filled = refl; ends_filled = refl }
coord_kind_whole coord_kinds.NoCoords = record { one_line = refl; begins_filled = refl; ends_filled = refl }

pub coord_kind_back : (value : CoordKind) → coord_kind_named (first_word (coord_kind_word value)) ≡ Some value
coord_kind_back coord_kinds.TwoD = refl
coord_kind_back coord_kinds.ThreeD = refl
coord_kind_back coord_kinds.NoCoords = refl

-- ---- DisplayDataTypeKey

pub display_kind_row : (earlier : List Item) (value : DisplayKind) → has_line DisplayDataTypeKey earlier ≡ false
    → row_of earlier (Line (Known DisplayDataTypeKey) (written_line (field_word DisplayDataTypeKey) (display_kind_word value))) ≡ None
display_kind_row earlier display_kinds.Coord unseen = rw unseen refl
display_kind_row earlier display_kinds.TwoD unseen = rw unseen refl
display_kind_row earlier display_kinds.NoDisplay unseen = rw unseen refl

pub display_kind_whole : (value : DisplayKind) → IsWhole (display_kind_word value)
display_kind_whole display_kinds.Coord = record { one_line = refl; begins_filled = refl; ends_filled = refl }
display_kind_whole display_kinds.TwoD = record { one_line = refl; begins_filled = refl; ends_filled = refl }
display_kind_whole display_kinds.NoDisplay = record { one_line = refl; begins_filled = refl; ends_filled = refl }

pub display_kind_back : (value : DisplayKind) → display_kind_named (first_word (display_kind_word value)) ≡ Some value
display_kind_back display_kinds.Coord = refl
display_kind_back display_kinds.TwoD = refl
display_kind_back display_kinds.NoDisplay = refl
