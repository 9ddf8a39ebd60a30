-- The fields of items without a fault are valid, field by field; the files named Valid.. have the sections. It is why
-- tsp_read need not test a field again at the end.
use Rattle.tsp_text.proofs.Prelude.{◌≡◌, ℕ, Bool, true, false, cond, List, [], ◌∷◌, refl, sym, ap, subst, ◌∙◌, Option, Some, None, ◌++◌, length, arith, ◌*◌, false≢true, and_from, true≢false, le-leb, leb-false, ltb-false, length-map, length_push, list_all-map, list_any, list_all, find, option_or, option_map, pos, ◌&&◌, nat_le, nat_lt, neg_ℤ, not, ◌||◌, is_section_field, most_multiplier, most_matrix_nodes, most_weight, most_demand, most_potential, fields_in_order, Field, DimensionKey, TourPart, FixedEdgePotentialPart, EdgeWeightPart, NameKey, TypeKey, CommentKey, OtherKey, CapacityKey, ScaleKey, LoadUnitKey, EdgeWeightTypeKey, EdgeWeightFormatKey, NodeCoordTypeKey, DisplayDataTypeKey, NodeCoordPart, DisplayDataPart, DemandPart, DepotPart, FixedEdgesPart, NodePotentialPart, RowPotentialPart, ColumnPotentialPart, FamilyPart, MemoryPart, SubsetRowPart, BranchPart, Known, EdgeDataFormat, EdgeDataSection, Eof, Unknown, if_there, with_dimension, is_from_to, is_pair_of, is_triple_of, are_triples, is_within, fit_matrix, is_by_node, is_point, is_demand, are_depots, are_fixed, are_tours, are_family_lists, are_memory_lists, are_subset_rows, are_tree_steps, fits, first_failing, bad_field}
use Rattle.tsp_number.specs.NumberWord.{whole_of}
use Rattle.tsp_format.proofs.Basics.{none_map, and_right_from}
use Rattle.tsp_file.proofs.FileFields.{none_fails}
use Rattle.tsp_file.proofs.ValidFields.{nodes_fit}
use Rattle.tsp_file.specs.Fields.{Fields}
use Rattle.tsp_file.specs.Rules.{standing_of, is_there, asked_in_order, format_or_count, end_fault, fault_of}
use Rattle.tsp_file.specs.declared.rules.DraftFault.TheVariants.{BadField, Rule}
use Rattle.tsp_file.specs.declared.rules.EndFault.{EndFault}
use Rattle.tsp_file.specs.declared.rules.EndFault.TheVariants.{Missing, Incomplete}
use Rattle.tsp_text.proofs.GroupWords.{Words, begun_short, AreListed, valid_pair, past_end, begins, middle, group_fits, fixed_fit}
use Rattle.tsp_text.proofs.ValidCuts.{part_cut, tours_fit, families_fit}
use Rattle.tsp_text.proofs.ValidMemory.{memories_fit, rows_fit}
use Rattle.tsp_text.specs.MemoryWords.{whole_memories, whole_rows}
use Rattle.tsp_text.proofs.ValidKeywords.{whole_passes, all_pass, name_fits, comments_fit, others_fit, dimension_fits, capacity_fits, scale_fits, load_unit_fits, numbers_fit, points_fit, coords_fit, depots_fit}
use Rattle.tsp_text.proofs.ValidRows.{clean_parts, no_row, same_field_is, late, dimension_there, is_taken, Grows, grown, nodes_kept, none_applies, still_stands}
use Rattle.tsp_text.proofs.ValidTree.{steps_fit}
use Rattle.tsp_text.specs.Earlier.{same_field, has_line, words_of, dimension_of, dimension_in, spatial_after}
use Rattle.tsp_text.specs.FaultRows.{is_early, word_fault, row_of, when}
use Rattle.tsp_text.specs.Groups.{groups_in, begun_in, firsts_in, fixed_pair, fixed_triple, fixed_triples_in, place_in_triple, points_by_node, coords_by_node, depots_in, fixed_in, whole_families}
use Rattle.tsp_text.specs.Items.{WordLine, Item, Line, NumberWord, LineEnd, has_end_line, AreCut}
use Rattle.tsp_text.specs.SectionWords.{number, node_or_end, is_end, SecondOf, PastEnd, whole_of_size, Weight, PastWeights, weights_in, tours_in, whole_steps, place_of_step}
use Rattle.tsp_text.specs.ParsesTo.{IsClean, section_value, stands, fault_in, potentials_by_node, demands_in, spelled, wants_more, is_incomplete, sections_in_order, first_incomplete, fault_at_end, is_too_long, part, ParsesTo}
use Rattle.tsp_text.specs.declared.fault.ReadFault.TheVariants as faults

late_line : (field f : Field) (line : WordLine) (earlier : List Item) (b : Bool) → same_field field f ≡ b
    → is_section_field field ≡ true → same_field TourPart field ≡ false
    → is_early earlier (Line (Known f) line) ≡ false → (has_line field earlier ≡ true → has_line DimensionKey earlier ≡ true)
    → cond b true (has_line field earlier) ≡ true
    → has_line DimensionKey (Line (Known f) line ∷ earlier) ≡ true
late_line field f line earlier false e section_value other in_time before stands =
    still_stands (same_field DimensionKey f) (has_line DimensionKey earlier) (before stands)
late_line field f line earlier true e section_value other in_time before stands =
    let same = same_field_is field f e in
    late (is_section_field f) (same_field TourPart f) (has_line DimensionKey earlier) (same_field DimensionKey f)
    (ap is_section_field (sym same) ∙ section_value) (ap (same_field TourPart) (sym same) ∙ other) in_time

pub stands_late : (field : Field) → is_section_field field ≡ true → same_field TourPart field ≡ false → (items : List Item)
    → IsClean items
    → has_line field items ≡ true → has_line DimensionKey items ≡ true
stands_late field section_value other [] clean stands = absurd (false≢true stands)
stands_late field section_value other (NumberWord word ∷ earlier) clean stands =
    stands_late field section_value other earlier (clean_parts earlier (NumberWord word) clean).0 stands
stands_late field section_value other (LineEnd ∷ earlier) clean stands =
    stands_late field section_value other earlier (clean_parts earlier LineEnd clean).0 stands
stands_late field section_value other (Line (Known f) line ∷ earlier) clean stands =
    let parts = clean_parts earlier (Line (Known f) line) clean in
    late_line field f line earlier (same_field field f) refl section_value other (no_row earlier (Line (Known f) line) parts.1).in_time (stands_late field section_value other earlier parts.0) stands
stands_late field section_value other (Line EdgeDataFormat line ∷ earlier) clean stands =
    stands_late field section_value other earlier (clean_parts earlier (Line EdgeDataFormat line) clean).0 stands
stands_late field section_value other (Line EdgeDataSection line ∷ earlier) clean stands =
    stands_late field section_value other earlier (clean_parts earlier (Line EdgeDataSection line) clean).0 stands
stands_late field section_value other (Line Eof line ∷ earlier) clean stands =
    stands_late field section_value other earlier (clean_parts earlier (Line Eof line) clean).0 stands
stands_late field section_value other (Line Unknown line ∷ earlier) clean stands =
    stands_late field section_value other earlier (clean_parts earlier (Line Unknown line) clean).0 stands

-- a section is valid if its value fits that number of nodes
standing_fits : {A : Type 0} (fits : ℕ → A → Bool) (value : List (List ℕ) → A) (words : List (List ℕ)) (n : ℕ) (dimension : Option ℕ) (b : Bool)
    → (b ≡ true → dimension ≡ Some n) → (b ≡ true → fits n (value words) ≡ true)
    → if_there (with_dimension fits dimension) (cond b (Some (value words)) None) ≡ true
standing_fits fits value words n dimension false known each = refl
standing_fits fits value words n dimension true known each =
    subst (λ d. with_dimension fits d (value words) ≡ true) (sym (known refl)) (each refl)

pub section_fits : {A : Type 0} (fits : ℕ → A → Bool) (value : List (List ℕ) → A) (field : Field) → is_section_field field ≡ true
    → same_field TourPart field ≡ false → (items : List Item) → IsClean items
    → (has_line field items ≡ true → fits (dimension_in items) (value (words_of field items)) ≡ true)
    → if_there (with_dimension fits (dimension_of items)) (section_value (stands items) value field items) ≡ true
section_fits fits value field is_one other items clean each =
    standing_fits fits value (words_of field items) (dimension_in items) (dimension_of items) (has_line field items)
    (λ stands. dimension_there items clean (stands_late field is_one other items clean stands)) each

-- ---- the multipliers of a section without a fault

abbrev AreTripled : ℕ → Words → Type 0
AreTripled n words = AreListed 3 fixed_triple is_triple_of n words

taken : (n : ℕ) (words : Words) (word : List ℕ) (ended : Bool) (begun : Words) → list_any (is_end n) (firsts_in 3 words) ≡ ended
    → begun_in 3 words ≡ begun
    → word_fault n (cond ended PastEnd (place_in_triple n (length (groups_in 3 words)) begun)) word ≡ None → AreTripled n words
    → AreTripled n (words ++ word ∷ [])
taken n words word true begun e is row held = past_end 3 fixed_triple is_triple_of n words word held e
taken n words word false [] e is row held = begins 3 fixed_triple is_triple_of n words word held refl e is row
taken n words word false (first ∷ []) e is row held =
    let t = is_taken n (SecondOf (number (node_or_end n first))) word row in
    middle 3 fixed_triple is_triple_of n words word held first [] refl e is (valid_pair n first word (held.begun e first [] is).0 t.is_read t.other_node)
taken n words word false (first ∷ second ∷ []) e is row held =
    group_fits 3 fixed_triple is_triple_of n words word held first (second ∷ []) refl e is
    (and_from (is_pair_of n (fixed_pair n (first ∷ second ∷ []))) (is_from_to (pos 0) (pos most_multiplier) (number (whole_of word (pos 0) (pos most_multiplier))))
    (held.begun e first (second ∷ []) is).0 (whole_passes (pos 0) (pos most_multiplier) word refl))
taken n words word false (first ∷ second ∷ third ∷ rest) e is row held =
    absurd (omega (arith, ap length is, begun_short 3 words (omega arith)))

all_taken : Grows false FixedEdgePotentialPart AreTripled
all_taken = record {
  none = λ n. record { list = refl; begun = λ none first rest e. absurd cc };
  more = λ b same n words word held row. taken n words word (list_any (is_end n) (firsts_in 3 words)) (begun_in 3 words) refl refl row held;
  any_nodes = λ n m words tours held. absurd (false≢true tours);
}

pub triples_fit : (items : List Item) → IsClean items
    → are_triples (dimension_in items) (fixed_triples_in (dimension_in items) (words_of FixedEdgePotentialPart items)) ≡ true
triples_fit items clean =
    let held : AreTripled (dimension_in items) (words_of FixedEdgePotentialPart items) = grown FixedEdgePotentialPart AreTripled refl all_taken items clean in
    held.list

-- ---- the weights of a matrix are valid

-- ---- no more weights than the limit

has_room : (n : ℕ) (words : List (List ℕ)) (word : List ℕ) (b : Bool) → nat_le (n * n) (length words) ≡ b
    → word_fault n (cond b PastWeights Weight) word ≡ None
    → nat_le (length (words ++ word ∷ [])) (n * n) ≡ true
has_room n words word true e row = absurd (true≢false (is_taken n PastWeights word row).has_room)
has_room n words word false e row =
    le-leb (length (words ++ word ∷ [])) (n * n) (omega (arith, length_push words word, leb-false (n * n) (length words) e))

few_weights : Grows false EdgeWeightPart (λ n words. nat_le (length words) (n * n) ≡ true)
few_weights = record {
  none = λ n. le-leb 0 (n * n) (omega arith);
  more = λ b same n words word held row. has_room n words word (nat_le (n * n) (length words)) refl row;
  any_nodes = λ n m words tours held. absurd (false≢true tours);
}

-- ---- no more nodes than a matrix may have

few_at : (f : Field) (line : WordLine) (earlier : List Item) (b : Bool) → same_field EdgeWeightPart f ≡ b → IsClean earlier
    → row_of earlier (Line (Known f) line) ≡ None
    → (has_line EdgeWeightPart earlier ≡ true → nat_le (dimension_in earlier) most_matrix_nodes ≡ true)
    → cond b true (has_line EdgeWeightPart earlier) ≡ true
    → nat_le (dimension_in (Line (Known f) line ∷ earlier)) most_matrix_nodes ≡ true
few_at f line earlier false e clean row before stands =
    let kept = nodes_kept earlier (Line (Known f) line) (stands_late EdgeWeightPart refl refl earlier clean stands) row in
    ap (λ n. nat_le n most_matrix_nodes) kept ∙ before stands
few_at f line earlier true e clean row before stands =
    let same = same_field_is EdgeWeightPart f e in
    let few : (same_field EdgeWeightPart EdgeWeightPart && nat_lt most_matrix_nodes (dimension_in earlier)) ≡ false =
    subst (λ (g : Field). (same_field EdgeWeightPart g && nat_lt most_matrix_nodes (dimension_in earlier)) ≡ false) (sym same) (no_row earlier (Line (Known f) line) row).few_nodes in
    subst (λ (g : Field). nat_le (dimension_in (Line (Known g) line ∷ earlier)) most_matrix_nodes ≡ true) same
    (le-leb (dimension_in earlier) most_matrix_nodes (ltb-false most_matrix_nodes (dimension_in earlier) few))

few_nodes : (items : List Item) → IsClean items → has_line EdgeWeightPart items ≡ true
    → nat_le (dimension_in items) most_matrix_nodes ≡ true
few_nodes [] clean stands = absurd (false≢true stands)
few_nodes (NumberWord word ∷ earlier) clean stands = few_nodes earlier (clean_parts earlier (NumberWord word) clean).0 stands
few_nodes (LineEnd ∷ earlier) clean stands = few_nodes earlier (clean_parts earlier LineEnd clean).0 stands
few_nodes (Line (Known f) line ∷ earlier) clean stands =
    let parts = clean_parts earlier (Line (Known f) line) clean in
    few_at f line earlier (same_field EdgeWeightPart f) refl parts.0 parts.1 (few_nodes earlier parts.0) stands
few_nodes (Line EdgeDataFormat line ∷ earlier) clean stands =
    few_nodes earlier (clean_parts earlier (Line EdgeDataFormat line) clean).0 stands
few_nodes (Line EdgeDataSection line ∷ earlier) clean stands =
    few_nodes earlier (clean_parts earlier (Line EdgeDataSection line) clean).0 stands
few_nodes (Line Eof line ∷ earlier) clean stands = few_nodes earlier (clean_parts earlier (Line Eof line) clean).0 stands
few_nodes (Line Unknown line ∷ earlier) clean stands = few_nodes earlier (clean_parts earlier (Line Unknown line) clean).0 stands

-- ---- together

weights_sized : (words : List (List ℕ)) → list_all (is_within most_weight) (weights_in words) ≡ true
weights_sized words = list_all-map (is_within most_weight) (λ word. number (whole_of_size most_weight word)) words
    ∙ all_pass (λ word. is_within most_weight (number (whole_of_size most_weight word))) words (λ word. whole_passes (neg_ℤ (pos most_weight)) (pos most_weight) word refl)

pub weights_fit : (items : List Item) → IsClean items → has_line EdgeWeightPart items ≡ true
    → fit_matrix (dimension_in items) (weights_in (words_of EdgeWeightPart items)) ≡ true
weights_fit items clean stands =
    let n = dimension_in items in
    let words = words_of EdgeWeightPart items in
    let room : nat_le (length words) (n * n) ≡ true = grown EdgeWeightPart (λ n words. nat_le (length words) (n * n) ≡ true) refl few_weights items clean in
    let size : nat_le (length (weights_in words)) (n * n) ≡ true = ap (λ k. nat_le k (n * n)) (length-map words (λ word. number (whole_of_size most_weight word))) ∙ room in
    and_from (nat_le n most_matrix_nodes && nat_le (length (weights_in words)) (n * n)) (list_all (is_within most_weight) (weights_in words))
    (and_from (nat_le n most_matrix_nodes) (nat_le (length (weights_in words)) (n * n)) (few_nodes items clean stands) size) (weights_sized words)

-- ---- the fields of cut items without a fault are valid, field by field

tours_there : (items : List Item) (b : Bool) → IsClean items
    → if_there are_tours (cond b (Some (tours_in (words_of TourPart items))) None) ≡ true
tours_there items true clean = tours_fit items clean
tours_there items false clean = refl

potentials_fit : (n : ℕ) (words : List (List ℕ)) → is_by_node (is_within most_potential) n (potentials_by_node n words) ≡ true
potentials_fit n words = numbers_fit (neg_ℤ (pos most_potential)) (pos most_potential) n words refl

-- each field by itself, if the tree, if there is one, is whole
-- plan: by the field: each has its lemma, `name_fits` to `steps_fit`
pub each_fits : (items : List Item) → AreCut items → IsClean items → is_incomplete items BranchPart ≡ false → (field : Field)
    → fits (spelled items) field ≡ true
each_fits items cut clean whole NameKey = name_fits items cut clean
each_fits items cut clean whole TypeKey = refl
each_fits items cut clean whole CommentKey = comments_fit items cut clean
each_fits items cut clean whole OtherKey = others_fit items cut clean
each_fits items cut clean whole DimensionKey = dimension_fits items
each_fits items cut clean whole CapacityKey = capacity_fits items
each_fits items cut clean whole ScaleKey = scale_fits items
each_fits items cut clean whole LoadUnitKey = load_unit_fits items
each_fits items cut clean whole EdgeWeightTypeKey = refl
each_fits items cut clean whole EdgeWeightFormatKey = refl
each_fits items cut clean whole NodeCoordTypeKey = refl
each_fits items cut clean whole DisplayDataTypeKey = refl
each_fits items cut clean whole NodeCoordPart =
    let in_space = spatial_after items in
    nodes_fit (spelled items) in_space ∙ section_fits (is_by_node (is_point in_space)) (coords_by_node in_space (dimension_in items)) NodeCoordPart refl refl items clean
    (λ there. coords_fit in_space (dimension_in items) (words_of NodeCoordPart items))
each_fits items cut clean whole DisplayDataPart =
    section_fits (is_by_node (is_point false)) (points_by_node (dimension_in items)) DisplayDataPart refl refl items clean
    (λ there. points_fit (dimension_in items) (words_of DisplayDataPart items))
each_fits items cut clean whole DemandPart =
    section_fits (is_by_node is_demand) (demands_in (dimension_in items)) DemandPart refl refl items clean
    (λ there. numbers_fit (pos 0) (pos most_demand) (dimension_in items) (words_of DemandPart items) refl)
each_fits items cut clean whole DepotPart =
    section_fits are_depots (depots_in (dimension_in items)) DepotPart refl refl items clean (λ there. depots_fit items clean)
each_fits items cut clean whole FixedEdgesPart =
    section_fits are_fixed (fixed_in (dimension_in items)) FixedEdgesPart refl refl items clean (λ there. fixed_fit items clean)
each_fits items cut clean whole EdgeWeightPart =
    section_fits fit_matrix weights_in EdgeWeightPart refl refl items clean (λ there. weights_fit items clean there)
each_fits items cut clean whole TourPart = tours_there items (has_line TourPart items) clean
each_fits items cut clean whole NodePotentialPart =
    section_fits (is_by_node (is_within most_potential)) (potentials_by_node (dimension_in items)) NodePotentialPart refl refl
    items clean (λ there. potentials_fit (dimension_in items) (words_of NodePotentialPart items))
each_fits items cut clean whole RowPotentialPart =
    section_fits (is_by_node (is_within most_potential)) (potentials_by_node (dimension_in items)) RowPotentialPart refl refl
    items clean (λ there. potentials_fit (dimension_in items) (words_of RowPotentialPart items))
each_fits items cut clean whole ColumnPotentialPart =
    section_fits (is_by_node (is_within most_potential)) (potentials_by_node (dimension_in items)) ColumnPotentialPart refl
    refl items clean (λ there. potentials_fit (dimension_in items) (words_of ColumnPotentialPart items))
each_fits items cut clean whole FixedEdgePotentialPart =
    section_fits are_triples (fixed_triples_in (dimension_in items)) FixedEdgePotentialPart refl refl items clean (λ there. triples_fit items clean)
each_fits items cut clean whole FamilyPart =
    section_fits are_family_lists (whole_families (dimension_in items)) FamilyPart refl refl items clean (λ there. families_fit items clean)
each_fits items cut clean whole MemoryPart =
    section_fits are_memory_lists (whole_memories (dimension_in items)) MemoryPart refl refl items clean (λ there. memories_fit items clean)
each_fits items cut clean whole SubsetRowPart =
    section_fits are_subset_rows (whole_rows (dimension_in items)) SubsetRowPart refl refl items clean (λ there. rows_fit items clean)
each_fits items cut clean whole BranchPart =
    section_fits are_tree_steps (whole_steps (dimension_in items)) BranchPart refl refl items clean
    (λ there. steps_fit items clean (and_right_from (has_line BranchPart items) (wants_more (place_of_step (dimension_in items) (words_of BranchPart items))) there whole))

pub none_bad : (items : List Item) → AreCut items → IsClean items → is_incomplete items BranchPart ≡ false
    → bad_field (spelled items) ≡ None
none_bad items cut clean whole = none_fails (fits (spelled items)) fields_in_order (each_fits items cut clean whole)

-- ---- the end

-- no fault at the end, whatever section is incomplete: none with no incomplete one
complete : (missing : Option EndFault) (incomplete : Option Field) (rest : Option EndFault)
    → option_or missing (option_or (option_map (λ field. Incomplete field) incomplete) rest) ≡ None
    → option_or missing (option_or None rest) ≡ None
complete None None rest e = e
complete None (Some field) rest e = absurd cc
complete (Some fault) incomplete rest e = absurd cc

-- and then no section is incomplete
none_incomplete : (missing : Option EndFault) (incomplete : Option Field) (rest : Option EndFault)
    → option_or missing (option_or (option_map (λ field. Incomplete field) incomplete) rest) ≡ None → incomplete ≡ None
none_incomplete None None rest e = refl
none_incomplete None (Some field) rest e = absurd cc
none_incomplete (Some fault) incomplete rest e = absurd cc

-- if none of some fields is found, none of them passes
not_first : (test : Field → Bool) (field f : Field) (fields : List Field) (passes same : Bool) → test f ≡ passes
    → same_field field f ≡ same
    → cond passes (Some f) (find test fields) ≡ None → (same || list_any (same_field field) fields) ≡ true
    → (find test fields ≡ None → list_any (same_field field) fields ≡ true → test field ≡ false) → test field ≡ false
not_first test field f fields true same is e none among rest = absurd cc
not_first test field f fields false true is e none among rest = ap test (same_field_is field f e) ∙ is
not_first test field f fields false false is e none among rest = rest none among

found_none : (test : Field → Bool) (field : Field) (fields : List Field) → find test fields ≡ None
    → list_any (same_field field) fields ≡ true → test field ≡ false
found_none test field [] none among = absurd (false≢true among)
found_none test field (f ∷ fields) none among =
    not_first test field f fields (test f) (same_field field f) refl refl none among (found_none test field fields)

no_fault : (bad : Option Field) (rule : Option EndFault) → bad ≡ None → rule ≡ None
    → option_or (option_map (λ field. BadField field) bad) (option_map (λ fault. Rule fault) rule) ≡ None
no_fault None None e f = refl
no_fault None (Some fault) e f = absurd cc
no_fault (Some field) rule e f = absurd cc

pub is_file : (items : List Item) → AreCut items → IsClean items → fault_at_end items ≡ None → fault_of (spelled items) ≡ None
is_file items cut clean ended =
    let s = standing_of (spelled items) in
    let rule : end_fault s None ≡ None = complete (option_map (λ field. Missing field) (first_failing (is_there s) asked_in_order)) (first_incomplete items) (format_or_count s) ended in
    let none : first_incomplete items ≡ None = none_incomplete (option_map (λ field. Missing field) (first_failing (is_there s) asked_in_order)) (first_incomplete items)
    (format_or_count s) ended in
    let whole = found_none (is_incomplete items) BranchPart sections_in_order none refl in
    no_fault (bad_field (spelled items)) (end_fault s None) (none_bad items cut clean whole) rule

pub spelled_file : (bytes : List ℕ) (file : Fields) → ParsesTo bytes file → fault_of file ≡ None
spelled_file bytes file parses_to =
    let rows = none_applies (fault_in (part bytes) ∷ when (is_too_long bytes && not (has_end_line (part bytes))) faults.TooLong
    ∷ option_map (λ fault. faults.End fault) (fault_at_end (part bytes)) ∷ []) parses_to.no_fault in
    let ended = none_map (λ fault. faults.End fault) (fault_at_end (part bytes)) rows.1.1.0 in
    ap fault_of parses_to.fields ∙ is_file (part bytes) (part_cut bytes) rows.0 ended
