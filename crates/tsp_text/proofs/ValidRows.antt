-- What follows if no row of the table of faults applies to an item, and what stays true as a text grows. Most files
-- here rest on it, and the reader's proofs in tsp_read, too.
use Rattle.tsp_text.proofs.Prelude.{◌≡◌, ℕ, Bool, true, false, List, [], ◌∷◌, refl, Option, Some, None, cond, sym, ap, subst, ◌∙◌, Result, Ok, Err, ◌++◌, true≢false, false≢true, AllByRecursion, find, option_map, option_and_then, option_map_or, not, ◌&&◌, ℤ, is_some, unwrap_or, nat_abs, nat_lt, ◌||◌, result_ok, result_err, is_section_field, most_line_bytes, field_word, fields_in_order, field_found, weighs_three, has_three, Field, DimensionKey, TourPart, NameKey, TypeKey, CommentKey, OtherKey, CapacityKey, ScaleKey, LoadUnitKey, EdgeWeightTypeKey, EdgeWeightFormatKey, NodeCoordTypeKey, DisplayDataTypeKey, NodeCoordPart, DisplayDataPart, DemandPart, DepotPart, FixedEdgesPart, EdgeWeightPart, NodePotentialPart, RowPotentialPart, ColumnPotentialPart, FixedEdgePotentialPart, FamilyPart, MemoryPart, SubsetRowPart, BranchPart, Known, EdgeDataFormat, EdgeDataSection, Eof, Unknown}
use Rattle.std.proofs.Math.Bool.{or-false, or_comm}
use Rattle.std.proofs.lemmas.Option.{none-some, same_Some, cond_some}
use Rattle.std.proofs.lemmas.Slice.Eq.{bytes_eq-Decides}
use Rattle.std.specs.Str.{bytes_eq}
use Rattle.tsp_number.specs.declared.number_word.NumberFault.{NumberFault}
use Rattle.tsp_format.proofs.Basics.{none_or, none_map}
use Rattle.tsp_format.specs.declared.keyword.Keyword.{Keyword}
use Rattle.tsp_text.specs.Earlier.{same_field, has_line, open_section, words_of, read_as, dimension_of, dimension_in, spatial_after, place_in, is_key, opened_by, is_open, value_at, named_at, coord_kind_named, weight_kind_named, says_space}
use Rattle.tsp_text.specs.FaultRows.{when, first_row, table, row_of, repeats_keyword, has_bad_value, is_early, has_too_many_nodes, number_fault, is_surplus, is_late, number_fault_at, is_repeated_node_at, is_self_edge_at, is_surplus_at, is_after_end_at, word_fault, may_repeat}
use Rattle.tsp_text.specs.Groups.{coords_by_node}
use Rattle.tsp_text.specs.Items.{Item, WordLine, Line, NumberWord, LineEnd, first_word}
use Rattle.tsp_text.specs.SectionWords.{Place}
use Rattle.tsp_text.specs.ParsesTo.{fault_here, fault_in, IsClean, wants_more, sections_in_order}
use Rattle.tsp_text.specs.declared.fault.LineFault.TheVariants as row

pub when_none : {F : Type 0} (test : Bool) (fault : F) → when test fault ≡ None → test ≡ false
when_none true fault e = absurd cc
when_none false fault e = refl

pub none_applies : {F : Type 0} (rows : List (Option F)) → first_row rows ≡ None → AllByRecursion (λ row. row ≡ None) rows
none_applies [] e = tt
none_applies (None ∷ rows) e = (refl, none_applies rows e)
none_applies (Some fault ∷ rows) e = absurd cc

-- without a fault: none before, and no row here
pub clean_parts : (earlier : List Item) (item : Item) → IsClean (item ∷ earlier) → IsClean earlier × (row_of earlier item ≡ None)
clean_parts earlier item clean =
    let both = none_or (fault_in earlier) (option_map (fault_here earlier item) (row_of earlier item)) clean in
    (both.0, none_map (fault_here earlier item) (row_of earlier item) both.1)

pub record HasNoRow (earlier : List Item) (item : Item) : Type 0 where
  pub first_time : repeats_keyword earlier item ≡ false
  pub good_value : has_bad_value earlier item ≡ false
  pub in_time : is_early earlier item ≡ false
  pub few_nodes : has_too_many_nodes earlier item ≡ false
  pub is_read : number_fault earlier item ≡ None
  pub has_room : is_surplus earlier item ≡ false
  pub not_late : is_late earlier item ≡ false

pub no_row : (earlier : List Item) (item : Item) → row_of earlier item ≡ None → HasNoRow earlier item
no_row earlier item e =
    let rows = none_applies (table earlier item) e in
    record {
      first_time = when_none (repeats_keyword earlier item) row.Repeated rows.1.1.0;
      good_value = when_none (has_bad_value earlier item) row.BadValue rows.1.1.1.1.0;
      in_time = when_none (is_early earlier item) row.SectionEarly rows.1.1.1.1.1.1.0;
      few_nodes = when_none (has_too_many_nodes earlier item) row.TooManyNodes rows.1.1.1.1.1.1.1.0;
      is_read = none_map (λ fault. row.Number fault) (number_fault earlier item) rows.1.1.1.1.1.1.1.1.1.0;
      has_room = when_none (is_surplus earlier item) row.Surplus rows.1.1.1.1.1.1.1.1.1.1.1.1.0;
      not_late = when_none (is_late earlier item) row.LateSpace rows.1.1.1.1.1.1.1.1.1.1.1.1.1.1.0;
    }

pub record IsTaken (n : ℕ) (place : Place) (word : List ℕ) : Type 0 where
  pub is_read : number_fault_at n place word ≡ None
  pub other_node : is_self_edge_at n place word ≡ false
  pub has_room : is_surplus_at n place word ≡ false

pub is_taken : (n : ℕ) (place : Place) (word : List ℕ) → word_fault n place word ≡ None → IsTaken n place word
is_taken n place word e =
    let rows = none_applies (option_map (λ fault. row.Number fault) (number_fault_at n place word)
    ∷ when (is_repeated_node_at n place word) row.RepeatedNode
    ∷ when (is_self_edge_at n place word) row.SelfEdge
    ∷ when (is_surplus_at n place word) row.Surplus
    ∷ when (is_after_end_at n place word) row.AfterEnd ∷ []) e in
    record {
      is_read = none_map (λ fault. row.Number fault) (number_fault_at n place word) rows.0;
      other_node = when_none (is_self_edge_at n place word) row.SelfEdge rows.1.1.0;
      has_room = when_none (is_surplus_at n place word) row.Surplus rows.1.1.1.0;
    }

-- ---- the words of a section as they came

-- ---- fields

-- fields with the same word are the same
pub same_field_is : (f g : Field) → same_field f g ≡ true → f ≡ g
same_field_is f g same =
    let words : field_word f ≡ field_word g = (bytes_eq-Decides (field_word f) (field_word g)).0 same in
    let found : find (λ other. bytes_eq (field_word g) (field_word other)) fields_in_order ≡ Some f =
    subst (λ (word : List ℕ). find (λ other. bytes_eq word (field_word other)) fields_in_order ≡ Some f) words (field_found f) in
    same_Some f g (sym found ∙ field_found g)

-- ---- DIMENSION before sections

pub late : (section tours dimension known : Bool) → section ≡ true → tours ≡ false
    → (section && not tours && not dimension) ≡ false → cond known true dimension ≡ true
late true false true true s t e = refl
late true false true false s t e = refl
late true false false known s t e = absurd (true≢false e)
late false tours dimension known s t e = absurd (false≢true s)
late true true dimension known s t e = absurd (true≢false t)

-- a section other than the tours is open only after DIMENSION
opened_late : (items : List Item) → IsClean items → (g : Field) → open_section items ≡ Some g → same_field TourPart g ≡ false
    → has_line DimensionKey items ≡ true
opened_late [] clean g opened other = absurd (none-some g opened)
opened_late (NumberWord word ∷ earlier) clean g opened other =
    opened_late earlier (clean_parts earlier (NumberWord word) clean).0 g opened other
opened_late (LineEnd ∷ earlier) clean g opened other = opened_late earlier (clean_parts earlier LineEnd clean).0 g opened other
opened_late (Line (Known f) line ∷ earlier) clean g opened other =
    let opens = cond_some (is_section_field f) f g opened in
    let rows = no_row earlier (Line (Known f) line) (clean_parts earlier (Line (Known f) line) clean).1 in
    let tours : same_field TourPart f ≡ false = ap (same_field TourPart) opens.1 ∙ other in
    late (is_section_field f) (same_field TourPart f) (has_line DimensionKey earlier) (same_field DimensionKey f) opens.0 tours rows.in_time
opened_late (Line EdgeDataFormat line ∷ earlier) clean g opened other = absurd (none-some g opened)
opened_late (Line EdgeDataSection line ∷ earlier) clean g opened other = absurd (none-some g opened)
opened_late (Line Eof line ∷ earlier) clean g opened other = absurd (none-some g opened)
opened_late (Line Unknown line ∷ earlier) clean g opened other = absurd (none-some g opened)

-- once DIMENSION has come, the number of nodes stays
known_nodes : (f : Field) (line : WordLine) (earlier : List Item) (b : Bool) → same_field DimensionKey f ≡ b
    → has_line DimensionKey earlier ≡ true
    → repeats_keyword earlier (Line (Known f) line) ≡ false → dimension_in (Line (Known f) line ∷ earlier) ≡ dimension_in earlier
known_nodes f line earlier false e known first = rw e refl
known_nodes f line earlier true e known first =
    let again : has_line DimensionKey earlier ≡ false = subst (λ (g : Field). (not (may_repeat g) && has_line g earlier) ≡ false) (sym (same_field_is DimensionKey f e)) first in
    absurd (true≢false (sym known ∙ again))

pub nodes_kept : (earlier : List Item) (item : Item) → has_line DimensionKey earlier ≡ true → row_of earlier item ≡ None
    → dimension_in (item ∷ earlier) ≡ dimension_in earlier
nodes_kept earlier (NumberWord word) known row = refl
nodes_kept earlier LineEnd known row = refl
nodes_kept earlier (Line (Known f) line) known row =
    known_nodes f line earlier (same_field DimensionKey f) refl known (no_row earlier (Line (Known f) line) row).first_time
nodes_kept earlier (Line EdgeDataFormat line) known row = refl
nodes_kept earlier (Line EdgeDataSection line) known row = refl
nodes_kept earlier (Line Eof line) known row = refl
nodes_kept earlier (Line Unknown line) known row = refl

-- ---- DIMENSION is read where it is

is_read : (r : Result ℤ NumberFault) → result_err r ≡ None → is_some (option_map nat_abs (result_ok r)) ≡ true
is_read (Ok z) e = refl
is_read (Err fault) e = absurd (none-some fault (sym e))

known_dimension : (f : Field) (line : WordLine) (earlier : List Item) (b : Bool) → same_field DimensionKey f ≡ b
    → option_and_then result_err (read_as f line.value) ≡ None
    → (has_line DimensionKey earlier ≡ true → is_some (dimension_of earlier) ≡ true)
    → cond b true (has_line DimensionKey earlier) ≡ true
    → is_some (dimension_of (Line (Known f) line ∷ earlier)) ≡ true
known_dimension f line earlier false e no_fault before known = rw e (before known)
known_dimension f line earlier true e no_fault before known =
    let here = subst (λ (g : Field). option_and_then result_err (read_as g line.value) ≡ None) (sym (same_field_is DimensionKey f e)) no_fault in
    rw e (is_read _ here)

some_dimension : (items : List Item) → IsClean items → has_line DimensionKey items ≡ true → is_some (dimension_of items) ≡ true
some_dimension [] clean known = absurd (false≢true known)
some_dimension (NumberWord word ∷ earlier) clean known =
    some_dimension earlier (clean_parts earlier (NumberWord word) clean).0 known
some_dimension (LineEnd ∷ earlier) clean known = some_dimension earlier (clean_parts earlier LineEnd clean).0 known
some_dimension (Line (Known f) line ∷ earlier) clean known =
    let parts = clean_parts earlier (Line (Known f) line) clean in
    known_dimension f line earlier (same_field DimensionKey f) refl (no_row earlier (Line (Known f) line) parts.1).is_read (some_dimension earlier parts.0) known
some_dimension (Line EdgeDataFormat line ∷ earlier) clean known =
    some_dimension earlier (clean_parts earlier (Line EdgeDataFormat line) clean).0 known
some_dimension (Line EdgeDataSection line ∷ earlier) clean known =
    some_dimension earlier (clean_parts earlier (Line EdgeDataSection line) clean).0 known
some_dimension (Line Eof line ∷ earlier) clean known = some_dimension earlier (clean_parts earlier (Line Eof line) clean).0 known
some_dimension (Line Unknown line ∷ earlier) clean known =
    some_dimension earlier (clean_parts earlier (Line Unknown line) clean).0 known

there : (o : Option ℕ) → is_some o ≡ true → o ≡ Some (unwrap_or o 0)
there None e = absurd (false≢true e)
there (Some n) e = refl

pub dimension_there : (items : List Item) → IsClean items → has_line DimensionKey items ≡ true
    → dimension_of items ≡ Some (dimension_in items)
dimension_there items clean known = there (dimension_of items) (some_dimension items clean known)

-- ---- a section's words

-- the words of a section come only after DIMENSION
opened_none : (field : Field) (word : List ℕ) (earlier : List Item) (opened : Option Field) → open_section earlier ≡ opened
    → IsClean earlier → same_field TourPart field ≡ false
    → has_line DimensionKey earlier ≡ false → words_of field earlier ≡ [] → words_of field (NumberWord word ∷ earlier) ≡ []
opened_none field word earlier None e clean other unknown none = rw e none
opened_none field word earlier (Some g) e clean other unknown none = by_same (same_field field g) refl
  where
    by_same : (b : Bool) → same_field field g ≡ b → words_of field (NumberWord word ∷ earlier) ≡ []
    by_same false differs = rw (e, differs) none
    by_same true same =
        let tours : same_field TourPart g ≡ false = ap (same_field TourPart) (sym (same_field_is field g same)) ∙ other in
        absurd (true≢false (sym (opened_late earlier clean g e tours) ∙ unknown))

no_dimension_before : (key : Bool) (dimension : Bool) → cond key true dimension ≡ false → dimension ≡ false
no_dimension_before true dimension e = absurd (true≢false e)
no_dimension_before false dimension e = e

pub no_words : (field : Field) (items : List Item) → IsClean items → same_field TourPart field ≡ false
    → has_line DimensionKey items ≡ false → words_of field items ≡ []
no_words field [] clean other unknown = refl
no_words field (LineEnd ∷ earlier) clean other unknown =
    no_words field earlier (clean_parts earlier LineEnd clean).0 other unknown
no_words field (NumberWord word ∷ earlier) clean other unknown =
    let before = (clean_parts earlier (NumberWord word) clean).0 in
    opened_none field word earlier (open_section earlier) refl before other unknown (no_words field earlier before other unknown)
no_words field (Line (Known f) line ∷ earlier) clean other unknown =
    no_words field earlier (clean_parts earlier (Line (Known f) line) clean).0 other (no_dimension_before (same_field DimensionKey f) (has_line DimensionKey earlier) unknown)
no_words field (Line EdgeDataFormat line ∷ earlier) clean other unknown =
    no_words field earlier (clean_parts earlier (Line EdgeDataFormat line) clean).0 other unknown
no_words field (Line EdgeDataSection line ∷ earlier) clean other unknown =
    no_words field earlier (clean_parts earlier (Line EdgeDataSection line) clean).0 other unknown
no_words field (Line Eof line ∷ earlier) clean other unknown =
    no_words field earlier (clean_parts earlier (Line Eof line) clean).0 other unknown
no_words field (Line Unknown line ∷ earlier) clean other unknown =
    no_words field earlier (clean_parts earlier (Line Unknown line) clean).0 other unknown

-- ---- faults that an item has whatever came before

pub same_self : (f : Field) → same_field f f ≡ true
same_self NameKey = refl
same_self TypeKey = refl
same_self CommentKey = refl
same_self OtherKey = refl
same_self DimensionKey = refl
same_self CapacityKey = refl
same_self ScaleKey = refl
same_self LoadUnitKey = refl
same_self EdgeWeightTypeKey = refl
same_self EdgeWeightFormatKey = refl
same_self NodeCoordTypeKey = refl
same_self DisplayDataTypeKey = refl
same_self NodeCoordPart = refl
same_self DisplayDataPart = refl
same_self DemandPart = refl
same_self DepotPart = refl
same_self FixedEdgesPart = refl
same_self EdgeWeightPart = refl
same_self TourPart = refl
same_self NodePotentialPart = refl
same_self RowPotentialPart = refl
same_self ColumnPotentialPart = refl
same_self FixedEdgePotentialPart = refl
same_self FamilyPart = refl
same_self MemoryPart = refl
same_self SubsetRowPart = refl
same_self BranchPart = refl

-- the rows of a word are those of its place
pub rows_of_word : (earlier : List Item) (word : List ℕ) (f : Field) → open_section earlier ≡ Some f
    → row_of earlier (NumberWord word) ≡ word_fault (dimension_in earlier) (place_in (spatial_after earlier) f (dimension_in earlier) (words_of f earlier)) word
rows_of_word earlier word f o = rw o refl

pub words_more : (earlier : List Item) (word : List ℕ) (f : Field) → open_section earlier ≡ Some f
    → words_of f (NumberWord word ∷ earlier) ≡ words_of f earlier ++ word ∷ []
words_more earlier word f o = rw (o, same_self f) refl

pub long_line : (key : Keyword) (line : WordLine) (earlier : List Item) → nat_lt most_line_bytes line.size ≡ true
    → row_of earlier (Line key line) ≡ Some row.LongLine
long_line key line earlier long = rw long refl

-- ---- a section that is open was opened, and one that wasn't has no words

-- a section that is open was opened
open_key : (f : Field) (key : Keyword) → is_open f (opened_by key) ≡ true → is_key f key ≡ true
open_key f (Known g) e = by_kind (is_section_field g) e
  where
    by_kind : (b : Bool) → is_open f (cond b (Some g) None) ≡ true → same_field f g ≡ true
    by_kind true e = e
    by_kind false e = cc
open_key f EdgeDataFormat e = cc
open_key f EdgeDataSection e = cc
open_key f Eof e = cc
open_key f Unknown e = cc

open_there : (f : Field) (earlier : List Item) → is_open f (open_section earlier) ≡ true → has_line f earlier ≡ true
open_there f [] e = cc
open_there f (Line key line ∷ earlier) e = rw (open_key f key e) refl
open_there f (NumberWord word ∷ earlier) e = open_there f earlier e
open_there f (LineEnd ∷ earlier) e = open_there f earlier e

pub was_opened : (earlier : List Item) (f : Field) → open_section earlier ≡ Some f → has_line f earlier ≡ true
was_opened earlier f e = open_there f earlier (ap (is_open f) e ∙ same_self f)

past : (a b : Bool) → cond a true b ≡ false → b ≡ false
past true b e = cc
past false b e = e

word_case : (f : Field) (word : List ℕ) (earlier : List Item) (b : Bool) → is_open f (open_section earlier) ≡ b
    → has_line f earlier ≡ false → words_of f earlier ≡ []
    → cond b (words_of f earlier ++ word ∷ []) (words_of f earlier) ≡ []
word_case f word earlier true e none ih = let there = open_there f earlier e in cc
word_case f word earlier false e none ih = ih

-- a section that wasn't opened has no words
pub no_words_opened : (f : Field) (earlier : List Item) → has_line f earlier ≡ false → words_of f earlier ≡ []
no_words_opened f [] none = refl
no_words_opened f (Line key line ∷ earlier) none = no_words_opened f earlier (past (is_key f key) (has_line f earlier) none)
no_words_opened f (NumberWord word ∷ earlier) none =
    word_case f word earlier (is_open f (open_section earlier)) refl none (no_words_opened f earlier none)
no_words_opened f (LineEnd ∷ earlier) none = no_words_opened f earlier none

-- ---- whether a file is spatial, as its lines come: once points have come it stays

-- ---- a line that isn't there has no value

no_value_here : (b stands : Bool) (value : List ℕ) (rest : Option (List ℕ)) → cond b true stands ≡ false
    → (stands ≡ false → rest ≡ None)
    → cond b (Some value) rest ≡ None
no_value_here true stands value rest none ih = absurd (true≢false none)
no_value_here false stands value rest none ih = ih none

no_value : (f : Field) (items : List Item) → has_line f items ≡ false → value_at f items ≡ None
no_value f [] none = refl
no_value f (Line key line ∷ earlier) none =
    no_value_here (is_key f key) (has_line f earlier) line.value (value_at f earlier) none (no_value f earlier)
no_value f (NumberWord word ∷ earlier) none = no_value f earlier none
no_value f (LineEnd ∷ earlier) none = no_value f earlier none

-- ---- the lines that say it

-- what isn't too late was said before
said_before : (says there before : Bool) → there ≡ true → (says && there && not before) ≡ false → (says || before) ≡ before
said_before true true true t late = refl
said_before true true false t late = absurd (true≢false late)
said_before true false before t late = absurd (false≢true t)
said_before false there before t late = refl

coords_said : (line : WordLine) (earlier : List Item) → has_line NodeCoordPart earlier ≡ true
    → has_line NodeCoordTypeKey earlier ≡ false
    → is_late earlier (Line (Known NodeCoordTypeKey) line) ≡ false
    → spatial_after (Line (Known NodeCoordTypeKey) line ∷ earlier) ≡ spatial_after earlier
coords_said line earlier known first late =
    let says = says_space NodeCoordTypeKey (first_word line.value) in
    let weights = option_map_or weighs_three (named_at weight_kind_named EdgeWeightTypeKey earlier) false in
    let before : spatial_after earlier ≡ weights = ap (λ o. option_map_or has_three (option_and_then (λ value. coord_kind_named (first_word value)) o) false || weights)
    (no_value NodeCoordTypeKey earlier first) in
    ap (λ b. says || b) (sym before) ∙ said_before says (has_line NodeCoordPart earlier) (spatial_after earlier) known late

weights_said : (line : WordLine) (earlier : List Item) → has_line NodeCoordPart earlier ≡ true
    → has_line EdgeWeightTypeKey earlier ≡ false
    → is_late earlier (Line (Known EdgeWeightTypeKey) line) ≡ false
    → spatial_after (Line (Known EdgeWeightTypeKey) line ∷ earlier) ≡ spatial_after earlier
weights_said line earlier known first late =
    let says = says_space EdgeWeightTypeKey (first_word line.value) in
    let coords = option_map_or has_three (named_at coord_kind_named NodeCoordTypeKey earlier) false in
    let before : spatial_after earlier ≡ coords = ap (λ o. coords || option_map_or weighs_three (option_and_then (λ value. weight_kind_named (first_word value)) o) false)
    (no_value EdgeWeightTypeKey earlier first) ∙ or-false coords in
    or_comm coords says ∙ ap (λ b. says || b) (sym before) ∙ said_before says (has_line NodeCoordPart earlier) (spatial_after earlier) known late

key_said : (f : Field) (line : WordLine) (earlier : List Item) (by_coords by_weights : Bool)
    → same_field NodeCoordTypeKey f ≡ by_coords
    → same_field EdgeWeightTypeKey f ≡ by_weights → has_line NodeCoordPart earlier ≡ true
    → repeats_keyword earlier (Line (Known f) line) ≡ false
    → is_late earlier (Line (Known f) line) ≡ false → spatial_after (Line (Known f) line ∷ earlier) ≡ spatial_after earlier
key_said f line earlier true by_weights is also known first late =
    let P : Field → Type 0 = λ g. repeats_keyword earlier (Line (Known g) line) ≡ false → is_late earlier (Line (Known g) line) ≡ false
    → spatial_after (Line (Known g) line ∷ earlier) ≡ spatial_after earlier in
    subst P (same_field_is NodeCoordTypeKey f is) (coords_said line earlier known) first late
key_said f line earlier false true is also known first late =
    let P : Field → Type 0 = λ g. repeats_keyword earlier (Line (Known g) line) ≡ false → is_late earlier (Line (Known g) line) ≡ false
    → spatial_after (Line (Known g) line ∷ earlier) ≡ spatial_after earlier in
    subst P (same_field_is EdgeWeightTypeKey f also) (weights_said line earlier known) first late
key_said f line earlier false false is also known first late = rw (is, also) refl

-- once points of nodes have come, it stays whether the file is spatial
pub space_kept : (earlier : List Item) (item : Item) → has_line NodeCoordPart earlier ≡ true → row_of earlier item ≡ None
    → spatial_after (item ∷ earlier) ≡ spatial_after earlier
space_kept earlier (NumberWord word) known row = refl
space_kept earlier LineEnd known row = refl
space_kept earlier (Line (Known f) line) known row =
    let rows = no_row earlier (Line (Known f) line) row in
    key_said f line earlier (same_field NodeCoordTypeKey f) (same_field EdgeWeightTypeKey f) refl refl known rows.first_time rows.not_late
space_kept earlier (Line EdgeDataFormat line) known row = refl
space_kept earlier (Line EdgeDataSection line) known row = refl
space_kept earlier (Line Eof line) known row = refl
space_kept earlier (Line Unknown line) known row = refl

-- ---- what the points are, and whether they are complete

pub coords_stay : (there before after : Bool) (n : ℕ) (words : List (List ℕ)) → (there ≡ true → after ≡ before)
    → cond there (Some (coords_by_node before n words)) None ≡ cond there (Some (coords_by_node after n words)) None
coords_stay true before after n words same = ap (λ b. Some (coords_by_node b n words)) (sym (same refl))
coords_stay false before after n words same = refl

abbrev pub first_by : Bool → ℕ → List Item → Option Field
first_by in_space n earlier =
    find (λ field. has_line field earlier && wants_more (place_in in_space field n (words_of field earlier))) sections_in_order

pub first_stays : (earlier : List Item) (n : ℕ) (before after there : Bool) → has_line NodeCoordPart earlier ≡ there
    → (there ≡ true → after ≡ before) → first_by before n earlier ≡ first_by after n earlier
first_stays earlier n before after true is same = ap (λ b. first_by b n earlier) (sym (same refl))
first_stays earlier n before after false is same = rw is refl

-- ---- what stays true of the words of a section

-- What stays true of a section's words while they come. Of tours with any number of nodes; of points in a spatial file
-- or in another.
pub record Grows (in_space : Bool) (field : Field) (Q : ℕ → List (List ℕ) → Type 0) : Type 0 where
  pub none : (n : ℕ) → Q n []
  pub more : (b : Bool) → (same_field NodeCoordPart field ≡ true → b ≡ in_space) → (n : ℕ) (words : List (List ℕ)) (word : List ℕ) → Q n words
      → word_fault n (place_in b field n words) word ≡ None → Q n (words ++ word ∷ [])
  pub any_nodes : (n m : ℕ) (words : List (List ℕ)) → same_field TourPart field ≡ true → Q n words → Q m words

word_rows : (earlier : List Item) (word : List ℕ) (f : Field) → open_section earlier ≡ Some f
    → row_of earlier (NumberWord word) ≡ None
    → word_fault (dimension_in earlier) (place_in (spatial_after earlier) f (dimension_in earlier) (words_of f earlier)) word ≡ None
word_rows earlier word f opened row = rw opened at row

-- whether the points of nodes are those of a spatial file
abbrev pub IsSpaceOf : Bool → Field → List Item → Type 0
IsSpaceOf in_space field items =
    same_field NodeCoordPart field ≡ true → has_line field items ≡ true → spatial_after items ≡ in_space

grown_word : (in_space : Bool) (field : Field) (Q : ℕ → List (List ℕ) → Type 0) → Grows in_space field Q
    → (earlier : List Item) (word : List ℕ)
    (opened : Option Field) → open_section earlier ≡ opened → IsSpaceOf in_space field earlier → row_of earlier (NumberWord word) ≡ None
    → Q (dimension_in earlier) (words_of field earlier) → Q (dimension_in earlier) (words_of field (NumberWord word ∷ earlier))
grown_word in_space field Q grows earlier word None e space row held = rw e held
grown_word in_space field Q grows earlier word (Some g) e space row held = by_same (same_field field g) refl
  where
    by_same : (b : Bool) → same_field field g ≡ b → Q (dimension_in earlier) (words_of field (NumberWord word ∷ earlier))
    by_same false differs = rw (e, differs) held
    by_same true same =
        let is : open_section earlier ≡ Some field = e ∙ ap (λ f. Some f) (sym (same_field_is field g same)) in
        rw (e, same) (grows.more (spatial_after earlier) (λ coords. space coords (was_opened earlier field is)) (dimension_in earlier)
        (words_of field earlier) word held (word_rows earlier word field is row))

grown_line : (in_space : Bool) (field : Field) (Q : ℕ → List (List ℕ) → Type 0) → Grows in_space field Q
    → (earlier : List Item) (item : Item)
    (tours known : Bool) → same_field TourPart field ≡ tours → has_line DimensionKey earlier ≡ known → IsClean earlier → row_of earlier item ≡ None
    → Q (dimension_in earlier) (words_of field earlier) → Q (dimension_in (item ∷ earlier)) (words_of field earlier)
grown_line in_space field Q grows earlier item true known t k clean row held =
    grows.any_nodes (dimension_in earlier) (dimension_in (item ∷ earlier)) (words_of field earlier) t held
grown_line in_space field Q grows earlier item false true t k clean row held =
    subst (λ (n : ℕ). Q n (words_of field earlier)) (sym (nodes_kept earlier item k row)) held
grown_line in_space field Q grows earlier item false false t k clean row held =
    subst (λ (words : List (List ℕ)). Q (dimension_in (item ∷ earlier)) words) (sym (no_words field earlier clean t k)) (grows.none (dimension_in (item ∷ earlier)))

pub still_stands : (b stands : Bool) → stands ≡ true → cond b true stands ≡ true
still_stands true stands e = refl
still_stands false stands e = e

-- before a line it was as it is after it
space_before : (in_space : Bool) (field : Field) (key : Keyword) (line : WordLine) (earlier : List Item)
    → row_of earlier (Line key line) ≡ None
    → IsSpaceOf in_space field (Line key line ∷ earlier) → IsSpaceOf in_space field earlier
space_before in_space field key line earlier row space coords stands =
    let there : has_line NodeCoordPart earlier ≡ true = subst (λ f. has_line f earlier ≡ true) (sym (same_field_is NodeCoordPart field coords)) stands in
    sym (space_kept earlier (Line key line) there row) ∙ space coords (still_stands (is_key field key) (has_line field earlier) stands)

pub grown_in : (in_space : Bool) (field : Field) (Q : ℕ → List (List ℕ) → Type 0) → Grows in_space field Q → (items : List Item)
    → IsClean items
    → IsSpaceOf in_space field items → Q (dimension_in items) (words_of field items)
grown_in in_space field Q grows [] clean space = grows.none (dimension_in [])
grown_in in_space field Q grows (LineEnd ∷ earlier) clean space =
    grown_in in_space field Q grows earlier (clean_parts earlier LineEnd clean).0 space
grown_in in_space field Q grows (NumberWord word ∷ earlier) clean space =
    let parts = clean_parts earlier (NumberWord word) clean in
    grown_word in_space field Q grows earlier word (open_section earlier) refl space parts.1 (grown_in in_space field Q grows earlier parts.0 space)
grown_in in_space field Q grows (Line key line ∷ earlier) clean space =
    let parts = clean_parts earlier (Line key line) clean in
    grown_line in_space field Q grows earlier (Line key line) (same_field TourPart field) (has_line DimensionKey earlier) refl refl parts.0 parts.1
    (grown_in in_space field Q grows earlier parts.0 (space_before in_space field key line earlier parts.1 space))

-- of the other sections it makes no difference
pub grown : (field : Field) (Q : ℕ → List (List ℕ) → Type 0) → same_field NodeCoordPart field ≡ false → Grows false field Q
    → (items : List Item)
    → IsClean items → Q (dimension_in items) (words_of field items)
grown field Q other grows items clean =
    grown_in false field Q grows items clean (λ coords. absurd (true≢false (sym coords ∙ other)))
