-- The line of a keyword sets its field, or is the first fault, for `Reading::known` and `Reading::number` in
-- src/reading.rt.
use Rattle.tsp_read.proofs.Prelude.{◌≡◌, ◌≢◌, Bool, refl, subst, Some, None, cond, ℕ, true, false, List, ◌∷◌, set, get_or, sym, ap, ◌∙◌, Option, Result, Ok, Err, find, ℤ, pos, nat_abs, nat_lt, is_some, is_none, not, ◌&&◌, result_ok, whole_of, Point, NumberFault, most_nodes, most_capacity, most_scale, most_load_unit, shape_of, value_shape_of, most_line_bytes, is_section_field, kind_word, weight_kind_word, weight_format_word, coord_kind_word, display_kind_word, kinds, weight_kinds, weight_formats, coord_kinds, display_kinds, Field, NameKey, TypeKey, CommentKey, OtherKey, DimensionKey, CapacityKey, ScaleKey, LoadUnitKey, EdgeWeightTypeKey, EdgeWeightFormatKey, NodeCoordTypeKey, DisplayDataTypeKey, NodeCoordPart, DisplayDataPart, DemandPart, DepotPart, FixedEdgesPart, EdgeWeightPart, TourPart, NodePotentialPart, RowPotentialPart, ColumnPotentialPart, FixedEdgePotentialPart, FamilyPart, MemoryPart, SubsetRowPart, BranchPart, Known, Fields, spatial, stands_in, with_one_number, fields_of, clean_more, space_kept, coords_stay, first_stays, same_field, has_line, open_section, words_of, kind_named, weight_kind_named, weight_format_named, coord_kind_named, display_kind_named, is_left_out, says_space, spatial_after, dimension_in, row_of, is_late, coords_by_node, is_not_empty, first_word, WordLine, Item, Line, IsClean, fields_by, sections_in_order, first_incomplete, LineFault}
use Rattle.tsp_format.specs.declared.keyword.ValueShape.{ValueShape}
use Rattle.tsp_format.specs.declared.keyword.ValueShape.TheVariants.{Kept, KeptEach, Number, Word}
use Rattle.tsp_format.specs.declared.kinds.CoordKind.{CoordKind}
use Rattle.tsp_format.specs.declared.kinds.DisplayKind.{DisplayKind}
use Rattle.tsp_format.specs.declared.kinds.Kind.{Kind}
use Rattle.tsp_format.specs.declared.kinds.WeightFormat.{WeightFormat}
use Rattle.tsp_format.specs.declared.kinds.WeightKind.{WeightKind}
use Rattle.tsp_text.proofs.ValidItems.{stands_late}
use Rattle.tsp_read.specs.declared.step_fault.StepFault.{StepFault}
use Rattle.tsp_read.specs.declared.step_fault.StepFault.TheVariants as steps
use Rattle.tsp_read.specs.declared.reading.OpenSection.{OpenSection}
use Rattle.tsp_read.specs.declared.reading.Reading.{Reading}
use Rattle.tsp_read.specs.states.Holds.{named_rows, SetsNamed, numbered_rows, GivesNumber, fields_there, is_closed, is_closed_incomplete, OpenHolds, Closed, LineAnswers}

shaped : (P : ValueShape → Type 0) (a b : ValueShape) → P a → Some a ≡ Some b → P b
shaped P a b p is = let same : a ≡ b = cc in subst P same p

-- what holds of each keyword holds of every field whose value is read as something
-- plan: by the field: a keyword has one shape (`shaped`), and a section has none
pub by_keyword : (P : Field → ValueShape → Type 0) → P NameKey Kept → P TypeKey Word → P CommentKey KeptEach
    → P DimensionKey (Number (pos 1) (pos most_nodes)) → P CapacityKey (Number (pos 1) (pos most_capacity))
    → P ScaleKey (Number (pos 1) (pos most_scale)) → P LoadUnitKey (Number (pos 1) (pos most_load_unit))
    → P EdgeWeightTypeKey Word → P EdgeWeightFormatKey Word
    → P NodeCoordTypeKey Word → P DisplayDataTypeKey Word
    → (f : Field) (shape : ValueShape) → value_shape_of f ≡ Some shape → P f shape
by_keyword P p0 p1 p2 p3 p4 p5 p6 p7 p8 p9 p10 NameKey shape e = shaped (P NameKey) _ shape p0 e
by_keyword P p0 p1 p2 p3 p4 p5 p6 p7 p8 p9 p10 TypeKey shape e = shaped (P TypeKey) _ shape p1 e
by_keyword P p0 p1 p2 p3 p4 p5 p6 p7 p8 p9 p10 CommentKey shape e = shaped (P CommentKey) _ shape p2 e
by_keyword P p0 p1 p2 p3 p4 p5 p6 p7 p8 p9 p10 OtherKey shape e = absurd cc
by_keyword P p0 p1 p2 p3 p4 p5 p6 p7 p8 p9 p10 DimensionKey shape e = shaped (P DimensionKey) _ shape p3 e
by_keyword P p0 p1 p2 p3 p4 p5 p6 p7 p8 p9 p10 CapacityKey shape e = shaped (P CapacityKey) _ shape p4 e
by_keyword P p0 p1 p2 p3 p4 p5 p6 p7 p8 p9 p10 ScaleKey shape e = shaped (P ScaleKey) _ shape p5 e
by_keyword P p0 p1 p2 p3 p4 p5 p6 p7 p8 p9 p10 LoadUnitKey shape e = shaped (P LoadUnitKey) _ shape p6 e
by_keyword P p0 p1 p2 p3 p4 p5 p6 p7 p8 p9 p10 EdgeWeightTypeKey shape e = shaped (P EdgeWeightTypeKey) _ shape p7 e
by_keyword P p0 p1 p2 p3 p4 p5 p6 p7 p8 p9 p10 EdgeWeightFormatKey shape e = shaped (P EdgeWeightFormatKey) _ shape p8 e
by_keyword P p0 p1 p2 p3 p4 p5 p6 p7 p8 p9 p10 NodeCoordTypeKey shape e = shaped (P NodeCoordTypeKey) _ shape p9 e
by_keyword P p0 p1 p2 p3 p4 p5 p6 p7 p8 p9 p10 DisplayDataTypeKey shape e = shaped (P DisplayDataTypeKey) _ shape p10 e
by_keyword P p0 p1 p2 p3 p4 p5 p6 p7 p8 p9 p10 NodeCoordPart shape e = absurd cc
by_keyword P p0 p1 p2 p3 p4 p5 p6 p7 p8 p9 p10 DisplayDataPart shape e = absurd cc
by_keyword P p0 p1 p2 p3 p4 p5 p6 p7 p8 p9 p10 DemandPart shape e = absurd cc
by_keyword P p0 p1 p2 p3 p4 p5 p6 p7 p8 p9 p10 DepotPart shape e = absurd cc
by_keyword P p0 p1 p2 p3 p4 p5 p6 p7 p8 p9 p10 FixedEdgesPart shape e = absurd cc
by_keyword P p0 p1 p2 p3 p4 p5 p6 p7 p8 p9 p10 EdgeWeightPart shape e = absurd cc
by_keyword P p0 p1 p2 p3 p4 p5 p6 p7 p8 p9 p10 TourPart shape e = absurd cc
by_keyword P p0 p1 p2 p3 p4 p5 p6 p7 p8 p9 p10 NodePotentialPart shape e = absurd cc
by_keyword P p0 p1 p2 p3 p4 p5 p6 p7 p8 p9 p10 RowPotentialPart shape e = absurd cc
by_keyword P p0 p1 p2 p3 p4 p5 p6 p7 p8 p9 p10 ColumnPotentialPart shape e = absurd cc
by_keyword P p0 p1 p2 p3 p4 p5 p6 p7 p8 p9 p10 FixedEdgePotentialPart shape e = absurd cc
by_keyword P p0 p1 p2 p3 p4 p5 p6 p7 p8 p9 p10 FamilyPart shape e = absurd cc
by_keyword P p0 p1 p2 p3 p4 p5 p6 p7 p8 p9 p10 MemoryPart shape e = absurd cc
by_keyword P p0 p1 p2 p3 p4 p5 p6 p7 p8 p9 p10 SubsetRowPart shape e = absurd cc
by_keyword P p0 p1 p2 p3 p4 p5 p6 p7 p8 p9 p10 BranchPart shape e = absurd cc

ranged : (P : ℤ → ℤ → Type 0) (l h low high : ℤ) → P l h → Number l h ≡ Number low high → P low high
ranged P l h low high p is =
    let first : l ≡ low = cc in
    let last : h ≡ high = cc in
    subst (λ (k : ℤ). P k high) first (subst (λ (k : ℤ). P l k) last p)

-- what holds of each keyword with a number holds of every field with one
pub by_number : (P : Field → ℤ → ℤ → Type 0) → P DimensionKey (pos 1) (pos most_nodes) → P CapacityKey (pos 1) (pos most_capacity)
    → P ScaleKey (pos 1) (pos most_scale) → P LoadUnitKey (pos 1) (pos most_load_unit)
    → (f : Field) (low high : ℤ) → value_shape_of f ≡ Some (Number low high) → P f low high
by_number P p0 p1 p2 p3 f low high e = by_keyword (λ field shape. shape ≡ Number low high → P field low high)
    (λ is. absurd cc) (λ is. absurd cc) (λ is. absurd cc) (ranged (P DimensionKey) _ _ low high p0)
    (ranged (P CapacityKey) _ _ low high p1) (ranged (P ScaleKey) _ _ low high p2)
    (ranged (P LoadUnitKey) _ _ low high p3) (λ is. absurd cc) (λ is. absurd cc)
    (λ is. absurd cc) (λ is. absurd cc) f (Number low high) e refl

-- a field that is no section, no keyword with a number, and none with its own place
-- plan: by the field: each but the last has a premise against it
pub other_alone : (in_space : Bool) (f : Field) → shape_of in_space f ≡ None → f ≢ NameKey → f ≢ TypeKey → f ≢ CommentKey
    → f ≢ EdgeWeightTypeKey → f ≢ EdgeWeightFormatKey
    → f ≢ NodeCoordTypeKey → f ≢ DisplayDataTypeKey → ((low high : ℤ) → value_shape_of f ≢ Some (Number low high)) → f ≡ OtherKey
other_alone in_space NameKey shape k0 k1 k2 k3 k4 k5 k6 numbered = absurd (k0 refl)
other_alone in_space TypeKey shape k0 k1 k2 k3 k4 k5 k6 numbered = absurd (k1 refl)
other_alone in_space CommentKey shape k0 k1 k2 k3 k4 k5 k6 numbered = absurd (k2 refl)
other_alone in_space OtherKey shape k0 k1 k2 k3 k4 k5 k6 numbered = refl
other_alone in_space DimensionKey shape k0 k1 k2 k3 k4 k5 k6 numbered = absurd (numbered (pos 1) (pos most_nodes) refl)
other_alone in_space CapacityKey shape k0 k1 k2 k3 k4 k5 k6 numbered = absurd (numbered (pos 1) (pos most_capacity) refl)
other_alone in_space ScaleKey shape k0 k1 k2 k3 k4 k5 k6 numbered = absurd (numbered (pos 1) (pos most_scale) refl)
other_alone in_space LoadUnitKey shape k0 k1 k2 k3 k4 k5 k6 numbered = absurd (numbered (pos 1) (pos most_load_unit) refl)
other_alone in_space EdgeWeightTypeKey shape k0 k1 k2 k3 k4 k5 k6 numbered = absurd (k3 refl)
other_alone in_space EdgeWeightFormatKey shape k0 k1 k2 k3 k4 k5 k6 numbered = absurd (k4 refl)
other_alone in_space NodeCoordTypeKey shape k0 k1 k2 k3 k4 k5 k6 numbered = absurd (k5 refl)
other_alone in_space DisplayDataTypeKey shape k0 k1 k2 k3 k4 k5 k6 numbered = absurd (k6 refl)
other_alone in_space NodeCoordPart shape k0 k1 k2 k3 k4 k5 k6 numbered = cc
other_alone in_space DisplayDataPart shape k0 k1 k2 k3 k4 k5 k6 numbered = cc
other_alone in_space DemandPart shape k0 k1 k2 k3 k4 k5 k6 numbered = cc
other_alone in_space DepotPart shape k0 k1 k2 k3 k4 k5 k6 numbered = cc
other_alone in_space FixedEdgesPart shape k0 k1 k2 k3 k4 k5 k6 numbered = cc
other_alone in_space EdgeWeightPart shape k0 k1 k2 k3 k4 k5 k6 numbered = cc
other_alone in_space TourPart shape k0 k1 k2 k3 k4 k5 k6 numbered = cc
other_alone in_space NodePotentialPart shape k0 k1 k2 k3 k4 k5 k6 numbered = cc
other_alone in_space RowPotentialPart shape k0 k1 k2 k3 k4 k5 k6 numbered = cc
other_alone in_space ColumnPotentialPart shape k0 k1 k2 k3 k4 k5 k6 numbered = cc
other_alone in_space FixedEdgePotentialPart shape k0 k1 k2 k3 k4 k5 k6 numbered = cc
other_alone in_space FamilyPart shape k0 k1 k2 k3 k4 k5 k6 numbered = cc
other_alone in_space MemoryPart shape k0 k1 k2 k3 k4 k5 k6 numbered = cc
other_alone in_space SubsetRowPart shape k0 k1 k2 k3 k4 k5 k6 numbered = cc
other_alone in_space BranchPart shape k0 k1 k2 k3 k4 k5 k6 numbered = cc

-- ---- the line of a keyword with a word or a number as its value

-- no section is open after a line that opens none
pub still_none : (old new : Reading) (items : List Item) → open_section items ≡ None → new.opened ≡ old.opened → old.opened ≡ None
    → OpenHolds new.opened items
still_none old new items o same none = let P : Option OpenSection → Type 0 = λ part. OpenHolds part items in subst P (sym (same ∙ none)) o

cond_same : (b : Bool) → cond b true false ≡ b
cond_same true = refl
cond_same false = refl

-- no row applies
named_none : {V : Type 0} (stands out : Bool) (found : Option V) (late : Bool) → stands ≡ false → out ≡ false
    → is_some found ≡ true → late ≡ false
    → named_rows stands out found late ≡ None
named_none stands out None late s t f l = cc
named_none stands out (Some v) late s t f l = rw (s, t, l) refl

numbered_none : (stands : Bool) (value : List ℕ) (reading : Result ℤ NumberFault) (z : ℤ) → stands ≡ false
    → is_not_empty value ≡ true → reading ≡ Ok z → numbered_rows stands value reading ≡ None
numbered_none stands value reading z s f r = rw (s, f, r) refl

-- ---- lines that may come too late

-- by what the draft has
abbrev pub is_late_in : Reading → Field → WordLine → Bool
is_late_in old field line =
    says_space field (first_word line.value) && is_some (fields_of old.draft).coords && not (spatial (fields_of old.draft))

some_points : (b : Bool) (points : List Point) → is_some (cond b (Some points) None) ≡ b
some_points true points = refl
some_points false points = refl

late_by : (old : Reading) (field : Field) (line : WordLine) (earlier : List Item) → Closed old earlier
    → is_late_in old field line ≡ is_late earlier (Line (Known field) line)
late_by old field line earlier h =
    let says = says_space field (first_word line.value) in
    let points = coords_by_node (spatial_after earlier) (dimension_in earlier) (words_of NodeCoordPart earlier) in
    ap (λ (fields : Fields). says && is_some fields.coords && not (spatial fields)) h.spelled
    ∙ ap (λ (b : Bool). says && b && not (spatial_after earlier)) (some_points (has_line NodeCoordPart earlier) points)

-- ---- TypeKey

kind_rows : (earlier : List Item) (line : WordLine) → nat_lt most_line_bytes line.size ≡ false
    → row_of earlier (Line (Known TypeKey) line) ≡ named_rows (has_line TypeKey earlier) (is_left_out TypeKey (first_word line.value)) (kind_named (first_word line.value)) false
kind_rows earlier line short = rw (short, cond_same (is_none (kind_named (first_word line.value)))) refl

pub kind_line : (old new : Reading) (line : WordLine) (slot : Option Kind) (r : Result (Unit {0}) StepFault)
    → SetsNamed kind_word kinds TypeKey (first_word line.value) false old.draft.kind slot r
    → fields_of new.draft ≡ (let fields = fields_of old.draft in record fields { kind = slot }) → new.incomplete ≡ old.incomplete → new.opened ≡ old.opened
    → LineAnswers old TypeKey line new r
kind_line old new line slot (Ok done) sets is same_first same_part earlier h short =
    let there : is_some old.draft.kind ≡ has_line TypeKey earlier = ap (λ (xs : List Bool). get_or xs 1 false) h.stand in
    let found : is_some (kind_named (first_word line.value)) ≡ true = ap (λ (o : Option Kind). is_some o) sets.2 ∙ sets.3 in
    record {
      clean = clean_more earlier (Line (Known TypeKey) line) h.clean
          (kind_rows earlier line short ∙ named_none (has_line TypeKey earlier) (is_left_out TypeKey (first_word line.value))
          (kind_named (first_word line.value)) false (sym there ∙ sets.0) sets.1 found refl);
      stand = ap fields_there is ∙ ap (λ (b : Bool). set (fields_there (fields_of old.draft)) 1 b) sets.3 ∙ ap (λ (xs : List Bool). set xs 1 true) h.stand;
      spelled = is ∙ ap (λ (fields : Fields). record fields { kind = slot }) h.spelled
          ∙ ap (λ (k : Option Kind). let fields = fields_by (λ field. has_line field earlier) earlier in record fields { kind = k }) (sym sets.2);
      incomplete = same_first ∙ h.incomplete;
      part = still_none old new (Line (Known TypeKey) line ∷ earlier) refl same_part h.part;
    }
kind_line old new line slot (Err (steps.Memory refused)) sets is same_first same_part earlier h short = tt
kind_line old new line slot (Err (steps.Fault fault)) sets is same_first same_part earlier h short =
    let there : is_some old.draft.kind ≡ has_line TypeKey earlier = ap (λ (xs : List Bool). get_or xs 1 false) h.stand in
    kind_rows earlier line short ∙ ap (λ (b : Bool). named_rows b (is_left_out TypeKey (first_word line.value)) (kind_named (first_word line.value)) false) (sym there) ∙ sets.1

-- ---- EdgeWeightTypeKey

weight_kind_rows : (earlier : List Item) (line : WordLine) → nat_lt most_line_bytes line.size ≡ false
    → row_of earlier (Line (Known EdgeWeightTypeKey) line) ≡ named_rows (has_line EdgeWeightTypeKey earlier)
    (is_left_out EdgeWeightTypeKey (first_word line.value)) (weight_kind_named (first_word line.value)) (is_late earlier (Line (Known EdgeWeightTypeKey) line))
weight_kind_rows earlier line short = rw (short, cond_same (is_none (weight_kind_named (first_word line.value)))) refl

-- plan: by the result: a word that was found sets one field and no other; a fault is a row of the table
pub weight_kind_line : (old new : Reading) (line : WordLine) (slot : Option WeightKind) (r : Result (Unit {0}) StepFault)
    → SetsNamed weight_kind_word weight_kinds EdgeWeightTypeKey (first_word line.value) (is_late_in old EdgeWeightTypeKey line) old.draft.weight_kind slot r
    → fields_of new.draft ≡ (let fields = fields_of old.draft in record fields { weight_kind = slot }) → new.incomplete ≡ old.incomplete → new.opened ≡ old.opened
    → LineAnswers old EdgeWeightTypeKey line new r
weight_kind_line old new line slot (Ok done) sets is same_first same_part earlier h short =
    let there : is_some old.draft.weight_kind ≡ has_line EdgeWeightTypeKey earlier = ap (λ (xs : List Bool). get_or xs 6 false) h.stand in
    let late : is_late earlier (Line (Known EdgeWeightTypeKey) line) ≡ false = sym (late_by old EdgeWeightTypeKey line earlier h) ∙ sets.4 in
    let found : is_some (weight_kind_named (first_word line.value)) ≡ true = ap (λ (o : Option WeightKind). is_some o) sets.2 ∙ sets.3 in
    let row : row_of earlier (Line (Known EdgeWeightTypeKey) line) ≡ None = weight_kind_rows earlier line short
    ∙ named_none (has_line EdgeWeightTypeKey earlier) (is_left_out EdgeWeightTypeKey (first_word line.value)) (weight_kind_named (first_word line.value))
    (is_late earlier (Line (Known EdgeWeightTypeKey) line)) (sym there ∙ sets.0) sets.1 found late in
    let space : has_line NodeCoordPart earlier ≡ true → spatial_after (Line (Known EdgeWeightTypeKey) line ∷ earlier) ≡ spatial_after earlier = λ known.
    space_kept earlier (Line (Known EdgeWeightTypeKey) line) known row in
    record {
      clean = clean_more earlier (Line (Known EdgeWeightTypeKey) line) h.clean row;
      stand = ap fields_there is ∙ ap (λ (b : Bool). set (fields_there (fields_of old.draft)) 6 b) sets.3 ∙ ap (λ (xs : List Bool). set xs 6 true) h.stand;
      spelled = is ∙ ap (λ (fields : Fields). record fields { weight_kind = slot }) h.spelled
          ∙ ap (λ (k : Option WeightKind). let fields = fields_by (λ field. has_line field earlier) earlier in record fields { weight_kind = k }) (sym sets.2)
          ∙ ap (λ (points : Option (List Point)). let fields = fields_by (λ field. has_line field earlier) earlier in
          record fields { weight_kind = (weight_kind_named (first_word line.value)); coords = points }) (coords_stay (has_line NodeCoordPart earlier) (spatial_after earlier)
          (spatial_after (Line (Known EdgeWeightTypeKey) line ∷ earlier)) (dimension_in earlier) (words_of NodeCoordPart earlier) space);
      incomplete = same_first ∙ h.incomplete ∙ first_stays earlier (dimension_in earlier) (spatial_after earlier)
          (spatial_after (Line (Known EdgeWeightTypeKey) line ∷ earlier)) (has_line NodeCoordPart earlier) refl space;
      part = still_none old new (Line (Known EdgeWeightTypeKey) line ∷ earlier) refl same_part h.part;
    }
weight_kind_line old new line slot (Err (steps.Memory refused)) sets is same_first same_part earlier h short = tt
weight_kind_line old new line slot (Err (steps.Fault fault)) sets is same_first same_part earlier h short =
    let there : is_some old.draft.weight_kind ≡ has_line EdgeWeightTypeKey earlier = ap (λ (xs : List Bool). get_or xs 6 false) h.stand in
    weight_kind_rows earlier line short ∙ ap (λ (b : Bool). named_rows b (is_left_out EdgeWeightTypeKey (first_word line.value))
    (weight_kind_named (first_word line.value)) (is_late earlier (Line (Known EdgeWeightTypeKey) line))) (sym there)
    ∙ ap (λ (b : Bool). named_rows (is_some old.draft.weight_kind) (is_left_out EdgeWeightTypeKey (first_word line.value))
    (weight_kind_named (first_word line.value)) b) (sym (late_by old EdgeWeightTypeKey line earlier h)) ∙ sets.1

-- ---- EdgeWeightFormatKey

weight_format_rows : (earlier : List Item) (line : WordLine) → nat_lt most_line_bytes line.size ≡ false
    → row_of earlier (Line (Known EdgeWeightFormatKey) line) ≡ named_rows (has_line EdgeWeightFormatKey earlier)
    (is_left_out EdgeWeightFormatKey (first_word line.value)) (weight_format_named (first_word line.value)) false
weight_format_rows earlier line short = rw (short, cond_same (is_none (weight_format_named (first_word line.value)))) refl

pub weight_format_line : (old new : Reading) (line : WordLine) (slot : Option WeightFormat) (r : Result (Unit {0}) StepFault)
    → SetsNamed weight_format_word weight_formats EdgeWeightFormatKey (first_word line.value) false old.draft.weight_format slot r
    → fields_of new.draft ≡ (let fields = fields_of old.draft in record fields { weight_format = slot }) → new.incomplete ≡ old.incomplete → new.opened ≡ old.opened
    → LineAnswers old EdgeWeightFormatKey line new r
weight_format_line old new line slot (Ok done) sets is same_first same_part earlier h short =
    let there : is_some old.draft.weight_format ≡ has_line EdgeWeightFormatKey earlier = ap (λ (xs : List Bool). get_or xs 7 false) h.stand in
    let found : is_some (weight_format_named (first_word line.value)) ≡ true = ap (λ (o : Option WeightFormat). is_some o) sets.2 ∙ sets.3 in
    record {
      clean = clean_more earlier (Line (Known EdgeWeightFormatKey) line) h.clean
          (weight_format_rows earlier line short ∙ named_none (has_line EdgeWeightFormatKey earlier) (is_left_out EdgeWeightFormatKey (first_word line.value))
          (weight_format_named (first_word line.value)) false (sym there ∙ sets.0) sets.1 found refl);
      stand = ap fields_there is ∙ ap (λ (b : Bool). set (fields_there (fields_of old.draft)) 7 b) sets.3 ∙ ap (λ (xs : List Bool). set xs 7 true) h.stand;
      spelled = is ∙ ap (λ (fields : Fields). record fields { weight_format = slot }) h.spelled
          ∙ ap (λ (k : Option WeightFormat). let fields = fields_by (λ field. has_line field earlier) earlier in record fields { weight_format = k }) (sym sets.2);
      incomplete = same_first ∙ h.incomplete;
      part = still_none old new (Line (Known EdgeWeightFormatKey) line ∷ earlier) refl same_part h.part;
    }
weight_format_line old new line slot (Err (steps.Memory refused)) sets is same_first same_part earlier h short = tt
weight_format_line old new line slot (Err (steps.Fault fault)) sets is same_first same_part earlier h short =
    let there : is_some old.draft.weight_format ≡ has_line EdgeWeightFormatKey earlier = ap (λ (xs : List Bool). get_or xs 7 false) h.stand in
    weight_format_rows earlier line short ∙ ap (λ (b : Bool). named_rows b (is_left_out EdgeWeightFormatKey (first_word line.value))
    (weight_format_named (first_word line.value)) false) (sym there) ∙ sets.1

-- ---- NodeCoordTypeKey

coord_kind_rows : (earlier : List Item) (line : WordLine) → nat_lt most_line_bytes line.size ≡ false
    → row_of earlier (Line (Known NodeCoordTypeKey) line) ≡ named_rows (has_line NodeCoordTypeKey earlier)
    (is_left_out NodeCoordTypeKey (first_word line.value)) (coord_kind_named (first_word line.value)) (is_late earlier (Line (Known NodeCoordTypeKey) line))
coord_kind_rows earlier line short = rw (short, cond_same (is_none (coord_kind_named (first_word line.value)))) refl

-- plan: by the result: a word that was found sets one field and no other; a fault is a row of the table
pub coord_kind_line : (old new : Reading) (line : WordLine) (slot : Option CoordKind) (r : Result (Unit {0}) StepFault)
    → SetsNamed coord_kind_word coord_kinds NodeCoordTypeKey (first_word line.value) (is_late_in old NodeCoordTypeKey line) old.draft.coord_kind slot r
    → fields_of new.draft ≡ (let fields = fields_of old.draft in record fields { coord_kind = slot }) → new.incomplete ≡ old.incomplete → new.opened ≡ old.opened
    → LineAnswers old NodeCoordTypeKey line new r
coord_kind_line old new line slot (Ok done) sets is same_first same_part earlier h short =
    let there : is_some old.draft.coord_kind ≡ has_line NodeCoordTypeKey earlier = ap (λ (xs : List Bool). get_or xs 8 false) h.stand in
    let late : is_late earlier (Line (Known NodeCoordTypeKey) line) ≡ false = sym (late_by old NodeCoordTypeKey line earlier h) ∙ sets.4 in
    let found : is_some (coord_kind_named (first_word line.value)) ≡ true = ap (λ (o : Option CoordKind). is_some o) sets.2 ∙ sets.3 in
    let row : row_of earlier (Line (Known NodeCoordTypeKey) line) ≡ None = coord_kind_rows earlier line short
    ∙ named_none (has_line NodeCoordTypeKey earlier) (is_left_out NodeCoordTypeKey (first_word line.value)) (coord_kind_named (first_word line.value))
    (is_late earlier (Line (Known NodeCoordTypeKey) line)) (sym there ∙ sets.0) sets.1 found late in
    let space : has_line NodeCoordPart earlier ≡ true → spatial_after (Line (Known NodeCoordTypeKey) line ∷ earlier) ≡ spatial_after earlier = λ known.
    space_kept earlier (Line (Known NodeCoordTypeKey) line) known row in
    record {
      clean = clean_more earlier (Line (Known NodeCoordTypeKey) line) h.clean row;
      stand = ap fields_there is ∙ ap (λ (b : Bool). set (fields_there (fields_of old.draft)) 8 b) sets.3 ∙ ap (λ (xs : List Bool). set xs 8 true) h.stand;
      spelled = is ∙ ap (λ (fields : Fields). record fields { coord_kind = slot }) h.spelled
          ∙ ap (λ (k : Option CoordKind). let fields = fields_by (λ field. has_line field earlier) earlier in record fields { coord_kind = k }) (sym sets.2)
          ∙ ap (λ (points : Option (List Point)). let fields = fields_by (λ field. has_line field earlier) earlier in
          record fields { coord_kind = (coord_kind_named (first_word line.value)); coords = points }) (coords_stay (has_line NodeCoordPart earlier) (spatial_after earlier)
          (spatial_after (Line (Known NodeCoordTypeKey) line ∷ earlier)) (dimension_in earlier) (words_of NodeCoordPart earlier) space);
      incomplete = same_first ∙ h.incomplete ∙ first_stays earlier (dimension_in earlier) (spatial_after earlier)
          (spatial_after (Line (Known NodeCoordTypeKey) line ∷ earlier)) (has_line NodeCoordPart earlier) refl space;
      part = still_none old new (Line (Known NodeCoordTypeKey) line ∷ earlier) refl same_part h.part;
    }
coord_kind_line old new line slot (Err (steps.Memory refused)) sets is same_first same_part earlier h short = tt
coord_kind_line old new line slot (Err (steps.Fault fault)) sets is same_first same_part earlier h short =
    let there : is_some old.draft.coord_kind ≡ has_line NodeCoordTypeKey earlier = ap (λ (xs : List Bool). get_or xs 8 false) h.stand in
    coord_kind_rows earlier line short ∙ ap (λ (b : Bool). named_rows b (is_left_out NodeCoordTypeKey (first_word line.value))
    (coord_kind_named (first_word line.value)) (is_late earlier (Line (Known NodeCoordTypeKey) line))) (sym there)
    ∙ ap (λ (b : Bool). named_rows (is_some old.draft.coord_kind) (is_left_out NodeCoordTypeKey (first_word line.value))
    (coord_kind_named (first_word line.value)) b) (sym (late_by old NodeCoordTypeKey line earlier h)) ∙ sets.1

-- ---- DisplayDataTypeKey

display_kind_rows : (earlier : List Item) (line : WordLine) → nat_lt most_line_bytes line.size ≡ false
    → row_of earlier (Line (Known DisplayDataTypeKey) line) ≡ named_rows (has_line DisplayDataTypeKey earlier)
    (is_left_out DisplayDataTypeKey (first_word line.value)) (display_kind_named (first_word line.value)) false
display_kind_rows earlier line short = rw (short, cond_same (is_none (display_kind_named (first_word line.value)))) refl

pub display_kind_line : (old new : Reading) (line : WordLine) (slot : Option DisplayKind) (r : Result (Unit {0}) StepFault)
    → SetsNamed display_kind_word display_kinds DisplayDataTypeKey (first_word line.value) false old.draft.display_kind slot r
    → fields_of new.draft ≡ (let fields = fields_of old.draft in record fields { display_kind = slot }) → new.incomplete ≡ old.incomplete → new.opened ≡ old.opened
    → LineAnswers old DisplayDataTypeKey line new r
display_kind_line old new line slot (Ok done) sets is same_first same_part earlier h short =
    let there : is_some old.draft.display_kind ≡ has_line DisplayDataTypeKey earlier = ap (λ (xs : List Bool). get_or xs 9 false) h.stand in
    let found : is_some (display_kind_named (first_word line.value)) ≡ true = ap (λ (o : Option DisplayKind). is_some o) sets.2 ∙ sets.3 in
    record {
      clean = clean_more earlier (Line (Known DisplayDataTypeKey) line) h.clean
          (display_kind_rows earlier line short ∙ named_none (has_line DisplayDataTypeKey earlier) (is_left_out DisplayDataTypeKey (first_word line.value))
          (display_kind_named (first_word line.value)) false (sym there ∙ sets.0) sets.1 found refl);
      stand = ap fields_there is ∙ ap (λ (b : Bool). set (fields_there (fields_of old.draft)) 9 b) sets.3 ∙ ap (λ (xs : List Bool). set xs 9 true) h.stand;
      spelled = is ∙ ap (λ (fields : Fields). record fields { display_kind = slot }) h.spelled
          ∙ ap (λ (k : Option DisplayKind). let fields = fields_by (λ field. has_line field earlier) earlier in record fields { display_kind = k }) (sym sets.2);
      incomplete = same_first ∙ h.incomplete;
      part = still_none old new (Line (Known DisplayDataTypeKey) line ∷ earlier) refl same_part h.part;
    }
display_kind_line old new line slot (Err (steps.Memory refused)) sets is same_first same_part earlier h short = tt
display_kind_line old new line slot (Err (steps.Fault fault)) sets is same_first same_part earlier h short =
    let there : is_some old.draft.display_kind ≡ has_line DisplayDataTypeKey earlier = ap (λ (xs : List Bool). get_or xs 9 false) h.stand in
    display_kind_rows earlier line short ∙ ap (λ (b : Bool). named_rows b (is_left_out DisplayDataTypeKey (first_word line.value))
    (display_kind_named (first_word line.value)) false) (sym there) ∙ sets.1

-- ---- a keyword with a number

-- the faults of the line of such a keyword
number_rows : (earlier : List Item) (line : WordLine) → nat_lt most_line_bytes line.size ≡ false
    → (field : Field) (low high : ℤ) → value_shape_of field ≡ Some (Number low high)
    → row_of earlier (Line (Known field) line)
    ≡ numbered_rows (has_line field earlier) line.value (whole_of (first_word line.value) low high)
number_rows earlier line short = by_number (λ field low high. row_of earlier (Line (Known field) line)
    ≡ numbered_rows (has_line field earlier) line.value (whole_of (first_word line.value) low high))
    (rw short refl) (rw short refl) (rw short refl) (rw short refl)

-- it has come if an earlier line has it
number_stands : (reading : Reading) (earlier : List Item) → Closed reading earlier
    → (field : Field) (low high : ℤ) → value_shape_of field ≡ Some (Number low high)
    → stands_in (fields_of reading.draft) field ≡ has_line field earlier
number_stands reading earlier h = by_number (λ field low high. stands_in (fields_of reading.draft) field ≡ has_line field earlier)
    (ap (λ (xs : List Bool). get_or xs 2 false) h.stand) (ap (λ (xs : List Bool). get_or xs 3 false) h.stand)
    (ap (λ (xs : List Bool). get_or xs 4 false) h.stand) (ap (λ (xs : List Bool). get_or xs 5 false) h.stand)

pub number_refused : (old : Reading) (field : Field) (line : WordLine) (low high : ℤ) (fault : LineFault)
    → value_shape_of field ≡ Some (Number low high)
    → GivesNumber (stands_in (fields_of old.draft) field) low high line.value (Err fault)
    → LineAnswers old field line old (Err (steps.Fault fault))
number_refused old field line low high fault is refused earlier h short =
    number_rows earlier line short field low high is
    ∙ ap (λ (b : Bool). numbered_rows b line.value (whole_of (first_word line.value) low high))
    (sym (number_stands old earlier h field low high is)) ∙ refused

-- no row applies
number_clean : (old : Reading) (field : Field) (line : WordLine) (low high z : ℤ) → value_shape_of field ≡ Some (Number low high)
    → GivesNumber (stands_in (fields_of old.draft) field) low high line.value (Ok z)
    → (earlier : List Item) → Closed old earlier → nat_lt most_line_bytes line.size ≡ false
    → IsClean (Line (Known field) line ∷ earlier)
number_clean old field line low high z is gives earlier h short =
    clean_more earlier (Line (Known field) line) h.clean (number_rows earlier line short field low high is
    ∙ numbered_none (has_line field earlier) line.value (whole_of (first_word line.value) low high) z
    (sym (number_stands old earlier h field low high is) ∙ gives.0) gives.1 gives.2)

-- what is said once the number is in the draft
abbrev TakesNumber : Reading → Reading → WordLine → Field → ℤ → ℤ → Type 0
TakesNumber old new line field low high = (z : ℤ)
    → GivesNumber (stands_in (fields_of old.draft) field) low high line.value (Ok z)
    → fields_of new.draft ≡ with_one_number field z (fields_of old.draft) → new.incomplete ≡ old.incomplete
    → new.opened ≡ old.opened
    → LineAnswers old field line new (Ok tt)

capacity_taken : (old new : Reading) (line : WordLine) → TakesNumber old new line CapacityKey (pos 1) (pos most_capacity)
capacity_taken old new line z gives is same_first same_part earlier h short = record {
  clean = number_clean old CapacityKey line (pos 1) (pos most_capacity) z refl gives earlier h short;
  stand = ap fields_there is ∙ ap (λ (xs : List Bool). set xs 3 true) h.stand;
  spelled = is ∙ ap (λ (fields : Fields). record fields { capacity = Some z }) h.spelled
      ∙ ap (λ (k : Option ℤ). let fields = fields_by (λ field. has_line field earlier) earlier in record fields { capacity = k })
      (sym (ap (λ (r : Result ℤ NumberFault). result_ok r) gives.2));
  incomplete = same_first ∙ h.incomplete;
  part = still_none old new (Line (Known CapacityKey) line ∷ earlier) refl same_part h.part;
}

scale_taken : (old new : Reading) (line : WordLine) → TakesNumber old new line ScaleKey (pos 1) (pos most_scale)
scale_taken old new line z gives is same_first same_part earlier h short = record {
  clean = number_clean old ScaleKey line (pos 1) (pos most_scale) z refl gives earlier h short;
  stand = ap fields_there is ∙ ap (λ (xs : List Bool). set xs 4 true) h.stand;
  spelled = is ∙ ap (λ (fields : Fields). record fields { scale = Some z }) h.spelled
      ∙ ap (λ (k : Option ℤ). let fields = fields_by (λ field. has_line field earlier) earlier in record fields { scale = k })
      (sym (ap (λ (r : Result ℤ NumberFault). result_ok r) gives.2));
  incomplete = same_first ∙ h.incomplete;
  part = still_none old new (Line (Known ScaleKey) line ∷ earlier) refl same_part h.part;
}

load_unit_taken : (old new : Reading) (line : WordLine) → TakesNumber old new line LoadUnitKey (pos 1) (pos most_load_unit)
load_unit_taken old new line z gives is same_first same_part earlier h short = record {
  clean = number_clean old LoadUnitKey line (pos 1) (pos most_load_unit) z refl gives earlier h short;
  stand = ap fields_there is ∙ ap (λ (xs : List Bool). set xs 5 true) h.stand;
  spelled = is ∙ ap (λ (fields : Fields). record fields { load_unit = Some z }) h.spelled
      ∙ ap (λ (k : Option ℤ). let fields = fields_by (λ field. has_line field earlier) earlier in record fields { load_unit = k })
      (sym (ap (λ (r : Result ℤ NumberFault). result_ok r) gives.2));
  incomplete = same_first ∙ h.incomplete;
  part = still_none old new (Line (Known LoadUnitKey) line ∷ earlier) refl same_part h.part;
}

-- ---- DimensionKey: no section has come yet but the tours, which don't look at it

dimension_field : (earlier : List Item) (line : WordLine) (z : ℤ)
    → whole_of (first_word line.value) (pos 1) (pos most_nodes) ≡ Ok z
    → has_line NodeCoordPart earlier ≡ false → has_line DisplayDataPart earlier ≡ false → has_line DemandPart earlier ≡ false
    → has_line DepotPart earlier ≡ false → has_line FixedEdgesPart earlier ≡ false → has_line EdgeWeightPart earlier ≡ false
    → has_line NodePotentialPart earlier ≡ false → has_line RowPotentialPart earlier ≡ false
    → has_line ColumnPotentialPart earlier ≡ false → has_line FixedEdgePotentialPart earlier ≡ false
    → has_line FamilyPart earlier ≡ false → has_line MemoryPart earlier ≡ false
    → has_line SubsetRowPart earlier ≡ false → has_line BranchPart earlier ≡ false
    → (let fields = fields_by (λ field. has_line field earlier) earlier in record fields { dimension = Some (nat_abs z) })
    ≡ fields_by (is_closed (Line (Known DimensionKey) line ∷ earlier)) (Line (Known DimensionKey) line ∷ earlier)
dimension_field earlier line z read c0 c1 c2 c3 c4 c5 c6 c7 c8 c9 c10 c11 c12 c13 =
    rw (c0, c1, c2, c3, c4, c5, c6, c7, c8, c9, c10, c11, c12, c13, read) refl

dimension_first : (earlier : List Item) (line : WordLine) → has_line NodeCoordPart earlier ≡ false
    → has_line DisplayDataPart earlier ≡ false
    → has_line DemandPart earlier ≡ false → has_line DepotPart earlier ≡ false → has_line FixedEdgesPart earlier ≡ false
    → has_line EdgeWeightPart earlier ≡ false → has_line NodePotentialPart earlier ≡ false
    → has_line RowPotentialPart earlier ≡ false
    → has_line ColumnPotentialPart earlier ≡ false → has_line FixedEdgePotentialPart earlier ≡ false
    → has_line FamilyPart earlier ≡ false → has_line MemoryPart earlier ≡ false
    → has_line SubsetRowPart earlier ≡ false → has_line BranchPart earlier ≡ false
    → first_incomplete earlier ≡ find (is_closed_incomplete (Line (Known DimensionKey) line ∷ earlier)) sections_in_order
dimension_first earlier line c0 c1 c2 c3 c4 c5 c6 c7 c8 c9 c10 c11 c12 c13 = rw (c0, c1, c2, c3, c4, c5, c6, c7, c8, c9, c10, c11, c12, c13) refl

-- no section but the tours comes before DIMENSION
none_before : (f : Field) (earlier : List Item) → is_section_field f ≡ true → same_field TourPart f ≡ false → IsClean earlier
    → has_line DimensionKey earlier ≡ false
    → has_line f earlier ≡ false
none_before f earlier section other clean none = by_case (has_line f earlier) refl
  where
    by_case : (b : Bool) → has_line f earlier ≡ b → b ≡ false
    by_case true e = sym (stands_late f section other earlier clean e) ∙ none
    by_case false e = refl

dimension_taken : (old new : Reading) (line : WordLine) → TakesNumber old new line DimensionKey (pos 1) (pos most_nodes)
dimension_taken old new line z gives is same_first same_part earlier h short =
    let there = number_stands old earlier h DimensionKey (pos 1) (pos most_nodes) refl in
    let none : (f : Field) → is_section_field f ≡ true → same_field TourPart f ≡ false → has_line f earlier ≡ false =
    λ f section other. none_before f earlier section other h.clean (sym there ∙ gives.0) in
    record {
      clean = number_clean old DimensionKey line (pos 1) (pos most_nodes) z refl gives earlier h short;
      stand = ap fields_there is ∙ ap (λ (xs : List Bool). set xs 2 true) h.stand;
      spelled = is ∙ ap (λ (fields : Fields). record fields { dimension = Some (nat_abs z) }) h.spelled
          ∙ dimension_field earlier line z gives.2 (none NodeCoordPart refl refl) (none DisplayDataPart refl refl)
          (none DemandPart refl refl) (none DepotPart refl refl) (none FixedEdgesPart refl refl) (none EdgeWeightPart refl refl)
          (none NodePotentialPart refl refl) (none RowPotentialPart refl refl) (none ColumnPotentialPart refl refl)
          (none FixedEdgePotentialPart refl refl) (none FamilyPart refl refl) (none MemoryPart refl refl)
          (none SubsetRowPart refl refl) (none BranchPart refl refl);
      incomplete = same_first ∙ h.incomplete ∙ dimension_first earlier line (none NodeCoordPart refl refl)
          (none DisplayDataPart refl refl) (none DemandPart refl refl) (none DepotPart refl refl) (none FixedEdgesPart refl refl)
          (none EdgeWeightPart refl refl) (none NodePotentialPart refl refl) (none RowPotentialPart refl refl)
          (none ColumnPotentialPart refl refl) (none FixedEdgePotentialPart refl refl) (none FamilyPart refl refl)
          (none MemoryPart refl refl) (none SubsetRowPart refl refl) (none BranchPart refl refl);
      part = still_none old new (Line (Known DimensionKey) line ∷ earlier) refl same_part h.part;
    }

-- ---- all four

pub number_taken : (old new : Reading) (line : WordLine) (field : Field) (low high : ℤ)
    → value_shape_of field ≡ Some (Number low high)
    → TakesNumber old new line field low high
number_taken old new line = by_number (TakesNumber old new line) (dimension_taken old new line) (capacity_taken old new line)
    (scale_taken old new line) (load_unit_taken old new line)
