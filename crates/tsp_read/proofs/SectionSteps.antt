-- A section is opened by its line and closed by the next one: its field has its value, and no other field changes
-- (`Reading::open` and `Reading::close` in src/reading.rt).
use Rattle.tsp_read.proofs.Prelude.{◌≡◌, ℕ, Bool, true, false, List, [], ◌∷◌, ◌≤◌, cond, get_or, arith, refl, sym, ap, subst, ◌∙◌, Option, Some, None, Ok, Err, ℤ, nat_le, nat_lt, is_some, unwrap_or, not, ◌&&◌, option_map_or, find, and_parts, leb-true, Point, Field, DimensionKey, Known, most_nodes, most_line_bytes, most_matrix_nodes, shape_of, is_section_field, Step, fields_in_order, Fields, stands_in, with_numbers, with_points, spatial, fields_of, if_there, is_node, LineFault, Shape, Numbers, Pairs, Triples, Families, Memories, SubsetRows, Steps, SubsetRow, numbers_by_node, place_of_number, coords_by_node, fixed_in, place_of_fixed, fixed_triples_in, place_of_triple, whole_families, place_of_family, whole_memories, place_of_memory, whole_rows, place_of_row, whole_steps, place_of_step, PastEnd, is_not_empty, WordLine, Item, Line, is_open, has_line, open_section, words_of, dimension_of, spatial_after, place_by, place_in, dimension_in, row_of, when, first_row, needs_nodes, is_matrix, opening_rows, wants_more, is_incomplete, sections_in_order, first_incomplete, clean_more, was_opened, no_words_opened}
use Rattle.tsp_text.specs.declared.fault.LineFault.TheVariants as row
use Rattle.tsp_read.specs.declared.section_builder.SectionBuilder.{SectionBuilder}
use Rattle.tsp_read.specs.declared.section_builder.SectionBuilder.TheVariants as parts
use Rattle.tsp_read.specs.declared.node_sections.NumberList.{NumberList}
use Rattle.tsp_read.specs.declared.node_sections.PointList.{PointList}
use Rattle.tsp_read.specs.declared.list_sections.FixedList.{FixedList}
use Rattle.tsp_read.specs.declared.section_builder.TripleList.{TripleList}
use Rattle.tsp_read.specs.declared.memory_lists.MemoryList.{MemoryList}
use Rattle.tsp_read.specs.declared.memory_lists.RowList.{RowList}
use Rattle.tsp_read.specs.declared.tree_sections.FamilyList.{FamilyList}
use Rattle.tsp_read.specs.declared.tree_sections.TreeList.{TreeList}
use Rattle.tsp_read.specs.states.Holds.{MayOpen, HoldsSection, with_words, with_section, first_of, fields_there, OpenHolds, Holds, Closed}
use Rattle.tsp_read.specs.states.Parts.{are_in_space}
use Rattle.tsp_read.specs.states.HeldParts.{HoldsNumbers, HoldsPoints, HoldsFixed, HoldsTriples, HoldsFamilies, HoldsMemories, HoldsSubsetRows, HoldsTree, shape_of_points, shape_by, HoldsPart, HoldsShape}
use Rattle.tsp_read.specs.declared.reading.OpenSection.{OpenSection}
use Rattle.tsp_read.specs.declared.reading.Reading.{Reading}
use Rattle.tsp_read.proofs.TextSteps.{but, first_without, first_more, opened_fields, opened_first, keywords_stay, closed_fields, stored_keywords}
use Rattle.tsp_text.proofs.Sections.{section_of, opening, standing, nodes_stay}
use Rattle.tsp_text.proofs.ValidKeywords.{dimension_fits}

-- ---- a line opens a section

-- the rows of its line, by what the draft has
rows_are : (old : Reading) (field : Field) (shape : Shape) (line : WordLine) (earlier : List Item)
    → shape_of (spatial (fields_of old.draft)) field ≡ Some shape → Closed old earlier
    → nat_lt most_line_bytes line.size ≡ false
    → row_of earlier (Line (Known field) line)
    ≡ opening_rows shape (stands_in (fields_of old.draft) field) line.value (is_some old.draft.dimension) (unwrap_or old.draft.dimension 0)
rows_are old field shape line earlier is h short =
    let section : is_section_field field ≡ true = section_of (spatial (fields_of old.draft)) field shape is in
    let there : stands_in (fields_of old.draft) field ≡ has_line field earlier = ap (λ (fields : Fields). stands_in fields field) h.spelled ∙ standing earlier field section in
    let dimension : is_some old.draft.dimension ≡ has_line DimensionKey earlier = ap (λ (xs : List Bool). get_or xs 2 false) h.stand in
    let nodes : unwrap_or old.draft.dimension 0 ≡ dimension_in earlier = ap (λ (fields : Fields). unwrap_or fields.dimension 0) h.spelled in
    opening (spatial (fields_of old.draft)) earlier line short field section
    ∙ ap (λ o. option_map_or (λ shape. opening_rows shape (has_line field earlier) line.value (has_line DimensionKey earlier) (dimension_in earlier)) o None) is
    ∙ ap (λ (b : Bool). opening_rows shape b line.value (has_line DimensionKey earlier) (dimension_in earlier)) (sym there)
    ∙ ap (λ (b : Bool). opening_rows shape (stands_in (fields_of old.draft) field) line.value b (dimension_in earlier)) (sym dimension)
    ∙ ap (λ (n : ℕ). opening_rows shape (stands_in (fields_of old.draft) field) line.value (is_some old.draft.dimension) n) (sym nodes)

first_none : (b : Bool) (fault : LineFault) (rows : List (Option LineFault)) → first_row (when b fault ∷ rows) ≡ None → b ≡ false
first_none true fault rows e = cc
first_none false fault rows e = refl

-- a file has no more nodes than it may have
few_nodes : (dimension : Option ℕ) → if_there (is_node most_nodes) dimension ≡ true → unwrap_or dimension 0 ≤ most_nodes
few_nodes None e = omega arith
few_nodes (Some n) e = leb-true n most_nodes (and_parts (nat_le 1 n) (nat_le n most_nodes) e).1

-- plan: the line adds no word, so the section is begun with none (`no_words_opened`), and all other parts are as before it
pub opens : (old new : Reading) (field : Field) (shape : Shape) (line : WordLine) (n : ℕ) (section : OpenSection)
    → shape_of (spatial (fields_of old.draft)) field ≡ Some shape
    → MayOpen shape (stands_in (fields_of old.draft) field) line.value old.draft.dimension (Ok n) → section.field ≡ field
    → (n ≤ most_nodes → HoldsShape shape section.part n [])
    → new.draft ≡ old.draft → new.incomplete ≡ old.incomplete → new.opened ≡ Some section
    → (earlier : List Item) → Closed old earlier → nat_lt most_line_bytes line.size ≡ false
    → Holds new (Line (Known field) line ∷ earlier)
opens old new field shape line n section is may of begins same_draft same_first opened earlier h short =
    let kind : is_section_field field ≡ true = section_of (spatial (fields_of old.draft)) field shape is in
    let stays = nodes_stay earlier line field kind in
    let space : spatial (fields_of old.draft) ≡ spatial_after (Line (Known field) line ∷ earlier) = ap spatial h.spelled ∙ sym stays.1 in
    let rows = ap (λ (m : ℕ). opening_rows shape (stands_in (fields_of old.draft) field) line.value (is_some old.draft.dimension) m) (sym may.0) ∙ may.1 in
    let absent : stands_in (fields_of old.draft) field ≡ false = first_none (stands_in (fields_of old.draft) field) row.Repeated
    (when (is_not_empty line.value) row.SectionValue ∷ when (needs_nodes shape && not (is_some old.draft.dimension)) row.SectionEarly
    ∷ when (is_matrix shape && nat_lt most_matrix_nodes (unwrap_or old.draft.dimension 0)) row.TooManyNodes ∷ []) rows in
    let none : has_line field earlier ≡ false = sym (standing earlier field kind) ∙ sym (ap (λ (fields : Fields). stands_in fields field) h.spelled) ∙ absent in
    let nodes : dimension_in earlier ≡ n = sym (ap (λ (fields : Fields). unwrap_or fields.dimension 0) h.spelled) ∙ sym may.0 in
    let words : words_of field earlier ≡ [] = no_words_opened field earlier none in
    let start = begins (subst (λ (m : ℕ). m ≤ most_nodes) nodes (few_nodes (dimension_of earlier) (dimension_fits earlier))) in
    let held : HoldsPart section.part (dimension_in (Line (Known field) line ∷ earlier)) (words_of section.field earlier) =
    subst (λ (m : ℕ). HoldsPart section.part m (words_of section.field earlier)) (sym (stays.0 ∙ nodes))
    (subst (λ (ws : List (List ℕ)). HoldsPart section.part n ws) (sym (ap (λ f. words_of f earlier) of ∙ words)) start.1) in
    let open_now : open_section (Line (Known field) line ∷ earlier) ≡ Some field = ap (λ b. cond b (Some field) None) kind in
    record {
      clean = clean_more earlier (Line (Known field) line) h.clean (rows_are old field shape line earlier is h short ∙ rows);
      stand = ap (λ d. fields_there (fields_of d)) same_draft ∙ h.stand ∙ sym (keywords_stay earlier line field kind);
      spelled = ap fields_of same_draft ∙ h.spelled ∙ opened_fields earlier line field kind none;
      incomplete = same_first ∙ h.incomplete ∙ opened_first earlier line field kind none;
      part = subst (λ (o : Option OpenSection). OpenHolds o (Line (Known field) line ∷ earlier)) (sym opened) (
        open_now ∙ ap (λ f. Some f) (sym of),
        (
          ap (shape_of (spatial_after (Line (Known field) line ∷ earlier))) of ∙ ap (λ b. shape_of b field) (sym space) ∙ is
              ∙ ap (λ s. Some s) (sym start.0),
          held,
        ),
      );
    }

pub refuses : (old : Reading) (field : Field) (shape : Shape) (line : WordLine) (fault : LineFault)
    → shape_of (spatial (fields_of old.draft)) field ≡ Some shape
    → MayOpen shape (stands_in (fields_of old.draft) field) line.value old.draft.dimension (Err fault)
    → (earlier : List Item) → Closed old earlier → nat_lt most_line_bytes line.size ≡ false
    → row_of earlier (Line (Known field) line) ≡ Some fault
refuses old field shape line fault is may earlier h short = rows_are old field shape line earlier is h short ∙ may

-- ---- the section that is open is closed

-- the first that is incomplete is now that of all
first_now : (earlier : List Item) (f : Field) (more : Bool) (first : Option Field) → is_section_field f ≡ true
    → find (but f (is_incomplete earlier)) sections_in_order ≡ first → is_incomplete earlier f ≡ more
    → cond more (first_of f first fields_in_order) first ≡ first_incomplete earlier
first_now earlier f true first kind is passes =
    ap (λ o. first_of f o fields_in_order) (sym is) ∙ first_more is_section_field (is_incomplete earlier) f fields_in_order kind passes
first_now earlier f false first kind is fails = sym is ∙ first_without (is_incomplete earlier) f sections_in_order fails

pub closes : (old new : Reading) (section : OpenSection) (more : Bool) → old.opened ≡ Some section
    → ((in_space : Bool) (n : ℕ) (words : List (List ℕ)) → HoldsSection in_space section n words
    → (fields_of new.draft ≡ with_section in_space section.field n words (fields_of old.draft)) × (more ≡ wants_more (place_in in_space section.field n words)))
    → new.incomplete ≡ cond more (first_of section.field old.incomplete fields_in_order) old.incomplete → new.opened ≡ None
    → (earlier : List Item) → Holds old earlier → Closed new earlier
closes old new section more there stored first none earlier h =
    let f = section.field in
    let held = subst (λ (o : Option OpenSection). OpenHolds o earlier) there h.part in
    let space = spatial_after earlier in
    let kind : is_section_field f ≡ true = section_of space f (shape_by section.part) held.1.0 in
    let stands : has_line f earlier ≡ true = was_opened earlier f held.0 in
    let got = stored space (dimension_in earlier) (words_of f earlier) held.1 in
    let others : find (but f (is_incomplete earlier)) sections_in_order ≡ old.incomplete =
    ap (λ o. find (λ x. not (is_open x o) && is_incomplete earlier x) sections_in_order) (sym held.0) ∙ sym h.incomplete in
    let wants : is_incomplete earlier f ≡ more = ap (λ b. b && wants_more (place_in (spatial_after earlier) f (dimension_in earlier) (words_of f earlier))) stands ∙ sym got.1 in
    record {
      clean = h.clean;
      stand = ap fields_there got.0 ∙ stored_keywords space (dimension_in earlier) (words_of f earlier) (fields_of old.draft) f kind ∙ h.stand;
      spelled = got.0 ∙ ap (with_section space f (dimension_in earlier) (words_of f earlier)) h.spelled ∙ closed_fields earlier f kind held.0 stands;
      incomplete = first ∙ first_now earlier f more old.incomplete kind others wants;
      part = none;
    }

-- ---- what a part has goes into its field

with_coords : (in_space : Bool) (field : Field) (n : ℕ) (words : List (List ℕ)) (fields : Fields)
    → with_points field (coords_by_node in_space n words) fields ≡ with_words (shape_of_points in_space) field n words fields
with_coords false field n words fields = refl
with_coords true field n words fields = refl

stored_as : (section : OpenSection) (shape : Shape) (old new : Fields) (more in_space : Bool) (n : ℕ) (words : List (List ℕ))
    → shape_of in_space section.field ≡ Some shape
    → new ≡ with_words shape section.field n words old → more ≡ wants_more (place_by shape n words)
    → (new ≡ with_section in_space section.field n words old) × (more ≡ wants_more (place_in in_space section.field n words))
stored_as section shape old new more in_space n words is fields wants = (
  fields ∙ ap (λ o. option_map_or (λ shape. with_words shape section.field n words old) o old) (sym is),
  wants ∙ ap (λ o. wants_more (option_map_or (λ shape. place_by shape n words) o PastEnd)) (sym is),
)

pub numbers_stored : (section : OpenSection) (part : NumberList) (numbers : List ℤ) (more : Bool) (old new : Fields)
    → section.part ≡ parts.Numbers part
    → new ≡ with_numbers section.field numbers old
    → ((low high : ℤ) (n : ℕ) (words : List (List ℕ)) → HoldsNumbers part low high n words
    → (numbers ≡ numbers_by_node low high n words) × (more ≡ wants_more (place_of_number low high n words)))
    → (in_space : Bool) (n : ℕ) (words : List (List ℕ)) → HoldsSection in_space section n words
    → (new ≡ with_section in_space section.field n words old) × (more ≡ wants_more (place_in in_space section.field n words))
numbers_stored section part numbers more old new is put finished in_space n words h =
    let got = finished part.low part.high n words (subst (λ (p : SectionBuilder). HoldsPart p n words) is h.1) in
    stored_as section (Numbers part.low part.high) old new more in_space n words (h.0 ∙ ap (λ p. Some (shape_by p)) is)
    (put ∙ ap (λ xs. with_numbers section.field xs old) got.0) got.1

pub points_stored : (section : OpenSection) (part : PointList) (points : List Point) (more : Bool) (old new : Fields)
    → section.part ≡ parts.Points part
    → new ≡ with_points section.field points old
    → ((in_space : Bool) (n : ℕ) (words : List (List ℕ)) → HoldsPoints part in_space n words
    → (points ≡ coords_by_node in_space n words) × (more ≡ wants_more (place_by (shape_of_points in_space) n words)))
    → (in_space : Bool) (n : ℕ) (words : List (List ℕ)) → HoldsSection in_space section n words
    → (new ≡ with_section in_space section.field n words old) × (more ≡ wants_more (place_in in_space section.field n words))
points_stored section part points more old new is put finished in_space n words h =
    let kind = are_in_space part.entries in
    let got = finished kind n words (subst (λ (p : SectionBuilder). HoldsPart p n words) is h.1) in
    stored_as section (shape_of_points kind) old new more in_space n words (h.0 ∙ ap (λ p. Some (shape_by p)) is)
    (put ∙ ap (λ xs. with_points section.field xs old) got.0 ∙ with_coords kind section.field n words old) got.1

pub pairs_stored : (section : OpenSection) (part : FixedList) (pairs : List (ℕ × ℕ)) (more : Bool) (old new : Fields)
    → section.part ≡ parts.Pairs part
    → new ≡ record old { fixed = Some pairs }
    → ((n : ℕ) (words : List (List ℕ)) → HoldsFixed part n words → (pairs ≡ fixed_in n words) × (more ≡ wants_more (place_of_fixed n words)))
    → (in_space : Bool) (n : ℕ) (words : List (List ℕ)) → HoldsSection in_space section n words
    → (new ≡ with_section in_space section.field n words old) × (more ≡ wants_more (place_in in_space section.field n words))
pairs_stored section part pairs more old new is put finished in_space n words h =
    let got = finished n words (subst (λ (p : SectionBuilder). HoldsPart p n words) is h.1) in
    stored_as section Pairs old new more in_space n words (h.0 ∙ ap (λ p. Some (shape_by p)) is) (put ∙ ap (λ xs. record old { fixed = Some xs }) got.0) got.1

pub triples_stored : (section : OpenSection) (part : TripleList) (triples : List (ℕ × ℕ × ℤ)) (more : Bool) (old new : Fields)
    → section.part ≡ parts.Triples part
    → new ≡ record old { fixed_potentials = Some triples }
    → ((n : ℕ) (words : List (List ℕ)) → HoldsTriples part n words → (triples ≡ fixed_triples_in n words) × (more ≡ wants_more (place_of_triple n words)))
    → (in_space : Bool) (n : ℕ) (words : List (List ℕ)) → HoldsSection in_space section n words
    → (new ≡ with_section in_space section.field n words old) × (more ≡ wants_more (place_in in_space section.field n words))
triples_stored section part triples more old new is put finished in_space n words h =
    let got = finished n words (subst (λ (p : SectionBuilder). HoldsPart p n words) is h.1) in
    stored_as section Triples old new more in_space n words (h.0 ∙ ap (λ p. Some (shape_by p)) is)
    (put ∙ ap (λ xs. record old { fixed_potentials = Some xs }) got.0) got.1

pub families_stored : (section : OpenSection) (part : FamilyList) (families : List (List (List ℕ))) (more : Bool) (old new : Fields)
    → section.part ≡ parts.Families part
    → new ≡ record old { families = Some families }
    → ((n : ℕ) (words : List (List ℕ)) → HoldsFamilies part n words → (families ≡ whole_families n words) × (more ≡ wants_more (place_of_family n words)))
    → (in_space : Bool) (n : ℕ) (words : List (List ℕ)) → HoldsSection in_space section n words
    → (new ≡ with_section in_space section.field n words old) × (more ≡ wants_more (place_in in_space section.field n words))
families_stored section part families more old new is put finished in_space n words h =
    let got = finished n words (subst (λ (p : SectionBuilder). HoldsPart p n words) is h.1) in
    stored_as section Families old new more in_space n words (h.0 ∙ ap (λ p. Some (shape_by p)) is)
    (put ∙ ap (λ xs. record old { families = Some xs }) got.0) got.1

pub memories_stored : (section : OpenSection) (part : MemoryList) (lists : List (List ℕ)) (more : Bool) (old new : Fields)
    → section.part ≡ parts.Memories part
    → new ≡ record old { memories = Some lists }
    → ((n : ℕ) (words : List (List ℕ)) → HoldsMemories part n words → (lists ≡ whole_memories n words) × (more ≡ wants_more (place_of_memory n words)))
    → (in_space : Bool) (n : ℕ) (words : List (List ℕ)) → HoldsSection in_space section n words
    → (new ≡ with_section in_space section.field n words old) × (more ≡ wants_more (place_in in_space section.field n words))
memories_stored section part lists more old new is put finished in_space n words h =
    let got = finished n words (subst (λ (p : SectionBuilder). HoldsPart p n words) is h.1) in
    stored_as section Memories old new more in_space n words (h.0 ∙ ap (λ p. Some (shape_by p)) is)
    (put ∙ ap (λ xs. record old { memories = Some xs }) got.0) got.1

pub rows_stored : (section : OpenSection) (part : RowList) (rows : List SubsetRow) (more : Bool) (old new : Fields)
    → section.part ≡ parts.SubsetRows part
    → new ≡ record old { subset_rows = Some rows }
    → ((n : ℕ) (words : List (List ℕ)) → HoldsSubsetRows part n words → (rows ≡ whole_rows n words) × (more ≡ wants_more (place_of_row n words)))
    → (in_space : Bool) (n : ℕ) (words : List (List ℕ)) → HoldsSection in_space section n words
    → (new ≡ with_section in_space section.field n words old) × (more ≡ wants_more (place_in in_space section.field n words))
rows_stored section part rows more old new is put finished in_space n words h =
    let got = finished n words (subst (λ (p : SectionBuilder). HoldsPart p n words) is h.1) in
    stored_as section SubsetRows old new more in_space n words (h.0 ∙ ap (λ p. Some (shape_by p)) is)
    (put ∙ ap (λ xs. record old { subset_rows = Some xs }) got.0) got.1

pub steps_stored : (section : OpenSection) (part : TreeList) (steps : List Step) (more : Bool) (old new : Fields)
    → section.part ≡ parts.Steps part
    → new ≡ record old { branches = Some steps }
    → ((n : ℕ) (words : List (List ℕ)) → HoldsTree part n words → (steps ≡ whole_steps n words) × (more ≡ wants_more (place_of_step n words)))
    → (in_space : Bool) (n : ℕ) (words : List (List ℕ)) → HoldsSection in_space section n words
    → (new ≡ with_section in_space section.field n words old) × (more ≡ wants_more (place_in in_space section.field n words))
steps_stored section part steps more old new is put finished in_space n words h =
    let got = finished n words (subst (λ (p : SectionBuilder). HoldsPart p n words) is h.1) in
    stored_as section Steps old new more in_space n words (h.0 ∙ ap (λ p. Some (shape_by p)) is)
    (put ∙ ap (λ xs. record old { branches = Some xs }) got.0) got.1
