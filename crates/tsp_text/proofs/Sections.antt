-- How to prove something of every section: from one proof for each of them. Also the line that opens a section. Proofs
-- in tsp_read go section by section in this way.
use Rattle.tsp_text.proofs.Prelude.{◌≡◌, Bool, true, false, cond, List, ◌∷◌, refl, Some, None, ℕ, nat_lt, is_some, option_map_or, Field, NameKey, TypeKey, CommentKey, OtherKey, DimensionKey, CapacityKey, ScaleKey, LoadUnitKey, EdgeWeightTypeKey, EdgeWeightFormatKey, NodeCoordTypeKey, DisplayDataTypeKey, NodeCoordPart, DisplayDataPart, DemandPart, DepotPart, FixedEdgesPart, EdgeWeightPart, TourPart, NodePotentialPart, RowPotentialPart, ColumnPotentialPart, FixedEdgePotentialPart, FamilyPart, MemoryPart, SubsetRowPart, BranchPart, Known, most_line_bytes, shape_of, is_section_field}
use Rattle.tsp_format.specs.declared.keyword.Shape.{Shape}
use Rattle.tsp_format.specs.declared.keyword.Shape.TheVariants.{Points, SpacePoints}
use Rattle.tsp_file.specs.Fields.{stands_in}
use Rattle.tsp_text.specs.Items.{WordLine, Item, Line}
use Rattle.tsp_text.specs.Earlier.{has_line, spatial_after, dimension_in}
use Rattle.tsp_text.specs.FaultRows.{row_of}
use Rattle.tsp_text.specs.ParsesTo.{opening_rows, fields_by}

-- what holds of each section holds of every field that is one
-- plan: by the field: each section is a premise, and a keyword is none
pub by_section : (P : Field → Type 0) → P NodeCoordPart → P DisplayDataPart → P DemandPart → P DepotPart → P FixedEdgesPart
    → P EdgeWeightPart → P TourPart → P NodePotentialPart → P RowPotentialPart → P ColumnPotentialPart → P FixedEdgePotentialPart
    → P FamilyPart → P MemoryPart → P SubsetRowPart → P BranchPart
    → (f : Field) → is_section_field f ≡ true → P f
by_section P p0 p1 p2 p3 p4 p5 p6 p7 p8 p9 p10 p11 p12 p13 p14 NameKey e = cc
by_section P p0 p1 p2 p3 p4 p5 p6 p7 p8 p9 p10 p11 p12 p13 p14 TypeKey e = cc
by_section P p0 p1 p2 p3 p4 p5 p6 p7 p8 p9 p10 p11 p12 p13 p14 CommentKey e = cc
by_section P p0 p1 p2 p3 p4 p5 p6 p7 p8 p9 p10 p11 p12 p13 p14 OtherKey e = cc
by_section P p0 p1 p2 p3 p4 p5 p6 p7 p8 p9 p10 p11 p12 p13 p14 DimensionKey e = cc
by_section P p0 p1 p2 p3 p4 p5 p6 p7 p8 p9 p10 p11 p12 p13 p14 CapacityKey e = cc
by_section P p0 p1 p2 p3 p4 p5 p6 p7 p8 p9 p10 p11 p12 p13 p14 ScaleKey e = cc
by_section P p0 p1 p2 p3 p4 p5 p6 p7 p8 p9 p10 p11 p12 p13 p14 LoadUnitKey e = cc
by_section P p0 p1 p2 p3 p4 p5 p6 p7 p8 p9 p10 p11 p12 p13 p14 EdgeWeightTypeKey e = cc
by_section P p0 p1 p2 p3 p4 p5 p6 p7 p8 p9 p10 p11 p12 p13 p14 EdgeWeightFormatKey e = cc
by_section P p0 p1 p2 p3 p4 p5 p6 p7 p8 p9 p10 p11 p12 p13 p14 NodeCoordTypeKey e = cc
by_section P p0 p1 p2 p3 p4 p5 p6 p7 p8 p9 p10 p11 p12 p13 p14 DisplayDataTypeKey e = cc
by_section P p0 p1 p2 p3 p4 p5 p6 p7 p8 p9 p10 p11 p12 p13 p14 NodeCoordPart e = p0
by_section P p0 p1 p2 p3 p4 p5 p6 p7 p8 p9 p10 p11 p12 p13 p14 DisplayDataPart e = p1
by_section P p0 p1 p2 p3 p4 p5 p6 p7 p8 p9 p10 p11 p12 p13 p14 DemandPart e = p2
by_section P p0 p1 p2 p3 p4 p5 p6 p7 p8 p9 p10 p11 p12 p13 p14 DepotPart e = p3
by_section P p0 p1 p2 p3 p4 p5 p6 p7 p8 p9 p10 p11 p12 p13 p14 FixedEdgesPart e = p4
by_section P p0 p1 p2 p3 p4 p5 p6 p7 p8 p9 p10 p11 p12 p13 p14 EdgeWeightPart e = p5
by_section P p0 p1 p2 p3 p4 p5 p6 p7 p8 p9 p10 p11 p12 p13 p14 TourPart e = p6
by_section P p0 p1 p2 p3 p4 p5 p6 p7 p8 p9 p10 p11 p12 p13 p14 NodePotentialPart e = p7
by_section P p0 p1 p2 p3 p4 p5 p6 p7 p8 p9 p10 p11 p12 p13 p14 RowPotentialPart e = p8
by_section P p0 p1 p2 p3 p4 p5 p6 p7 p8 p9 p10 p11 p12 p13 p14 ColumnPotentialPart e = p9
by_section P p0 p1 p2 p3 p4 p5 p6 p7 p8 p9 p10 p11 p12 p13 p14 FixedEdgePotentialPart e = p10
by_section P p0 p1 p2 p3 p4 p5 p6 p7 p8 p9 p10 p11 p12 p13 p14 FamilyPart e = p11
by_section P p0 p1 p2 p3 p4 p5 p6 p7 p8 p9 p10 p11 p12 p13 p14 MemoryPart e = p12
by_section P p0 p1 p2 p3 p4 p5 p6 p7 p8 p9 p10 p11 p12 p13 p14 SubsetRowPart e = p13
by_section P p0 p1 p2 p3 p4 p5 p6 p7 p8 p9 p10 p11 p12 p13 p14 BranchPart e = p14

-- a field with a shape is a section, in a spatial file as in another
pub section_of : (in_space : Bool) (f : Field) (shape : Shape) → shape_of in_space f ≡ Some shape → is_section_field f ≡ true
section_of in_space NameKey shape e = cc
section_of in_space TypeKey shape e = cc
section_of in_space CommentKey shape e = cc
section_of in_space OtherKey shape e = cc
section_of in_space DimensionKey shape e = cc
section_of in_space CapacityKey shape e = cc
section_of in_space ScaleKey shape e = cc
section_of in_space LoadUnitKey shape e = cc
section_of in_space EdgeWeightTypeKey shape e = cc
section_of in_space EdgeWeightFormatKey shape e = cc
section_of in_space NodeCoordTypeKey shape e = cc
section_of in_space DisplayDataTypeKey shape e = cc
section_of in_space NodeCoordPart shape e = refl
section_of in_space DisplayDataPart shape e = refl
section_of in_space DemandPart shape e = refl
section_of in_space DepotPart shape e = refl
section_of in_space FixedEdgesPart shape e = refl
section_of in_space EdgeWeightPart shape e = refl
section_of in_space TourPart shape e = refl
section_of in_space NodePotentialPart shape e = refl
section_of in_space RowPotentialPart shape e = refl
section_of in_space ColumnPotentialPart shape e = refl
section_of in_space FixedEdgePotentialPart shape e = refl
section_of in_space FamilyPart shape e = refl
section_of in_space MemoryPart shape e = refl
section_of in_space SubsetRowPart shape e = refl
section_of in_space BranchPart shape e = refl

some_cond : {A : Type 0} (b : Bool) (x : A) → is_some (cond b (Some x) None) ≡ b
some_cond true x = refl
some_cond false x = refl

-- ---- a line that opens a section

-- points have the same rows in a spatial file as in another
points_open : (in_space stands known : Bool) (value : List ℕ) (n : ℕ)
    → opening_rows Points stands value known n ≡ opening_rows (cond in_space SpacePoints Points) stands value known n
points_open true stands known value n = refl
points_open false stands known value n = refl

-- the rows of the table of faults for its line
pub opening : (in_space : Bool) (earlier : List Item) (line : WordLine) → nat_lt most_line_bytes line.size ≡ false → (f : Field)
    → is_section_field f ≡ true
    → row_of earlier (Line (Known f) line)
    ≡ option_map_or (λ shape. opening_rows shape (has_line f earlier) line.value (has_line DimensionKey earlier) (dimension_in earlier)) (shape_of in_space f) None
opening in_space earlier line short = by_section (λ f. row_of earlier (Line (Known f) line)
    ≡ option_map_or (λ shape. opening_rows shape (has_line f earlier) line.value (has_line DimensionKey earlier) (dimension_in earlier)) (shape_of in_space f) None)
    (rw short (points_open in_space (has_line NodeCoordPart earlier) (has_line DimensionKey earlier) line.value (dimension_in earlier))) (rw short refl) (rw short refl) (rw short refl) (rw short refl)
    (rw short refl) (rw short refl) (rw short refl) (rw short refl) (rw short refl)
    (rw short refl) (rw short refl) (rw short refl) (rw short refl) (rw short refl)

-- a section is among the fields if a line opened it
pub standing : (earlier : List Item) (f : Field) → is_section_field f ≡ true
    → stands_in (fields_by (λ field. has_line field earlier) earlier) f ≡ has_line f earlier
standing earlier = by_section (λ f. stands_in (fields_by (λ field. has_line field earlier) earlier) f ≡ has_line f earlier)
    (some_cond (has_line NodeCoordPart earlier) _) (some_cond (has_line DisplayDataPart earlier) _)
    (some_cond (has_line DemandPart earlier) _) (some_cond (has_line DepotPart earlier) _)
    (some_cond (has_line FixedEdgesPart earlier) _) (some_cond (has_line EdgeWeightPart earlier) _)
    (some_cond (has_line TourPart earlier) _) (some_cond (has_line NodePotentialPart earlier) _)
    (some_cond (has_line RowPotentialPart earlier) _) (some_cond (has_line ColumnPotentialPart earlier) _)
    (some_cond (has_line FixedEdgePotentialPart earlier) _) (some_cond (has_line FamilyPart earlier) _)
    (some_cond (has_line MemoryPart earlier) _) (some_cond (has_line SubsetRowPart earlier) _)
    (some_cond (has_line BranchPart earlier) _)

-- the number of nodes stays, and whether the file is spatial
pub nodes_stay : (earlier : List Item) (line : WordLine) (f : Field) → is_section_field f ≡ true
    → (dimension_in (Line (Known f) line ∷ earlier) ≡ dimension_in earlier) × (spatial_after (Line (Known f) line ∷ earlier) ≡ spatial_after earlier)
nodes_stay earlier line = by_section (λ f. (dimension_in (Line (Known f) line ∷ earlier) ≡ dimension_in earlier)
    × (spatial_after (Line (Known f) line ∷ earlier) ≡ spatial_after earlier))
    (refl, refl) (refl, refl) (refl, refl) (refl, refl) (refl, refl) (refl, refl) (refl, refl) (refl, refl)
    (refl, refl) (refl, refl) (refl, refl) (refl, refl) (refl, refl) (refl, refl) (refl, refl)
