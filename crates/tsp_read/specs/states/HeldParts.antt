-- For each shape of section, what the list that is being filled holds: exactly what the section's words so far mean.
-- The lists promise it, for example in `src/list_sections.rt` and `src/node_sections.rt`, and `src/section_builder.rt`
-- does so for all of them by `HoldsShape`. A new shape needs a record here, and a line in `HoldsPart`.
use Rattle.tsp_read.specs.Prelude.{ℕ, ℤ, Bool, cond, List, length, map, false, is_some, [], Ok, most_families, most_rows, points_of, families_of, subset_rows_of, place_by, FamiliesSoFar, families_after, MemoriesSoFar, memories_after, RowsSoFar, rows_after, TreeSoFar, tree_after}
use Rattle.std.specs.Prelude.{◌≡◌, ◌+◌, ◌≤◌, ◌∷◌, ◌++◌}
use Rattle.tsp_format.specs.declared.keyword.Shape.{Shape}
use Rattle.tsp_format.specs.declared.keyword.Shape.TheVariants.{Numbers, Points, SpacePoints, Depots, Pairs, Weights, Tours, Triples, Families, Memories, SubsetRows, Steps}
use Rattle.tsp_format.specs.states.TreeSteps.{steps_of}
use Rattle.tsp_read.specs.declared.node_sections.NumberList.{NumberList}
use Rattle.tsp_read.specs.declared.node_sections.PointList.{PointList}
use Rattle.tsp_read.specs.declared.list_sections.DepotList.{DepotList}
use Rattle.tsp_read.specs.declared.list_sections.FixedList.{FixedList}
use Rattle.tsp_read.specs.declared.memory_lists.MemoryList.{MemoryList}
use Rattle.tsp_read.specs.declared.memory_lists.RowList.{RowList}
use Rattle.tsp_read.specs.declared.section_builder.SectionBuilder.{SectionBuilder}
use Rattle.tsp_read.specs.declared.section_builder.SectionBuilder.TheVariants as parts
use Rattle.tsp_read.specs.declared.section_builder.TripleList.{TripleList}
use Rattle.tsp_read.specs.declared.list_sections.TourList.{TourList}
use Rattle.tsp_read.specs.declared.list_sections.WeightList.{WeightList}
use Rattle.tsp_read.specs.declared.tree_sections.FamilyList.{FamilyList}
use Rattle.tsp_read.specs.declared.tree_sections.TreeList.{TreeList}
use Rattle.tsp_read.specs.states.Parts.{NumbersHold, CoordsHold, are_in_space, DepotsHold, PairsHold, TriplesHold, WeightsHold, ToursHold, EndsRun, Takes}

-- a section by node with numbers of this range
pub record HoldsNumbers (part : NumberList) (low high : ℤ) (n : ℕ) (words : List (List ℕ)) : Type 0 where
  pub from : part.low ≡ low
  pub to : part.high ≡ high
  pub read : NumbersHold part.seen.items part.entries.items part.left part.begun low high n words

-- a section of points, in space or in the plane
pub record HoldsPoints (part : PointList) (in_space : Bool) (n : ℕ) (words : List (List ℕ)) : Type 0 where
  pub kind : are_in_space part.entries ≡ in_space
  pub read : CoordsHold in_space part.seen.items (points_of part.entries) part.left part.begun part.x part.y n words

-- DEPOT_SECTION
pub record HoldsDepots (part : DepotList) (n : ℕ) (words : List (List ℕ)) : Type 0 where
  pub nodes : part.n ≡ n
  pub read : DepotsHold part.depots.items part.ended n words

-- FIXED_EDGES_SECTION
pub record HoldsFixed (part : FixedList) (n : ℕ) (words : List (List ℕ)) : Type 0 where
  pub nodes : part.n ≡ n
  pub read : PairsHold part.pairs.items part.first part.ended n words

-- FIXED_EDGE_POTENTIAL_SECTION
pub record HoldsTriples (part : TripleList) (n : ℕ) (words : List (List ℕ)) : Type 0 where
  pub nodes : part.n ≡ n
  pub read : TriplesHold part.triples.items part.first part.second part.ended n words

-- EDGE_WEIGHT_SECTION
abbrev pub HoldsWeights : WeightList → ℕ → List (List ℕ) → Type 0
HoldsWeights part n words = WeightsHold part.weights.items part.most n words

-- TOUR_SECTION
abbrev pub HoldsTours : TourList → List (List ℕ) → Type 0
HoldsTours part words = ToursHold (map (λ tour. tour.items) part.done.items) part.run.items part.count words

-- the tour that was open is among the tours
abbrev pub EndsRunOf : TourList → List (List ℕ) → Type 0
EndsRunOf part words = EndsRun (map (λ tour. tour.items) part.done.items) part.run.items words

-- the contents of a part for COMB_SECTION, as Groups.antt of tsp_text has them
abbrev pub families_held : FamilyList → FamiliesSoFar
families_held part = record {
  families = families_of part.families.items;
  sets = map (λ set. set.items) part.sets.items;
  nodes = part.nodes.items;
  count = part.count;
  ended = part.ended;
}

-- COMB_SECTION
pub record HoldsFamilies (part : FamilyList) (n : ℕ) (words : List (List ℕ)) : Type 0 where
  pub nodes : part.n ≡ n
  pub read : families_held part ≡ families_after n words

-- the contents of a part for MEMORY_SECTION, as MemoryWords.antt of tsp_text has them
abbrev pub memories_held : MemoryList → MemoriesSoFar
memories_held part = record {
  lists = map (λ list. list.items) part.lists.items;
  nodes = part.nodes.items;
  count = part.count;
  ended = part.ended;
}

-- MEMORY_SECTION
pub record HoldsMemories (part : MemoryList) (n : ℕ) (words : List (List ℕ)) : Type 0 where
  pub nodes : part.n ≡ n
  pub read : memories_held part ≡ memories_after n words

-- the contents of a part for SUBSET_ROW_SECTION, as MemoryWords.antt of tsp_text has them
abbrev pub rows_held : RowList → RowsSoFar
rows_held part = record {
  rows = subset_rows_of part.rows.items;
  set = part.set.items;
  nodes = part.nodes.items;
  count = part.count;
  ended = part.ended;
}

-- SUBSET_ROW_SECTION
pub record HoldsSubsetRows (part : RowList) (n : ℕ) (words : List (List ℕ)) : Type 0 where
  pub nodes : part.n ≡ n
  pub read : rows_held part ≡ rows_after n words

-- the contents of a part for BRANCH_SECTION, as SectionWords.antt of tsp_text has them
abbrev pub tree_held : TreeList → TreeSoFar
tree_held part = record {
  steps = steps_of part.steps.items;
  first = part.first;
  in_leaf = part.in_leaf;
  leaf = part.leaf.items;
  to_come = part.to_come;
  branches = part.branches;
  changes = part.changes;
}

-- BRANCH_SECTION; no more trees are to come than this many steps can ask for
pub record HoldsTree (part : TreeList) (n : ℕ) (words : List (List ℕ)) : Type 0 where
  pub nodes : part.n ≡ n
  pub families : part.last_family ≡ n + most_families
  pub indices : part.last_index ≡ n + most_families + most_rows
  pub read : tree_held part ≡ tree_after n words
  pub few : part.to_come ≤ length part.steps.items + 1

-- ---- the part of a section, whichever its shape

-- the shape of a section of points
abbrev pub shape_of_points : Bool → Shape
shape_of_points in_space = cond in_space SpacePoints Points

-- the shape of the section that a part is for
abbrev pub shape_by : SectionBuilder → Shape
shape_by (parts.Numbers list) = Numbers list.low list.high
shape_by (parts.Points list) = shape_of_points (are_in_space list.entries)
shape_by (parts.Depots list) = Depots
shape_by (parts.Pairs list) = Pairs
shape_by (parts.Weights list) = Weights
shape_by (parts.Tours list) = Tours
shape_by (parts.Triples list) = Triples
shape_by (parts.Families list) = Families
shape_by (parts.Memories list) = Memories
shape_by (parts.SubsetRows list) = SubsetRows
shape_by (parts.Steps list) = Steps

-- the part has these words of its section, which has n nodes
abbrev pub HoldsPart : SectionBuilder → ℕ → List (List ℕ) → Type 0
HoldsPart (parts.Numbers list) n words = HoldsNumbers list list.low list.high n words
HoldsPart (parts.Points list) n words = HoldsPoints list (are_in_space list.entries) n words
HoldsPart (parts.Depots list) n words = HoldsDepots list n words
HoldsPart (parts.Pairs list) n words = HoldsFixed list n words
HoldsPart (parts.Weights list) n words = HoldsWeights list n words
HoldsPart (parts.Tours list) n words = HoldsTours list words
HoldsPart (parts.Triples list) n words = HoldsTriples list n words
HoldsPart (parts.Families list) n words = HoldsFamilies list n words
HoldsPart (parts.Memories list) n words = HoldsMemories list n words
HoldsPart (parts.SubsetRows list) n words = HoldsSubsetRows list n words
HoldsPart (parts.Steps list) n words = HoldsTree list n words

-- the same, and the section has this shape
abbrev pub HoldsShape : Shape → SectionBuilder → ℕ → List (List ℕ) → Type 0
HoldsShape shape part n words = (shape_by part ≡ shape) × HoldsPart part n words

-- ---- how a section's part takes one word of a run, which code reads in one pass

-- a part that had some words has this one too, which has no fault at its place
abbrev pub TakesRead : SectionBuilder → SectionBuilder → List ℕ → Type 0
TakesRead old new word = (n : ℕ) (words : List (List ℕ)) → HoldsPart old n words
    → Takes n (place_by (shape_by old) n words) word (HoldsShape (shape_by old) new n (words ++ word ∷ [])) (Ok tt)

-- a part still has the words that it had
abbrev pub KeepsWords : SectionBuilder → SectionBuilder → Type 0
KeepsWords old new = (n : ℕ) (words : List (List ℕ)) → HoldsPart old n words → HoldsShape (shape_by old) new n words

-- the part has the node of a point that isn't whole, so that its next word is a coordinate
abbrev pub in_group : SectionBuilder → Bool
in_group (parts.Points list) = is_some list.begun
in_group part = false

-- how many points are still to come; 0 for another section
abbrev pub groups_left : SectionBuilder → ℕ
groups_left (parts.Points list) = list.left
groups_left part = 0

-- for each node whether it has a point; none for another section
abbrev pub marks_of : SectionBuilder → List Bool
marks_of (parts.Points list) = list.seen.items
marks_of part = []
