-- Small verdicts and files, whose reports are evaluated. For src/examples.rt alone.
use Rattle.std.specs.Prelude.{List, ℕ, [], ◌∷◌, Some, pos, codes, negsuc}
use Rattle.tsp_format.specs.Steps.{Leaf, SubsetRow}
use Rattle.tsp_format.specs.declared.keyword.Field.TheVariants.{CapacityKey}
use Rattle.tsp_format.specs.declared.kinds.Kind.TheVariants.{Tsp, Cvrp, Tour, Potentials, Branches}
use Rattle.tsp_format.specs.declared.kinds.WeightFormat.TheVariants.{Listed}
use Rattle.tsp_format.specs.declared.kinds.WeightKind.TheVariants.{Explicit}
use Rattle.tsp_format.specs.declared.layout.Layout.TheVariants.{FullMatrix}
use Rattle.tsp_file.specs.Fields.{Fields, blank_fields}
use Rattle.tsp_report.specs.declared.verdict.Reason.{Reason}
use Rattle.tsp_report.specs.declared.verdict.Reason.TheVariants.{NotASolution, TooFewNodes, NotSymmetric, Dimension, TourCount, TourLength, DepotCount, DepotDemand, FixedEdgesInRoutes, DepotInRoute, NodeOutOfRange, RepeatedNode, FixedEdgeUnused, Unserved, Overload, LengthClaimed, NotPotentials, PotentialsDimension, PotentialsKind, MultiplierNotFixed, MultiplierRepeated, DualInfeasible, NotBranches, BranchesDimension, BadFamily, BadMemory, BadRow, BadBranch, BranchTwice, BadLeaf, TooManyLoads, TooManyStates, NotJudged, NotUsed}

-- one line of an unknown keyword
abbrev pub foo : List (List ℕ × List ℕ)
foo = (codes "FOO", codes "1") ∷ []

-- two nodes with a cost of 7 between them; the TYPE is missing
abbrev pub two_nodes : Fields
two_nodes = record blank_fields {
  dimension = Some 2;
  weight_kind = Some Explicit;
  weight_format = Some (Listed FullMatrix);
  weights = Some (pos 0 ∷ pos 7 ∷ pos 7 ∷ pos 0 ∷ []);
}

-- a TSP with a name, a fixed pair, and two lines of unknown keywords
abbrev pub matrix : Fields
matrix = record two_nodes {
  name = Some (codes "m");
  kind = Some Tsp;
  fixed = Some ((1, 2) ∷ []);
  others = (codes "FOO", codes "1") ∷ (codes "BAR", []) ∷ [];
}

-- a CVRP
abbrev pub shown_routes : Fields
shown_routes = record two_nodes { kind = Some Cvrp }

-- one tour
abbrev pub shown_tours : Fields
shown_tours = record blank_fields { kind = Some Tour; tours = Some ((2 ∷ 1 ∷ []) ∷ []); others = foo }

-- potentials, with a scale
abbrev pub shown_potentials : Fields
shown_potentials = record blank_fields { kind = Some Potentials; dimension = Some 2; scale = Some (pos 3); others = foo }

-- a subset row
abbrev row : SubsetRow
row = record { set = 1 ∷ 2 ∷ []; further = [] }

-- branches: a tree of one leaf, with a family, a memory, subset rows and a load unit
abbrev pub shown_tree : Fields
shown_tree = record blank_fields {
  kind = Some Branches;
  dimension = Some 2;
  load_unit = Some (pos 4);
  families = Some (((1 ∷ []) ∷ []) ∷ []);
  memories = Some ((1 ∷ 2 ∷ []) ∷ (2 ∷ []) ∷ []);
  subset_rows = Some (row ∷ row ∷ row ∷ []);
  branches = Some (Leaf [] ∷ []);
  others = foo;
}

-- a file without a TYPE
abbrev pub untyped : Fields
untyped = record blank_fields { others = foo }

-- ---- a reason of each kind

-- in the order in which reasons are judged
abbrev pub each_reason : List Reason
each_reason =
    NotASolution ∷ TooFewNodes ∷ NotSymmetric 1 20 ∷ Dimension ∷ TourCount ∷ TourLength ∷ DepotCount ∷ DepotDemand
    ∷ FixedEdgesInRoutes ∷ DepotInRoute 2 ∷ NodeOutOfRange 3 ∷ RepeatedNode 4 ∷ FixedEdgeUnused 5 ∷ Unserved 6 ∷ Overload 7
    ∷ LengthClaimed (negsuc 4) ∷ NotPotentials ∷ PotentialsDimension ∷ PotentialsKind ∷ MultiplierNotFixed 8
    ∷ MultiplierRepeated 9 ∷ DualInfeasible 10 30 ∷ NotBranches ∷ BranchesDimension ∷ BadFamily 11 ∷ BadMemory 15
    ∷ BadRow 16 ∷ BadBranch 12 ∷ BranchTwice 13 ∷ BadLeaf 14 ∷ TooManyLoads ∷ TooManyStates 17 ∷ NotJudged ∷ NotUsed CapacityKey ∷ []
