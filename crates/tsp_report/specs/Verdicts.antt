-- Circle 2 of docs/trust.md.
-- The table of reasons, one row each, and which verdicts end with the line `yes`. src/verdict.rt is proved to have the
-- same table. Crates above import it, too.
use Rattle.std.specs.Prelude.{Bool, true, false, ℕ, List, Option, None, Some, Result, codes, is_ok, ℤ, pos}
use Rattle.std.specs.Option.{option_map_or}
use Rattle.tsp_report.specs.declared.task.Role.{Role}
use Rattle.tsp_report.specs.declared.task.Role.TheVariants.{Instance, Solution, Potentials, Branches}
use Rattle.tsp_report.specs.declared.verdict.KnownBound.{KnownBound}
use Rattle.tsp_report.specs.declared.verdict.Reason.{Reason}
use Rattle.tsp_report.specs.declared.verdict.Reason.TheVariants.{NotASolution, TooFewNodes, NotSymmetric, Dimension, TourCount, TourLength, DepotCount, DepotDemand, FixedEdgesInRoutes, DepotInRoute, NodeOutOfRange, RepeatedNode, FixedEdgeUnused, Unserved, Overload, LengthClaimed, NotPotentials, PotentialsDimension, PotentialsKind, MultiplierNotFixed, MultiplierRepeated, DualInfeasible, NotBranches, BranchesDimension, BadFamily, BadMemory, BadRow, BadBranch, BranchTwice, BadLeaf, TooManyLoads, TooManyStates, NotJudged, NotUsed}
use Rattle.tsp_report.specs.declared.verdict.Verdict.{Verdict}
use Rattle.tsp_report.specs.declared.verdict.Verdict.TheVariants.{Tour, Routes, No}

-- a solution is accepted
abbrev pub is_yes : Verdict → Bool
is_yes (Tour length bound) = true
is_yes (Routes length routes least bound) = true
is_yes (No reason) = false

-- the verdict on an instance with a certificate: the bound, none if there is no solution, or the first reason
abbrev pub BoundVerdict : Type 0
BoundVerdict = Result (Option ℤ) Reason

-- no reason applies whatever the solution, so solutions are judged one by one
abbrev pub is_clear : KnownBound → Bool
is_clear known_bound = option_map_or is_ok known_bound.found true

-- ---- the table of reasons, one row each

-- the name, the place in the order in which reasons are judged, the file that the reason is about, up to two numbers
pub record ReasonRow : Type 0 where
  pub name : List ℕ
  pub rank : ℕ
  pub role : Role
  pub numbers : Option ℤ × Option ℤ

abbrev row : List ℕ → ℕ → Role → Option ℤ × Option ℤ → ReasonRow
row name_is rank_is role_is numbers_are = record { name = name_is; rank = rank_is; role = role_is; numbers = numbers_are }

abbrev no_numbers : Option ℤ × Option ℤ
no_numbers = (None, None)

abbrev one_number : ℤ → Option ℤ × Option ℤ
one_number number = (Some number, None)

abbrev two_numbers : ℕ → ℕ → Option ℤ × Option ℤ
two_numbers first second = (Some (pos first), Some (pos second))

-- The order in which reasons are judged: those against the files, the tours, their nodes and what these use or carry;
-- then that against a claimed length; then those against a certificate; then those of an unknown keyword and of a field
-- that isn't used. The definitions of tsp_verdict say which of them apply.
abbrev pub row_of_reason : Reason → ReasonRow
row_of_reason NotASolution = row (codes "NotASolution") 1 Solution no_numbers
row_of_reason TooFewNodes = row (codes "TooFewNodes") 2 Instance no_numbers
row_of_reason (NotSymmetric i j) = row (codes "NotSymmetric") 3 Instance (two_numbers i j)
row_of_reason Dimension = row (codes "Dimension") 4 Solution no_numbers
row_of_reason TourCount = row (codes "TourCount") 5 Solution no_numbers
row_of_reason TourLength = row (codes "TourLength") 6 Solution no_numbers
row_of_reason DepotCount = row (codes "DepotCount") 7 Instance no_numbers
row_of_reason DepotDemand = row (codes "DepotDemand") 8 Instance no_numbers
row_of_reason FixedEdgesInRoutes = row (codes "FixedEdgesInRoutes") 9 Instance no_numbers
row_of_reason (DepotInRoute place) = row (codes "DepotInRoute") 10 Solution (one_number (pos place))
row_of_reason (NodeOutOfRange place) = row (codes "NodeOutOfRange") 11 Solution (one_number (pos place))
row_of_reason (RepeatedNode place) = row (codes "RepeatedNode") 12 Solution (one_number (pos place))
row_of_reason (FixedEdgeUnused index) = row (codes "FixedEdgeUnused") 13 Solution (one_number (pos index))
row_of_reason (Unserved node) = row (codes "Unserved") 14 Solution (one_number (pos node))
row_of_reason (Overload route) = row (codes "Overload") 15 Solution (one_number (pos route))
row_of_reason (LengthClaimed length) = row (codes "LengthClaimed") 16 Solution (one_number length)
row_of_reason NotPotentials = row (codes "NotPotentials") 17 Potentials no_numbers
row_of_reason PotentialsDimension = row (codes "PotentialsDimension") 18 Potentials no_numbers
row_of_reason PotentialsKind = row (codes "PotentialsKind") 19 Potentials no_numbers
row_of_reason (MultiplierNotFixed index) = row (codes "MultiplierNotFixed") 20 Potentials (one_number (pos index))
row_of_reason (MultiplierRepeated index) = row (codes "MultiplierRepeated") 21 Potentials (one_number (pos index))
row_of_reason (DualInfeasible i j) = row (codes "DualInfeasible") 22 Potentials (two_numbers i j)
row_of_reason NotBranches = row (codes "NotBranches") 23 Branches no_numbers
row_of_reason BranchesDimension = row (codes "BranchesDimension") 24 Branches no_numbers
row_of_reason (BadFamily index) = row (codes "BadComb") 25 Branches (one_number (pos index))
row_of_reason (BadMemory node) = row (codes "BadMemory") 26 Branches (one_number (pos node))
row_of_reason (BadRow index) = row (codes "BadRow") 27 Branches (one_number (pos index))
row_of_reason (BadBranch index) = row (codes "BadBranch") 28 Branches (one_number (pos index))
row_of_reason (BranchTwice index) = row (codes "BranchTwice") 29 Branches (one_number (pos index))
row_of_reason (BadLeaf index) = row (codes "BadLeaf") 30 Branches (one_number (pos index))
row_of_reason TooManyLoads = row (codes "TooManyLoads") 31 Branches no_numbers
row_of_reason (TooManyStates index) = row (codes "TooManyStates") 32 Branches (one_number (pos index))
row_of_reason NotJudged = row (codes "NotJudged") 33 Instance no_numbers
row_of_reason (NotUsed field) = row (codes "NotUsed") 34 Instance no_numbers

-- the file that a reason is about
abbrev pub role_of : Reason → Role
role_of reason = (row_of_reason reason).role

-- its place in the order of judging
abbrev pub rank_of : Reason → ℕ
rank_of reason = (row_of_reason reason).rank

-- ---- the number of a reason for C

-- Reasons that came later have the next free numbers, wherever they are judged.
abbrev pub number_of_reason : Reason → ℕ
number_of_reason (BadBranch index) = 26
number_of_reason (BranchTwice index) = 27
number_of_reason (BadLeaf index) = 28
number_of_reason TooManyLoads = 29
number_of_reason NotJudged = 30
number_of_reason (BadMemory node) = 31
number_of_reason (BadRow index) = 32
number_of_reason (TooManyStates index) = 33
number_of_reason reason = rank_of reason
