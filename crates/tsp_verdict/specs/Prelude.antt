-- Names of other crates, passed on to the files of this crate alone. It defines nothing: add or remove names freely;
-- `tests/repository/names` sees that each is imported from here.
pub use Rattle.std.specs.List.{All, AllPairs, Contains, concat, flat_map, list_any}
pub use Rattle.std.specs.Prelude.{Bool, Err, IfOk, IsErr, IsOk, IsTrue, List, MatchBool, MatchOption, MatchResult, None, Ok, Option, Some, codes, false, filter, is_ok, is_some, length, map, nat_abs, nat_le, neg_ℤ, negsuc, not, option_map, pos, slice_index, slice_index_or, true, unwrap_or, vec_len, ℕ, ℤ, []}
pub use Rattle.tsp_cases.specs.Cases.{CaseStep, decided_number, is_same, take_pairs}
pub use Rattle.tsp_cost.specs.Problems.{IsPlanOf, IsTourOf, capacity_of, demands_of, depot_of, depots_of, is_directed, problem_of, routing_of}
pub use Rattle.tsp_file.specs.Cost.{HoldsCases, HoldsDuals, HoldsMemory, HoldsNodeNumbers, families_listed, fixed_of, load_unit_in, memories_listed, multipliers_in, rows_listed, scale_in}
unfoldable pub use Rattle.tsp_file.specs.Cost.{cost}
pub use Rattle.tsp_file.specs.Fields.{Fields, blank_fields, nodes_of}
pub use Rattle.tsp_file.specs.Rules.{is_branches_file, is_instance, is_potentials_file, is_tour_file}
pub use Rattle.tsp_format.specs.Limits.{most_capacity, most_nodes, most_tour_nodes, most_triples, most_weight}
pub use Rattle.tsp_format.specs.Nodes.{IsNode}
unfoldable pub use Rattle.tsp_format.specs.Nodes.{nodes_to}
pub use Rattle.tsp_format.specs.Steps.{Branch, IsFromTo, Leaf, Step}
pub use Rattle.tsp_format.specs.Words.{IsFirstAsymmetric, IsSymmetric}
pub use Rattle.tsp_format.specs.declared.kinds.Kind.{Kind}
pub use Rattle.tsp_report.specs.Verdicts.{BoundVerdict, is_clear, is_yes, rank_of}
pub use Rattle.tsp_report.specs.declared.task.CertificateKind.{CertificateKind}
pub use Rattle.tsp_report.specs.declared.verdict.Reason.{Reason}
pub use Rattle.tsp_report.specs.declared.verdict.Reason.TheVariants.{BadBranch, BadFamily, BadLeaf, BadMemory, BadRow, BranchTwice, BranchesDimension, DepotCount, DepotDemand, DepotInRoute, Dimension, DualInfeasible, FixedEdgeUnused, FixedEdgesInRoutes, LengthClaimed, MultiplierNotFixed, MultiplierRepeated, NodeOutOfRange, NotASolution, NotBranches, NotJudged, NotPotentials, NotSymmetric, NotUsed, Overload, PotentialsDimension, PotentialsKind, RepeatedNode, TooFewNodes, TooManyLoads, TooManyStates, TourCount, TourLength, Unserved}
pub use Rattle.tsp_report.specs.declared.verdict.Verdict.{Verdict}
pub use Rattle.tsp_theory.specs.Bounds.{AreGood, AreOnPairs, IsAdjustedBound, IsDualBound, IsFirstBroken, entry, is_same_pair, pair_of}
pub use Rattle.tsp_theory.specs.Tour.{BoundsTours, Follows, HasNoTour, IsCustomer, IsCycle, IsLeastRoutes, Uses, demand_of, length_of, load_of, plan_length}
