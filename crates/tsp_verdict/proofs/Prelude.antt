-- Names of other crates, passed on to the files of this crate alone. It defines nothing: add or remove names freely;
-- `tests/repository/names` sees that each is imported from here.
pub use Rattle.std.proofs.Common.{Bool, List, None, Option, add-one, ap, ap₂, arith, cond, drop, drop-cons, eqb, false, get_or, inl, inr, leb, length, length-append, map, not, of_z, refl, replicate, rules, set, subst, subst₂, suc, sym, take, to_z, true, zero, ℕ, [], ◌&&◌, ◌*◌, ◌++◌, ◌+◌, ◌-◌, ◌/◌, ◌<◌, ◌||◌, ◌∙◌, ◌∷◌, ◌≡◌, ◌≢◌, ◌≤◌}
pub use Rattle.std.proofs.lemmas.Bool.{and_from, and_parts, cases_Bool, cases_cond, cases_lt, cases_order, eq-eqb, eqb-true, false_from_ne_true, false≢true, le-leb, le-ltb, lt-leb, not-false, not-true, or_cases}
pub use Rattle.std.proofs.lemmas.Int.{ints, to_z-of_z}
pub use Rattle.std.proofs.lemmas.List.{append-nil, append_assoc, drop_all, get_or-take, get_or_default, get_or_past, length-map, length-set, length-take-le, take_all, take_more}
pub use Rattle.std.proofs.lemmas.List.Elements.{All-contains, All-from_recursion, All-nil, All-weaker, recursion_from_All}
pub use Rattle.std.specs.BTreeSet.{BTreeSet, Updates, contains}
pub use Rattle.std.specs.Global.{Vec}
pub use Rattle.std.specs.Int.{w128, w64}
pub use Rattle.std.specs.List.{All, AllByRecursion, AllPairs, Contains, concat, list_any, range_with_len, remove, sum_by}
pub use Rattle.std.specs.Prelude.{Err, FitsSigned, IsTrue, MatchBool, MatchOption, Ok, Some, filter, if◌then◌else◌, int_lt, is_ok, nat_abs, neg_ℤ, option_map, pos, slice_index_or, unwrap_or, vec_len, ℤ, ◌*ℤ◌, ◌+ℤ◌, ◌-ℤ◌, ◌<ℤ◌, ◌^◌, ◌≤ℤ◌, ◌⊎◌}
pub use Rattle.tsp_cases.specs.Cases.{DecideOnce, KeepsAll, KeepsDecision, decide, decided_number, is_same, take_pairs}
pub use Rattle.tsp_cases.specs.Families.{AreFamilies, Family, IsFamily, IsFirstBadFamily, IsGoodFamily, NumbersAreUnique, families_with, family_with}
pub use Rattle.tsp_cases.specs.ListedCases.{AreGoodLeaves, IsFirstBadBranch, IsFirstBadLeaf, IsFirstTwice, IsListedStep, branch_pairs, branches_of_cases, leaf_changes, listed_steps}
pub use Rattle.tsp_cases.specs.declared.family.Crossings.{Crossings}
pub use Rattle.tsp_cost.specs.Problems.{IsTourOf, capacity_of, demands_of, depot_of, is_directed, problem_of, routing_of}
pub use Rattle.tsp_file.specs.Cost.{AreSomeSets, HoldsCases, HoldsMemory, HoldsDuals, HoldsNodeNumbers, families_listed, fixed_of, memories_listed, multipliers_in, rows_listed, scale_in}
unfoldable pub use Rattle.tsp_file.specs.Cost.{cost}
pub use Rattle.tsp_file.specs.Fields.{Fields, nodes_of}
pub use Rattle.tsp_file.specs.Rules.{is_branches_file, is_potentials_file, is_tour_file}
pub use Rattle.tsp_file.specs.Valid.{AreSets, AreTours, AreTreeSteps, IsDemand, IsNodeList, IsPairOf, IsSetOf, IsStep}
pub use Rattle.tsp_file.specs.states.Drafts.{families_of}
pub use Rattle.tsp_format.specs.Limits.{most_changes, most_demand, most_family_nodes, most_fixed, most_nodes, most_tour_nodes, most_weight}
pub use Rattle.tsp_format.specs.Nodes.{IsNode}
unfoldable pub use Rattle.tsp_format.specs.Nodes.{nodes_to}
pub use Rattle.tsp_format.specs.Words.{IsBefore, IsFirstAsymmetric, IsSymmetric}
pub use Rattle.tsp_format.specs.declared.kinds.Kind.{Kind}
pub use Rattle.tsp_report.specs.Verdicts.{BoundVerdict, rank_of}
pub use Rattle.tsp_report.specs.declared.task.CertificateKind.{CertificateKind}
pub use Rattle.tsp_report.specs.declared.task.CertificateKind.TheVariants.{Branches, Potentials}
pub use Rattle.tsp_report.specs.declared.verdict.Reason.{Reason}
pub use Rattle.tsp_report.specs.declared.verdict.Reason.TheVariants.{BadBranch, BadFamily, BadLeaf, BadMemory, BadRow, BranchTwice, BranchesDimension, DepotCount, DepotDemand, DepotInRoute, Dimension, DualInfeasible, FixedEdgeUnused, FixedEdgesInRoutes, LengthClaimed, MultiplierNotFixed, MultiplierRepeated, NodeOutOfRange, NotASolution, NotBranches, NotJudged, NotPotentials, NotSymmetric, NotUsed, Overload, PotentialsDimension, PotentialsKind, RepeatedNode, TooFewNodes, TooManyLoads, TooManyStates, TourCount, TourLength, Unserved}
pub use Rattle.tsp_report.specs.declared.verdict.Verdict.{Verdict}
pub use Rattle.tsp_routing.proofs.SmallCases.{of_customers}
pub use Rattle.tsp_routing.specs.PlanVerdicts.{AreCapacityCuts, AreGoodBranches, HasTooManyLoads, IsFirstBadPlanBranch, most_entries, routing_with}
pub use Rattle.tsp_routing.specs.RunVerdicts.{IsPlanBoundFound, IsPlanVerdict, PlanBoundsFoundAreUnique, VerdictBoundsPlans}
pub use Rattle.tsp_theory.specs.Bounds.{AdjustedBoundsBoundCycles, AreGood, AreOnPairs, DualsBoundCycles, IsAdjustedBound, IsAdjustedBoundOf, IsBoundSized, IsDualBound, IsFirstBroken, IsScale, UsesEach, adjusted, entry, is_same_pair, numbers_on, pair_of, weight_between}
pub use Rattle.tsp_theory.specs.Tour.{AreNeighbours, BoundsTours, HasNoTour, IsCustomer, IsCycle, IsLeastRoutes, IsPlan, RoutingProblem, Uses, demand_of, length_of, links_to, load_of, plan_length, sum_int_by}
