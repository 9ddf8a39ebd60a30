-- The goals of `examples_of_reasons_before_memory` in src/examples.rt: what it ensures.
use Rattle.std.proofs.Common.{arith}
use Rattle.tsp_report.specs.declared.verdict.Reason.TheVariants as reasons
use Rattle.tsp_verdict.proofs.examples.examples_of_reasons_before_memory.Goals as goal

-- plan: each example is computed
pub returns-clause-length : goal.returns-clause-length
returns-clause-length c = λ inst sol applies none. none 1 reasons.TourLength (omega arith) applies

pub returns-clause-range : goal.returns-clause-range
returns-clause-range c = λ inst sol place applies none. none 1 (reasons.NodeOutOfRange place) (omega arith) applies

pub returns-clause-depots : goal.returns-clause-depots
returns-clause-depots c = λ inst sol applies none. none 1 reasons.DepotCount (omega arith) applies

pub returns-clause-range_of_routes : goal.returns-clause-range_of_routes
returns-clause-range_of_routes c = λ inst sol place applies none. none 1 (reasons.NodeOutOfRange place) (omega arith) applies

pub returns-clause-kind_of_potentials : goal.returns-clause-kind_of_potentials
returns-clause-kind_of_potentials c = λ inst cert applies none. none reasons.PotentialsKind (omega arith) applies

pub returns-clause-no_potentials : goal.returns-clause-no_potentials
returns-clause-no_potentials c = λ inst cert applies none. none reasons.NotPotentials (omega arith) applies

pub returns-clause-nodes_of_branches : goal.returns-clause-nodes_of_branches
returns-clause-nodes_of_branches c = λ inst cert applies none. none reasons.BranchesDimension (omega arith) applies

pub returns-clause-no_branches : goal.returns-clause-no_branches
returns-clause-no_branches c = λ inst cert applies none. none reasons.NotBranches (omega arith) applies
