-- The goals of `examples_of_shown_files` in src/examples.rt: what it ensures.
use Rattle.tsp_report.proofs.Prelude.{refl, digits}
use Rattle.tsp_file.specs.Cost.{cost, listed_cost}
use Rattle.tsp_format.specs.Place.{place_of}
use Rattle.tsp_format.specs.Nodes.{nodes_to, cells}
use Rattle.tsp_report.proofs.examples.examples_of_shown_files.Goals as goal

-- plan: each example is computed
pub returns-clause-matrix : goal.returns-clause-matrix
unfolding digits cost listed_cost place_of cells nodes_to
returns-clause-matrix c = refl

pub returns-clause-routing : goal.returns-clause-routing
unfolding digits cost listed_cost place_of cells nodes_to
returns-clause-routing c = refl

pub returns-clause-tours : goal.returns-clause-tours
unfolding digits
returns-clause-tours c = refl

pub returns-clause-potentials : goal.returns-clause-potentials
unfolding digits
returns-clause-potentials c = refl

pub returns-clause-branching : goal.returns-clause-branching
unfolding digits
returns-clause-branching c = refl

pub returns-clause-untyped : goal.returns-clause-untyped
returns-clause-untyped c = refl
