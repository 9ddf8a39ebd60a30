-- The goals of `examples_of_lines` in src/examples.rt: what it ensures.
use Rattle.tsp_file.proofs.Prelude.{rules, digits}
use Rattle.tsp_file.proofs.examples.examples_of_lines.Goals as goal

-- plan: the text of each line is computed
pub returns-clause-dimension : goal.returns-clause-dimension
unfolding digits
returns-clause-dimension c = search rules

pub returns-clause-capacity : goal.returns-clause-capacity
unfolding digits
returns-clause-capacity c = search rules

pub returns-clause-scale : goal.returns-clause-scale
unfolding digits
returns-clause-scale c = search rules

pub returns-clause-load_unit : goal.returns-clause-load_unit
unfolding digits
returns-clause-load_unit c = search rules
