-- The goals of `lines_of_bounded_routes` in src/laws.rt: what it ensures.
use Rattle.tsp_judge.proofs.Comparing.{bounded_line_of_routes}
use Rattle.tsp_judge.proofs.laws.lines_of_bounded_routes.Goals as goal

-- plan: the line has routes that are accepted with this bound, so no plan is shorter than the bound
pub returns-clause-optimal : goal.returns-clause-optimal
returns-clause-optimal c = λ common read_trace by certificate length routes least.
    bounded_line_of_routes common read_trace by certificate length length routes least

pub returns-clause-bounded : goal.returns-clause-bounded
returns-clause-bounded c = bounded_line_of_routes
