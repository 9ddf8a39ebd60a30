-- The goals of `lines_of_bounded_tours` in src/laws.rt: what it ensures.
use Rattle.tsp_judge.proofs.Comparing.{bounded_line}
use Rattle.tsp_judge.proofs.laws.lines_of_bounded_tours.Goals as goal

-- plan: the line has a tour that is accepted with this bound, so no tour is shorter than the bound (`bounded_line`)
pub returns-clause-optimal : goal.returns-clause-optimal
returns-clause-optimal c = λ common read_trace by certificate length. bounded_line common read_trace by certificate length length

pub returns-clause-bounded : goal.returns-clause-bounded
returns-clause-bounded c = bounded_line
