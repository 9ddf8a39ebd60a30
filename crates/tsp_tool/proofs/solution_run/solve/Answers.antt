-- The goals of `solve` in src/solution_run.rt, which opens the files of a solution and writes it anew: what it ensures.
use Rattle.tsp_tool.proofs.solution_run.solve.Goals as goal

pub returns : goal.returns
returns g c = (
  c.fresh-solution.result,
  c.write_solution.new.solution,
  c.opened_instance-instance.result,
  c.write_solution.new.instance,
  c.fresh-solution.ensures,
  c.opened_instance-instance.ensures,
  c.write_solution.ensures.answer,
  c.write_solution.ensures.asked.0,
  c.write_solution.ensures.asked.1,
)
