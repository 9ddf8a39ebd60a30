-- The goals of `opened_to_compare` in src/running.rt, which opens the files of a comparison but the solutions:
-- what it ensures.
use Rattle.std.proofs.Common.{rules}
use Rattle.tsp_tool.specs.ProgramRun.{IsFresh}
use Rattle.tsp_tool.proofs.Openings.{comparison_by}
use Rattle.tsp_tool.proofs.running.opened_to_compare.Goals as goal

-- plan: each file is opened in its place by a reader that hasn't failed, and so are the files of the comparison
-- (`comparison_by`)
pub returns : goal.returns
returns g c =
    let opens = g.O.Open.opens c.args.files.now in
    comparison_by _ (IsFresh opens) (λ place reader given. let shows = given.shows in let met = given.says.met in search rules) c.args.comparison.now c.map.result c.map.ensures
