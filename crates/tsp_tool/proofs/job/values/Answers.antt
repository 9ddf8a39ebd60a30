-- The goals of `values` in src/job.rt, which returns the values that were found for an argument: what it ensures.
use Rattle.tsp_tool.proofs.Prelude.{rules, ◌≡◌, ap, option_map, map, found_of, raw_values-rows}
use Rattle.tsp_tool.proofs.job.values.Goals as goal

-- plan: clap has one row for the paths: the words of these (`raw_values-rows`), or no row if none was given
pub returns-in-Some : goal.returns-in-Some
returns-in-Some c =
    let rows = raw_values-rows (found_of c.args.found.now) c.args.id.now in
    search rules

pub returns-in-None : goal.returns-in-None
returns-in-None c =
    let rows = raw_values-rows (found_of c.args.found.now) c.args.id.now in
    search rules
