-- The goals of `value` in src/job.rt, which returns the value that was found for an argument: what it ensures.
use Rattle.tsp_tool.proofs.Prelude.{rules, found_of, first_value-rows}
use Rattle.tsp_tool.proofs.job.value.Goals as goal

-- plan: clap has one row for each option: the option's first word (`first_value-rows`), or no row if it wasn't given
pub returns-in-None : goal.returns-in-None
returns-in-None c =
    let rows = first_value-rows (found_of c.args.found.now) c.args.id.now in
    search rules

pub returns-in_ok-from_str-in-Some : goal.returns-in_ok-from_str-in-Some
returns-in_ok-from_str-in-Some c =
    let rows = first_value-rows (found_of c.args.found.now) c.args.id.now in
    search rules
