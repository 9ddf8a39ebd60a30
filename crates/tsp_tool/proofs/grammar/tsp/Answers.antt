-- The goals of `tsp` in src/grammar.rt, which is the program's command with its six subcommands: what the calls
-- require, and what it ensures.
use Rattle.clap.specs.Words.{App, with_subcommand}
use Rattle.tsp_tool.specs.Grammar.{bound, check, compare, convert, show, solution_verb, start}
use Rattle.tsp_tool.proofs.Subcommands.{free}
use Rattle.tsp_tool.proofs.grammar.tsp.Goals as goal

abbrev shown : App
shown = with_subcommand start show.top

abbrev converted : App
converted = with_subcommand shown convert.top

abbrev checked : App
checked = with_subcommand converted check.top

abbrev compared : App
compared = with_subcommand checked compare.top

abbrev bounded : App
bounded = with_subcommand compared bound.top

-- plan: the commands are added one by one, and none has a global argument (`free`)
pub then_command-one-requires-clause-globals : goal.then_command-one-requires-clause-globals
then_command-one-requires-clause-globals c = free start c.top.result
    c.top.ensures

pub then_command-one-requires-clause-sub : goal.then_command-one-requires-clause-sub
then_command-one-requires-clause-sub c = free show c.show.result c.show.ensures

pub then_command-two-requires-clause-globals : goal.then_command-two-requires-clause-globals
then_command-two-requires-clause-globals c = free shown c.then_command-one.result
    (c.then_command-one.ensures start show c.top.ensures c.show.ensures)

pub then_command-two-requires-clause-sub : goal.then_command-two-requires-clause-sub
then_command-two-requires-clause-sub c = free convert c.convert.result c.convert.ensures

pub then_command-three-requires-clause-globals : goal.then_command-three-requires-clause-globals
then_command-three-requires-clause-globals c = free converted c.then_command-two.result
    (c.then_command-two.ensures shown convert (c.then_command-one.ensures start show c.top.ensures c.show.ensures) c.convert.ensures)

pub then_command-three-requires-clause-sub : goal.then_command-three-requires-clause-sub
then_command-three-requires-clause-sub c = free check c.check.result c.check.ensures

pub then_command-four-requires-clause-globals : goal.then_command-four-requires-clause-globals
then_command-four-requires-clause-globals c = free checked c.then_command-three.result
    (c.then_command-three.ensures converted check (c.then_command-two.ensures shown convert
    (c.then_command-one.ensures start show c.top.ensures c.show.ensures) c.convert.ensures) c.check.ensures)

pub then_command-four-requires-clause-sub : goal.then_command-four-requires-clause-sub
then_command-four-requires-clause-sub c = free compare c.compare.result c.compare.ensures

pub then_command-five-requires-clause-globals : goal.then_command-five-requires-clause-globals
then_command-five-requires-clause-globals c = free compared c.then_command-four.result
    (c.then_command-four.ensures checked compare (c.then_command-three.ensures converted check (c.then_command-two.ensures shown convert
    (c.then_command-one.ensures start show c.top.ensures c.show.ensures) c.convert.ensures) c.check.ensures) c.compare.ensures)

pub then_command-five-requires-clause-sub : goal.then_command-five-requires-clause-sub
then_command-five-requires-clause-sub c = free bound c.bound.result c.bound.ensures

pub then_command-requires-clause-globals : goal.then_command-requires-clause-globals
then_command-requires-clause-globals c = free bounded c.then_command-five.result
    (c.then_command-five.ensures compared bound (c.then_command-four.ensures checked compare (c.then_command-three.ensures converted check
    (c.then_command-two.ensures shown convert
    (c.then_command-one.ensures start show c.top.ensures c.show.ensures) c.convert.ensures) c.check.ensures) c.compare.ensures) c.bound.ensures)

pub then_command-requires-clause-sub : goal.then_command-requires-clause-sub
then_command-requires-clause-sub c = free solution_verb c.solution.result c.solution.ensures

pub returns : goal.returns
returns c =
    c.then_command.ensures bounded solution_verb (c.then_command-five.ensures compared bound (c.then_command-four.ensures checked compare
    (c.then_command-three.ensures converted check
    (c.then_command-two.ensures shown convert
    (c.then_command-one.ensures start show c.top.ensures c.show.ensures) c.convert.ensures) c.check.ensures) c.compare.ensures) c.bound.ensures)
    c.solution.ensures
