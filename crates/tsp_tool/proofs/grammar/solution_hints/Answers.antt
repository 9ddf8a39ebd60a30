-- The goals of `solution_hints` in src/grammar.rt, which is the command `solution` with its files and hints: what the
-- calls require, and what it ensures.
use Rattle.clap.specs.Words.{App, Rule}
use Rattle.tsp_tool.proofs.Prelude.{codes, with_rule}
use Rattle.tsp_tool.specs.Grammar.{option, solution_files}
use Rattle.tsp_tool.proofs.Subcommands.{free}
use Rattle.tsp_tool.proofs.grammar.solution_hints.Goals as goal

abbrev form : Rule
form = option (codes "NAME") (codes "form")

abbrev first : Rule
first = option (codes "0|1") (codes "first")

-- plan: the command is built argument by argument, and none of them is global (`free`)
pub then-one-requires-clause-globals : goal.then-one-requires-clause-globals
then-one-requires-clause-globals c = free solution_files c.solution_files.result c.solution_files.ensures

pub then-two-requires-clause-globals : goal.then-two-requires-clause-globals
then-two-requires-clause-globals c = free (with_rule solution_files form) c.then-one.result
    (c.then-one.ensures solution_files form c.solution_files.ensures c.option-form.ensures.rule)

pub then-requires-clause-globals : goal.then-requires-clause-globals
then-requires-clause-globals c = free (with_rule (with_rule solution_files form) first) c.then-two.result
    (c.then-two.ensures (with_rule solution_files form) first
    (c.then-one.ensures solution_files form c.solution_files.ensures c.option-form.ensures.rule) c.option.ensures.rule)

pub returns : goal.returns
returns c =
    c.then.ensures (with_rule (with_rule solution_files form) first) (option (codes "D") (codes "depot"))
    (c.then-two.ensures (with_rule solution_files form) first
    (c.then-one.ensures solution_files form c.solution_files.ensures c.option-form.ensures.rule) c.option.ensures.rule)
    c.option-2.ensures.rule
