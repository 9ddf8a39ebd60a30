-- The goals of `bound_certified` in src/grammar.rt, which is the command `bound` with the options for certificates:
-- what the calls require, and what it ensures.
use Rattle.clap.specs.Words.{with_rule}
use Rattle.tsp_tool.specs.Grammar.{bound_files, of_branches, of_potentials}
use Rattle.tsp_tool.proofs.Subcommands.{free}
use Rattle.tsp_tool.proofs.grammar.bound_certified.Goals as goal

-- plan: the command is built argument by argument, and none of them is global (`free`)
pub then-one-requires-clause-globals : goal.then-one-requires-clause-globals
then-one-requires-clause-globals c = free bound_files c.bound_files-files.result
    c.bound_files-files.ensures

pub then-requires-clause-globals : goal.then-requires-clause-globals
then-requires-clause-globals c = free (with_rule bound_files of_potentials) c.then-one.result
    (c.then-one.ensures bound_files of_potentials c.bound_files-files.ensures c.option.ensures.rule)

pub returns : goal.returns
returns c =
    c.then.ensures (with_rule bound_files of_potentials) of_branches
    (c.then-one.ensures bound_files of_potentials c.bound_files-files.ensures c.option.ensures.rule) c.option-2.ensures.rule
