-- The goals of `solution_files` in src/grammar.rt, which is the command `solution` with its files: what the calls
-- require, and what it ensures.
use Rattle.tsp_tool.proofs.Prelude.{codes, new_app, with_rule}
use Rattle.tsp_tool.specs.Grammar.{option, optional_path}
use Rattle.tsp_tool.proofs.Subcommands.{free}
use Rattle.tsp_tool.proofs.grammar.solution_files.Goals as goal

pub then-requires-clause-globals : goal.then-requires-clause-globals
then-requires-clause-globals c = free (with_rule (new_app (codes "solution")) (optional_path (codes "T"))) c.then-one.result
    (c.then-one.ensures (new_app (codes "solution")) (optional_path (codes "T")) c.command-bare.ensures c.optional_path-solution.ensures.rule)

-- plan: the command is built argument by argument, and none of them is global (`free`)
pub returns : goal.returns
returns c =
    c.then.ensures (with_rule (new_app (codes "solution")) (optional_path (codes "T"))) (option (codes "F") (codes "of"))
    (c.then-one.ensures (new_app (codes "solution")) (optional_path (codes "T")) c.command-bare.ensures c.optional_path-solution.ensures.rule)
    c.option.ensures.rule
