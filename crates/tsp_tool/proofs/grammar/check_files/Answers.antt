-- The goals of `check_files` in src/grammar.rt, which is the command `check` with its files: what the calls require,
-- and what it ensures.
use Rattle.tsp_tool.proofs.Prelude.{codes, new_app, with_rule}
use Rattle.tsp_tool.specs.Grammar.{path}
use Rattle.tsp_tool.proofs.Subcommands.{free}
use Rattle.tsp_tool.proofs.grammar.check_files.Goals as goal

pub then-requires-clause-globals : goal.then-requires-clause-globals
then-requires-clause-globals c = free (with_rule (new_app (codes "check")) (path (codes "F"))) c.then-one.result
    (c.then-one.ensures (new_app (codes "check")) (path (codes "F")) c.command-bare.ensures c.path.ensures.rule)

-- plan: the command is built argument by argument, and none of them is global (`free`)
pub returns : goal.returns
returns c =
    c.then.ensures (with_rule (new_app (codes "check")) (path (codes "F"))) (path (codes "T"))
    (c.then-one.ensures (new_app (codes "check")) (path (codes "F")) c.command-bare.ensures c.path.ensures.rule) c.path-2.ensures.rule
