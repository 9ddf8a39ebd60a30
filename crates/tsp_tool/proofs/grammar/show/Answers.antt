-- The goals of `show` in src/grammar.rt, which is the command `show` with its file and option: what the calls require,
-- and what it ensures.
use Rattle.tsp_tool.proofs.Prelude.{codes, new_app, with_rule}
use Rattle.tsp_tool.specs.Grammar.{explain, path}
use Rattle.tsp_tool.proofs.Subcommands.{free}
use Rattle.tsp_tool.proofs.grammar.show.Goals as goal

pub then-requires-clause-globals : goal.then-requires-clause-globals
then-requires-clause-globals c = free (with_rule (new_app (codes "show")) (path (codes "F"))) c.then-one.result
    (c.then-one.ensures (new_app (codes "show")) (path (codes "F")) c.command-bare.ensures c.path.ensures.rule)

-- plan: the command is built argument by argument, and none of them is global (`free`)
pub returns : goal.returns
returns c =
    c.then.ensures (with_rule (new_app (codes "show")) (path (codes "F"))) explain
    (c.then-one.ensures (new_app (codes "show")) (path (codes "F")) c.command-bare.ensures c.path.ensures.rule) c.explain.ensures.rule
