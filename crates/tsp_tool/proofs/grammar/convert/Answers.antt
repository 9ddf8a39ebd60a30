-- The goals of `convert` in src/grammar.rt, which is the command `convert` with its file and options: what the calls
-- require, and what it ensures.
use Rattle.tsp_tool.proofs.Prelude.{codes, new_app, with_rule}
use Rattle.tsp_tool.specs.Grammar.{explain, option, path}
use Rattle.tsp_tool.proofs.Subcommands.{free}
use Rattle.tsp_tool.proofs.grammar.convert.Goals as goal

-- plan: the command is built argument by argument, and none of them is global (`free`)
pub then-two-requires-clause-globals : goal.then-two-requires-clause-globals
then-two-requires-clause-globals c = free (with_rule (new_app (codes "convert")) (path (codes "F"))) c.then-one.result
    (c.then-one.ensures (new_app (codes "convert")) (path (codes "F")) c.command-bare.ensures c.path.ensures.rule)

pub then-requires-clause-globals : goal.then-requires-clause-globals
then-requires-clause-globals c = free (with_rule (with_rule (new_app (codes "convert")) (path (codes "F"))) (option (codes "L") (codes "layout")))
    c.then-two.result
    (c.then-two.ensures (with_rule (new_app (codes "convert")) (path (codes "F"))) (option (codes "L") (codes "layout"))
    (c.then-one.ensures (new_app (codes "convert")) (path (codes "F")) c.command-bare.ensures c.path.ensures.rule) c.option-layout.ensures.rule)

pub returns : goal.returns
returns c =
    c.then.ensures (with_rule (with_rule (new_app (codes "convert")) (path (codes "F"))) (option (codes "L") (codes "layout"))) explain
    (c.then-two.ensures (with_rule (new_app (codes "convert")) (path (codes "F"))) (option (codes "L") (codes "layout"))
    (c.then-one.ensures (new_app (codes "convert")) (path (codes "F")) c.command-bare.ensures c.path.ensures.rule) c.option-layout.ensures.rule)
    c.explain.ensures.rule
