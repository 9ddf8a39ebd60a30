-- The goals of `check_claimed` in src/grammar.rt, which is the command `check` with the options for the solution: what
-- the calls require, and what it ensures.
use Rattle.tsp_tool.proofs.Prelude.{codes, with_rule}
use Rattle.tsp_tool.specs.Grammar.{check_certified, option}
use Rattle.tsp_tool.proofs.Subcommands.{free}
use Rattle.tsp_tool.proofs.grammar.check_claimed.Goals as goal

-- plan: the command is built argument by argument, and none of them is global (`free`)
pub then-one-requires-clause-globals : goal.then-one-requires-clause-globals
then-one-requires-clause-globals c = free check_certified c.check_certified.result
    c.check_certified.ensures

pub then-requires-clause-globals : goal.then-requires-clause-globals
then-requires-clause-globals c = free (with_rule check_certified (option (codes "N") (codes "length"))) c.then-one.result
    (c.then-one.ensures check_certified (option (codes "N") (codes "length")) c.check_certified.ensures c.option-length.ensures.rule)

pub returns : goal.returns
returns c =
    c.then.ensures (with_rule check_certified (option (codes "N") (codes "length"))) (option (codes "NAME") (codes "form"))
    (c.then-one.ensures check_certified (option (codes "N") (codes "length")) c.check_certified.ensures c.option-length.ensures.rule)
    c.option.ensures.rule
