-- The goals of `check` in src/grammar.rt, which is the command `check` with all its options: what the calls require,
-- and what it ensures.
use Rattle.clap.specs.Words.{with_rule}
use Rattle.tsp_tool.specs.Grammar.{check_claimed, explain, strict}
use Rattle.tsp_tool.proofs.Subcommands.{free}
use Rattle.tsp_tool.proofs.grammar.check.Goals as goal

-- plan: the command is built argument by argument, and none of them is global (`free`)
pub then-one-requires-clause-globals : goal.then-one-requires-clause-globals
then-one-requires-clause-globals c = free check_claimed c.check_claimed.result
    c.check_claimed.ensures

pub then-requires-clause-globals : goal.then-requires-clause-globals
then-requires-clause-globals c = free (with_rule check_claimed strict) c.then-one.result
    (c.then-one.ensures check_claimed strict c.check_claimed.ensures c.strict.ensures.rule)

pub returns : goal.returns
returns c = c.then.ensures (with_rule check_claimed strict) explain
    (c.then-one.ensures check_claimed strict c.check_claimed.ensures c.strict.ensures.rule) c.explain.ensures.rule
