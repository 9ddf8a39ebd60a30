-- The goals of `compare` in src/grammar.rt, which is the command `compare` with all its options: what the calls
-- require, and what it ensures.
use Rattle.clap.specs.Words.{with_rule}
use Rattle.tsp_tool.specs.Grammar.{compare_formed, explain, strict}
use Rattle.tsp_tool.proofs.Subcommands.{free}
use Rattle.tsp_tool.proofs.grammar.compare.Goals as goal

-- plan: the command is built argument by argument, and none of them is global (`free`)
pub then-one-requires-clause-globals : goal.then-one-requires-clause-globals
then-one-requires-clause-globals c = free compare_formed c.compare_formed.result
    c.compare_formed.ensures

pub then-requires-clause-globals : goal.then-requires-clause-globals
then-requires-clause-globals c = free (with_rule compare_formed strict) c.then-one.result
    (c.then-one.ensures compare_formed strict c.compare_formed.ensures c.strict.ensures.rule)

pub returns : goal.returns
returns c = c.then.ensures (with_rule compare_formed strict) explain
    (c.then-one.ensures compare_formed strict c.compare_formed.ensures c.strict.ensures.rule) c.explain.ensures.rule
