-- The goals of `bound` in src/grammar.rt, which is the command `bound` with all its options: what the calls require,
-- and what it ensures.
use Rattle.clap.specs.Words.{with_rule}
use Rattle.tsp_tool.specs.Grammar.{bound_certified, explain, strict}
use Rattle.tsp_tool.proofs.Subcommands.{free}
use Rattle.tsp_tool.proofs.grammar.bound.Goals as goal

-- plan: the command is built argument by argument, and none of them is global (`free`)
pub then-one-requires-clause-globals : goal.then-one-requires-clause-globals
then-one-requires-clause-globals c = free bound_certified c.bound_certified.result
    c.bound_certified.ensures

pub then-requires-clause-globals : goal.then-requires-clause-globals
then-requires-clause-globals c = free (with_rule bound_certified strict) c.then-one.result
    (c.then-one.ensures bound_certified strict c.bound_certified.ensures c.strict.ensures.rule)

pub returns : goal.returns
returns c = c.then.ensures (with_rule bound_certified strict) explain
    (c.then-one.ensures bound_certified strict c.bound_certified.ensures c.strict.ensures.rule) c.explain.ensures.rule
