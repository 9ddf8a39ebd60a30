-- The goals of `compare_formed` in src/grammar.rt, which is the command `compare` with the options for certificates and
-- for the form of solutions: what the call requires, and what it ensures.
use Rattle.tsp_tool.proofs.Prelude.{codes}
use Rattle.tsp_tool.specs.Grammar.{compare_certified, option}
use Rattle.tsp_tool.proofs.Subcommands.{free}
use Rattle.tsp_tool.proofs.grammar.compare_formed.Goals as goal

-- plan: the command is built argument by argument, and none of them is global (`free`)
pub then-requires-clause-globals : goal.then-requires-clause-globals
then-requires-clause-globals c = free compare_certified c.compare_certified.result
    c.compare_certified.ensures

pub returns : goal.returns
returns c = c.then.ensures compare_certified (option (codes "NAME") (codes "form")) c.compare_certified.ensures c.option-form.ensures.rule
