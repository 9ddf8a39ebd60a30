-- The goals of `solution` in src/grammar.rt, which is the command `solution` with all its options: what the calls
-- require, and what it ensures.
use Rattle.tsp_tool.proofs.Prelude.{codes, with_rule}
use Rattle.tsp_tool.specs.Grammar.{explain, flag, solution_hints}
use Rattle.tsp_tool.proofs.Subcommands.{free}
use Rattle.tsp_tool.proofs.grammar.solution.Goals as goal

-- plan: the command is built argument by argument, and none of them is global (`free`)
pub then-one-requires-clause-globals : goal.then-one-requires-clause-globals
then-one-requires-clause-globals c = free solution_hints c.solution_hints.result c.solution_hints.ensures

pub then-requires-clause-globals : goal.then-requires-clause-globals
then-requires-clause-globals c = free (with_rule solution_hints (flag (codes "A") (codes "forms"))) c.then-one.result
    (c.then-one.ensures solution_hints (flag (codes "A") (codes "forms")) c.solution_hints.ensures c.flag-forms.ensures.rule)

pub returns : goal.returns
returns c =
    c.then.ensures (with_rule solution_hints (flag (codes "A") (codes "forms"))) explain
    (c.then-one.ensures solution_hints (flag (codes "A") (codes "forms")) c.solution_hints.ensures c.flag-forms.ensures.rule)
    c.explain.ensures.rule
