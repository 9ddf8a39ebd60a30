-- The goals of `bound_files` in src/grammar.rt, which is the command `bound` with its file: what it ensures.
use Rattle.tsp_tool.proofs.Prelude.{codes, new_app}
use Rattle.tsp_tool.specs.Grammar.{path}
use Rattle.tsp_tool.proofs.grammar.bound_files.Goals as goal

-- plan: the command has the one file, as its definition says
pub returns : goal.returns
returns c = c.then.ensures (new_app (codes "bound")) (path (codes "F")) c.command-bare.ensures c.path.ensures.rule
