-- The loop of `keep_half` in src/relayout.rt, which copies half of a full matrix to its beginning.
use Rattle.tsp_file.proofs.FileFields.{HasKept}
use Rattle.tsp_file.proofs.relayout.keep_half.Given as goal

-- the costs of the lines before this one are at the beginning; behind them the full matrix is as it was
abbrev pub invariant-lines : goal.invariant-lines
invariant-lines l = HasKept l.to l.nodes l.line l.kept l.initial.weights.items l.weights.items
