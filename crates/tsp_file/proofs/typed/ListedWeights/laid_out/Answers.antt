-- The goals of `ListedWeights::laid_out` in src/typed.rt, which lists the costs in another layout: its loop and what
-- it ensures.
use Rattle.tsp_file.proofs.Prelude.{sym, subst, arith, All, most_weight, cells_of_line}
use Rattle.tsp_file.specs.Valid.{IsWithin}
use Rattle.tsp_file.specs.states.Weights.{costs_of}
use Rattle.tsp_file.proofs.Relaid.{line_more, lines_all, cost_within, all_within}
use Rattle.tsp_file.proofs.typed.ListedWeights.laid_out.Goals as goal

-- plan: the costs of one line more are appended (`line_more`); those of all lines are the weights of the layout
-- (`lines_all`)
pub lines-preserved : goal.lines-preserved
lines-preserved c =
    let w = c.args.self.now in
    line_more (λ cell. costs_of w cell.0 cell.1) (cells_of_line c.args.to w.nodes) w.nodes c.lines.line _ _ (omega arith)
    (omega arith) c.lines.invariant c.in_ok-lay_line.ensures

pub returns-clause-value : goal.returns-clause-value
returns-clause-value c =
    let w = c.args.self.now in
    lines_all (λ cell. costs_of w cell.0 cell.1) c.args.to w.nodes c.lines.line _ (omega arith) c.lines.invariant

pub returns-clause-sizes : goal.returns-clause-sizes
returns-clause-sizes c =
    let w = c.args.self.now in
    subst (All (IsWithin most_weight))
    (sym (lines_all (λ cell. costs_of w cell.0 cell.1) c.args.to w.nodes c.lines.line _ (omega arith) c.lines.invariant))
    (all_within c.args.to w.nodes (costs_of w) (cost_within w.layout w.nodes w.weights.now w.sizes))
