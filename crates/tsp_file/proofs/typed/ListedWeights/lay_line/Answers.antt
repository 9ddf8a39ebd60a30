-- The goals of `ListedWeights::lay_line` in src/typed.rt, which lists the costs of a line in another layout: its loop
-- and what it ensures.
use Rattle.tsp_file.proofs.Prelude.{◌<◌, List, ◌++◌, length, map, ap, sym, subst, ◌∙◌, arith, ℤ, take_all, cells_of_line, most_weight}
use Rattle.tsp_file.specs.Valid.{IsWithin}
use Rattle.tsp_file.specs.states.Weights.{costs_of}
use Rattle.tsp_file.proofs.Relaid.{weight_read, cell_more, cost_within}
use Rattle.tsp_file.proofs.typed.ListedWeights.lay_line.Goals as goal

-- plan: the cost of one cell more is appended (`cell_more`), which is as small as a weight (`cost_within`)
pub cells-preserved : goal.cells-preserved
cells-preserved c =
    let w = c.args.self.now in
    let cells = cells_of_line c.args.to w.nodes c.args.line in
    let cell = c.line_cell-i.result in
    let inside : c.cells.index < length cells = omega (arith, c.line_len-index-end.ensures.count) in
    let size : IsWithin most_weight c.cost.result =
    subst (IsWithin most_weight) (sym c.cost.ensures) (cost_within w.layout w.nodes w.weights.now w.sizes cell.0 cell.1) in
    ◌∙◌ {A = List ℤ} c.in_ok-push.ensures.items
    (cell_more (λ pair. costs_of w pair.0 pair.1) cells _ _ c.cells.index cell _ inside (c.line_cell-i.ensures.value cell)
    (weight_read c.cost.result size ∙ c.cost.ensures) c.cells.invariant)

pub returns : goal.returns
returns c =
    let w = c.args.self.now in
    let cells = cells_of_line c.args.to w.nodes c.args.line in
    c.cells.invariant ∙ ap (λ xs. c.args.weights.now.items ++ map (λ cell. costs_of w cell.0 cell.1) xs)
    (take_all c.cells.index cells (omega (arith, c.line_len-index-end.ensures.count)))
