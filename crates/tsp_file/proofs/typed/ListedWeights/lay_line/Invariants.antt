-- The loop of `ListedWeights::lay_line` in src/typed.rt, which lists the costs of a line in another layout.
use Rattle.tsp_file.proofs.Prelude.{◌≡◌, ◌++◌, map, take, cells_of_line}
use Rattle.tsp_file.specs.states.Weights.{costs_of}
use Rattle.tsp_file.proofs.typed.ListedWeights.lay_line.Given as goal

-- the vector has the costs of the cells before this one, behind those that it had at the call
abbrev pub invariant-cells : goal.invariant-cells
invariant-cells l =
    l.weights.items ≡ l.initial.weights.items ++ map (λ cell. costs_of l.self cell.0 cell.1)
    (take l.index (cells_of_line l.to l.self.nodes l.line))
