-- The loop of `ListedWeights::laid_out` in src/typed.rt, which lists the costs in another layout.
use Rattle.tsp_file.proofs.Prelude.{◌≡◌, ◌-◌, map, take, flat_map, nodes_to, cells_of_line}
use Rattle.tsp_file.specs.states.Weights.{costs_of}
use Rattle.tsp_file.proofs.typed.ListedWeights.laid_out.Given as goal

-- the vector has the costs of the lines before this one
abbrev pub invariant-lines : goal.invariant-lines
invariant-lines l =
    l.weights.items ≡ map (λ cell. costs_of l.self cell.0 cell.1)
    (flat_map (cells_of_line l.to l.self.nodes) (take (l.line - 1) (nodes_to l.self.nodes)))
