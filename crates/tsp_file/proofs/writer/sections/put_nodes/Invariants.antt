-- The loop of `put_nodes` in src/writer/sections.rt.
use Rattle.tsp_file.proofs.Prelude.{[], take, flat_map, decimal, way_of, Carried}
use Rattle.tsp_file.specs.CanonicalText.{number_line}
use Rattle.tsp_file.proofs.writer.sections.put_nodes.Given as goal

-- the bytes added so far are the lines of the nodes before this one
abbrev pub invariant-nodes : goal.invariant-nodes
invariant-nodes g l =
    Carried (way_of g.W.Takes.contents l.initial.out l.initial.piece.items) (way_of g.W.Takes.contents l.out l.piece.items)
    (flat_map (λ node. number_line (decimal node) []) (take l.node-index l.nodes))
