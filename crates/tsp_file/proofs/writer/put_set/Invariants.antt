-- The loop of `put_set` in src/writer.rt.
use Rattle.tsp_file.proofs.Prelude.{take, flat_map, decimal, way_of, Carried}
use Rattle.tsp_file.specs.CanonicalText.{before_blank}
use Rattle.tsp_file.proofs.writer.put_set.Given as goal

-- the bytes added so far are the nodes before this one, each before a blank
abbrev pub invariant-nodes : goal.invariant-nodes
invariant-nodes g l =
    Carried (way_of g.W.Takes.contents l.initial.out l.initial.piece.items) (way_of g.W.Takes.contents l.out l.piece.items)
    (flat_map (λ node. before_blank (decimal node)) (take l.node-index l.set))
