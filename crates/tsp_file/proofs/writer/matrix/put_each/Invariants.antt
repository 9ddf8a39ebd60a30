-- The loop of `put_each` in src/writer/matrix.rt.
use Rattle.tsp_file.proofs.Prelude.{◌∷◌, take, flat_map, signed_decimal, way_of, Carried}
use Rattle.tsp_file.proofs.writer.matrix.put_each.Given as goal

-- the bytes added so far are the weights before this one, each after a blank
abbrev pub invariant-weights : goal.invariant-weights
invariant-weights g l =
    Carried (way_of g.W.Takes.contents l.initial.out l.initial.piece.items) (way_of g.W.Takes.contents l.out l.piece.items)
    (flat_map (λ weight. 32 ∷ signed_decimal weight) (take l.weight-index l.weights))
