-- The loop of `put_more_weights` in src/writer/matrix.rt.
use Rattle.tsp_file.proofs.Prelude.{◌∷◌, length, flat_map, signed_decimal, way_of}
use Rattle.tsp_file.proofs.WrittenLines.{Comes}
use Rattle.tsp_file.proofs.writer.matrix.put_more_weights.Given as goal

-- the bytes added so far, and the weights in `rest` after a blank each, are the text of all weights
abbrev pub invariant-parts : goal.invariant-parts
invariant-parts g l =
    Comes (way_of g.W.Takes.contents l.initial.out l.initial.piece.items) (way_of g.W.Takes.contents l.out l.piece.items)
    (flat_map (λ weight. 32 ∷ signed_decimal weight) l.rest)
    (flat_map (λ weight. 32 ∷ signed_decimal weight) l.weights)

-- each round takes one or more weights off `rest`
abbrev pub decreases-parts : goal.decreases-parts
decreases-parts g l = length l.rest
