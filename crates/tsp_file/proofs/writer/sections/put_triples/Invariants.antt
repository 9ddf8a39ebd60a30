-- The loop of `put_triples` in src/writer/sections.rt.
use Rattle.tsp_file.proofs.Prelude.{[], ◌∷◌, ℕ, ℤ, take, flat_map, decimal, signed_decimal, way_of, Carried}
use Rattle.tsp_file.specs.CanonicalText.{number_line}
use Rattle.tsp_file.proofs.writer.sections.put_triples.Given as goal

-- the bytes added so far are the lines of the triples before this one
abbrev pub invariant-triples : goal.invariant-triples
invariant-triples g l =
    Carried (way_of g.W.Takes.contents l.initial.out l.initial.piece.items) (way_of g.W.Takes.contents l.out l.piece.items)
    (flat_map (λ (triple : ℕ × ℕ × ℤ). number_line (decimal triple.0) (decimal triple.1 ∷ signed_decimal triple.2 ∷ []))
    (take l.first-index l.triples))
