-- The loop of `put_pairs` in src/writer/sections.rt.
use Rattle.tsp_file.proofs.Prelude.{[], ◌∷◌, ℕ, take, flat_map, decimal, way_of, Carried}
use Rattle.tsp_file.specs.CanonicalText.{number_line}
use Rattle.tsp_file.proofs.writer.sections.put_pairs.Given as goal

-- the bytes added so far are the lines of the pairs before this one
abbrev pub invariant-pairs : goal.invariant-pairs
invariant-pairs g l =
    Carried (way_of g.W.Takes.contents l.initial.out l.initial.piece.items) (way_of g.W.Takes.contents l.out l.piece.items)
    (flat_map (λ (pair : ℕ × ℕ). number_line (decimal pair.0) (decimal pair.1 ∷ [])) (take l.first-index l.pairs))
