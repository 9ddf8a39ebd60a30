-- The loop of `put_families` in src/writer.rt.
use Rattle.tsp_file.proofs.Prelude.{take, map, flat_map, way_of, Carried}
use Rattle.tsp_file.specs.CanonicalText.{family_lines}
use Rattle.tsp_file.proofs.writer.put_families.Given as goal

-- the bytes added so far are the lines of the families before this one
abbrev pub invariant-families : goal.invariant-families
invariant-families g l =
    Carried (way_of g.W.Takes.contents l.initial.out l.initial.piece.items) (way_of g.W.Takes.contents l.out l.piece.items)
    (flat_map (λ family. family_lines (map (λ set. set.items) family.items)) (take l.family-index l.families))
