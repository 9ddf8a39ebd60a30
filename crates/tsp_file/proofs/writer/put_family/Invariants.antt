-- The loop of `put_family` in src/writer.rt.
use Rattle.tsp_file.proofs.Prelude.{take, flat_map, way_of, Carried}
use Rattle.tsp_file.specs.CanonicalText.{set_line}
use Rattle.tsp_file.proofs.writer.put_family.Given as goal

-- the bytes added so far are the lines of the sets before this one
abbrev pub invariant-sets : goal.invariant-sets
invariant-sets g l =
    Carried (way_of g.W.Takes.contents l.initial.out l.initial.piece.items) (way_of g.W.Takes.contents l.out l.piece.items)
    (flat_map (λ set. set_line set.items) (take l.set-index l.family))
