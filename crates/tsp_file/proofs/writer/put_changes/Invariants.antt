-- The loop of `put_changes` in src/writer.rt.
use Rattle.tsp_file.proofs.Prelude.{take, ℕ, ℤ, flat_map, way_of, Carried}
use Rattle.tsp_file.specs.CanonicalText.{before_blank, change_words}
use Rattle.tsp_file.proofs.writer.put_changes.Given as goal

-- the bytes added so far are the changes before this one, each word before a blank
abbrev pub invariant-changes : goal.invariant-changes
invariant-changes g l =
    Carried (way_of g.W.Takes.contents l.initial.out l.initial.piece.items) (way_of g.W.Takes.contents l.out l.piece.items)
    (flat_map (λ (change : ℕ × ℤ). flat_map before_blank (change_words change)) (take l.index-index l.changes))
