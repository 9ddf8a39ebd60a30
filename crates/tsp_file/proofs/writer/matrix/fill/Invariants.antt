-- The loop of `fill` in src/writer/matrix.rt.
use Rattle.tsp_file.proofs.Prelude.{◌≡◌, ◌*◌, ◌≤◌, ◌∷◌, drop, flat_map, signed_decimal}
use Rattle.tsp_file.proofs.writer.matrix.fill.Given as goal

-- from `start` on the block is the text of the weights from `index` on; before it are nine bytes for each weight left
abbrev pub invariant-weights : goal.invariant-weights
invariant-weights l = (9 * l.index ≤ l.start) × (l.start ≤ 576)
    × (drop l.start l.block ≡ flat_map (λ weight. 32 ∷ signed_decimal weight) (drop l.index l.weights))
