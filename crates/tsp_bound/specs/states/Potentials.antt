-- The fields of `Potentials`, `Multipliers` and `ByNode`, and the weight of an edge under them (`weight_under`; with
-- multipliers of fixed pairs, `weight_less`). `src/bound.rt` and `src/weights.rt` state by them over which weights a
-- minimum 1-tree is found, and `tsp_verdict/src/potentials_certificate.rt` what a certificate gives. The bound is
-- defined in tsp_theory, and proofs tie these weights to it.
use Rattle.std.specs.Prelude.{ℕ, ◌≢◌, ◌*◌, ◌^◌, ◌≤◌, List, ℤ, pos, nat_abs, []}
use Rattle.tsp_theory.specs.Bounds.{weight_between, adjusted}
use Rattle.tsp_bound.specs.declared.multipliers_by_node.ByNode.{ByNode}
use Rattle.tsp_bound.specs.declared.potentials.Multipliers.{Multipliers}
use Rattle.tsp_bound.specs.declared.potentials.Potentials.{Potentials}

abbrev pub scale_of : Potentials → ℤ
scale_of p = p.scale

abbrev pub numbers_of : Potentials → List ℤ
numbers_of p = p.numbers.now

-- the weight between two nodes: their cost times the scale, and the numbers of both
abbrev pub weight_under : Potentials → (ℕ → ℕ → ℤ) → ℕ → ℕ → ℤ
weight_under p cost = weight_between (scale_of p) (numbers_of p) cost

-- a number that, times the scale, is 2^64 at least; any number for the scale 1
abbrev pub IsInverse : ℤ → ℕ → Type 0
IsInverse scale inverse = scale ≢ pos 1 → 2 ^ 64 ≤ nat_abs scale * inverse

-- ---- the triples of `Multipliers` (src/potentials.rt) and `ByNode` (src/multipliers_by_node.rt)

-- the multipliers of pairs
abbrev pub triples_of : Multipliers → List (ℕ × ℕ × ℤ)
triples_of m = m.triples.now

-- the multipliers of pairs from which the lists by node are made
abbrev pub triples_in : ByNode → List (ℕ × ℕ × ℤ)
triples_in m = m.triples.now

abbrev pub node_count : ByNode → ℕ
node_count m = m.nodes

-- the weight between two nodes: the cost at the scale and the potentials of both, less the multiplier of the pair; no
-- pair is avoided
abbrev pub weight_less : Potentials → List (ℕ × ℕ × ℤ) → (ℕ → ℕ → ℤ) → ℕ → ℕ → ℤ
weight_less p triples cost = adjusted triples [] (weight_under p cost)
