-- Small instances with fixed pairs, for src/examples.rt. No other contract uses them.
use Rattle.tsp_cost.specs.Prelude.{ℕ, List, Some, Fields, blank_fields}
use Rattle.tsp_format.specs.declared.kinds.Kind.{Kind}

-- an instance of this kind, with this many nodes and these fixed pairs
abbrev pub with_fixed : Kind → ℕ → List (ℕ × ℕ) → Fields
with_fixed kind n pairs = record blank_fields { kind = Some kind; dimension = Some n; fixed = Some pairs }
