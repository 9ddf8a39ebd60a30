-- The goals of `ceil_2d` in src/distance.rt: what it ensures.
use Rattle.tsp_number.proofs.Prelude.{arith, ◌≡◌, ◌≤ℤ◌, ℕ, pos, unsigned_abs, to_z, of_z, w64, subst, sym, ints}
use Rattle.tsp_number.specs.Distances.{IsCeil2d}
use Rattle.tsp_number.proofs.RoundedRoots.{is_ceil_2d, ceil_2d-is, signed_is}
use Rattle.tsp_number.proofs.distance.ceil_2d.Goals as goal

-- plan: the root that is found is the distance (`is_ceil_2d`), and there is one such number (`ceil_2d-is`)
pub returns-clause-value : goal.returns-clause-value
returns-clause-value c =
    let same : unsigned_abs (to_z w64 (of_z w64 c.straight.result)) ≡ unsigned_abs c.straight.result = search (arith, ints) in
    subst (λ (k : ℕ). IsCeil2d c.args.a c.args.b k) (sym same) (is_ceil_2d c.args.a c.args.b _ c.straight.ensures.value)

pub returns-clause-distance : goal.returns-clause-distance
returns-clause-distance c =
    let low : pos 0 ≤ℤ to_z w64 (of_z w64 c.straight.result) = search (arith, ints) in
    signed_is (to_z w64 (of_z w64 c.straight.result)) _ low (ceil_2d-is c.args.a c.args.b _ (returns-clause-value c))
