-- The goals of `straight` in src/distance.rt, which rounds the straight distance in the plane: what it ensures.
use Rattle.tsp_number.proofs.Prelude.{arith, ◌≡◌, ℕ, unsigned_abs, to_z, of_z, w64, subst, sym, ints}
use Rattle.tsp_number.specs.Distances.{square_apart}
use Rattle.tsp_number.specs.states.Rounding.{IsLeastCover}
use Rattle.tsp_number.proofs.RoundedRoots.{apart_is, way_is, apart-most}
use Rattle.tsp_number.proofs.distance.straight.Goals as goal

-- plan: the squares of both differences sum to that of the straight distance (`apart_is`), whose root the call finds
pub returns-clause-value : goal.returns-clause-value
returns-clause-value c =
    let dx = way_is c.way.result c.args.a.x c.args.b.x c.way.ensures.value c.way.ensures.most in
    let dy = way_is c.way-2.result c.args.a.y c.args.b.y c.way-2.ensures.value c.way-2.ensures.most in
    let same : unsigned_abs (to_z w64 (of_z w64 c.from.result)) ≡ c.rounded_root.result = search (arith, ints) in
    let root : IsLeastCover c.args.rounding _ c.rounded_root.result =
    record { enough = c.rounded_root.ensures.enough; least = c.rounded_root.ensures.least } in
    subst (λ (k : ℕ). IsLeastCover c.args.rounding (square_apart c.args.a c.args.b) k) (sym same)
    (subst (λ (square : ℕ). IsLeastCover c.args.rounding square c.rounded_root.result)
    (apart_is c.args.a c.args.b _ _ dx dy) root)

pub returns-clause-apart : goal.returns-clause-apart
returns-clause-apart c =
    apart-most c.args.a c.args.b c.way.result c.way-2.result c.way.ensures.value c.way-2.ensures.value
    c.way.ensures.most c.way-2.ensures.most
