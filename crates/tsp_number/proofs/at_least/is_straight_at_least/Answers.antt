-- The goals of `is_straight_at_least` in src/at_least.rt: what it ensures.
use Rattle.tsp_number.proofs.Prelude.{◌≡◌, ◌+◌, ◌≤ℤ◌, ℕ, ℤ, pos, subst, sym, w64, ◌↔◌, IsTrue, to_z-of_z}
use Rattle.tsp_number.specs.Distances.{square_apart}
use Rattle.tsp_number.specs.states.Rounding.{IsLeastCover}
use Rattle.tsp_number.proofs.RoundedRoots.{apart_is, way_is}
use Rattle.tsp_number.proofs.at_least.is_straight_at_least.Goals as goal

-- plan: both squares sum to that of the straight distance (`apart_is`), of which the given root is the least cover
pub returns : goal.returns
returns c = λ root is.
    let dx = way_is c.way.result c.args.a.x c.args.b.x c.way.ensures.value c.way.ensures.most in
    let dy = way_is c.way-2.result c.args.a.y c.args.b.y c.way-2.ensures.value c.way-2.ensures.most in
    let square : c.square_of.result + c.square_of-2.result ≡ square_apart c.args.a c.args.b =
    rw (c.square_of.ensures.value, c.square_of-2.ensures.value) (apart_is c.args.a c.args.b _ _ dx dy) in
    subst (λ (z : ℤ). IsTrue c.is_root_at_least.result ↔ (z ≤ℤ pos root)) (to_z-of_z w64 c.args.least c.ranges.least)
    (c.is_root_at_least.ensures root (subst (λ (n : ℕ). IsLeastCover c.args.rounding n root) (sym square) is))
