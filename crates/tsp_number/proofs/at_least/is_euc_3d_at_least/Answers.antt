-- The goals of `is_euc_3d_at_least` in src/at_least.rt: what it ensures.
use Rattle.tsp_number.proofs.Prelude.{◌≡◌, ◌+◌, ◌≤ℤ◌, ℕ, ℤ, pos, subst, sym, w64, ◌↔◌, IsTrue, to_z-of_z}
use Rattle.tsp_number.specs.Distances.{square_apart_in_space, euc_3d_of}
use Rattle.tsp_number.specs.states.Rounding.{IsLeastCover}
use Rattle.tsp_number.specs.declared.root.Rounding.TheVariants.{Nearest}
use Rattle.tsp_number.proofs.RoundedRoots.{way_is}
use Rattle.tsp_number.proofs.Comparisons.{euc_3d_cover, space_is}
use Rattle.tsp_number.proofs.at_least.is_euc_3d_at_least.Goals as goal

-- plan: the three squares sum to that of the straight distance (`space_is`), and `euc_3d_cover` names its root
pub returns : goal.returns
returns c =
    let dx = way_is c.way.result c.args.a.x c.args.b.x c.way.ensures.value c.way.ensures.most in
    let dy = way_is c.way-2.result c.args.a.y c.args.b.y c.way-2.ensures.value c.way-2.ensures.most in
    let dz = way_is c.way-3.result c.args.a.z c.args.b.z c.way-3.ensures.value c.way-3.ensures.most in
    let square : c.square_of.result + c.square_of-2.result + c.square_of-3.result ≡ square_apart_in_space c.args.a c.args.b =
    rw (c.square_of.ensures.value, c.square_of-2.ensures.value, c.square_of-3.ensures.value) (space_is c.args.a c.args.b _ _ _ dx dy dz) in
    let root = euc_3d_of c.args.a c.args.b in
    subst (λ (z : ℤ). IsTrue c.is_root_at_least.result ↔ (z ≤ℤ pos root)) (to_z-of_z w64 c.args.least c.ranges.least)
    (c.is_root_at_least.ensures root (subst (λ (n : ℕ). IsLeastCover Nearest n root) (sym square) (euc_3d_cover c.args.a c.args.b)))
