-- The goals of `euc_3d` in src/distance.rt: what it ensures.
use Rattle.tsp_number.proofs.Prelude.{arith, ◌≡◌, ◌≤ℤ◌, ℕ, pos, unsigned_abs, to_z, of_z, w64, subst, sym, ints}
use Rattle.tsp_number.specs.Distances.{IsEuc3d}
use Rattle.tsp_number.proofs.RoundedRoots.{is_euc_3d, way_is, signed_is}
use Rattle.tsp_number.proofs.Comparisons.{euc_3d-is}
use Rattle.tsp_number.proofs.distance.euc_3d.Goals as goal

-- plan: the squares of the three differences have the root that is found (`is_euc_3d`), and there is one such number
-- (`euc_3d-is`)
pub returns-clause-value : goal.returns-clause-value
returns-clause-value c =
    let same : unsigned_abs (to_z w64 (of_z w64 c.from.result)) ≡ c.nearest_root_in_space.result = search (arith, ints) in
    let P : ℕ → Type 0 = λ k. IsEuc3d c.args.a c.args.b k in
    subst P (sym same)
    (is_euc_3d c.args.a c.args.b _ _ _ _ (way_is c.way.result c.args.a.x c.args.b.x c.way.ensures.value c.way.ensures.most)
    (way_is c.way-2.result c.args.a.y c.args.b.y c.way-2.ensures.value c.way-2.ensures.most)
    (way_is c.way-3.result c.args.a.z c.args.b.z c.way-3.ensures.value c.way-3.ensures.most) c.nearest_root_in_space.ensures.enough c.nearest_root_in_space.ensures.least)

pub returns-clause-distance : goal.returns-clause-distance
returns-clause-distance c =
    let low : pos 0 ≤ℤ to_z w64 (of_z w64 c.from.result) = search (arith, ints) in
    signed_is (to_z w64 (of_z w64 c.from.result)) _ low (euc_3d-is c.args.a c.args.b _ (returns-clause-value c))
