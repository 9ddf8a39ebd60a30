-- The goals of `tsp_distance` in src/lib.rt, which returns the distance of two points by its number, or -1: what it
-- ensures.
use Rattle.tsp_c.proofs.Prelude.{◌≡◌, ℕ, subst, rules, FitsSigned, w64, ℤ, to_z-of_z}
use Rattle.tsp_number.specs.declared.decimal.Point.{Point}
use Rattle.tsp_c.specs.NumberCalls.{GivesDistance}
use Rattle.tsp_c.proofs.tsp_distance.Goals as goal

abbrev point : ℤ → ℤ → ℤ → Point
point x y z = record { x = x; y = y; z = z }

first_moved : (kind : ℕ) (b : Point) (result x y z x' y' z' : ℤ) → x ≡ x' → y ≡ y' → z ≡ z'
    → GivesDistance kind (point x y z) b result → GivesDistance kind (point x' y' z') b result
first_moved kind b result x y z x' y' z' ex ey ez gives =
    subst (λ (v : ℤ). GivesDistance kind (point x' y' v) b result) ez
    (subst (λ (v : ℤ). GivesDistance kind (point x' v z) b result) ey
    (subst (λ (v : ℤ). GivesDistance kind (point v y z) b result) ex gives))

second_moved : (kind : ℕ) (a : Point) (result x y z x' y' z' : ℤ) → x ≡ x' → y ≡ y' → z ≡ z'
    → GivesDistance kind a (point x y z) result → GivesDistance kind a (point x' y' z') result
second_moved kind a result x y z x' y' z' ex ey ez gives =
    subst (λ (v : ℤ). GivesDistance kind a (point x' y' v) result) ez
    (subst (λ (v : ℤ). GivesDistance kind a (point x' v z) result) ey
    (subst (λ (v : ℤ). GivesDistance kind a (point v y z) result) ex gives))

-- plan: the coordinates as words of 64 bits are those that were passed (`first_moved`, `second_moved`)
pub returns : goal.returns
returns c =
    let fits : FitsSigned w64 c.distance_of.result = search rules in
    let fax : FitsSigned w64 c.args.ax = c.ranges.ax in
    let fay : FitsSigned w64 c.args.ay = c.ranges.ay in
    let faz : FitsSigned w64 c.args.az = c.ranges.az in
    let fbx : FitsSigned w64 c.args.bx = c.ranges.bx in
    let fby : FitsSigned w64 c.args.by = c.ranges.by in
    let fbz : FitsSigned w64 c.args.bz = c.ranges.bz in
    rw (to_z-of_z w64 c.distance_of.result fits)
    (second_moved c.args.kind (point c.args.ax c.args.ay c.args.az) c.distance_of.result _ _ _ c.args.bx c.args.by c.args.bz
    (to_z-of_z w64 c.args.bx fbx) (to_z-of_z w64 c.args.by fby) (to_z-of_z w64 c.args.bz fbz)
    (first_moved c.args.kind _ c.distance_of.result _ _ _ c.args.ax c.args.ay c.args.az
    (to_z-of_z w64 c.args.ax fax) (to_z-of_z w64 c.args.ay fay) (to_z-of_z w64 c.args.az faz) c.distance_of.ensures))
