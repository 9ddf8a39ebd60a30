-- The goals of `att` in src/distance.rt: what it ensures.
use Rattle.tsp_number.proofs.Prelude.{arith, ◌≡◌, ◌≤ℤ◌, ℕ, pos, unsigned_abs, to_z, of_z, w64, subst, sym, ints}
use Rattle.tsp_number.specs.Distances.{IsAtt}
use Rattle.tsp_number.proofs.RoundedRoots.{is_att, att-is, att-most, signed_is}
use Rattle.tsp_number.proofs.distance.att.Goals as goal

-- plan: the root that is found is the distance (`is_att`); there is one such number (`att-is`), and it isn't large
-- (`att-most`)
pub returns-clause-value : goal.returns-clause-value
returns-clause-value c =
    let same : unsigned_abs (to_z w64 (of_z w64 c.straight.result)) ≡ unsigned_abs c.straight.result = search (arith, ints) in
    subst (λ (k : ℕ). IsAtt c.args.a c.args.b k) (sym same) (is_att c.args.a c.args.b _ c.straight.ensures.value)

pub returns-clause-distance : goal.returns-clause-distance
returns-clause-distance c =
    let low : pos 0 ≤ℤ to_z w64 (of_z w64 c.straight.result) = search (arith, ints) in
    signed_is (to_z w64 (of_z w64 c.straight.result)) _ low (att-is c.args.a c.args.b _ (returns-clause-value c))

pub returns-clause-high : goal.returns-clause-high
returns-clause-high c =
    let short = att-most c.args.a c.args.b _ c.straight.ensures.apart (returns-clause-value c) in
    omega (arith, ints, short)
