-- The goals of `distance_of` in src/distance_call.rt, which returns the distance of two points by its number, or -1:
-- what it ensures.
use Rattle.tsp_c.proofs.Prelude.{◌≡◌, ◌∙◌, ap, inl, rules, FitsSigned, w64, to_z-of_z, distance}
use Rattle.tsp_number.specs.declared.decimal.Point.{Point}
use Rattle.tsp_number.specs.Distances.{IsInSpace}
use Rattle.tsp_c.specs.NumberCalls.{nth, distance_kinds}
use Rattle.tsp_c.proofs.HandleCalls.{kind_found}
use Rattle.tsp_c.proofs.distance_call.distance_of.Goals as goal

-- plan: by the number of the kind: the distance by that kind is returned (`kind_found`), or no kind has the number
pub returns-in-Some-between : goal.returns-in-Some-between
returns-in-Some-between c =
    let a : Point = record { x = c.args.from.x; y = c.args.from.y; z = c.args.from.z } in
    let b : Point = record { x = c.args.to.x; y = c.args.to.y; z = c.args.to.z } in
    let fits : FitsSigned w64 c.in-Some-between.distance = search rules in
    let a_in : IsInSpace a = search rules in
    let b_in : IsInSpace b = search rules in
    let a_is : c.in-Some.a ≡ a = search rules in
    let b_is : c.in-Some-point_of.b ≡ b = search rules in
    let found = kind_found c.in-Some.a c.in-Some-point_of.b (nth c.args.number distance_kinds) c.in-Some-between.distance
    c.in-Some-between.ensures in
    inl (
      found.0,
      found.1,
      a_in,
      b_in,
      to_z-of_z w64 c.in-Some-between.distance fits ∙ found.2
          ∙ ap (λ (p : Point). distance found.0 p c.in-Some-point_of.b) a_is ∙ ap (λ (p : Point). distance found.0 a p) b_is,
    )
