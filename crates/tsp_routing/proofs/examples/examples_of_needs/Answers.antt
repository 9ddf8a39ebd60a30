-- The goals of `examples_of_needs` in src/examples.rt: what it ensures.
use Rattle.tsp_routing.proofs.Prelude.{refl, arith, pos, ints}
use Rattle.std.specs.Int.Signed.{le_z_yes}
use Rattle.tsp_routing.proofs.SmallCases.{fewest, need_of_three, need_of_two, cut_of_three, cut_of_two}
use Rattle.tsp_routing.proofs.examples.examples_of_needs.Goals as goal

-- plan: the demands are summed, and fewer routes carry less
pub returns : goal.returns
returns c = record {
  fewest = fewest (pos 8) 2 (record { enough = le_z_yes tt; none_less = λ count enough. omega (arith, ints, enough) }) refl;
  fewest_of_full = fewest (pos 4) 3 (record { enough = le_z_yes tt; none_less = λ count enough. omega (arith, ints, enough) }) refl;
  fewest_of_one = fewest (pos 12) 1 (record { enough = le_z_yes tt; none_less = λ count enough. omega (arith, ints, enough) }) refl;
  need = need_of_three (pos 8) 2 (record { enough = le_z_yes tt; none_less = λ count enough. omega (arith, ints, enough) }) refl;
  need_of_two = need_of_two (pos 8) 1 (record { enough = le_z_yes tt; none_less = λ count enough. omega (arith, ints, enough) }) refl;
  need_of_small_routes = need_of_two (pos 7) 2 (record { enough = le_z_yes tt; none_less = λ count enough. omega (arith, ints, enough) }) refl;
  crossed = cut_of_three;
  crossed_of_two = cut_of_two;
}
