-- The goals of `Potentials::weight_from` in src/potentials.rt, which adds the potentials of both nodes to a scaled
-- cost: that no sum overflows and what it ensures.
use Rattle.tsp_bound.proofs.Prelude.{◌-◌, ◌<◌, ℤ, length, arith, ◌∙◌, pos, slice_index_or, ◌+ℤ◌, between_size, weight_fits, weight_computed, scaled_by}
use Rattle.tsp_bound.proofs.potentials.Potentials.weight_from.Goals as goal

pub overflow_add-result : goal.overflow_add-result
overflow_add-result g c =
    let p = c.args.self.now in
    let first_in : c.args.i - 1 < length p.numbers.now = omega (arith, c.requires.from, c.requires.count) in
    let second_in : c.args.j - 1 < length p.numbers.now = omega (arith, c.requires.to, c.requires.count) in
    rw c.requires.number
    (weight_fits c.scaled_cost.result (slice_index_or p.numbers.now (c.args.i - 1) (pos 0)) (slice_index_or p.numbers.now (c.args.j - 1) (pos 0)) c.scaled_cost.ensures.size
    (p.are.numbers_are (c.args.i - 1) (pos 0) first_in) (p.are.numbers_are (c.args.j - 1) (pos 0) second_in))

-- plan: the three parts fit 64 bits (`weight_fits`), so the sum is the weight (`weight_computed`)
pub returns : goal.returns
returns g c =
    let p = c.args.self.now in
    let first_in : c.args.i - 1 < length p.numbers.now = omega (arith, c.requires.from, c.requires.count) in
    let second_in : c.args.j - 1 < length p.numbers.now = omega (arith, c.requires.to, c.requires.count) in
    let first : ℤ = slice_index_or p.numbers.now (c.args.i - 1) (pos 0) in
    let second : ℤ = slice_index_or p.numbers.now (c.args.j - 1) (pos 0) in
    let first_size = p.are.numbers_are (c.args.i - 1) (pos 0) first_in in
    let second_size = p.are.numbers_are (c.args.j - 1) (pos 0) second_in in
    let computed = weight_computed c.scaled_cost.result first second c.scaled_cost.ensures.size first_size second_size in
    rw c.requires.number record {
      value = computed ∙ scaled_by p.scale (g.C.Costs.at c.args.c.now c.args.i c.args.j) c.scaled_cost.result (first +ℤ second) p.are.scale_is c.scaled_cost.ensures.value;
      size = rw computed (between_size c.scaled_cost.result first second c.scaled_cost.ensures.size first_size second_size);
    }
