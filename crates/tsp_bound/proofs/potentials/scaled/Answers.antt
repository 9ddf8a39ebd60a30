-- The goals of `scaled` in src/potentials.rt, which counts a cost in 1 / scale: that no product overflows and what it
-- ensures.
use Rattle.tsp_theory.proofs.Sums.{product_fits, product_is, scaled_size}
use Rattle.tsp_bound.proofs.potentials.scaled.Goals as goal

pub overflow_mul-result : goal.overflow_mul-result
overflow_mul-result c = product_fits c.args.scale c.args.cost c.requires.scale c.requires.low c.requires.high

-- plan: the product fits 64 bits (`product_fits`), so it is the whole one (`product_is`)
pub returns : goal.returns
returns c =
    let is = product_is c.args.scale c.args.cost c.requires.scale c.requires.low c.requires.high in
    record {
      value = is;
      size = rw is (scaled_size c.args.scale c.args.cost c.requires.scale c.requires.low c.requires.high);
    }
