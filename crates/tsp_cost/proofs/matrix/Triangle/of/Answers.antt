-- The goals of `Triangle::of` in src/matrix.rt, which makes costs of the listed weights of a triangle: the facts of
-- the value that it makes.
use Rattle.tsp_cost.proofs.Prelude.{UnlistedHaveNoPlace, unlisted_has_no_place, triangle_even}
use Rattle.tsp_cost.proofs.matrix.Triangle.of.Goals as goal

-- plan: a half lists one of the two cells of a pair, so the cost is the same in both directions (`triangle_even`)
pub invariant_of-result : goal.invariant_of-result
invariant_of-result c =
    let out : UnlistedHaveNoPlace c.args.layout c.args.nodes =
    unlisted_has_no_place c.cells_are_the_listed_pairs.ensures c.only_cells_have_places.ensures c.args.layout c.args.nodes in
    record {
      half = c.requires.half;
      some = c.requires.some;
      most = c.requires.most;
      filled = c.requires.filled;
      sizes = c.requires.sizes;
      upper_is = c.lists.ensures;
      diagonal_is = c.lists-2.ensures;
      unlisted = out;
      even = triangle_even c.args.layout c.args.nodes c.args.weights.now c.requires.half out;
    }
