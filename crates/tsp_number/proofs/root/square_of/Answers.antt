-- The goals of `square_of` in src/root.rt, which returns the square of a difference of coordinates: that no sum
-- overflows and what it ensures.
use Rattle.tsp_number.proofs.Prelude.{◌≡◌, unsigned_abs, arith, ◌∙◌, w64, to_z-of_z}
use Rattle.tsp_number.proofs.RoundedRoots.{square-most, wide_square}
use Rattle.tsp_number.proofs.root.square_of.Goals as goal

-- plan: the square in the code's width is that of the whole number (`wide_square`), and `square-most` bounds it
pub overflow_cast-result : goal.overflow_cast-result
overflow_cast-result c =
    let wide : c.from-wide.result ≡ c.args.way = c.from-wide.ensures ∙ to_z-of_z w64 c.args.way c.ranges.way in
    rw (wide_square c.from-wide.result c.args.way wide c.requires) (tt, omega (arith, square-most (unsigned_abs c.args.way) c.requires))

pub returns-clause-value : goal.returns-clause-value
returns-clause-value c =
    let wide : c.from-wide.result ≡ c.args.way = c.from-wide.ensures ∙ to_z-of_z w64 c.args.way c.ranges.way in
    rw (wide_square c.from-wide.result c.args.way wide c.requires)

pub returns-clause-most : goal.returns-clause-most
returns-clause-most c =
    let wide : c.from-wide.result ≡ c.args.way = c.from-wide.ensures ∙ to_z-of_z w64 c.args.way c.ranges.way in
    rw (wide_square c.from-wide.result c.args.way wide c.requires) (square-most (unsigned_abs c.args.way) c.requires)
