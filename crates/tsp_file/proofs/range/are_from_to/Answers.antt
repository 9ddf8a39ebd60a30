-- The goals of `are_from_to` in src/range.rt, which says whether every number is in a range: what it ensures.
use Rattle.std.proofs.Common.{sym, rules}
use Rattle.tsp_file.proofs.ValidFields.{all_from_to}
use Rattle.tsp_file.proofs.range.are_from_to.Goals as goal

-- plan: if the bits of all numbers are within the limit and none is negative, each number is in the range
-- (`all_from_to`)
pub returns-then-all_bits-cast_unsigned : goal.returns-then-all_bits-cast_unsigned
returns-then-all_bits-cast_unsigned c =
    sym (all_from_to c.args.low c.args.high c.all_bits.result c.args.numbers.now (search rules) (search rules)
    (c.all_bits.ensures (search rules)))
