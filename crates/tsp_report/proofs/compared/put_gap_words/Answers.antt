-- The goals of `put_gap_words` in src/compared.rt, which adds by how much a length is above a bound: what it
-- ensures.
use Rattle.tsp_report.proofs.Prelude.{◌≡◌, rules, true, false, arith, FitsSigned, pos, w128, ints, to_z-of_z}
use Rattle.std.specs.Ordering.{int_eq}
use Rattle.tsp_report.proofs.compared.put_gap_words.Goals as goal

-- plan: a gap other than 0 is written as its word and number, which `put_named` adds as one text
pub returns : goal.returns
returns g c =
    let fits : FitsSigned w128 c.args.gap = search rules in
    let named = simp to_z-of_z at c.put_named.ensures in
    let some : int_eq c.args.gap (pos 0) ≡ false = grind (arith, ints) in
    rw some named
