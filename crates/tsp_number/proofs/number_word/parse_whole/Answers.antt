-- The goals of `parse_whole` in src/number_word.rt, which reads a number word as a whole number of a range: what it
-- ensures.
use Rattle.tsp_number.proofs.Prelude.{◌≤ℤ◌, ◌<ℤ◌, ◌⊎◌, inl, inr, arith, rules, FitsSigned, w64, ints, to_z-of_z}
use Rattle.tsp_number.proofs.FrontNumbers.{whole_word, whole_outside}
use Rattle.tsp_number.proofs.WordLaws.{whole_once, whole_of-reads}
use Rattle.tsp_number.proofs.number_word.parse_whole.Goals as goal
use Rattle.tsp_number.proofs.number_word.parse_whole.Goals.{then-whole-low-via-then-whole-low, then-whole-low-via-else-whole-low+then-whole-high}

-- plan: by the range: the front's number is the word's (`whole_word`), or it is outside (`whole_outside`)
pub returns-then-whole-low : goal.returns-then-whole-low
returns-then-whole-low c =
    let out : (c.in-Some.whole <ℤ c.args.low) ⊎ (c.args.high <ℤ c.in-Some.whole) = elim c.then-whole-low.branch [
      | then-whole-low-via-then-whole-low w ↦ inl (omega (arith, ints, w.if-whole-low.true))
      | then-whole-low-via-else-whole-low+then-whole-high w ↦ inr (omega (arith, ints, w.if-whole-high.true))
    ] in
    let reads = whole_outside _ _ _ _ _ c.in-Some.ensures.number c.if-end-word.true out in
    record { reads = reads; computed = whole_once _ _ _ _ _ reads (whole_of-reads c.args.word.now c.args.low c.args.high) }

pub returns : goal.returns
returns c =
    let fits : FitsSigned w64 c.in-Some.whole = search rules in
    let low : c.args.low ≤ℤ c.in-Some.whole = omega (arith, ints, c.if-whole-low.false) in
    let high : c.in-Some.whole ≤ℤ c.args.high = omega (arith, ints, c.if-whole-high.false) in
    let reads = whole_word _ _ _ _ _ c.in-Some.ensures.number c.if-end-word.true low high in
    rw (to_z-of_z w64 c.in-Some.whole fits)
    (record { reads = reads; computed = whole_once _ _ _ _ _ reads (whole_of-reads c.args.word.now c.args.low c.args.high) })
