-- The goals of `front_few` in src/number_word.rt, which reads up to seven digits at the beginning of eight bytes: what
-- its call requires and what it ensures.
use Rattle.tsp_number.proofs.Prelude.{arith, rules, sym, inl, inr, FitsSigned, w64, to_z-of_z}
use Rattle.tsp_number.proofs.FrontNumbers.{eight_more, few_front, few_digits, not_few, small_whole}
use Rattle.tsp_number.proofs.number_word.front_few.Goals as goal
use Rattle.tsp_number.proofs.number_word.front_few.Goals.{then-count-eq0-via-then-count-eq0, then-count-eq0-via-else-count-eq0+then-count-eq-EIGHT}

-- plan: fewer than eight digits are the whole number (`few_front`); none, or more, is no short word (`not_few`)
pub returns-then-count-eq0-clause-end : goal.returns-then-count-eq0-clause-end
returns-then-count-eq0-clause-end c =
    sym (not_few c.args.bytes.now c.in-Some.eight.now c.front_of_eight-size.result.1 c.in-Some.ensures.cases c.front_of_eight-size.ensures.count
    (elim c.then-count-eq0.branch [
      | then-count-eq0-via-then-count-eq0 w ↦ inl (omega (arith, w.if-count-eq0.true))
      | then-count-eq0-via-else-count-eq0+then-count-eq-EIGHT w ↦ inr (omega (arith, w.if-count-eq-EIGHT.true))
    ]))

pub signed_front-requires : goal.signed_front-requires
signed_front-requires c =
    let eight = c.front_of_eight-size.ensures in
    let read = eight_more c.args.bytes.now c.in-Some.eight.now _ _ c.in-Some.ensures.cases eight.within eight.digits eight.value in
    small_whole _ _ read.size (omega (arith, eight.within))

pub returns-clause-number : goal.returns-clause-number
returns-clause-number c =
    let fits : FitsSigned w64 c.signed_front.result = search rules in
    let eight = c.front_of_eight-size.ensures in
    let read = eight_more c.args.bytes.now c.in-Some.eight.now _ _ c.in-Some.ensures.cases eight.within eight.digits eight.value in
    let number = few_front c.args.bytes.now _ _ read (omega (arith, c.if-count-eq0.false)) c.front_of_eight-size.ensures.within
    (omega (arith, c.in-Some.ensures.cases.enough, c.front_of_eight-size.ensures.within)) in
    rw (to_z-of_z w64 c.signed_front.result fits, c.signed_front.ensures) number

pub returns-clause-within : goal.returns-clause-within
returns-clause-within c =
    omega (arith, c.in-Some.ensures.cases.enough, c.front_of_eight-size.ensures.within, c.if-count-eq-EIGHT.false)

pub returns-clause-end : goal.returns-clause-end
returns-clause-end c =
    let counted = few_digits c.args.bytes.now c.in-Some.eight.now _ c.in-Some.ensures.cases c.front_of_eight-size.ensures.count
    (omega (arith, c.if-count-eq0.false)) (omega (arith, c.front_of_eight-size.ensures.within, c.if-count-eq-EIGHT.false)) in
    search (rules, counted)
