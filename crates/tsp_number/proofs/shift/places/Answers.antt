-- The goals of `places` in src/shift.rt, which returns by how many places a mantissa is shifted: that its sums fit, and
-- what it ensures.
use Rattle.tsp_number.proofs.Prelude.{refl, ◌≡◌, ◌≤◌, ◌++◌, ℕ, ℤ, ◌≤ℤ◌, ◌+ℤ◌, ◌-ℤ◌, pos, negsuc, List, length, length-append, arith, w64, to_z-of_z, to_z_pos, ints}
use mir.Val.{SFits, to_z, of_z}
use Rattle.tsp_number.specs.states.Digits.{clamped}
use Rattle.tsp_number.proofs.shift.places.Goals as goal

-- an exponent that is kept is from -10,000 to 10,000
clamped_between : (exponent : ℤ) → (negsuc 9999 ≤ℤ clamped exponent) × (clamped exponent ≤ℤ pos 10000)
clamped_between (pos n) = (omega (arith, ints), omega (arith, ints))
clamped_between (negsuc n) = (omega (arith, ints), omega (arith, ints))

fits : (z : ℤ) → negsuc 99999 ≤ℤ z → z ≤ℤ pos 99999 → SFits w64 z
fits (pos n) low high = record { sfits = omega (arith, ints, high) }
fits (negsuc n) low high = record { sfits = omega (arith, ints, low) }

-- the code's sums are the sums
sums : (scale : ℕ) (exponent : ℤ) (count : ℕ) → scale ≤ 9 → negsuc 9999 ≤ℤ exponent → exponent ≤ℤ pos 10000 → count ≤ 64
    → SFits w64 (to_z w64 (of_z w64 (to_z w64 (of_z w64 (pos scale)) +ℤ to_z w64 (of_z w64 exponent))) -ℤ to_z w64 count)
    × (to_z w64 (of_z w64 (to_z w64 (of_z w64 (to_z w64 (of_z w64 (pos scale)) +ℤ to_z w64 (of_z w64 exponent))) -ℤ to_z w64 count))
    ≡ pos scale +ℤ exponent -ℤ pos count)
sums scale exponent count small low high few =
    let first = to_z-of_z w64 (pos scale) (fits (pos scale) (omega (arith, ints)) (omega (arith, ints, small))) in
    let second = to_z-of_z w64 exponent (fits exponent (omega (arith, ints, low)) (omega (arith, ints, high))) in
    let third = to_z_pos w64 count (omega (arith, few)) in
    let sum = to_z-of_z w64 (pos scale +ℤ exponent)
    (fits (pos scale +ℤ exponent) (omega (arith, ints, low)) (omega (arith, ints, small, high))) in
    let all = fits (pos scale +ℤ exponent -ℤ pos count) (omega (arith, ints, low, few)) (omega (arith, ints, small, high)) in
    (rw (first, second, third, sum) all, rw (first, second, third, sum, to_z-of_z w64 (pos scale +ℤ exponent -ℤ pos count) all) refl)

-- plan: all sums are small, so that 64 bits count them as whole numbers (`sums`)
pub overflow_add-result : goal.overflow_add-result
overflow_add-result c =
    let between = clamped_between c.requires.parts.0.exponent in
    let low : negsuc 9999 ≤ℤ c.args.written.now.exponent = rw c.requires.parts.1.exponent between.0 in
    let high : c.args.written.now.exponent ≤ℤ pos 10000 = rw c.requires.parts.1.exponent between.1 in
    let first = to_z-of_z w64 c.from.result (rw c.from.ensures (fits (pos c.args.scale) (omega (arith, ints)) (omega (arith, ints, c.requires.scale)))) in
    let second = to_z-of_z w64 c.args.written.now.exponent (fits c.args.written.now.exponent (omega (arith, ints, low)) (omega (arith, ints, high))) in
    rw (first, second, c.from.ensures) (fits (pos c.args.scale +ℤ c.args.written.now.exponent) (omega (arith, ints, low)) (omega (arith, ints, high, c.requires.scale)))

-- the digits after the point are no more than all
few_digits : (whole fraction : List ℕ) → length (whole ++ fraction) ≤ 64 → length fraction ≤ 64
few_digits whole fraction all = omega (arith, all, length-append whole fraction)

pub overflow_sub-result : goal.overflow_sub-result
overflow_sub-result c =
    let kept = c.requires.parts.1 in
    let n = c.requires.parts.0 in
    let between = clamped_between n.exponent in
    rw (c.from.ensures, kept.exponent, kept.fraction)
    (sums c.args.scale (clamped n.exponent) (length n.fraction) c.requires.scale between.0 between.1 (few_digits n.whole n.fraction kept.few_digits)).0

pub returns : goal.returns
returns c = λ n kept.
    let between = clamped_between n.exponent in
    rw (c.from.ensures, kept.exponent, kept.fraction)
    (sums c.args.scale (clamped n.exponent) (length n.fraction) c.requires.scale between.0 between.1 (few_digits n.whole n.fraction kept.few_digits)).1
