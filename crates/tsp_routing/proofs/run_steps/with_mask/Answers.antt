-- The goals of `with_mask` in src/run_steps.rt, which adds a bit to a word: what it ensures.
use Rattle.tsp_routing.proofs.Prelude.{◌≡◌, ◌%◌, ◌^◌, ◌+◌, ◌*◌, ◌<◌, ℕ, Bool, true, false, ap, arith, if◌then◌else◌}
use Rattle.tsp_routing.proofs.run_steps.with_mask.Goals as goal

-- plan: the mask once, or not
times : (mask bit : ℕ) (is_told : Bool) → mask < 2 ^ 64 → bit ≡ (if is_told then 1 else 0)
    → (mask * bit) % 2 ^ 64 ≡ (if is_told then mask else 0)
times mask bit true small is =
    let one : (mask * bit) % 2 ^ 64 ≡ (mask * 1) % 2 ^ 64 = ap (λ (n : ℕ). (mask * n) % 2 ^ 64) is in
    omega (arith, one, small)
times mask bit false small is =
    let none : (mask * bit) % 2 ^ 64 ≡ (mask * 0) % 2 ^ 64 = ap (λ (n : ℕ). (mask * n) % 2 ^ 64) is in
    omega (arith, none)

pub returns : goal.returns
returns c = λ is_told is.
    ap (λ (n : ℕ). (c.args.word + n) % 2 ^ 64) (times c.args.mask c.args.bit is_told (omega arith) is)
