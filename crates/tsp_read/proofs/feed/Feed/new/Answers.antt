-- The goals of `Feed::new` in src/feed.rt, which is the state before the first byte: the invariants of its types.
use Rattle.std.proofs.Common.{[], refl, arith, rules}
use Rattle.tsp_read.specs.states.Onward.{IsPaused}
use Rattle.tsp_read.proofs.feed.Feed.new.Goals as goal

pub invariant_of-result : goal.invariant_of-result
invariant_of-result c =
    let paused : IsPaused c.new.result c.new-2.result [] = search rules in
    record { short = omega arith; room = search rules; read = ∣ ([], refl, omega arith, paused) ∣₁ }
