-- The goals of `Feed::go_on` in src/feed.rt, which takes a piece up to the most bytes of a file: the facts of the feed
-- that it changes, and what it ensures.
use Rattle.std.proofs.Common.{refl, sym, ap, subst, ◌∙◌, ◌+◌, ◌++◌, length, arith, rules, length-append}
use Rattle.std.proofs.Math.Logic.{∥∥₁_map}
use Rattle.tsp_read.specs.declared.feed.Stage.{Stage}
use Rattle.tsp_read.specs.states.Onward.{HasBytes}
use Rattle.tsp_read.proofs.FeedSteps.{fed_longer, comes_to, going_bytes, goes_on}
use Rattle.tsp_read.proofs.feed.Feed.go_on.Goals as goal

-- plan: the items of the piece decide the stage (`comes_to`); the bytes so far are those before it and its own
-- (`goes_on`)
-- there are bytes that have come with the piece, too
pub invariant_of-self : goal.invariant_of-self
invariant_of-self c =
    let old = c.args.self.now in
    let front = c.split_at_most.result.0.now in
    let intake = c.read_on-read.new.intake in
    let begun = c.read_on-read.new.begun in
    record {
      short = search rules;
      room = search rules;
      read = ∥∥₁_map (going_bytes old c.requires) (λ there.
          subst (λ (stage : Stage). HasBytes stage intake begun (old.count + length front)) (sym c.stage_after-self.ensures)
          (goes_on c.is_empty.result c.read_on-read.result intake begun (there.0 ++ front) (old.count + length front)
          (omega (arith, length-append there.0 front, there.1.count, there.1.short, c.split_at_most.ensures.front))
          (ap (λ n. n + length front) there.1.count ∙ sym (length-append there.0 front))
          (c.read_on-read.ensures.read (there.0 ++ front) (fed_longer old.intake old.begun there.0 front there.1.paused))));
    }

pub returns : goal.returns
returns c = λ bytes h.
    let front = c.split_at_most.result.0.now in
    comes_to c.is_empty.result c.read_on-read.result c.args.self.now _ bytes c.args.piece.now front c.split_at_most.result.1.now c.stage_after-self.result c.stage_after-self.ensures h
    c.split_at_most.ensures.parts c.split_at_most.ensures.front c.split_at_most.ensures.over c.is_empty.ensures refl
    (c.read_on-read.ensures.read (bytes ++ front) (fed_longer c.args.self.now.intake c.args.self.now.begun bytes front h.paused))
