-- The loop of `Intake::take_items` in src/items.rt.
use Rattle.std.proofs.Common.{ℕ, ◌+◌, ◌≤◌, List, length}
use Rattle.tsp_read.specs.states.Onward.{IsReadTo}
use Rattle.tsp_read.proofs.items.Intake.take_items.Given as goal

-- the items before `rest` are taken, none of them an end line; no more lines or words were counted than bytes read
abbrev pub invariant-items : goal.invariant-items
invariant-items l = record {
  read : (bytes : List ℕ) → IsReadTo l.fn.self bytes l.piece → IsReadTo l.self bytes l.rest;
  line : l.self.line + length l.rest ≤ l.fn.self.line + length l.piece;
  words : l.self.words + length l.rest ≤ l.fn.self.words + length l.piece;
}

-- each item has a byte or more, which `rest` loses
abbrev pub decreases-items : goal.decreases-items
decreases-items l = length l.rest
