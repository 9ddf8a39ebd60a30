-- The loop of `OpenCase::next` in src/open_case.rt, which goes from a leaf to the next open case.
use Rattle.std.proofs.Common.{◌≡◌, ◌≤◌, ℕ, length}
use Rattle.tsp_cases.specs.Cases.{next_stack}
use Rattle.tsp_cases.specs.states.OpenCases.{stack_of, IsOpenCase}
use Rattle.tsp_cases.proofs.open_case.OpenCase.next.Given as goal

-- the shorter stack is that of an open case too, and the same case comes next after it
abbrev pub invariant-leave : goal.invariant-leave
invariant-leave l = record {
  case : (n : ℕ) → IsOpenCase n l.fn.self → IsOpenCase n l.self;
  same : next_stack (stack_of l.fn.self.stack.items) ≡ next_stack (stack_of l.self.stack.items);
  few : length l.self.stack.items ≤ length l.fn.self.stack.items;
  given : l.self.given.now ≡ l.fn.self.given.now;
  directed : l.self.by_node.directed ≡ l.fn.self.by_node.directed;
}

-- each round takes a decision off the stack
abbrev pub decreases-leave : goal.decreases-leave
decreases-leave l = length l.self.stack.items
