-- The loop of `put_lengths` in src/point_calls.rt, which puts the lengths of lists of nodes into a buffer.
use Rattle.tsp_c.proofs.Prelude.{◌≡◌, ◌≤◌, length, drop, nodes_of}
use Rattle.std.specs.List.{All}
use Rattle.tsp_c.specs.NumberCalls.{IsFilled, list_length, lists_in}
use Rattle.tsp_c.proofs.point_calls.put_lengths.Given as goal

-- the lengths of the lists before `rest` are in the buffer, and its other numbers are as they were
abbrev pub invariant-lists : goal.invariant-lists
invariant-lists l = record {
  left : drop l.place (lists_in l.nodes) ≡ lists_in l.rest;
  within : l.place ≤ length (lists_in l.nodes);
  few : length l.rest ≤ length l.nodes;
  range : All (λ node. node ≤ nodes_of l.instance) l.rest;
  filled : IsFilled l.place (list_length l.nodes l.instance) l.fn.out l.out;
}

-- each round takes a list and the number that ends it off `rest`
abbrev pub decreases-lists : goal.decreases-lists
decreases-lists l = length l.rest
