-- The goals of `put_lengths` in src/point_calls.rt, which puts the lengths of lists of nodes into a buffer: its loop,
-- what its calls require and what it ensures.
use Rattle.tsp_c.proofs.Prelude.{◌≡◌, ◌+◌, ◌-◌, ◌<◌, ◌≤◌, ap, sym, subst, ◌∙◌, arith, length, drop, take, length-drop, rules, FitsSigned, w64, ℕ, List, [], to_z-of_z, cost, nodes_of}
use Rattle.std.specs.List.{All}
use Rattle.std.proofs.lemmas.List.{drop-drop}
use Rattle.std.proofs.lemmas.List.Elements.{All-drop}
use Rattle.tsp_format.specs.Nodes.{IsNode}
use Rattle.tsp_theory.specs.Tour.{length_of}
use Rattle.tsp_c.specs.NumberCalls.{IsFilled, list_length, lists_in}
use Rattle.tsp_c.proofs.HandleCalls.{end_found, end_missing, lists_none, next_list, nodes_before}
use Rattle.tsp_c.proofs.point_calls.put_lengths.Goals as goal

-- plan: the lists so far are those of the nodes before (`nodes_before`); each ends at its 0, or has no end
-- (`end_missing`)
pub tour_length-requires-clause-range : goal.tour_length-requires-clause-range
tour_length-requires-clause-range c =
    let rest = c.lists.rest.now in
    let found = end_found rest c.in-Some.end c.in-Some.ensures in
    subst (λ (list : List ℕ). All (IsNode (nodes_of c.args.instance.now)) list)
    (sym (c.split_at.ensures.front ∙ ap (λ (k : ℕ). take k rest) found.0))
    (nodes_before (nodes_of c.args.instance.now) rest c.lists.invariant.range found.1)

pub put-requires : goal.put-requires
put-requires c =
    let rest = c.lists.rest.now in
    let found = end_found rest c.in-Some.end c.in-Some.ensures in
    let next = next_list c.args.nodes.now rest c.lists.place c.in-Some.end c.lists.invariant.left found.0 found.1 in
    let below : c.lists.place < length (lists_in c.args.nodes.now) = next.2 in
    let room : length (lists_in c.args.nodes.now) ≤ length c.args.out.now = c.requires.room in
    let size : length c.lists.out ≡ length c.args.out.now = c.lists.invariant.filled.size in
    omega (arith, below, room, size)

pub lists-preserved : goal.lists-preserved
lists-preserved c =
    let nodes : List ℕ = c.args.nodes.now in
    let rest : List ℕ = c.lists.rest.now in
    let end : ℕ = c.in-Some.end in
    let found = end_found rest end c.in-Some.ensures in
    let next = next_list nodes rest c.lists.place end c.lists.invariant.left found.0 found.1 in
    let after : c.split_at-in-Some.result.1.now ≡ drop (end + 1) rest =
    c.split_at-in-Some.ensures.back ∙ ap (drop 1) c.split_at.ensures.back ∙ drop-drop 1 end rest in
    let below : c.lists.place < length (lists_in nodes) = next.2 in
    let few : length rest ≤ length nodes = c.lists.invariant.few in
    let size : length (drop (end + 1) rest) ≡ length rest - (end + 1) = length-drop (end + 1) rest in
    let fits : FitsSigned w64 c.tour_length.result = search rules in
    let number : c.tour_length.result ≡ list_length nodes c.args.instance.now c.lists.place =
    c.tour_length.ensures ∙ ap (length_of (cost c.args.instance.now)) (c.split_at.ensures.front ∙ sym next.0) in
    record {
      left = next.1 ∙ ap lists_in (sym after);
      within = omega (arith, below);
      few = rw after (omega (arith, few, size));
      range = rw after (All-drop (λ node. node ≤ nodes_of c.args.instance.now) (end + 1) rest c.lists.invariant.range);
      filled = c.put.ensures (list_length nodes c.args.instance.now) c.args.out.now
          (to_z-of_z w64 c.tour_length.result fits ∙ number) c.lists.invariant.filled;
    }

pub returns : goal.returns
returns c =
    let nodes : List ℕ = c.args.nodes.now in
    let none : lists_in c.lists.rest.now ≡ [] = lists_none c.lists.rest.now (end_missing c.lists.rest.now c.in_default.ensures) in
    let left : drop c.lists.place (lists_in nodes) ≡ [] = c.lists.invariant.left ∙ none in
    let size : length (drop c.lists.place (lists_in nodes)) ≡ 0 = ap length left in
    let cut : length (drop c.lists.place (lists_in nodes)) ≡ length (lists_in nodes) - c.lists.place = length-drop c.lists.place (lists_in nodes) in
    let within : c.lists.place ≤ length (lists_in nodes) = c.lists.invariant.within in
    let all : c.lists.place ≡ length (lists_in nodes) = omega (arith, size, cut, within) in
    subst (λ (k : ℕ). IsFilled k (list_length nodes c.args.instance.now) c.args.out.now c.lists.out) all c.lists.invariant.filled
