-- The goals of `near_by_node` in src/judged_memory.rt: its loop.
use Rattle.tsp_routing.proofs.Prelude.{◌<◌, ◌+◌, ◌-◌, ◌∙◌, ℕ, List, length, get_or, arith, length-set}
use Rattle.tsp_routing.proofs.JudgedLists.{owner_in, near_more}
use Rattle.tsp_routing.proofs.judged_memory.near_by_node.Goals as goal

-- plan: one list more, from the last one back
pub lists-preserved : goal.lists-preserved
lists-preserved c =
    let h = c.lists.invariant in
    let list : List ℕ = c.as_slice-list.result.now in
    let there = owner_in c.args.nodes c.args.lists.now (length c.args.lists.now - 1 - c.lists.back) c.index-lists-lists.result list
    c.requires.lists (omega (arith, c.lists-test.true)) c.index-lists-lists.is c.as_slice-list.ensures.value in
    let inside : get_or list 0 0 < length c.lists.near.items = let places = h.places in let most = there.0.1 in omega (arith, places, most) in
    record {
      places = length-set c.lists.near.items (get_or list 0 0) c.in_ok-near-2.field-0 ∙ h.places;
      are = near_more c.args.nodes c.args.lists.now c.lists.near.items c.lists.back c.index-lists-lists.result c.in_ok-near-2.field-0 list
          c.lists-test.true c.index-lists-lists.is c.as_slice-list.ensures.value c.in_ok-near-2.ensures inside h.are;
    }
