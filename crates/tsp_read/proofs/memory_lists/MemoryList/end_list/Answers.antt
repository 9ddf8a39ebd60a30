-- The goals of `MemoryList::end_list` in src/memory_lists.rt, which ends a list: what it ensures.
use Rattle.tsp_read.proofs.Prelude.{◌∙◌, ap, map, refl, map_push}
use Rattle.tsp_read.proofs.SectionLists.{where_moved}
use Rattle.tsp_read.proofs.memory_lists.MemoryList.end_list.Goals as goal

-- plan: the gathered list is moved to the end of the lists (`where_moved`)
pub returns-clause-done : goal.returns-clause-done
returns-clause-done c =
    let s = c.args.self.now in
    where_moved c.move_to_end.result _ _ c.move_to_end.ensures.lists c.move_to_end.ensures.list (λ lists nodes.
    rw (ap (map (λ list. list.items)) lists ∙ map_push (λ list. list.items) s.lists.items s.nodes, nodes) refl)
