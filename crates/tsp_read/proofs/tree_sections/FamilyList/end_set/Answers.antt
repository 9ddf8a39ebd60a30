-- The goals of `FamilyList::end_set` in src/tree_sections.rt, which ends a set: what it ensures.
use Rattle.tsp_read.proofs.Prelude.{◌∙◌, ap, map, refl, map_push}
use Rattle.tsp_read.proofs.SectionLists.{where_moved}
use Rattle.tsp_read.proofs.tree_sections.FamilyList.end_set.Goals as goal

-- plan: the gathered set is moved to the end of the family (`where_moved`)
pub returns-clause-done : goal.returns-clause-done
returns-clause-done c =
    let s = c.args.self.now in
    where_moved c.move_to_end.result _ _ c.move_to_end.ensures.lists c.move_to_end.ensures.list (λ sets nodes.
    rw (ap (map (λ set. set.items)) sets ∙ map_push (λ set. set.items) s.sets.items s.nodes, nodes) refl)
