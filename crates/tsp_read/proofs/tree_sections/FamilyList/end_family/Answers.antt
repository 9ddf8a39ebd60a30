-- The goals of `FamilyList::end_family` in src/tree_sections.rt, which ends a family: what it ensures.
use Rattle.tsp_read.proofs.Prelude.{◌∙◌, ap, map, refl, map_push, families_of}
use Rattle.tsp_read.proofs.SectionLists.{where_moved}
use Rattle.tsp_read.proofs.tree_sections.FamilyList.end_family.Goals as goal

-- plan: the gathered family is moved to the end of the list (`where_moved`)
pub returns-clause-done : goal.returns-clause-done
returns-clause-done c =
    let s = c.args.self.now in
    where_moved c.move_to_end.result _ _ c.move_to_end.ensures.lists c.move_to_end.ensures.list (λ families sets.
    rw (ap families_of families ∙ map_push (λ family. map (λ set. set.items) family.items) s.families.items s.sets, sets) refl)
