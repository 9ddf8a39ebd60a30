-- The goals of `NumberList::finish` in src/node_sections.rt, which returns the list by node, and whether a group is
-- missing: what it ensures.
use Rattle.tsp_read.proofs.Prelude.{refl, Amount}
use Rattle.tsp_read.proofs.GroupSteps as groups
use Rattle.tsp_read.proofs.node_sections.NumberList.finish.Goals as goal

-- plan: each group has set the entry of its node (`finish`); words are wanted exactly if groups are left to come
-- (`to_come`)
pub returns : goal.returns
returns c = λ low high n words h.
    (groups.finish (Amount low high) h.read, groups.to_come (Amount low high) h.read refl)
