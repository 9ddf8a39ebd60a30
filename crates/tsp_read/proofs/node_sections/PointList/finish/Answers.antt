-- The goals of `PointList::finish` in src/node_sections.rt, which returns the list by node, and whether a group is
-- missing: what it ensures.
use Rattle.tsp_file.specs.states.Drafts.{points_of}
use Rattle.tsp_read.proofs.CoordSteps.{all_taken}
use Rattle.tsp_read.proofs.node_sections.PointList.finish.Goals as goal

-- plan: in the plane and in space: each group has set its point, and words are wanted if groups are left to come
-- (`all_taken`)
pub returns : goal.returns
returns c = λ in_space n words h.
    let s = c.args.self in
    all_taken s.seen.items (points_of s.entries) s.left s.begun s.x s.y n words in_space h.read
