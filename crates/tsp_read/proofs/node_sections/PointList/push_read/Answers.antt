-- The goals of `PointList::push_read` in src/node_sections.rt, which takes a number as the node of a new group: what it
-- ensures.
use Rattle.tsp_read.proofs.Prelude.{rules, arith, FitsSigned, w64, to_z-of_z, points_of}
use Rattle.tsp_read.proofs.CoordSteps.{node_taken}
use Rattle.tsp_read.proofs.node_sections.PointList.push_read.Goals as goal

-- plan: no group has begun, and the number is that of a node without one (`node_taken`)
pub returns-in-Some-clause-taken : goal.returns-in-Some-clause-taken
returns-in-Some-clause-taken c = λ taken in_space n words word whole h.
    let s = c.args.self.now in
    let fits : FitsSigned w64 c.args.number = search rules in
    let new = rw c.as_slice.ensures.value at (c.in-Some.ensures.new word (rw (to_z-of_z w64 c.args.number fits) whole)) in
    let next = node_taken s.seen.items (points_of s.entries) s.left s.begun s.x s.y n words in_space h.read word c.in-Some.node (omega arith) c.in-None.is new in
    (next.0, record { kind = h.kind; read = next.1 })
