-- The goals of `unmarked_node` in src/section_builder.rt, which returns the node of a group, if it is one and no
-- earlier group has it: what it ensures.
use Rattle.tsp_read.proofs.Prelude.{◌≡◌, ◌-◌, false, slice_index_or, rules, arith, FitsSigned, w64, to_z-of_z}
use Rattle.tsp_read.proofs.SectionLists.{unmarked}
use Rattle.tsp_read.proofs.section_builder.unmarked_node.Goals as goal

-- plan: the node isn't marked, so it is a new one (`unmarked`)
pub returns-clause-new : goal.returns-clause-new
returns-clause-new c = λ word whole.
    let fits : FitsSigned w64 c.args.number = search rules in
    let from = rw (to_z-of_z w64 c.args.number fits) at c.in-Ok.ensures in
    let free : slice_index_or c.args.seen.now (c.in-Ok.node - 1) false ≡ false = search rules in
    unmarked c.args.seen.now c.args.number c.in-Ok.node word whole from (omega arith) (omega arith) free
