-- The goals of `GatheredNodes::push_read` in src/list_sections.rt, which takes the number of a word, if it is a node
-- and there is capacity: what it ensures.
use Rattle.tsp_read.proofs.Prelude.{◌+◌, ◌≡◌, ◌++◌, ◌∷◌, [], false, refl, arith, tests, rules, Ok, FitsSigned, w64, nat_le, pos, to_z-of_z, node_or_end}
use Rattle.tsp_read.specs.declared.list_sections.TourList.{TourList}
use Rattle.tsp_read.proofs.SectionLists.{whole_node, after_node, few_left}
use Rattle.tsp_read.proofs.list_sections.GatheredNodes.push_read.Goals as goal

-- plan: the number is a node (`whole_node`) that has a place (`few_left`), and comes after the others (`after_node`)
pub returns-clause-taken : goal.returns-clause-taken
returns-clause-taken c = λ taken n words word whole h.
    let fits : FitsSigned w64 c.args.number = search rules in
    let from = rw (to_z-of_z w64 c.args.number fits) at c.in-Ok.ensures in
    let read : node_or_end 100000 word ≡ Ok (pos c.in-Ok.node) = whole_node c.args.number c.in-Ok.node word whole from (omega arith) (omega arith) in
    let list : TourList = c.args.self.now.list in
    let few : nat_le 1000000 list.count ≡ false = few_left list.count c.args.self.now.room c.args.self.now.within (omega arith) in
    let new : TourList = record { done = list.done; run = c.push_reserved.new.self; count = list.count + 1 } in
    after_node n c.in-Ok.node words word list new read few refl c.push_reserved.ensures.items refl h
