-- The goals of `TreeList::push_difference` in src/tree_sections.rt, which takes a difference: what it ensures.
use Rattle.tsp_read.proofs.Prelude.{◌≡◌, sym, Ok, FitsSigned, rules, w64, pos, neg_ℤ, to_z-of_z, whole_of, most_difference}
use Rattle.tsp_read.specs.states.HeldParts.{tree_held}
use Rattle.tsp_read.proofs.SectionLists.{difference_taken}
use Rattle.tsp_read.proofs.tree_sections.TreeList.push_difference.Goals as goal

-- plan: the pair of index and number is one difference more (`difference_taken`)
pub returns-clause-takes : goal.returns-clause-takes
returns-clause-takes c = λ n words h more inside begun.
    let read : whole_of c.args.word.now (neg_ℤ (pos most_difference)) (pos most_difference) ≡ Ok c.in_ok-difference.difference = sym c.in_ok-difference.ensures.computed in
    let next = difference_taken n words c.args.word.now (tree_held c.args.self.now) c.args.index c.in_ok-difference.difference h.read more inside begun read in
    let fits : FitsSigned w64 c.in_ok-difference.difference = search rules in
    (next.0, record { nodes = h.nodes; families = h.families; indices = h.indices; read = rw (c.in_ok-push.ensures.items, to_z-of_z w64 c.in_ok-difference.difference fits) next.1; few = h.few })
