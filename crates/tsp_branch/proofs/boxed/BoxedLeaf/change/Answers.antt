-- The goals of `BoxedLeaf::change` in src/boxed.rt, which returns what decisions add to a weight: what it ensures.
use Rattle.tsp_branch.proofs.Prelude.{◌≡◌, ◌∙◌, ℤ, Bool, List, ap, sym, subst, arith, rules, to_z, of_z, FitsSigned, w64, int_wrap, neg_ℤ, filter, ints, to_z-of_z, int_wrap_fits, IsFromTo, Decision, decided_number, changes, stack_of, bears_on, decisions_in, within, changes_listed}
use Rattle.tsp_branch.proofs.boxed.BoxedLeaf.change.Goals as goal

-- plan: the list of the node with fewer decisions has those of the pair (`changes_listed`)
pub returns : goal.returns
returns g c =
    let boxed = c.args.self.now in
    let p = boxed.leaf.now in
    let n = g.C.Costs.nodes p.context.now.costs.now in
    let from = c.args.from in
    let to = c.args.to in
    let case : List Decision = decisions_in p.case.now in
    let own_is = subst (λ (d : Bool). stack_of c.at.result.now ≡ filter (bears_on d from) case) (p.direction ∙ boxed.undirected) (c.at.ensures n p.is_case c.requires.1) in
    let fits : FitsSigned w64 c.change_between.result = search rules in
    let size = boxed.once from to in
    let change : ℤ = changes case from to in
    let whole : FitsSigned w64 change = within change (omega (arith, ints, size.0), omega (arith, ints, size.1)) in
    let is : to_z w64 (of_z w64 c.change_between.result) ≡ change =
    to_z-of_z w64 c.change_between.result fits ∙ sym (int_wrap_fits w64 c.change_between.result fits) ∙ c.change_between.ensures
    ∙ ap (int_wrap w64) (changes_listed case c.at.result.now from to own_is) ∙ int_wrap_fits w64 change whole in
    record { value = is; size = subst (λ (z : ℤ). IsFromTo (neg_ℤ decided_number) decided_number z) (sym is) size }
