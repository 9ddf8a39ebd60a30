-- The goals of `weight_within` in src/boxed.rt, of the trait `BoxedWeights` for `BoxedLeaf`: what it ensures. It
-- returns the weight before it is lowered, if that is less than a number.
use Rattle.tsp_branch.proofs.Prelude.{◌≡◌, ◌∙◌, ℤ, List, ◌≤ℤ◌, ◌<ℤ◌, ap, sym, subst, arith, rules, to_z, of_z, FitsSigned, w64, pos, ◌+ℤ◌, ints, to_z-of_z, least_at, Decision, lent_in, set_weight, changes, decisions_in, small_multipliers}
use Rattle.tsp_theory.proofs.Trees.{less_of, not_less_of}
use Rattle.tsp_branch.specs.states.LeafRows.{upwards, raised}
use Rattle.tsp_branch.proofs.BoxedLeaves.{base_below, upwards_less, upwards_same}
use Rattle.tsp_branch.proofs.boxed.BoxedLeafBoxedWeights.weight_within.Goals as goal

-- plan: the base is at most the weight without lowerings (`base_below`), as sets and decisions only add. So a sum that
-- is above the most may end early
pub returns-then-base-most-clause-no_less : goal.returns-then-base-most-clause-no_less
returns-then-base-most-clause-no_less g c = λ above.
    let p = c.args.self.now in
    let q = p.leaf.now in
    let case : List Decision = decisions_in p.leaf.now.case.now in
    let fits : FitsSigned w64 c.base-base.result = search rules in
    let back = to_z-of_z w64 c.base-base.result fits in
    let below = base_below q.context.now.cases.now.scale q.potentials.now q.multipliers.now
    (lent_in q.context.now.families.now) (g.C.Costs.at q.context.now.costs.now) c.args.from.now.site.node
    c.args.to.now.site.node (least_at q.moved.now c.args.from.now.site.node)
    (least_at q.moved.now c.args.to.now.site.node) c.base-base.result q.context.now.families.now.once
    (p.exact c.args.from.now.site.node c.requires.from.site.node_in).0
    (p.exact c.args.to.now.site.node c.requires.to.site.node_in).0 c.base-base.ensures.value case
    (small_multipliers _ q.context.now.families.now.crossed.items _ _ q.context.now.families.now.some q.numbers)
    (q.numbers.each_family ∙ q.context.now.families.now.as_many) q.context.now.families.now.many q.context.now.families.now.as_many in
    omega (arith, ints, above, back, below)

pub returns-then-change-lt0-clause-less : goal.returns-then-change-lt0-clause-less
returns-then-change-lt0-clause-less g c = λ low.
    let p = c.args.self.now in
    let q = p.leaf.now in
    let case : List Decision = decisions_in p.leaf.now.case.now in
    let w = set_weight q.context.now.cases.now.scale q.potentials.now q.multipliers.now (lent_in q.context.now.families.now) (g.C.Costs.at q.context.now.costs.now) in
    let change : ℤ = c.change-change.result in
    let change_fits : FitsSigned w64 c.change-change.result = search rules in
    let fits : FitsSigned w64 c.combed-combed.result = search rules in
    let zero_fits : FitsSigned w64 (pos 0) = omega (arith, ints) in
    let less : change <ℤ pos 0 = less_of change (pos 0) change_fits zero_fits c.if-change-lt0.true in
    let none : upwards (changes case c.args.from.now.site.node c.args.to.now.site.node) ≡ pos 0 = ap upwards (sym c.change-change.ensures.value) ∙ upwards_less change less in
    let is : to_z w64 (of_z w64 c.combed-combed.result) ≡ raised case w c.args.from.now.site.node c.args.to.now.site.node =
    to_z-of_z w64 c.combed-combed.result fits ∙ (let value = c.combed-combed.ensures.value in omega (arith, ints, value, none)) in
    is

pub returns-then-change-lt0-clause-no_less : goal.returns-then-change-lt0-clause-no_less
returns-then-change-lt0-clause-no_less g c = λ above.
    let p = c.args.self.now in
    let q = p.leaf.now in
    let case : List Decision = decisions_in p.leaf.now.case.now in
    let w = set_weight q.context.now.cases.now.scale q.potentials.now q.multipliers.now (lent_in q.context.now.families.now) (g.C.Costs.at q.context.now.costs.now) in
    let change : ℤ = c.change-change.result in
    let change_fits : FitsSigned w64 c.change-change.result = search rules in
    let fits : FitsSigned w64 c.combed-combed.result = search rules in
    let zero_fits : FitsSigned w64 (pos 0) = omega (arith, ints) in
    let less : change <ℤ pos 0 = less_of change (pos 0) change_fits zero_fits c.if-change-lt0.true in
    let none : upwards (changes case c.args.from.now.site.node c.args.to.now.site.node) ≡ pos 0 = ap upwards (sym c.change-change.ensures.value) ∙ upwards_less change less in
    let is : to_z w64 (of_z w64 c.combed-combed.result) ≡ raised case w c.args.from.now.site.node c.args.to.now.site.node =
    to_z-of_z w64 c.combed-combed.result fits ∙ (let value = c.combed-combed.ensures.value in omega (arith, ints, value, none)) in
    subst (λ (z : ℤ). c.args.most ≤ℤ z) is above

pub returns-else-change-lt0-clause-less : goal.returns-else-change-lt0-clause-less
returns-else-change-lt0-clause-less g c = λ low.
    let p = c.args.self.now in
    let q = p.leaf.now in
    let case : List Decision = decisions_in p.leaf.now.case.now in
    let w = set_weight q.context.now.cases.now.scale q.potentials.now q.multipliers.now (lent_in q.context.now.families.now) (g.C.Costs.at q.context.now.costs.now) in
    let change : ℤ = c.change-change.result in
    let change_fits : FitsSigned w64 c.change-change.result = search rules in
    let zero_fits : FitsSigned w64 (pos 0) = omega (arith, ints) in
    let some : pos 0 ≤ℤ change = not_less_of change (pos 0) change_fits zero_fits c.if-change-lt0.false in
    let all : upwards (changes case c.args.from.now.site.node c.args.to.now.site.node) ≡ change = ap upwards (sym c.change-change.ensures.value) ∙ upwards_same change some in
    let is : to_z w64 (of_z w64 (to_z w64 (of_z w64 c.combed-combed.result) +ℤ to_z w64 (of_z w64 c.change-change.result))) ≡ raised case w c.args.from.now.site.node c.args.to.now.site.node =
    (let value = c.combed-combed.ensures.value in let a = c.combed-combed.ensures.size in let b = c.change-change.ensures.size in omega (arith, ints, value, all, a.0, a.1, b.0, b.1)) in
    is

pub returns-else-change-lt0-clause-no_less : goal.returns-else-change-lt0-clause-no_less
returns-else-change-lt0-clause-no_less g c = λ above.
    let p = c.args.self.now in
    let q = p.leaf.now in
    let case : List Decision = decisions_in p.leaf.now.case.now in
    let w = set_weight q.context.now.cases.now.scale q.potentials.now q.multipliers.now (lent_in q.context.now.families.now) (g.C.Costs.at q.context.now.costs.now) in
    let change : ℤ = c.change-change.result in
    let change_fits : FitsSigned w64 c.change-change.result = search rules in
    let zero_fits : FitsSigned w64 (pos 0) = omega (arith, ints) in
    let some : pos 0 ≤ℤ change = not_less_of change (pos 0) change_fits zero_fits c.if-change-lt0.false in
    let all : upwards (changes case c.args.from.now.site.node c.args.to.now.site.node) ≡ change = ap upwards (sym c.change-change.ensures.value) ∙ upwards_same change some in
    let is : to_z w64 (of_z w64 (to_z w64 (of_z w64 c.combed-combed.result) +ℤ to_z w64 (of_z w64 c.change-change.result))) ≡ raised case w c.args.from.now.site.node c.args.to.now.site.node =
    (let value = c.combed-combed.ensures.value in let a = c.combed-combed.ensures.size in let b = c.change-change.ensures.size in omega (arith, ints, value, all, a.0, a.1, b.0, b.1)) in
    subst (λ (z : ℤ). c.args.most ≤ℤ z) is above
