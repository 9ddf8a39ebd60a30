-- The goals of `fill_at` in src/leaf_rows.rt, of the trait `Weights` for `CaseLeaf`: what its calls require and what it
-- ensures. It writes the weights between a node and some nodes into a row.
use Rattle.tsp_branch.proofs.Prelude.{◌≡◌, ◌∙◌, ℕ, ℤ, Bool, List, slice_index, arith, subst, filter, ints, least_at, lent_in, set_weight, Decision, stack_of, bears_on, decisions_in}
use Rattle.tsp_branch.proofs.CaseLeaves.{both_inside, changed_is}
use Rattle.tsp_branch.proofs.leaf_rows.CaseLeafWeights.fill_at.Goals as goal

pub change_row-requires : goal.change_row-requires
change_row-requires g c =
    let p = c.args.self.now in
    let n : ℕ = g.C.Costs.nodes p.context.now.costs.now in
    both_inside n _ (bears_on p.case.now.by_node.directed c.args.from) (decisions_in p.case.now) c.at.result.now (c.fill_combed_at.auto.row ∙ c.requires.room)
    (c.at.ensures n p.is_case c.requires.from.1) p.is_case.pairs

pub returns-then-not-is_empty : goal.returns-then-not-is_empty
returns-then-not-is_empty g c = record {
  values = λ k h. c.fill_by_kept.ensures.values _ (c.requires.to k h);
  small = λ k h. let size = c.fill_by_kept.ensures.sizes _ (c.requires.to k h) in omega (arith, ints, size.1);
}

-- plan: if pairs have no direction, each entry that is asked for is moved by the decisions at its node
-- (`changed_is`)
pub returns-then-not-self-clause-values : goal.returns-then-not-self-clause-values
returns-then-not-self-clause-values g c = λ k h.
    let q = c.args.self.now in
    let from : ℕ = c.args.from in
    let case : List Decision = decisions_in q.case.now in
    let w : ℕ → ℕ → ℤ = set_weight q.context.now.cases.now.scale q.potentials.now q.multipliers.now (lent_in q.context.now.families.now) (g.C.Costs.at q.context.now.costs.now) in
    let own_is = subst (λ (d : Bool). stack_of c.at.result.now ≡ filter (bears_on d from) case) (q.direction ∙ c.if-not-self.true)
    (c.at.ensures (g.C.Costs.nodes q.context.now.costs.now) q.is_case c.requires.from.1) in
    (changed_is case w from (slice_index c.args.to.now k) q.context.now.cases.now.directed c.at.result.now
    (least_at c.fill_combed_at.new.row (slice_index c.args.to.now k))
    (least_at c.change_row.new.row (slice_index c.args.to.now k))
    c.if-not-self.true q.once own_is (c.fill_combed_at.ensures.values k h) (c.fill_combed_at.ensures.sizes k h) (c.change_row.ensures (slice_index c.args.to.now k))).0

pub returns-then-not-self-clause-small : goal.returns-then-not-self-clause-small
returns-then-not-self-clause-small g c = λ k h.
    let q = c.args.self.now in
    let from : ℕ = c.args.from in
    let case : List Decision = decisions_in q.case.now in
    let w : ℕ → ℕ → ℤ = set_weight q.context.now.cases.now.scale q.potentials.now q.multipliers.now (lent_in q.context.now.families.now) (g.C.Costs.at q.context.now.costs.now) in
    let own_is = subst (λ (d : Bool). stack_of c.at.result.now ≡ filter (bears_on d from) case) (q.direction ∙ c.if-not-self.true)
    (c.at.ensures (g.C.Costs.nodes q.context.now.costs.now) q.is_case c.requires.from.1) in
    (changed_is case w from (slice_index c.args.to.now k) q.context.now.cases.now.directed c.at.result.now
    (least_at c.fill_combed_at.new.row (slice_index c.args.to.now k))
    (least_at c.change_row.new.row (slice_index c.args.to.now k))
    c.if-not-self.true q.once own_is (c.fill_combed_at.ensures.values k h) (c.fill_combed_at.ensures.sizes k h) (c.change_row.ensures (slice_index c.args.to.now k))).1
