-- The goals of `lowered` in src/boxed.rt, of the trait `BoxedWeights` for `BoxedLeaf`: that indices are in range,
-- what its calls require and what it ensures. It returns one of the nodes to which a node's weight may be lowered, and
-- the weight.
use Rattle.tsp_branch.proofs.Prelude.{◌≡◌, ◌∙◌, ◌<◌, ◌==◌, Bool, true, false, List, length, get_or, refl, inl, inr, ap, sym, subst, arith, rules, FitsSigned, w64, if◌then◌else◌, filter, cases_Bool, eq-eqb, ne_eqb, to_z-of_z, length-map, IsNode, Decision, lent_in, set_weight, IsDecision, stack_of, bears_on, decisions_in, changes_are}
use Rattle.tsp_branch.specs.states.LeafRows.{other_of, others_of}
use Rattle.tsp_branch.proofs.CaseLeaves.{all_passed}
use Rattle.tsp_branch.proofs.BoxedLeaves.{listed_is, listed_at_index}
use Rattle.tsp_branch.proofs.boxed.BoxedLeafBoxedWeights.lowered.Goals as goal
use Rattle.tsp_branch.proofs.boxed.BoxedLeafBoxedWeights.lowered.Goals.{then-first-from, else-first-from}

-- plan: the listed pair has the leaf's own weight (`changes_are`), at its place in the list (`listed_at_index`)
pub offset_bounds-at-index : goal.offset_bounds-at-index
offset_bounds-at-index g c =
    let boxed = c.args.self.now in
    let p = boxed.leaf.now in
    let n = g.C.Costs.nodes p.context.now.costs.now in
    let from = c.args.from in
    let case : List Decision = decisions_in p.case.now in
    let own : List Decision = c.at.result.now in
    let own_is = subst (λ (d : Bool). stack_of c.at.result.now ≡ filter (bears_on d from) case) (p.direction ∙ boxed.undirected) (c.at.ensures n p.is_case c.requires.from.1) in
    let long : length own ≡ length (others_of case from) = sym (length-map own (other_of from)) ∙ ap length (listed_is case own from own_is) in
    let inside : c.args.index < length own = omega (arith, c.requires.index, long) in
    omega (arith, inside, c.at.type_inv.1)

pub bounds-at-index : goal.bounds-at-index
bounds-at-index g c =
    let boxed = c.args.self.now in
    let p = boxed.leaf.now in
    let n = g.C.Costs.nodes p.context.now.costs.now in
    let from = c.args.from in
    let case : List Decision = decisions_in p.case.now in
    let own : List Decision = c.at.result.now in
    let own_is = subst (λ (d : Bool). stack_of c.at.result.now ≡ filter (bears_on d from) case) (p.direction ∙ boxed.undirected) (c.at.ensures n p.is_case c.requires.from.1) in
    let long : length own ≡ length (others_of case from) = sym (length-map own (other_of from)) ∙ ap length (listed_is case own from own_is) in
    let inside : c.args.index < length own = omega (arith, c.requires.index, long) in
    inside

pub bounds-at-index-2 : goal.bounds-at-index-2
bounds-at-index-2 g c =
    let boxed = c.args.self.now in
    let p = boxed.leaf.now in
    let n = g.C.Costs.nodes p.context.now.costs.now in
    let from = c.args.from in
    let case : List Decision = decisions_in p.case.now in
    let own : List Decision = c.at.result.now in
    let own_is = subst (λ (d : Bool). stack_of c.at.result.now ≡ filter (bears_on d from) case) (p.direction ∙ boxed.undirected) (c.at.ensures n p.is_case c.requires.from.1) in
    let long : length own ≡ length (others_of case from) = sym (length-map own (other_of from)) ∙ ap length (listed_is case own from own_is) in
    let inside : c.args.index < length own = omega (arith, c.requires.index, long) in
    inside

pub decided-requires-clause-to : goal.decided-requires-clause-to
decided-requires-clause-to g c =
    let boxed = c.args.self.now in
    let p = boxed.leaf.now in
    let n = g.C.Costs.nodes p.context.now.costs.now in
    let from = c.args.from in
    let case : List Decision = decisions_in p.case.now in
    let own : List Decision = c.at.result.now in
    let own_is = subst (λ (d : Bool). stack_of c.at.result.now ≡ filter (bears_on d from) case) (p.direction ∙ boxed.undirected) (c.at.ensures n p.is_case c.requires.from.1) in
    let long : length own ≡ length (others_of case from) = sym (length-map own (other_of from)) ∙ ap length (listed_is case own from own_is) in
    let inside : c.args.index < length own = omega (arith, c.requires.index, long) in
    let decision = (all_passed (IsDecision n) (bears_on false from) case own own_is p.is_case.pairs) c.args.index (record { pair = (0, 0); taken = false }) inside in
    elim c.if-first-from.branch [
      | then-first-from u ↦ subst (IsNode n) (sym u.to-is) decision.1
      | else-first-from u ↦ subst (IsNode n) (sym u.to-is) decision.0
    ]

pub returns-clause-node : goal.returns-clause-node
returns-clause-node g c =
    let boxed = c.args.self.now in
    let p = boxed.leaf.now in
    let n = g.C.Costs.nodes p.context.now.costs.now in
    let from = c.args.from in
    let case : List Decision = decisions_in p.case.now in
    let own : List Decision = c.at.result.now in
    let own_is = subst (λ (d : Bool). stack_of c.at.result.now ≡ filter (bears_on d from) case) (p.direction ∙ boxed.undirected) (c.at.ensures n p.is_case c.requires.from.1) in
    let long : length own ≡ length (others_of case from) = sym (length-map own (other_of from)) ∙ ap length (listed_is case own from own_is) in
    let inside : c.args.index < length own = omega (arith, c.requires.index, long) in
    let decision = (all_passed (IsDecision n) (bears_on false from) case own own_is p.is_case.pairs) c.args.index (record { pair = (0, 0); taken = false }) inside in
    elim c.if-first-from.branch [
      | then-first-from u ↦ subst (IsNode n) (sym u.to-is) decision.1
      | else-first-from u ↦ subst (IsNode n) (sym u.to-is) decision.0
    ]

pub returns-clause-listed : goal.returns-clause-listed
returns-clause-listed g c =
    let boxed = c.args.self.now in
    let p = boxed.leaf.now in
    let n = g.C.Costs.nodes p.context.now.costs.now in
    let from = c.args.from in
    let case : List Decision = decisions_in p.case.now in
    let own : List Decision = c.at.result.now in
    let own_is = subst (λ (d : Bool). stack_of c.at.result.now ≡ filter (bears_on d from) case) (p.direction ∙ boxed.undirected) (c.at.ensures n p.is_case c.requires.from.1) in
    let entry : Decision = get_or own c.args.index (record { pair = (0, 0); taken = false }) in
    let to_is : c.if-first-from.to ≡ other_of from entry = elim c.if-first-from.branch [
      | then-first-from u ↦ u.to-is ∙ sym (ap (λ b. if b then entry.pair.1 else entry.pair.0) (eq-eqb entry.pair.0 from u.if-first-from.true))
      | else-first-from u ↦ u.to-is ∙ sym (ap (λ b. if b then entry.pair.1 else entry.pair.0) (ne_eqb entry.pair.0 from u.if-first-from.false))
    ] in
    let none : other_of from (record { pair = (0, 0); taken = false }) ≡ 0 = elim (cases_Bool (0 == from)) [
      | inl here ↦ rw here refl
      | inr other ↦ rw other refl
    ] in
    listed_at_index case own from c.args.index (record { pair = (0, 0); taken = false }) own_is none ∙ sym to_is

pub returns-clause-weight : goal.returns-clause-weight
returns-clause-weight g c =
    let q = c.args.self.now.leaf.now in
    let w = set_weight q.context.now.cases.now.scale q.potentials.now q.multipliers.now (lent_in q.context.now.families.now) (g.C.Costs.at q.context.now.costs.now) in
    let fits : FitsSigned w64 c.decided.result = search rules in
    to_z-of_z w64 c.decided.result fits ∙ c.decided.ensures ∙ sym (changes_are (decisions_in c.args.self.now.leaf.now.case.now) w c.args.from c.if-first-from.to)
