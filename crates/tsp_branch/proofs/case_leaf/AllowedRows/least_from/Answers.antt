-- The goals of `AllowedRows::least_from` in src/case_leaf.rt, which finds the least allowed link from a node: what its
-- calls require and what it ensures.
use Rattle.tsp_branch.proofs.Prelude.{◌≡◌, ◌+◌, ◌∙◌, Bool, length, inl, inr, arith, rules, FitsSigned, to_z, of_z, ap, sym, subst, w64, filter, ints, to_z-of_z, IsLeastFrom, stack_of, bears_on, decisions_in}
use Rattle.tsp_branch.specs.states.LeafRows.{no_link, IsOpenRow}
use Rattle.tsp_branch.proofs.CaseLeaves.{ends_inside, none_allowed, least_allowed}
use Rattle.tsp_branch.proofs.case_leaf.AllowedRows.least_from.Goals as goal

-- plan: the open links of the row are the allowed ones: there is none (`none_allowed`), or the least of them
-- (`least_allowed`)
pub close_row-requires-clause-own : goal.close_row-requires-clause-own
close_row-requires-clause-own g c =
    ends_inside (g.W.Weights.nodes c.args.self.now.weights.now) _ (bears_on c.args.self.now.case.now.by_node.directed c.args.from) (decisions_in c.args.self.now.case.now) c.at.result.now
    (c.fill.auto.row ∙ c.requires.room)
    (c.at.ensures (g.W.Weights.nodes c.args.self.now.weights.now) c.args.self.now.is_case c.requires.from.1) c.args.self.now.is_case.pairs

pub close_row-requires-clause-taken : goal.close_row-requires-clause-taken
close_row-requires-clause-taken g c =
    ends_inside (g.W.Weights.nodes c.args.self.now.weights.now) _ (λ decision. decision.taken) (decisions_in c.args.self.now.case.now) c.deref.result.now (c.fill.auto.row ∙ c.requires.room)
    (ap stack_of c.deref.ensures.value ∙ c.args.self.now.is_case.by_node.taken) c.args.self.now.is_case.pairs

pub returns-then-least-eq-CLOSED : goal.returns-then-least-eq-CLOSED
returns-then-least-eq-CLOSED g c =
    let n = g.W.Weights.nodes c.args.self.now.weights.now in
    let w = g.W.Weights.at c.args.self.now.weights.now in
    let long : n + 1 ≡ length c.close_row.new.row = omega (arith, c.requires.room, c.fill.auto.row, c.close_row.auto.row) in
    let own_is = subst (λ (d : Bool). stack_of c.at.result.now ≡ filter (bears_on d c.args.from) (decisions_in c.args.self.now.case.now)) c.args.self.now.direction
    (c.at.ensures n c.args.self.now.is_case c.requires.from.1) in
    let taken_is = ap stack_of c.deref.ensures.value ∙ c.args.self.now.is_case.by_node.taken in
    let open_row : IsOpenRow n w (decisions_in c.args.self.now.case.now) c.args.from c.close_row.new.row =
    c.close_row.ensures n w (decisions_in c.args.self.now.case.now) (omega (arith, long, c.close_row.auto.row)) c.fill.ensures.values own_is taken_is in
    let fits : FitsSigned w64 c.least_in-least.result = search rules in
    let is : c.least_in-least.result ≡ no_link = sym (to_z-of_z w64 c.least_in-least.result fits) ∙ ap (to_z w64) c.if-least-eq-CLOSED.true in
    none_allowed n w (decisions_in c.args.self.now.case.now) c.args.from c.close_row.new.row c.least_in-least.result open_row
    (λ x node. omega (arith, ints, c.fill.ensures.small x node, c.fill.ensures.values x node))
    (λ x node. c.least_in-least.ensures.below x node.0 (omega (arith, node.1, long))) is

pub returns : goal.returns
returns g c =
    let n = g.W.Weights.nodes c.args.self.now.weights.now in
    let w = g.W.Weights.at c.args.self.now.weights.now in
    let long : n + 1 ≡ length c.close_row.new.row = omega (arith, c.requires.room, c.fill.auto.row, c.close_row.auto.row) in
    let own_is = subst (λ (d : Bool). stack_of c.at.result.now ≡ filter (bears_on d c.args.from) (decisions_in c.args.self.now.case.now)) c.args.self.now.direction
    (c.at.ensures n c.args.self.now.is_case c.requires.from.1) in
    let taken_is = ap stack_of c.deref.ensures.value ∙ c.args.self.now.is_case.by_node.taken in
    let open_row : IsOpenRow n w (decisions_in c.args.self.now.case.now) c.args.from c.close_row.new.row =
    c.close_row.ensures n w (decisions_in c.args.self.now.case.now) (omega (arith, long, c.close_row.auto.row)) c.fill.ensures.values own_is taken_is in
    let fits : FitsSigned w64 c.least_in-least.result = search rules in
    let least : IsLeastFrom n w (decisions_in c.args.self.now.case.now) c.args.from c.least_in-least.result = elim c.least_in-least.ensures.reached [
      | inl none ↦ absurd (c.if-least-eq-CLOSED.false (ap (of_z w64) none))
      | inr found ↦ least_allowed n w (decisions_in c.args.self.now.case.now) c.args.from c.close_row.new.row c.least_in-least.result open_row
          (λ x node. omega (arith, ints, c.fill.ensures.small x node, c.fill.ensures.values x node))
          (λ x node. c.least_in-least.ensures.below x node.0 (omega (arith, node.1, long))) (λ is. c.if-least-eq-CLOSED.false (ap (of_z w64) is))
          found.0 (found.1, omega (arith, found.2, long)) found.3
    ] in
    rw (to_z-of_z w64 c.least_in-least.result fits) least
