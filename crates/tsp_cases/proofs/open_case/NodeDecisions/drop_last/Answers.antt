-- The goals of `NodeDecisions::drop_last` in src/open_case.rt: what it ensures.
use Rattle.std.proofs.Common.{◌∙◌, ◌≡◌, length, inl, inr, refl, sym, ap, arith}
use Rattle.tsp_cases.specs.declared.decision.Decision.{Decision}
use Rattle.tsp_cases.specs.states.OpenCases.{stack_of}
use Rattle.tsp_cases.proofs.OpenCases.{ListsNow, now_less, taken_less, filter_out, is_taken, by_node_now}
use Rattle.tsp_cases.proofs.open_case.NodeDecisions.drop_last.Goals as goal
use Rattle.tsp_cases.proofs.open_case.NodeDecisions.drop_last.Goals.{then-not-self, else-not-self}

-- plan: the last decision leaves the lists of its nodes (`now_less`), and the taken ones (`taken_less`). If pairs
-- have a direction, its first node alone lists it
pub returns-then-decision-clause-less : goal.returns-then-decision-clause-less
returns-then-decision-clause-less c = λ n case was.
    let d : Decision = c.args.decision in
    let old = c.args.self.now in
    let now : ListsNow n case old c.if-not-self.self = elim c.if-not-self.branch [
      | then-not-self w ↦ rw w.self-is (now_less n d case old c.unlist_at.new.lists.items _ was refl refl c.requires.2 c.unlist_at.ensures
          (inr (w.if-not-self.true, w.unlist_at-then-not-self.ensures)))
      | else-not-self w ↦ rw w.self-is (now_less n d case old c.unlist_at.new.lists.items _ was refl refl c.requires.2 c.unlist_at.ensures (inl (w.if-not-self.false, refl)))
    ] in
    let long : c.if-not-self.self.taken.len ≡ length c.if-not-self.self.taken.items = omega arith in
    by_node_now n case old c.if-not-self.self _ now refl refl
    (taken_less d case c.if-not-self.self.taken.items c.pop.new.self.items c.if-decision.true (ap (λ v. stack_of v.items) now.taken ∙ was.taken) (rw (sym long) c.pop.ensures.rest))

pub returns-else-decision-clause-less : goal.returns-else-decision-clause-less
returns-else-decision-clause-less c = λ n case was.
    let d : Decision = c.args.decision in
    let old = c.args.self.now in
    let now : ListsNow n case old c.if-not-self.self = elim c.if-not-self.branch [
      | then-not-self w ↦ rw w.self-is (now_less n d case old c.unlist_at.new.lists.items _ was refl refl c.requires.2 c.unlist_at.ensures
          (inr (w.if-not-self.true, w.unlist_at-then-not-self.ensures)))
      | else-not-self w ↦ rw w.self-is (now_less n d case old c.unlist_at.new.lists.items _ was refl refl c.requires.2 c.unlist_at.ensures (inl (w.if-not-self.false, refl)))
    ] in
    by_node_now n case old c.if-not-self.self _ now refl refl
    (ap (λ v. stack_of v.items) now.taken ∙ was.taken ∙ filter_out is_taken d case c.if-decision.false)
