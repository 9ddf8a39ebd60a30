-- The goals of `NodeDecisions::add` in src/open_case.rt: what it ensures.
use Rattle.std.proofs.Common.{◌∙◌, ◌∷◌, inl, inr, refl, sym, ap}
use Rattle.tsp_cases.specs.declared.decision.Decision.{Decision}
use Rattle.tsp_cases.specs.states.OpenCases.{stack_of}
use Rattle.tsp_cases.proofs.OpenCases.{ListsNow, now_more, taken_more, filter_out, is_taken, by_node_now}
use Rattle.tsp_cases.proofs.open_case.NodeDecisions.add.Goals as goal
use Rattle.tsp_cases.proofs.open_case.NodeDecisions.add.Goals.{then-not-self+in_ok-list_at-2, else-not-self}

-- plan: the decision is last in the lists of its nodes (`now_more`), and of the taken ones (`taken_more`). If pairs
-- have a direction, its first node alone lists it
pub returns-in_ok-push-clause-more : goal.returns-in_ok-push-clause-more
returns-in_ok-push-clause-more c = λ n case was.
    let d : Decision = c.args.decision in
    let old = c.args.self.now in
    let now : ListsNow n (d ∷ case) old c.if-not-self.self = elim c.if-not-self.branch [
      | then-not-self+in_ok-list_at-2 w ↦ rw w.self-is (now_more n d case old c.list_at.new.lists.items _ was refl refl c.requires.2 c.requires.0 c.requires.1 c.in_ok-list_at.ensures
          (inr (w.if-not-self.true, w.in_ok-list_at-2.ensures)))
      | else-not-self w ↦ rw w.self-is (now_more n d case old c.list_at.new.lists.items _ was refl refl c.requires.2 c.requires.0 c.requires.1 c.in_ok-list_at.ensures
          (inl (w.if-not-self.false, refl)))
    ] in
    by_node_now n (d ∷ case) old c.if-not-self.self _ now refl refl
    (taken_more d case c.if-not-self.self.taken.items _ c.if-decision.true (ap stack_of (ap (λ v. v.items) now.taken) ∙ was.taken) c.in_ok-push.ensures.items)

pub returns-else-decision-clause-more : goal.returns-else-decision-clause-more
returns-else-decision-clause-more c = λ n case was.
    let d : Decision = c.args.decision in
    let old = c.args.self.now in
    let now : ListsNow n (d ∷ case) old c.if-not-self.self = elim c.if-not-self.branch [
      | then-not-self+in_ok-list_at-2 w ↦ rw w.self-is (now_more n d case old c.list_at.new.lists.items _ was refl refl c.requires.2 c.requires.0 c.requires.1 c.in_ok-list_at.ensures
          (inr (w.if-not-self.true, w.in_ok-list_at-2.ensures)))
      | else-not-self w ↦ rw w.self-is (now_more n d case old c.list_at.new.lists.items _ was refl refl c.requires.2 c.requires.0 c.requires.1 c.in_ok-list_at.ensures
          (inl (w.if-not-self.false, refl)))
    ] in
    by_node_now n (d ∷ case) old c.if-not-self.self _ now refl refl
    (ap (λ v. stack_of v.items) now.taken ∙ was.taken ∙ sym (filter_out is_taken d case c.if-decision.false))
