-- The goals of `are_teeth` in src/good_families.rt, which tests whether sets are teeth of a handle: its loop and what
-- it ensures.
use Rattle.tsp_cases.proofs.Prelude.{◌∙◌, ℕ, Bool, refl, false, both_ways, iff_false}
use Rattle.tsp_cases.specs.states.GoodFamilies.{is_marked}
use Rattle.tsp_cases.proofs.GoodFamilies.{nodes_here, teeth_on, tooth_here}
use Rattle.tsp_cases.proofs.good_families.are_teeth.Goals as goal

pub returns-then-not-is_tooth-clause-teeth : goal.returns-then-not-is_tooth-clause-teeth
returns-then-not-is_tooth-clause-teeth c = λ n are.
    let handle : ℕ → Bool = is_marked c.args.handles.now c.args.mark in
    let used : ℕ → Bool = is_marked c.teeth.used c.args.mark in
    let start : ℕ → Bool = is_marked c.args.used.now c.args.mark in
    let own = nodes_here n handle used start c.args.teeth.now c.teeth.tooth-index c.tooth-item.result c.deref-nodes.result.now c.teeth-test.true c.tooth-item.is c.deref-nodes.ensures.value are in (
      λ impossible. absurd (both_ways false refl impossible),
      λ all. absurd (iff_false (c.is_tooth.ensures n own) c.if-not-is_tooth.true
          (tooth_here n handle used start c.args.teeth.now c.teeth.tooth-index c.tooth-item.result c.deref-nodes.result.now c.teeth-test.true c.tooth-item.is c.deref-nodes.ensures.value
          (c.teeth.invariant.rest n are) all).1),
    )

-- plan: by whether the next set is a tooth whose nodes aren't marked by an earlier one (`tooth_here`); then its nodes
-- are marked (`teeth_on`)
pub teeth-preserved : goal.teeth-preserved
teeth-preserved c =
    let h = c.teeth.invariant in
    let handle : ℕ → Bool = is_marked c.args.handles.now c.args.mark in
    let used : ℕ → Bool = is_marked c.teeth.used c.args.mark in
    let start : ℕ → Bool = is_marked c.args.used.now c.args.mark in
    record {
      long = c.mark_nodes.ensures.length ∙ h.long;
      others = λ other differ none. c.mark_nodes.ensures.others other differ (h.others other differ none);
      rest = λ n are.
          let own = nodes_here n handle used start c.args.teeth.now c.teeth.tooth-index c.tooth-item.result c.deref-nodes.result.now c.teeth-test.true c.tooth-item.is
          c.deref-nodes.ensures.value are in
          teeth_on n handle used start c.args.teeth.now c.teeth.tooth-index c.tooth-item.result c.deref-nodes.result.now c.teeth-test.true c.tooth-item.is c.deref-nodes.ensures.value
          (is_marked c.mark_nodes.new.marks c.args.mark) (h.rest n are) (c.mark_nodes.ensures.new.0 c.if-not-mark_nodes.false) ((c.is_tooth.ensures n own).0 c.if-not-is_tooth.false)
          (c.mark_nodes.ensures.marked c.if-not-mark_nodes.false).own;
    }
