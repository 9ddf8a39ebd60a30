-- The goals of `is_comb` in src/good_families.rt, which says whether sets are a lone set or a comb: what its calls
-- require and what it ensures.
use Rattle.tsp_cases.proofs.Prelude.{◌≡◌, ◌∙◌, [], ◌<◌, rules, ℕ, Bool, List, length, subst, sym, refl, false, ◌↔◌, IsTrue, All, both_ways, iff_false, eqb-true, IsNode, Vec}
use Rattle.tsp_cases.specs.Crossings.{has}
use Rattle.tsp_cases.specs.Families.{comb_of, IsLoneSet}
use Rattle.tsp_cases.specs.states.GoodFamilies.{is_marked}
use Rattle.tsp_cases.proofs.GoodFamilies.{rest_all, first_all, counted, handle_new, comb_found, teeth_found, own_marks, lone_found, lone_in, no_sets}
use Rattle.tsp_cases.proofs.good_families.is_comb.Goals as goal

-- plan: by the sets: a handle, an odd number of teeth that don't meet (`comb_found`), or a lone set (`lone_found`)
pub mark_nodes-requires : goal.mark_nodes-requires
mark_nodes-requires c = first_all 0 c.args.sets.now c.in-Some.handle.now c.in-Some.teeth.now c.deref.result.now c.in-Some.ensures.cases.0 c.deref.ensures.value
    (λ node. node < length c.args.handles.now) c.requires.handle_places

pub returns-then-not-mark_nodes-clause-comb : goal.returns-then-not-mark_nodes-clause-comb
returns-then-not-mark_nodes-clause-comb c = λ n long are. (
  λ impossible. absurd (both_ways false refl impossible),
  λ comb. absurd (iff_false c.mark_nodes.ensures.new c.if-not-mark_nodes.true
      (handle_new n c.args.sets.now c.in-Some.handle.now c.in-Some.teeth.now c.deref.result.now c.in-Some.ensures.cases.0 c.deref.ensures.value
      (is_marked c.args.handles.now c.args.mark) c.requires.fresh_handle comb)),
)

pub returns-then-is_empty-clause-comb : goal.returns-then-is_empty-clause-comb
returns-then-is_empty-clause-comb c = λ n long are.
    let sets : List (Vec ℕ) = c.args.sets.now in
    let teeth : List (Vec ℕ) = c.in-Some.teeth.now in
    let nodes : List ℕ = c.deref.result.now in
    let same = c.in-Some.ensures.cases.0 in
    let read = c.deref.ensures.value in
    let none : teeth ≡ [] = no_sets teeth (eqb-true (length teeth) 0 (sym c.if-is_empty.ensures)) in
    let again : c.deref-then-is_empty.result.now ≡ nodes = c.deref-then-is_empty.ensures.value ∙ sym read in
    let old : ℕ → Bool = is_marked c.args.handles.now c.args.mark in
    let marked : ℕ → Bool = is_marked c.mark_nodes.new.marks c.args.mark in
    let used : ℕ → Bool = is_marked c.args.used.now c.args.mark in
    let marks = (c.mark_nodes.ensures.marked c.if-not-mark_nodes.false).own in
    let own : All (IsNode n) nodes = first_all n sets c.in-Some.handle.now teeth nodes same read (IsNode n) are in
    let told : IsTrue c.is_lone_set.result ↔ IsLoneSet n (comb_of nodes []) =
    subst (λ (ns : List ℕ). All (IsNode n) ns → ((x : ℕ) → marked x ≡ has ns x) → IsTrue c.is_lone_set.result ↔ IsLoneSet n (comb_of ns [])) again
    (c.is_lone_set.ensures n (c.mark_nodes.ensures.length ∙ long)) own
    (own_marks n sets c.in-Some.handle.now teeth nodes same read old marked used c.requires.fresh_handle marks) in (
      λ yes_lone. lone_found n sets c.in-Some.handle.now teeth nodes same read old marked used c.requires.fresh_handle marks none (c.mark_nodes.ensures.new.0 c.if-not-mark_nodes.false)
          (told.0 yes_lone),
      λ lone. told.1 (lone_in n sets c.in-Some.handle.now teeth nodes same read old marked used c.requires.fresh_handle marks none lone),
    )

pub returns-then-not-is_tooth_count-clause-comb : goal.returns-then-not-is_tooth_count-clause-comb
returns-then-not-is_tooth_count-clause-comb c = λ n long are. (
  λ impossible. absurd (both_ways false refl impossible),
  λ comb. absurd (iff_false c.is_tooth_count.ensures c.if-not-is_tooth_count.true
      (counted n c.args.sets.now c.in-Some.handle.now c.in-Some.teeth.now (c.in-Some.handle.now).items c.in-Some.ensures.cases.0 refl (search rules) comb)),
)

pub are_teeth-requires-clause-handle_places : goal.are_teeth-requires-clause-handle_places
are_teeth-requires-clause-handle_places c =
    rest_all 0 c.args.sets.now c.in-Some.handle.now c.in-Some.teeth.now c.deref.result.now c.in-Some.ensures.cases.0 c.deref.ensures.value
    (λ node. node < length c.mark_nodes.new.marks)
    (subst (λ (k : ℕ). All (λ (set : Vec ℕ). All (λ node. node < k) set.items) c.args.sets.now) (sym c.mark_nodes.ensures.length) c.requires.handle_places)

pub are_teeth-requires-clause-tooth_places : goal.are_teeth-requires-clause-tooth_places
are_teeth-requires-clause-tooth_places c = rest_all 0 c.args.sets.now c.in-Some.handle.now c.in-Some.teeth.now c.deref.result.now c.in-Some.ensures.cases.0 c.deref.ensures.value
    (λ node. node < length c.args.used.now) c.requires.tooth_places

pub returns-clause-comb : goal.returns-clause-comb
returns-clause-comb c = λ n long are.
    let sets : List (Vec ℕ) = c.args.sets.now in
    let teeth : List (Vec ℕ) = c.in-Some.teeth.now in
    let nodes : List ℕ = c.deref.result.now in
    let same = c.in-Some.ensures.cases.0 in
    let read = c.deref.ensures.value in
    let old : ℕ → Bool = is_marked c.args.handles.now c.args.mark in
    let marked : ℕ → Bool = is_marked c.mark_nodes.new.marks c.args.mark in
    let used : ℕ → Bool = is_marked c.args.used.now c.args.mark in
    let marks = (c.mark_nodes.ensures.marked c.if-not-mark_nodes.false).own in
    let told = c.are_teeth.ensures.teeth n (rest_all n sets c.in-Some.handle.now teeth nodes same read (IsNode n) are) in (
      λ yes_teeth. comb_found n sets c.in-Some.handle.now teeth nodes same read old marked used c.requires.fresh_handle marks (c.is_tooth_count.ensures.0 c.if-not-is_tooth_count.false)
          (c.mark_nodes.ensures.new.0 c.if-not-mark_nodes.false) (told.0 yes_teeth),
      λ comb. told.1 (teeth_found n sets c.in-Some.handle.now teeth nodes same read old marked used c.requires.fresh_handle marks (search rules) c.requires.fresh_teeth comb),
    )
