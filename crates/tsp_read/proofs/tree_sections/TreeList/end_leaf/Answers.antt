-- The goals of `TreeList::end_leaf` in src/tree_sections.rt, which ends a leaf: what it ensures.
use Rattle.tsp_read.proofs.Prelude.{◌≡◌, ◌∙◌, ap, ◌-◌, length, ◌∷◌, ◌++◌, [], refl, arith, slice_set, length-set, map_push, Leaf}
use Rattle.std.proofs.Math.Seq.{set-append_seam}
use Rattle.tsp_format.specs.declared.steps.TreeStep.TheVariants as tree
use Rattle.tsp_format.specs.states.TreeSteps.{step_of, steps_of}
use Rattle.tsp_read.proofs.tree_sections.TreeList.end_leaf.Goals as goal

-- plan: the gathered differences are the last leaf's, and one tree less is to come
pub returns-clause-done : goal.returns-clause-done
returns-clause-done c =
    let s = c.args.self.now in
    let leaf = tree.Leaf c.replace-leaf.result in
    let last : c.len-last.result - 1 ≡ length s.steps.items = omega (arith, c.len-last.ensures, c.in_ok-push.ensures.len) in
    let steps : steps_of (slice_set c.push.new.list.items (c.len-last.result - 1) leaf) ≡ steps_of s.steps.items ++ Leaf s.leaf.items ∷ [] =
    ap (λ items. steps_of (slice_set items (c.len-last.result - 1) leaf)) c.in_ok-push.ensures.items
    ∙ ap (λ i. steps_of (slice_set (s.steps.items ++ tree.Leaf c.new.result ∷ []) i leaf)) last
    ∙ ap steps_of (set-append_seam s.steps.items (tree.Leaf c.new.result) [] leaf)
    ∙ map_push step_of s.steps.items leaf
    ∙ ap (λ leaf. steps_of s.steps.items ++ Leaf leaf.items ∷ []) c.replace-leaf.ensures.value in
    let nodes : c.replace-leaf.new.dest.items ≡ [] = ap (λ leaf. leaf.items) c.replace-leaf.ensures.after ∙ c.new-2.ensures.items in
    rw (steps, nodes, c.saturating_sub-self.ensures) refl

pub returns-clause-few : goal.returns-clause-few
returns-clause-few c = λ n words h.
    let same = length-set c.push.new.list.items (c.len-last.result - 1) (tree.Leaf c.replace-leaf.result) in
    omega (arith, same, c.saturating_sub-self.ensures, c.in_ok-push.ensures.len, h.few)
