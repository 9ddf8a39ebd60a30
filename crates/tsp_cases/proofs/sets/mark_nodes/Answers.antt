-- The goals of `mark_nodes` in src/sets.rt, which marks the nodes of a set: its loop and what it ensures.
use Rattle.tsp_cases.proofs.Prelude.{ℕ, ◌<◌, List, length, get_or, refl, ◌∙◌, arith, false, length-set, eq-eqb, ne_eqb, both_ways, get_or_default}
use Rattle.tsp_cases.proofs.GoodFamilies.{marked_more, new_more, marked_twice, others_kept}
use Rattle.tsp_cases.proofs.sets.mark_nodes.Goals as goal

-- plan: by whether the next node has the mark already (`marked_twice`), or is marked now (`marked_more`)
pub nodes-preserved : goal.nodes-preserved
nodes-preserved c =
    let h = c.nodes.invariant in
    let nodes : List ℕ = c.args.nodes.now in
    let index : ℕ = c.nodes.node-index in
    let node : ℕ = get_or nodes index 0 in
    let is = get_or_default nodes index 0 node c.nodes-test.true in
    let within : node < length c.nodes.marks = omega (arith, h.long, c.requires index 0 c.nodes-test.true) in
    record {
      long = length-set c.nodes.marks node c.args.mark ∙ h.long;
      own = marked_more c.args.marks.now c.nodes.marks nodes c.args.mark index node h.own c.nodes-test.true is within;
      new = new_more c.args.marks.now c.nodes.marks nodes c.args.mark index node h.own c.nodes-test.true is h.new
          (ne_eqb (get_or c.nodes.marks node 0) c.args.mark c.if-marks-place.false);
      others = others_kept c.nodes.marks c.args.marks.now c.args.mark node within h.others;
    }

pub returns-then-marks-place-clause-new : goal.returns-then-marks-place-clause-new
returns-then-marks-place-clause-new c =
    let h = c.nodes.invariant in
    let nodes : List ℕ = c.args.nodes.now in
    let index : ℕ = c.nodes.node-index in
    let node : ℕ = get_or nodes index 0 in
    let is = get_or_default nodes index 0 node c.nodes-test.true in (
      λ impossible. absurd (both_ways false refl impossible),
      λ new. absurd (marked_twice c.args.marks.now c.nodes.marks nodes c.args.mark index node h.own c.nodes-test.true is
          (eq-eqb (get_or c.nodes.marks node 0) c.args.mark c.if-marks-place.true) new),
    )
