-- The goals of `mark` in src/tour.rt, which marks nodes up to the first one that is marked: that indices are in
-- range, its loop and what it ensures.
use Rattle.std.proofs.Common.{◌≡◌, ◌<◌, ◌+◌, ℕ, true, false, length, get_or, sym, subst, arith}
use Rattle.tsp_theory.specs.First.{IsFirstPlace}
use Rattle.tsp_verdict.specs.SolutionReasons.{IsAtEarlierPlace}
use Rattle.tsp_verdict.proofs.TourVerdicts.{mark_next, repeated_next, mark_is}
use Rattle.tsp_verdict.proofs.tour.mark.Goals as goal

-- plan: node by node: the next has a mark (`repeated_next`), or gets one (`mark_next`)
pub index-requires : goal.index-requires
index-requires c = omega (arith, c.requires.range c.nodes.node-index 0 c.nodes-test.true, c.nodes.invariant.wide)

pub index_mut-requires : goal.index_mut-requires
index_mut-requires c = omega (arith, c.requires.range c.nodes.node-index 0 c.nodes-test.true, c.nodes.invariant.wide)

pub returns-then-index : goal.returns-then-index
returns-then-index c =
    let index : ℕ = c.nodes.node-index in
    let fits : get_or c.args.nodes.now index 0 < length c.nodes.seen.items =
    omega (arith, c.requires.range index 0 c.nodes-test.true, c.nodes.invariant.wide, c.nodes.seen.ok.0) in
    let taken : get_or c.nodes.seen.items (get_or c.args.nodes.now index 0) false ≡ true =
    mark_is c.nodes.seen.items (get_or c.args.nodes.now index 0) c.index.result.now _ fits c.index.ensures c.if-index.true in
    record {
      len = c.nodes.invariant.wide;
      marks = λ all before applies marked.
          let first : IsFirstPlace (IsAtEarlierPlace all) all (before + (index + 1)) =
          repeated_next all c.args.nodes.now c.nodes.seen.items before index applies c.nodes-test.true taken
          (c.nodes.invariant.marks all before applies marked) in
          subst (λ (k : ℕ). IsFirstPlace (IsAtEarlierPlace all) all (before + (k + 1))) (sym c.nodes.invariant.counted) first;
    }

pub nodes-preserved : goal.nodes-preserved
nodes-preserved c =
    let index : ℕ = c.nodes.node-index in
    let fits : get_or c.args.nodes.now index 0 < length c.nodes.seen.items =
    omega (arith, c.requires.range index 0 c.nodes-test.true, c.nodes.invariant.wide, c.nodes.seen.ok.0) in
    let free : get_or c.nodes.seen.items (get_or c.args.nodes.now index 0) false ≡ false =
    mark_is c.nodes.seen.items (get_or c.args.nodes.now index 0) c.index.result.now _ fits c.index.ensures c.if-index.false in
    record {
      counted = omega (arith, c.nodes.invariant.counted);
      wide = c.nodes.invariant.wide;
      marks = λ all before applies marked.
          mark_next all c.args.nodes.now c.nodes.seen.items before index applies c.nodes-test.true fits free
          (c.nodes.invariant.marks all before applies marked);
    }
