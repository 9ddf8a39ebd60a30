-- The goals of `spread_lines` in src/relayout.rt, which moves the lines of a half to their rows: that no sum overflows,
-- its loop and what its calls require.
use Rattle.tsp_file.proofs.Prelude.{◌≡◌, ◌+◌, ◌-◌, sym, ◌∙◌, arith, mul-le, IsNode}
use Rattle.tsp_file.proofs.Spread.{all_before, kept_less, spread_begins, spread_more}
use Rattle.tsp_file.proofs.relayout.spread_lines.Goals as goal

-- plan: from the last line on, each is copied to its row (`spread_more`), which the lines before it don't reach
pub lines-init : goal.lines-init
lines-init c = record {
  size = c.requires.size;
  within = omega arith;
  kept = c.requires.count ∙ all_before c.args.from c.args.nodes;
  spread = λ half long front. spread_begins c.args.from c.args.nodes c.args.count half c.args.weights.now.items
      (long ∙ c.requires.count) front;
}

pub overflow_sub-kept : goal.overflow_sub-kept
overflow_sub-kept c =
    let node : IsNode c.args.nodes c.lines.line = (omega (arith, c.lines-test.true), c.lines.invariant.within) in
    let less = kept_less c.args.from c.args.nodes c.lines.line c.lines.kept c.line_len-len.result node c.lines.invariant.kept
    c.line_len-len.ensures.table in
    omega (arith, less.0)

pub copy_within-requires-clause-in_bounds : goal.copy_within-requires-clause-in_bounds
copy_within-requires-clause-in_bounds c =
    let node : IsNode c.args.nodes c.lines.line = (omega (arith, c.lines-test.true), c.lines.invariant.within) in
    let less = kept_less c.args.from c.args.nodes c.lines.line c.lines.kept c.line_len-len.result node c.lines.invariant.kept
    c.line_len-len.ensures.table in
    let rows = mul-le c.lines.line c.args.nodes c.args.nodes c.args.nodes c.lines.invariant.within (omega arith) in
    omega (arith, less.0, less.1, rows, c.lines.invariant.size, c.lines.weights.ok.0)

pub lines-preserved : goal.lines-preserved
lines-preserved c =
    let node : IsNode c.args.nodes c.lines.line = (omega (arith, c.lines-test.true), c.lines.invariant.within) in
    let less = kept_less c.args.from c.args.nodes c.lines.line c.lines.kept c.line_len-len.result node c.lines.invariant.kept
    c.line_len-len.ensures.table in
    let moved = c.copy_within.ensures in
    let same = sym c.copy_within.new.self.ok.0 ∙ moved.len ∙ c.lines.weights.ok.0 in
    let count : c.lines.kept - c.line_len-len.result + c.line_len-len.result - (c.lines.kept - c.line_len-len.result)
    ≡ c.line_len-len.result = omega arith in
    let by_index = rw count at moved.by_index in
    record {
      size = same ∙ c.lines.invariant.size;
      within = omega (arith, c.lines.invariant.within);
      kept = omega (arith, less.0);
      spread = λ half long front.
          spread_more c.args.from c.args.nodes c.lines.line c.lines.kept c.line_len-len.result c.line_start.result half
          c.lines.weights.items c.copy_within.new.self.items
          node c.lines.invariant.size c.lines.invariant.kept c.line_len-len.ensures.table c.line_start.ensures.value
          (omega (arith, c.line_start.ensures.within, c.line_len-len.ensures.table)) (c.lines.invariant.spread half long front)
          by_index.0 by_index.1 by_index.2 same;
    }
