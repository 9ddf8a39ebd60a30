-- The goals of `keep_half` in src/relayout.rt, which copies half of a full matrix to its beginning: its loop, what its
-- calls require and what it ensures.
use Rattle.std.proofs.Common.{◌+◌, sym, ap, ◌∙◌, arith}
use Rattle.tsp_file.proofs.FileFields.{line_kept, all_kept, row_within}
use Rattle.tsp_file.proofs.relayout.keep_half.Goals as goal

-- plan: one line more is copied to the beginning (`line_kept`), where nothing is lost, since a row is no shorter. All
-- lines are the half (`all_kept`)
pub copy_within-requires-clause-in_bounds : goal.copy_within-requires-clause-in_bounds
copy_within-requires-clause-in_bounds c =
    let room = row_within c.args.nodes c.lines.line c.args.weights.now.items (omega arith) c.requires.filled in
    omega (arith, room, c.lines.invariant.size, c.line_start-start.ensures.within, c.line_len.ensures.table)

pub copy_within-requires-clause-dest_in_bounds : goal.copy_within-requires-clause-dest_in_bounds
copy_within-requires-clause-dest_in_bounds c =
    let room = row_within c.args.nodes c.lines.line c.args.weights.now.items (omega arith) c.requires.filled in
    omega (
      arith,
      room,
      c.lines.invariant.size,
      c.lines.invariant.few,
      c.line_start-start.ensures.value,
      c.line_start-start.ensures.within,
      c.line_len.ensures.table,
    )

pub lines-preserved : goal.lines-preserved
lines-preserved c =
    let moved = c.copy_within.ensures in
    line_kept c.args.to c.args.nodes c.lines.line c.lines.kept c.line_start-start.result _ c.args.weights.now.items
    c.lines.weights.items
    c.copy_within.new.self.items (omega arith, omega arith)
    c.requires.pairs c.lines.invariant c.line_start-start.ensures.value
    (ap (λ k. c.line_start-start.result + k) c.line_len.ensures.table)
    (omega (arith, c.line_start-start.ensures.within, c.line_len.ensures.table))
    (row_within c.args.nodes c.lines.line c.args.weights.now.items (omega arith) c.requires.filled)
    (sym c.copy_within.new.self.ok.0 ∙ moved.len ∙ c.lines.weights.ok.0)
    moved.by_index.0 moved.by_index.1 moved.by_index.2

pub returns : goal.returns
returns c =
    c.truncate.ensures.items ∙ all_kept c.args.to c.args.nodes c.lines.line c.lines.kept c.args.weights.now.items
    c.lines.weights.items (omega arith) c.lines.invariant
