-- The goals of `make_whole` in src/relayout.rt, which makes a full matrix of its listed half: what it ensures.
use Rattle.tsp_file.proofs.Prelude.{◌≡◌, ◌*◌, ◌≤◌, length, take, ap, sym, subst, ◌∙◌, arith, take_all, cells_counted}
use Rattle.std.proofs.Math.Seq.{take-append_seam}
use Rattle.tsp_file.specs.Cost.{listed_cost}
use Rattle.tsp_file.specs.states.Drafts.{HasSide}
use Rattle.tsp_file.proofs.Relaid.{triangle_holds}
use Rattle.tsp_file.proofs.FileFields.{few_cells}
use Rattle.tsp_file.proofs.Spread.{whole_is}
use Rattle.tsp_file.proofs.relayout.make_whole.Goals as goal

-- plan: the lines are in their rows, the diagonal is 0, and the mirrored cells are filled: so each cell has its cost
-- (`whole_is`)
pub returns-clause-ok : goal.returns-clause-ok
returns-clause-ok c =
    let half = c.args.weights.now.items in
    let n = c.args.nodes in
    let cost = listed_cost c.args.from n half in
    let few : length half ≤ n * n = omega (arith, c.requires.filled, cells_counted c.args.from n, few_cells c.args.from n) in
    let count : c.len-count.result ≡ length half = c.len-count.ensures ∙ c.args.weights.now.ok.0 in
    let own : take (n * n) c.reserve_exact.new.self.items ≡ half = ap (take (n * n)) c.in_ok-reserve_exact.ensures.items
    ∙ take_all (n * n) half few in
    let front : take c.len-count.result c.resize.new.self.items ≡ half =
    ap (take c.len-count.result) c.in_ok-resize.ensures.items ∙ rw (own, count) (take-append_seam half _) in
    let lines = c.spread_lines.ensures.lines half (sym count) front in
    let side = c.clear_diagonal.ensures.side half c.requires.filled c.requires.half lines in
    let there = subst (λ above. HasSide above cost n c.clear_diagonal.new.weights.items) (sym c.is_above.ensures) side in
    whole_is cost n c.fill_across.new.weights.items c.fill_across.ensures.size
    (c.fill_across.ensures.costs cost (triangle_holds c.args.from n half c.requires.half) there)
