-- The goals of `lists_of` in src/multipliers_by_node.rt, which lists at each node the multipliers of its pairs: its
-- loop.
use Rattle.tsp_bound.proofs.Prelude.{◌≡◌, ℕ, refl, arith, to_z, of_z, ℤ, pos, slice_index_or, w64, ints, IsMultiplier}
use Rattle.tsp_bound.proofs.LoweredWeights.{table_pushed}
use Rattle.tsp_bound.proofs.multipliers_by_node.lists_of.Goals as goal

-- plan: one pair more is in the lists of both of its nodes (`table_pushed`)
pub triples-preserved : goal.triples-preserved
triples-preserved c =
    let index : ℕ = c.triples.triple-index in
    let t : ℕ × ℕ × ℤ = slice_index_or c.args.triples.now index (0, 0, pos 0) in
    let own : IsMultiplier t = c.requires.each index (0, 0, pos 0) c.triples-test.true in
    let number : to_z w64 (of_z w64 t.2) ≡ t.2 = omega (arith, ints, own.1.0, own.1.1) in
    table_pushed c.args.nodes c.args.triples.now index c.triples.lists.items t (to_z w64 (of_z w64 t.2)) c.index_mut.result.now
    c.index_mut-in-triples.result.now c.push.new.list c.push-in-triples.new.list
    c.triples-test.true refl number c.requires.each c.requires.on_pairs c.triples.invariant c.index_mut.ensures.value c.in_ok-push.ensures.items
    c.index_mut-in-triples.ensures.value c.in_ok-push-2.ensures.items
