-- The goals of `total_of` in src/potentials.rt, which sums the multipliers of a certificate: that no sum overflows and
-- its loop.
use Rattle.tsp_bound.proofs.Prelude.{◌≡◌, ◌+◌, ◌*◌, ◌^◌, ◌≤◌, ℕ, List, drop, ap, sym, ◌∙◌, arith, to_z, of_z, FitsSigned, add-one, drop-cons, ℤ, pos, neg_ℤ, ◌+ℤ◌, slice_index_or, w64, w128, ints, to_z-of_z, fits_signed_from_abs, most_triples, most_multiplier, IsFromTo, triples_total, size_of}
use Rattle.std.proofs.Math.IntN.{+ℤ_assoc}
use Rattle.tsp_bound.proofs.potentials.total_of.Goals as goal

sum_more : (sum number : ℤ) (index : ℕ) → IsFromTo (pos 0) (pos (index * most_multiplier)) sum → IsFromTo (pos 0) (pos most_multiplier) number
    → IsFromTo (pos 0) (pos ((index + 1) * most_multiplier)) (sum +ℤ number)
sum_more sum number index s p = (omega (arith, ints, s.0, p.0), omega (arith, ints, s.1, p.1))

own_number : (number from : ℤ) → IsFromTo (pos 0) (pos most_multiplier) number → from ≡ to_z w64 (of_z w64 number) → to_z w128 (of_z w128 from) ≡ number
own_number number from p is =
    let same : from ≡ number = is ∙ omega (arith, ints, p.0, p.1) in
    omega (arith, ints, same, p.0, p.1)

sum_size : (sum number : ℤ) (index : ℕ) → index ≤ most_triples → IsFromTo (pos 0) (pos (index * most_multiplier)) sum
    → IsFromTo (pos 0) (pos most_multiplier) number → IsFromTo (neg_ℤ (pos (2 ^ 100))) (pos (2 ^ 100)) (sum +ℤ number)
sum_size sum number index few s p = (omega (arith, ints, s.0, p.0), omega (arith, ints, s.1, p.1, few))

sum_fits : (sum number : ℤ) (index : ℕ) → index ≤ most_triples → IsFromTo (pos 0) (pos (index * most_multiplier)) sum
    → IsFromTo (pos 0) (pos most_multiplier) number → FitsSigned w128 (sum +ℤ number)
sum_fits sum number index few s p =
    fits_signed_from_abs w128 (sum +ℤ number) (let most = size_of (2 ^ 100) (sum +ℤ number) (sum_size sum number index few s p) in omega (arith, most))

pub overflow_add-sum : goal.overflow_add-sum
overflow_add-sum c =
    let index : ℕ = c.triples.triple-index in
    let number : ℤ = (slice_index_or c.args.triples.now index (0, 0, pos 0)).2 in
    let few : index ≤ most_triples = omega (arith, c.requires.few, c.triples-test.true) in
    let size = (c.requires.each index (0, 0, pos 0) c.triples-test.true).1 in
    rw (own_number number c.from-sum.result size c.from-sum.ensures)
    (sum_fits (to_z w128 c.triples.sum-bits) number index few c.triples.invariant.size size)

-- plan: one triple's number more (`sum_more`), which fits 64 bits (`sum_fits`)
pub triples-preserved : goal.triples-preserved
triples-preserved c =
    let xs : List (ℕ × ℕ × ℤ) = c.args.triples.now in
    let index : ℕ = c.triples.triple-index in
    let number : ℤ = (slice_index_or xs index (0, 0, pos 0)).2 in
    let sum : ℤ = to_z w128 c.triples.sum-bits in
    let few : index ≤ most_triples = omega (arith, c.requires.few, c.triples-test.true) in
    let size = (c.requires.each index (0, 0, pos 0) c.triples-test.true).1 in
    let own = own_number number c.from-sum.result size c.from-sum.ensures in
    let is = ap (λ z. to_z w128 (of_z w128 (sum +ℤ z))) own ∙ to_z-of_z w128 (sum +ℤ number) (sum_fits sum number index few c.triples.invariant.size size) in
    let parts : triples_total (drop index xs) ≡ number +ℤ triples_total (drop (index + 1) xs) = ap triples_total (drop-cons xs index (0, 0, pos 0) c.triples-test.true) ∙ rw (add-one index) in
    record {
      size = rw is (sum_more sum number index c.triples.invariant.size size);
      so_far = rw is (+ℤ_assoc sum number (triples_total (drop (index + 1) xs)) ∙ ap (λ z. sum +ℤ z) (sym parts) ∙ c.triples.invariant.so_far);
    }
