-- The goals of `total` in src/potentials.rt, which sums the potentials of a certificate: its loop.
use Rattle.tsp_bound.proofs.Prelude.{◌≡◌, ◌+◌, ◌≤◌, ℕ, List, drop, ap, sym, ◌∙◌, arith, to_z, add-one, drop-cons, ℤ, pos, ◌+ℤ◌, slice_index_or, w128, total}
use Rattle.std.proofs.Math.IntN.{+ℤ_assoc}
use Rattle.tsp_theory.proofs.Sums.{sum_more, sum_computed}
use Rattle.tsp_bound.proofs.potentials.total.Goals as goal

-- plan: one number more (`sum_more`), which fits 64 bits (`sum_computed`)
pub numbers-preserved : goal.numbers-preserved
numbers-preserved c =
    let xs : List ℤ = c.args.numbers.now in
    let index : ℕ = c.numbers.number-index in
    let number : ℤ = slice_index_or xs index (pos 0) in
    let sum : ℤ = to_z w128 c.numbers.sum-bits in
    let few : index ≤ 100000 = omega (arith, c.requires.few) in
    let size = c.requires.sizes index (pos 0) c.numbers-test.true in
    let is = sum_computed sum number c.from-sum.result index few c.numbers.invariant.size size c.from-sum.ensures in
    let parts : total (drop index xs) ≡ number +ℤ total (drop (index + 1) xs) = ap total (drop-cons xs index (pos 0) c.numbers-test.true) ∙ rw (add-one index) in
    record {
      size = rw is (sum_more sum number index few c.numbers.invariant.size size);
      so_far = rw is (+ℤ_assoc sum number (total (drop (index + 1) xs)) ∙ ap (λ z. sum +ℤ z) (sym parts) ∙ c.numbers.invariant.so_far);
    }
