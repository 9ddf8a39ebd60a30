-- For src/points.rt: costs summed along a list of nodes in blocks, and when all points of a region are too far away.
use Rattle.tsp_cost.proofs.Prelude.{◌≤◌, ◌≤ℤ◌, ℕ, ℤ, Bool, true, false, refl, arith, ◌≡◌, suc, ◌+◌, ◌-◌, ◌*◌, ◌<◌, List, [], ◌++◌, take, drop, length, sym, ap, subst, ◌∙◌, to_z, of_z, drop-cons, take-append-drop, append_assoc, ints, w64, pos, IsTrue, neg_ℤ, ◌+ℤ◌, slice_index_or, Point, distance, length_of, links_to}
use Rattle.std.proofs.Math.IntN.{+ℤ_assoc, +ℤ_idr}
use Rattle.std.specs.Bool.{OnTrue}
use Rattle.tsp_number.specs.Distances.{dx, dy, dz, euc_2d_of, ceil_2d_of, man_2d_of, max_2d_of, att_of, euc_3d_of, man_3d_of, max_3d_of, IsMonotone}
use Rattle.tsp_format.specs.declared.kinds.WeightKind.{WeightKind}
use Rattle.tsp_format.specs.declared.kinds.WeightKind.TheVariants.{Explicit, Euc2d, Euc3d, Ceil2d, Man2d, Man3d, Max2d, Max3d, Att}
use Rattle.tsp_cost.specs.states.Metrics.{length_to, IsWayThrough, IsSumOfCosts}

whole-le : (m n : ℕ) → m ≤ n → pos m ≤ℤ pos n
whole-le m n le = omega (arith, ints, le)

pub distance_grows : IsMonotone euc_2d_of → IsMonotone ceil_2d_of → IsMonotone man_2d_of → IsMonotone max_2d_of
    → IsMonotone att_of
    → IsMonotone euc_3d_of → IsMonotone man_3d_of → IsMonotone max_3d_of
    → (kind : WeightKind) (a b c d : Point) → dx a b ≤ dx c d → dy a b ≤ dy c d → dz a b ≤ dz c d
    → distance kind a b ≤ℤ distance kind c d
unfolding distance
distance_grows euc ceil man max att euc' man' max' Explicit a b c d x y z = whole-le 0 0 (omega arith)
distance_grows euc ceil man max att euc' man' max' Euc2d a b c d x y z =
    whole-le (euc_2d_of a b) (euc_2d_of c d) (euc a b c d x y z)
distance_grows euc ceil man max att euc' man' max' Ceil2d a b c d x y z =
    whole-le (ceil_2d_of a b) (ceil_2d_of c d) (ceil a b c d x y z)
distance_grows euc ceil man max att euc' man' max' Man2d a b c d x y z =
    whole-le (man_2d_of a b) (man_2d_of c d) (man a b c d x y z)
distance_grows euc ceil man max att euc' man' max' Max2d a b c d x y z =
    whole-le (max_2d_of a b) (max_2d_of c d) (max a b c d x y z)
distance_grows euc ceil man max att euc' man' max' Att a b c d x y z = whole-le (att_of a b) (att_of c d) (att a b c d x y z)
distance_grows euc ceil man max att euc' man' max' Euc3d a b c d x y z =
    whole-le (euc_3d_of a b) (euc_3d_of c d) (euc' a b c d x y z)
distance_grows euc ceil man max att euc' man' max' Man3d a b c d x y z =
    whole-le (man_3d_of a b) (man_3d_of c d) (man' a b c d x y z)
distance_grows euc ceil man max att euc' man' max' Max3d a b c d x y z =
    whole-le (max_3d_of a b) (max_3d_of c d) (max' a b c d x y z)

pub at_least_further : (least near far : ℤ) → least ≤ℤ near → near ≤ℤ far → least ≤ℤ far
at_least_further least near far h k = omega (arith, ints, h, k)

pub known_true : (test : Bool) (P : Type 0) → (IsTrue test → P) → OnTrue test P
known_true true P known = known refl
known_true false P known = tt

-- ---- the length of a tour as a sum of costs, node by node, which fits 64 bits

-- one node further
pub way_more : (cost : ℕ → ℕ → ℤ) (sum : ℤ) (from last index : ℕ) (nodes : List ℕ) → index < length nodes
    → ((end : ℕ) (more : List ℕ) → sum +ℤ length_to cost end last (drop index nodes ++ more) ≡ length_to cost end from
    (nodes ++ more))
    → (end : ℕ) (more : List ℕ) → (sum +ℤ cost last (slice_index_or nodes index 0)) +ℤ length_to cost end
    (slice_index_or nodes index 0) (drop (suc index) nodes ++ more)
    ≡ length_to cost end from (nodes ++ more)
way_more cost sum from last index nodes few so_far end more =
    +ℤ_assoc sum (cost last (slice_index_or nodes index 0))
    (length_to cost end (slice_index_or nodes index 0) (drop (suc index) nodes ++ more))
    ∙ ap (λ (xs : List ℕ). sum +ℤ length_to cost end last (xs ++ more)) (sym (drop-cons nodes index 0 few))
    ∙ so_far end more

pub sum_none : IsSumOfCosts 0 (pos 0)
sum_none = record { low = omega (arith, ints); high = omega (arith, ints) }

pub sum_more : (sum cost : ℤ) (count : ℕ) → IsSumOfCosts count sum → neg_ℤ (pos 1000000000000) ≤ℤ cost → cost ≤ℤ pos 1000000000000
    → IsSumOfCosts (count + 1) (sum +ℤ cost)
sum_more sum cost count size low high = record { low = omega (arith, ints, size.low); high = omega (arith, ints, size.high) }

-- two sums together, which fit 64 bits
pub sum_both : (sum other : ℤ) (count more : ℕ) → IsSumOfCosts count sum → IsSumOfCosts more other
    → IsSumOfCosts (count + more) (sum +ℤ other)
sum_both sum other count more size others =
    record { low = omega (arith, ints, size.low, others.low); high = omega (arith, ints, size.high, others.high) }

pub sum_fits : (sum other : ℤ) (count more : ℕ) → count + more ≤ 1000001 → IsSumOfCosts count sum → IsSumOfCosts more other
    → to_z w64 (of_z w64 (sum +ℤ to_z w64 (of_z w64 other))) ≡ sum +ℤ other
sum_fits sum other count more few size others = omega (arith, ints, few, size.low, size.high, others.low, others.high)

-- one cost more
pub cost_fits : (sum cost : ℤ) (count : ℕ) → count ≤ 1000000 → IsSumOfCosts count sum → neg_ℤ (pos 1000000000000) ≤ℤ cost
    → cost ≤ℤ pos 1000000000000
    → to_z w64 (of_z w64 (sum +ℤ to_z w64 (of_z w64 cost))) ≡ sum +ℤ cost
cost_fits sum cost count few size low high = omega (arith, ints, few, size.low, size.high, low, high)
