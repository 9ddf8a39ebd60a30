-- Minimum 1-trees of four nodes, for the rows of src/examples.rt that can't be settled by evaluation alone.
use Rattle.tsp_theory.proofs.Prelude.{◌≡◌, ◌≢◌, ℕ, zero, suc, ◌==◌, true, false, List, [], ◌∷◌, rules, arith, refl, sym, subst, ℤ, ◌≤ℤ◌, both_ways, eq-eqb, eqb-true}
use Rattle.tsp_theory.specs.Tree.{weight_of, IsInner, IsLeastOneTree, and_node, IsLeastLeaving, grown_by, AreNearest, IsWholeGrowth, tree_of}
use Rattle.tsp_theory.specs.Bounds.{weight_between, IsBoundOfPotentials, IsNodeBound}
use Rattle.tsp_theory.specs.Forest.{IsUncrossed, IsLeastJoin}
use Rattle.tsp_theory.specs.Examples.{symmetric_costs}
use Rattle.tsp_theory.proofs.Trees.{least_from_growth}
use Rattle.tsp_theory.proofs.Cycles.{weight_even}

-- the nodes 2, 3 and 4
pub inner : (P : ℕ → Type 0) → P 2 → P 3 → P 4 → (x : ℕ) → IsInner 4 x → P x
inner P two three four zero within = absurd (omega (arith, within.0))
inner P two three four (suc zero) within = absurd (omega (arith, within.0))
inner P two three four (suc (suc zero)) within = two
inner P two three four (suc (suc (suc zero))) within = three
inner P two three four (suc (suc (suc (suc zero)))) within = four
inner P two three four (suc (suc (suc (suc (suc x))))) within = absurd (omega (arith, within.1))

-- the weights of a growth from node 2 to 3 and from p to 4, if 2 and then `second` are nearest to node 1
pub record GrowsSo (w : ℕ → ℕ → ℤ) (second p : ℕ) : Type 0 where
  pub second_in : IsInner 4 second
  pub differ : 2 ≢ second
  pub two_before_three : w 1 2 ≤ℤ w 1 3
  pub two_before_four : w 1 2 ≤ℤ w 1 4
  pub second_before_three : w 1 second ≤ℤ w 1 3
  pub second_before_four : w 1 second ≤ℤ w 1 4
  pub p_in : and_node (λ x. x == 2) 3 p ≡ true
  pub three_first : w 2 3 ≤ℤ w 2 4
  pub from_two : w p 4 ≤ℤ w 2 4
  pub from_three : w p 4 ≤ℤ w 3 4

pub nearest_so : (w : ℕ → ℕ → ℤ) (second p : ℕ) → GrowsSo w second p → AreNearest 4 w 2 second
nearest_so w second p so = record {
  first_in = (omega arith, omega arith);
  second_in = so.second_in;
  differ = so.differ;
  near = inner (λ x. w 1 2 ≤ℤ w 1 x) (search rules) so.two_before_three so.two_before_four;
  next = inner (λ x. x ≢ 2 → w 1 second ≤ℤ w 1 x) (λ other. absurd (other refl)) (λ other. so.second_before_three)
      (λ other. so.second_before_four);
}

-- the pair of node 3 leaves node 2, and then that of node 4 leaves both
three_so : (w : ℕ → ℕ → ℤ) (second p : ℕ) → GrowsSo w second p → IsLeastLeaving (IsInner 4) w (λ x. x == 2) (2, 3)
three_so w second p so = record {
  from = refl;
  to = refl;
  node = (omega arith, omega arith);
  least = λ a b in_a in_b. inner (λ a. (a == 2) ≡ true → (b == 2) ≡ false → w 2 3 ≤ℤ w a b)
      (λ from. inner (λ b. (b == 2) ≡ false → w 2 3 ≤ℤ w 2 b) (λ to. absurd (both_ways (2 == 2) to refl)) (λ to. search rules)
      (λ to. so.three_first) b in_b)
      (λ from to. absurd (both_ways (3 == 2) refl from))
      (λ from to. absurd (both_ways (4 == 2) refl from)) a in_a;
}

four_so : (w : ℕ → ℕ → ℤ) (second p : ℕ) → GrowsSo w second p → IsLeastLeaving (IsInner 4) w (and_node (λ x. x == 2) 3) (p, 4)
four_so w second p so =
    let grown = and_node (λ x. x == 2) 3 in
    record {
      from = so.p_in;
      to = refl;
      node = (omega arith, omega arith);
      least = λ a b in_a in_b. inner (λ b. grown a ≡ true → grown b ≡ false → w p 4 ≤ℤ w a b)
          (λ from to. absurd (both_ways (grown 2) to refl))
          (λ from to. absurd (both_ways (grown 3) to refl))
          (λ from to. inner (λ a. grown a ≡ true → w p 4 ≤ℤ w a 4) (λ in_part. so.from_two) (λ in_part. so.from_three)
          (λ in_part. absurd (both_ways (grown 4) refl in_part)) a in_a from) b in_b;
    }

grows_so : (w : ℕ → ℕ → ℤ) (second p : ℕ) → GrowsSo w second p → IsWholeGrowth 4 w ((2, 3) ∷ (p, 4) ∷ [])
grows_so w second p so = record {
  grows = (three_so w second p so, (four_so w second p so, tt));
  reached = inner (λ x. grown_by (λ y. y == 2) ((2, 3) ∷ (p, 4) ∷ []) x ≡ true) refl refl refl;
  count = refl;
}

pub tree_so : (w : ℕ → ℕ → ℤ) (second p : ℕ) → ((a b : ℕ) → w a b ≡ w b a) → GrowsSo w second p
    → IsLeastOneTree 4 w (tree_of 2 second ((2, 3) ∷ (p, 4) ∷ []))
tree_so w second p even so =
    least_from_growth 4 w 2 second ((2, 3) ∷ (p, 4) ∷ []) ((2, 3) ∷ (p, 4) ∷ []) (tree_of 2 second ((2, 3) ∷ (p, 4) ∷ []))
    (omega arith) even (nearest_so w second p so) (grows_so w second p so) refl refl

-- a least pair at a node leaves the part of that node alone
pub join_so : (w : ℕ → ℕ → ℤ) (earlier : List (ℕ × ℕ)) (v c : ℕ) → IsInner 4 v → IsInner 4 c → (c == v) ≡ false
    → IsUncrossed (λ x. x == v) earlier
    → ((b : ℕ) → IsInner 4 b → (b == v) ≡ false → w v c ≤ℤ w v b) → IsLeastJoin (IsInner 4) w earlier (v, c)
join_so w earlier v c in_v in_c differ free least = record {
  part = λ x. x == v;
  uncrossed = free;
  from = in_v;
  leaving = record {
    from = eq-eqb v v refl;
    to = differ;
    node = in_c;
    least = λ a b in_a in_b at out. subst (λ z. w v c ≤ℤ w z b) (sym (eqb-true a v at)) (least b in_b out);
  };
}

pub costs_even : (costs : List ℤ) (i j : ℕ) → symmetric_costs costs i j ≡ symmetric_costs costs j i
costs_even costs i j = search rules

pub bound_so : (costs : List ℤ) (scale : ℤ) (potentials : List ℤ) (second p : ℕ) (bound : ℤ)
    → GrowsSo (weight_between scale potentials (symmetric_costs costs)) second p
    → IsBoundOfPotentials scale potentials
    (weight_of (weight_between scale potentials (symmetric_costs costs)) (tree_of 2 second ((2, 3) ∷ (p, 4) ∷ []))) bound
    → IsNodeBound 4 (symmetric_costs costs) scale potentials bound
bound_so costs scale potentials second p bound so is = record {
  tree = tree_of 2 second ((2, 3) ∷ (p, 4) ∷ []);
  least = tree_so (weight_between scale potentials (symmetric_costs costs)) second p
      (weight_even scale potentials (symmetric_costs costs) (λ i j other. costs_even costs i j)) so;
  bound_is = is;
}
