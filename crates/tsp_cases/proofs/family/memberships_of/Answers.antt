-- The goals of `memberships_of` in src/family.rt, which computes the membership of each node: its loop and what its
-- calls require.
use Rattle.tsp_cases.proofs.Prelude.{◌≡◌, ℕ, ◌+◌, ◌*◌, ◌%◌, ◌^◌, ◌<◌, ◌++◌, List, length, get_or, take, drop, ap, sym, ◌∙◌, subst, arith, if◌then◌else◌, take-append-le, take_all, one_shl, pow_below}
use Rattle.tsp_cases.specs.Crossings.{has, sets_of, lists_of}
use Rattle.tsp_cases.proofs.Divisions.{IsSoFar, set_at, sets_long, so_far_more}
use Rattle.tsp_cases.proofs.family.memberships_of.Goals as goal

-- a slice of all elements that was written over
written : (len : ℕ) (xs rest : List ℕ) → length xs ≡ len → take len (xs ++ rest) ≡ xs
written len xs rest long = take-append-le len xs rest (omega (arith, long)) ∙ take_all len xs (omega (arith, long))

pub add_bit-requires-clause-bit : goal.add_bit-requires-clause-bit
add_bit-requires-clause-bit c =
    let lt : c.sets.set < 63 = omega (arith, c.sets-test.true, c.requires) in
    let power = one_shl c.sets.set 64 (omega (arith, lt)) in
    let below = pow_below c.sets.set 63 lt in
    omega (arith, power, below)

-- plan: one set more adds its bit to its nodes, and to no other (`so_far_more`)
pub sets-preserved : goal.sets-preserved
sets-preserved c =
    let h = c.sets.invariant in
    let old : List ℕ = c.sets.memberships.items in
    let new : List ℕ = c.add_bit.new.memberships in
    let count : ℕ = c.sets.set in
    let same_length : length new ≡ length old = c.add_bit.auto.memberships ∙ ap length c.deref_mut.ensures.value in
    let kept = written c.sets.memberships.len new (drop (length new) old) (c.add_bit.auto.memberships ∙ c.deref_mut.ensures.len) in
    let lt : count < 64 = omega (arith, c.sets-test.true, c.requires) in
    let bit : ℕ = 1 * 2 ^ count % 2 ^ 64 in
    record {
      long = ap length kept ∙ same_length ∙ h.long;
      so_far = λ x in_list.
          let in_old : x < length old = subst (λ (k : ℕ). x < k) (ap length kept ∙ same_length) in_list in
          let in_slice : x < length c.deref_mut.result.now = subst (λ (k : ℕ). x < k) (sym (ap length c.deref_mut.ensures.value)) in_old in
          let said : get_or new x 0 ≡ get_or old x 0 + (if has c.deref.result.now x then bit else 0) =
          c.add_bit.ensures x in_slice ∙ ap (λ (xs : List ℕ). get_or xs x 0 + (if has c.deref.result.now x then bit else 0)) c.deref_mut.ensures.value in
          subst (λ (xs : List ℕ). IsSoFar (sets_of (lists_of c.args.family.now.sets.now)) (count + 1) x (get_or xs x 0)) (sym kept)
          (so_far_more (sets_of (lists_of c.args.family.now.sets.now)) count x (get_or old x 0) (get_or new x 0) bit c.deref.result.now
          (let long = sets_long c.args.family.now.sets.now in omega (arith, long, c.sets-test.true))
          (set_at c.args.family.now.sets.now count c.index-family-set.result c.deref.result.now c.sets-test.true c.deref.ensures.value)
          (one_shl count 64 lt) said (h.so_far x in_old));
    }
