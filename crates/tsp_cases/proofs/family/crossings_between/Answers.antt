-- The goals of `crossings_between` in src/family.rt, which counts the crossings of each two parts: its loop.
use Rattle.tsp_cases.proofs.Prelude.{◌≡◌, ℕ, ◌<◌, ◌≤◌, ◌^◌, List, [], ◌∷◌, ◌++◌, length, get_or, ap, sym, ◌∙◌, subst, arith, refl, length-append, bit_xor, count_ones, All, All-push, ones-le, xor_lt}
use Rattle.tsp_cases.proofs.LeastCycles.{HoldsByRows, by_rows_push}
use Rattle.tsp_cases.proofs.family.crossings_between.Goals as goal

-- plan: one cell more has its row, its column and the count of bits that differ (`by_rows_push`)
pub columns-preserved : goal.columns-preserved
columns-preserved c =
    let m : ℕ = length c.args.firsts.now in
    let costs : List ℕ = c.columns.costs.items in
    let h = c.columns.invariant in
    let membership : ℕ → ℕ = λ a. get_or c.args.memberships.now (get_or c.args.firsts.now a 0) 0 in
    let value : ℕ = count_ones (bit_xor (membership c.rows.a) (membership c.columns.b)) in
    let pushed : c.push.new.list.items ≡ costs ++ value ∷ [] = c.in_ok-push.ensures.items in
    let long = length-append costs (value ∷ []) in
    let fits : (a : ℕ) → membership a < 2 ^ 64 = λ a. let f = c.type_inv.memberships (get_or c.args.firsts.now a 0) in omega (arith, f) in
    let few : value ≤ 64 = ones-le 64 (bit_xor (membership c.rows.a) (membership c.columns.b)) (xor_lt 64 (membership c.rows.a) (membership c.columns.b) (fits c.rows.a) (fits c.columns.b)) in
    record {
      small = subst (All (λ cost. cost ≤ 64)) (sym pushed) (All-push (λ cost. cost ≤ 64) costs value h.small few);
      long = ap length pushed ∙ omega (arith, long, h.long);
      values = subst (HoldsByRows m (λ a b z. z ≡ count_ones (bit_xor (membership a) (membership b)))) (sym pushed)
          (by_rows_push m (λ a b z. z ≡ count_ones (bit_xor (membership a) (membership b))) costs c.rows.a c.columns.b value c.columns-test.true h.long h.values refl);
    }
