-- The goals of `judge_tour_leaf` in src/tour_verdict.rt, which bounds the leaf with these numbers, if they are good:
-- the facts of the values that it makes, what its calls require and what it ensures.
use Rattle.tsp_branch.proofs.Prelude.{◌≡◌, ◌∙◌, ℕ, ℤ, List, length, take, drop, Option, refl, ap, sym, subst, arith, neg_ℤ, ◌+ℤ◌, w64, int_wrap, All, entry, least_at, IsFamily, lent_in, good_in, AreSmallMultipliers, multipliers_at, LeafNumbers, decided_number, IsFoundAt, Decision, marks_in, decisions_in, small_multipliers, few_crossings}
use Rattle.tsp_branch.specs.states.KeptRows.{kept_weight, AreRowsIfAny, AreEnds, HoldsRows}
use Rattle.tsp_cases.proofs.SetSums.{moved_from_ends}
use Rattle.tsp_cases.proofs.Passes.{written}
use Rattle.tsp_branch.proofs.Judging.{good_read, found_of_case, numbers_are}
use Rattle.tsp_branch.proofs.tour_verdict.judge_tour_leaf.Goals as goal

pub invariant_of-multipliers : goal.invariant_of-multipliers
invariant_of-multipliers g c =
    let s = c.args.context.now in
    let is = c.deref.ensures.value ∙ written c.args.room.now.multipliers.len c.judge_numbers.new.multipliers _ (c.judge_numbers.ensures.multipliers_len ∙ c.deref_mut-2.ensures.len)
    ∙ c.if-not-judge_numbers.ensures.multipliers refl in
    let good = c.if-not-judge_numbers.ensures.good.0 refl in
    let long = ap length is ∙ good.each_family in
    record {
      as_many = omega (arith, long, s.families.now.as_many);
      small = subst AreSmallMultipliers (sym is) (small_multipliers _ s.families.now.crossed.items _ _ s.families.now.some
          (c.if-not-judge_numbers.ensures.good.0 refl));
    }

pub fill_moved-requires-clause-ends : goal.fill_moved-requires-clause-ends
fill_moved-requires-clause-ends g c =
    let s = c.args.context.now in
    let n : ℕ = g.C.Costs.nodes s.costs.now in
    let cost = g.C.Costs.at s.costs.now in
    let marks : ℕ → ℕ → ℤ = marks_in s.cases.now.directed (decisions_in c.args.case.now) in
    let room = c.args.room.now in
    let ps_len : length c.deref-2.result.now ≡ n = ap length (c.deref-2.ensures.value
    ∙ written room.potentials.len c.judge_numbers.new.potentials _ (c.judge_numbers.ensures.potentials_len ∙ c.deref_mut.ensures.len))
    ∙ c.judge_numbers.ensures.potentials_len ∙ ap length c.deref_mut.ensures.value ∙ c.requires.room.potentials in
    let ms_len : length c.deref.result.now ≡ length s.families.now.crossed.items =
    ap length (c.deref.ensures.value ∙ written room.multipliers.len c.judge_numbers.new.multipliers _ (c.judge_numbers.ensures.multipliers_len ∙ c.deref_mut-2.ensures.len))
    ∙ c.judge_numbers.ensures.multipliers_len ∙ ap length c.deref_mut-2.ensures.value ∙ c.requires.room.multipliers in
    let brought = c.bring_to.ensures.kept n s.cases.now.scale cost marks
    (subst (λ (k : ℕ). HoldsRows n k s.cases.now.scale (lent_in s.families.now) cost marks room.kept)
    (sym ms_len) c.requires.kept) s.table in
    let places = ap length c.deref-3.ensures.value ∙ brought.ends.places in
    omega (arith, places, ps_len)

-- plan: the judged numbers are those of the leaf (`numbers_are`), and `moved` has each potential less the multipliers
-- of the node's sets (`moved_from_ends`)
pub invariant_of-leaf : goal.invariant_of-leaf
invariant_of-leaf g c =
    let s = c.args.context.now in
    let n : ℕ = g.C.Costs.nodes s.costs.now in
    let cost = g.C.Costs.at s.costs.now in
    let marks : ℕ → ℕ → ℤ = marks_in s.cases.now.directed (decisions_in c.args.case.now) in
    let room = c.args.room.now in
    let families : List (List (List ℕ)) = lent_in s.families.now in
    let ps_len : length c.deref-2.result.now ≡ n = ap length (c.deref-2.ensures.value
    ∙ written room.potentials.len c.judge_numbers.new.potentials _ (c.judge_numbers.ensures.potentials_len ∙ c.deref_mut.ensures.len))
    ∙ c.judge_numbers.ensures.potentials_len ∙ ap length c.deref_mut.ensures.value ∙ c.requires.room.potentials in
    let ms_len : length c.deref.result.now ≡ length s.families.now.crossed.items =
    ap length (c.deref.ensures.value ∙ written room.multipliers.len c.judge_numbers.new.multipliers _ (c.judge_numbers.ensures.multipliers_len ∙ c.deref_mut-2.ensures.len))
    ∙ c.judge_numbers.ensures.multipliers_len ∙ ap length c.deref_mut-2.ensures.value ∙ c.requires.room.multipliers in
    let ps_same : c.deref-2.result.now ≡ c.deref-4.result.now = c.deref-2.ensures.value ∙ sym c.deref-4.ensures.value in
    let ms_same : c.deref.result.now ≡ c.deref-5.result.now = c.deref.ensures.value ∙ sym c.deref-5.ensures.value in
    let moved_is = c.deref-6.ensures.value ∙ written room.moved.len c.fill_moved.new.row _ (c.fill_moved.auto.row ∙ c.deref_mut-3.ensures.len) in
    let brought : HoldsRows n (length c.deref.result.now) s.cases.now.scale families cost marks c.bring_to.new.self =
    c.bring_to.ensures.kept n s.cases.now.scale cost marks (subst (λ (k : ℕ). HoldsRows n k s.cases.now.scale families cost marks room.kept) (sym ms_len) c.requires.kept) s.table in
    let now_at : c.bring_to.new.self.multipliers.items ≡ c.deref-5.result.now = c.bring_to.ensures.multipliers ∙ ms_same in
    let ends : AreEnds n c.deref-5.result.now families c.bring_to.new.self.ends.items = subst (λ (ms : List ℤ). AreEnds n ms families c.bring_to.new.self.ends.items) now_at brought.ends in
    let rows : AreRowsIfAny n cost (kept_weight s.cases.now.scale families cost marks c.deref-5.result.now) c.bring_to.new.self.rows.items =
    subst (λ (ms : List ℤ). AreRowsIfAny n cost (kept_weight s.cases.now.scale families cost marks ms) c.bring_to.new.self.rows.items) now_at brought.rows in
    let read : List ℤ = c.args.numbers.now in
    let at = ap length c.deref_mut.ensures.value ∙ c.requires.room.potentials in
    let of_nodes = c.deref-4.ensures.value ∙ written room.potentials.len c.judge_numbers.new.potentials _ (c.judge_numbers.ensures.potentials_len ∙ c.deref_mut.ensures.len)
    ∙ c.if-not-judge_numbers.ensures.potentials refl in
    let of_families = c.deref-5.ensures.value ∙ written room.multipliers.len c.judge_numbers.new.multipliers _ (c.judge_numbers.ensures.multipliers_len ∙ c.deref_mut-2.ensures.len)
    ∙ c.if-not-judge_numbers.ensures.multipliers refl in
    let crossed = s.families.now.crossed.items in
    let numbers = numbers_are n _ crossed read c.deref-4.result.now c.deref-5.result.now at of_nodes of_families (c.if-not-judge_numbers.ensures.good.0 refl) in
    record {
      is_case = c.requires.case;
      direction = c.requires.direction;
      once = c.requires.once;
      few = c.requires.few;
      numbers = numbers;
      crossed = few_crossings n crossed c.deref-4.result.now c.deref-5.result.now families numbers s.families.now.many
          (subst (λ (m : ℕ). ∥ All (IsFamily m) (good_in s.families.now) ∥₁) s.same s.families.now.are);
      places = ap length moved_is ∙ c.fill_moved.auto.row ∙ ap length c.deref_mut-3.ensures.value ∙ c.requires.room.moved;
      are_moved = λ x x_in.
          ap (λ (zs : List ℤ). int_wrap w64 (least_at zs x)) moved_is
          ∙ moved_from_ends (entry c.deref-2.result.now x) (least_at c.deref-3.result.now x) (least_at c.fill_moved.new.row x) (neg_ℤ (multipliers_at c.deref-5.result.now families x))
          (c.fill_moved.ensures x (x_in.0, omega (arith, x_in.1, ps_len))) (ap (λ (zs : List ℤ). int_wrap w64 (least_at zs x)) c.deref-3.ensures.value ∙ ends.taken x x_in)
          ∙ ap (λ (ps : List ℤ). int_wrap w64 (entry ps x +ℤ neg_ℤ (multipliers_at c.deref-5.result.now families x))) ps_same;
      are_kept = subst (AreRowsIfAny n cost (kept_weight s.cases.now.scale families cost marks c.deref-5.result.now)) (sym c.deref-7.ensures.value) rows;
    }

pub returns-clause-kept : goal.returns-clause-kept
returns-clause-kept g c =
    let s = c.args.context.now in
    let n : ℕ = g.C.Costs.nodes s.costs.now in
    let cost = g.C.Costs.at s.costs.now in
    let marks : ℕ → ℕ → ℤ = marks_in s.cases.now.directed (decisions_in c.args.case.now) in
    let room = c.args.room.now in
    let ms_len : length c.deref.result.now ≡ length s.families.now.crossed.items =
    ap length (c.deref.ensures.value ∙ written room.multipliers.len c.judge_numbers.new.multipliers _ (c.judge_numbers.ensures.multipliers_len ∙ c.deref_mut-2.ensures.len))
    ∙ c.judge_numbers.ensures.multipliers_len ∙ ap length c.deref_mut-2.ensures.value ∙ c.requires.room.multipliers in
    let brought = c.bring_to.ensures.kept n s.cases.now.scale cost marks
    (subst (λ (k : ℕ). HoldsRows n k s.cases.now.scale (lent_in s.families.now) cost marks room.kept)
    (sym ms_len) c.requires.kept) s.table in
    subst (λ (k : ℕ). HoldsRows n k s.cases.now.scale (lent_in s.families.now) cost marks c.bring_to.new.self) ms_len brought

pub returns-clause-judged : goal.returns-clause-judged
returns-clause-judged g c =
    let s = c.args.context.now in
    let n : ℕ = g.C.Costs.nodes s.costs.now in
    let room = c.args.room.now in
    let read : List ℤ = c.args.numbers.now in
    let at = ap length c.deref_mut.ensures.value ∙ c.requires.room.potentials in
    let good = good_read n _ s.families.now.crossed.items read read at refl (c.if-not-judge_numbers.ensures.good.0 refl) in
    let of_nodes = c.deref-4.ensures.value ∙ written room.potentials.len c.judge_numbers.new.potentials _ (c.judge_numbers.ensures.potentials_len ∙ c.deref_mut.ensures.len)
    ∙ c.if-not-judge_numbers.ensures.potentials refl in
    let of_families = c.deref-5.ensures.value ∙ written room.multipliers.len c.judge_numbers.new.multipliers _ (c.judge_numbers.ensures.multipliers_len ∙ c.deref_mut-2.ensures.len)
    ∙ c.if-not-judge_numbers.ensures.multipliers refl in
    let found : List Decision × LeafNumbers → Option ℤ → Type 0 = IsFoundAt s.cases.now.directed n (g.C.Costs.at s.costs.now) s.cases.now.scale decided_number
    (good_in s.families.now) in
    found_of_case found n s.families.now.crossed.items (decisions_in c.args.case.now) read c.deref-4.result.now c.deref-5.result.now c.in_ok-bound.bound
    s.families.now.some good (of_nodes ∙ ap (λ (k : ℕ). take k read) at) (of_families ∙ ap (λ (k : ℕ). drop k read) at)
    c.in_ok-bound.ensures.bound
