-- The goals of `KeptRows::bring_to` in src/kept_rows.rt, which brings the kept rows to the multipliers of the next leaf: the
-- facts of the values that it makes, what its calls require and what it ensures.
use Rattle.tsp_branch.proofs.Prelude.{◌≡◌, ◌∙◌, ℕ, ℤ, List, length, ap, sym, subst, arith, Vec, neg_ℤ, least_at, IsMoved, All}
use Rattle.std.proofs.lemmas.Bool.Decides.{Decides-int_eq}
use Rattle.std.proofs.lemmas.Slice.Eq.{slice_eq-Decides}
use Rattle.tsp_cases.specs.declared.sets.SetPlace.{SetPlace}
use Rattle.tsp_cases.specs.states.Sets.{IsPlaceIn, lent_in, multipliers_at, AreSmallMultipliers, AreSmallDifferences}
use Rattle.tsp_branch.specs.states.KeptRows.{kept_weight, AreRowsIfAny, AreAdded, AreDifferences, AreEnds}
use Rattle.tsp_cases.proofs.Passes.{written}
use Rattle.tsp_branch.proofs.RowsKept.{rows_brought, ends_brought}
use Rattle.tsp_cases.proofs.SetSums.{places_inside}
use Rattle.tsp_branch.proofs.kept_rows.KeptRows.bring_to.Goals as goal

pub returns-then-eq-clause-multipliers : goal.returns-then-eq-clause-multipliers
returns-then-eq-clause-multipliers c =
    sym c.as_slice.ensures.value ∙ (slice_eq-Decides Decides-int_eq c.as_slice.result.now c.args.multipliers.now.numbers.now c.eq.result c.eq.ensures).0 c.if-eq.true

pub add_to_rows-requires-clause-places : goal.add_to_rows-requires-clause-places
add_to_rows-requires-clause-places c = λ k d less.
    let families = lent_in c.args.multipliers.now.families.now in
    let table = c.requires.kept.6 in
    let listed = table.said k d (omega (arith, less, table.count)) in
    subst (All (IsPlaceIn families)) (sym listed) (places_inside families k)

pub invariant_of-old : goal.invariant_of-old
invariant_of-old c = record {
  as_many = ap length c.deref.ensures.value ∙ c.requires.kept.4.multipliers ∙ c.args.multipliers.now.as_many;
  small = subst AreSmallMultipliers (sym c.deref.ensures.value) c.requires.kept.4.small;
}

pub invariant_of-changed : goal.invariant_of-changed
invariant_of-changed c =
    let differences_are = c.deref-2.ensures.value ∙ written c.args.self.now.differences.len c.write_differences.new.differences _ (c.write_differences.auto.differences ∙ c.deref_mut.ensures.len) in
    record {
      as_many = ap length differences_are ∙ c.write_differences.auto.differences ∙ ap length c.deref_mut.ensures.value ∙ c.requires.kept.4.differences ∙ c.args.multipliers.now.as_many;
      small = subst AreSmallDifferences (sym differences_are) c.write_differences.ensures.small;
    }

-- plan: by whether the multipliers are other ones: their differences are added to the rows (`rows_brought`) and to the
-- ends (`ends_brought`), which are linear in the multipliers
pub returns-clause-kept : goal.returns-clause-kept
returns-clause-kept c = λ n scale cost marks kept table.
    let old : List ℤ = c.args.self.now.multipliers.items in
    let new : List ℤ = c.args.multipliers.now.numbers.now in
    let is : c.copy_from_slice.new.self.items ≡ new = c.copy_from_slice.ensures.items in
    let differ : AreDifferences old new c.write_differences.new.differences =
    subst (λ (zs : List ℤ). AreDifferences zs new c.write_differences.new.differences) c.deref.ensures.value c.write_differences.ensures.differences in
    let differences : List ℤ = c.write_differences.new.differences in
    let rows : List (Vec ℤ) = c.add_to_rows.new.rows in
    let families : List (List (List ℕ)) = lent_in c.args.multipliers.now.families.now in
    let by_node : List (Vec SetPlace) = c.args.by_node.now in
    let differences_are = written c.args.self.now.differences.len differences _ (c.write_differences.auto.differences ∙ c.deref_mut.ensures.len) in
    let ends_are = written c.args.self.now.ends.len c.take_multipliers.new.row _ (c.take_multipliers.auto.row ∙ c.deref_mut-2.ensures.len) in
    let rows_are = written c.args.self.now.rows.len rows _ (c.add_to_rows.auto.rows ∙ c.deref_mut-3.ensures.len) in
    let added : AreAdded differences families by_node c.args.self.now.rows.items rows =
    subst (λ (ds : List ℤ). AreAdded ds families by_node c.args.self.now.rows.items rows) (c.deref-2.ensures.value ∙ differences_are)
    (subst (λ (rs : List (Vec ℤ)). AreAdded c.deref-2.result.now families by_node rs rows) c.deref_mut-3.ensures.value c.add_to_rows.ensures) in
    let brought : AreRowsIfAny n cost (kept_weight scale families cost marks new) rows =
    rows_brought n scale families cost marks old new differences by_node c.args.self.now.rows.items rows differ table added kept.rows in
    let moved = λ (x : ℕ).
    subst (λ (ds : List ℤ). IsMoved (neg_ℤ (multipliers_at ds families x)) (least_at c.args.self.now.ends.items x) (least_at c.take_multipliers.new.row x)) (c.deref-2.ensures.value ∙ differences_are)
    (subst (λ (zs : List ℤ). IsMoved (neg_ℤ (multipliers_at c.deref-2.result.now families x)) (least_at zs x) (least_at c.take_multipliers.new.row x)) c.deref_mut-2.ensures.value
    (c.take_multipliers.ensures x)) in
    let ends : AreEnds n new families c.take_multipliers.new.row =
    ends_brought n families old new differences c.args.self.now.ends.items c.take_multipliers.new.row differ (c.take_multipliers.auto.row ∙ ap length c.deref_mut-2.ensures.value) moved kept.ends in
    record {
      multipliers = ap length is;
      ends = subst (AreEnds n c.copy_from_slice.new.self.items families) (sym ends_are) (subst (λ (ms : List ℤ). AreEnds n ms families c.take_multipliers.new.row) (sym is) ends);
      differences = ap length differences_are ∙ c.write_differences.auto.differences ∙ ap length c.deref_mut.ensures.value ∙ kept.differences;
      small = subst AreSmallMultipliers (sym is) c.args.multipliers.now.small;
      rows = subst (AreRowsIfAny n cost (kept_weight scale families cost marks c.copy_from_slice.new.self.items)) (sym rows_are)
          (subst (λ (ms : List ℤ). AreRowsIfAny n cost (kept_weight scale families cost marks ms) rows) (sym is) brought);
    }
