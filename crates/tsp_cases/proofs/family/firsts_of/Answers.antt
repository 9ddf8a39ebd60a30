-- The goals of `firsts_of` in src/family.rt, which finds the first node of each part: its loop and what it ensures.
use Rattle.tsp_cases.proofs.Prelude.{◌≡◌, ℕ, ◌+◌, ◌<◌, ◌≤◌, List, [], ◌∷◌, ◌++◌, length, get_or, ap, sym, ◌∙◌, subst, arith, refl, inl, inr, length-append, All, Any, cases_eq, iff_false, All-push}
use Rattle.std.proofs.lemmas.List.Quantifiers.{Any-push}
use Rattle.tsp_cases.specs.Crossings.{IsNodePlace, AreDifferent}
use Rattle.tsp_cases.proofs.Divisions.{any_more, differ_more}
use Rattle.tsp_cases.proofs.family.firsts_of.Goals.{then-not-has_membership+else-len-ge-MOST_PARTS+in_ok-push, else-not-has_membership}
use Rattle.tsp_cases.proofs.family.firsts_of.Goals as goal

pub returns-then-len-ge-MOST_PARTS-clause-firsts : goal.returns-then-len-ge-MOST_PARTS-clause-firsts
returns-then-len-ge-MOST_PARTS-clause-firsts c =
    let memberships : List ℕ = c.args.memberships.now in
    let firsts : List ℕ = c.nodes.firsts.items in
    let node : ℕ = c.nodes.node in
    let h = c.nodes.invariant in
    let new : Any (λ first. get_or memberships node 0 ≡ get_or memberships first 0) firsts → ⊥ = λ found. iff_false c.has_membership.ensures c.if-not-has_membership.true
    (subst (Any (λ first. get_or memberships node 0 ≡ get_or memberships first 0)) (sym c.deref.ensures.value) found) in
    let place : IsNodePlace memberships node = (omega arith, omega (arith, c.nodes-test.true)) in (
      firsts ++ node ∷ [],
      length-append firsts (node ∷ []) ∙ omega (arith, h.few, c.if-len-ge-MOST_PARTS.true, c.len.ensures),
      All-push (IsNodePlace memberships) firsts node h.places place,
      differ_more memberships firsts node h.differ new,
    )

more_nodes : (memberships firsts : List ℕ) (node : ℕ)
    → ((x : ℕ) → 1 ≤ x → x < node → Any (λ first. get_or memberships x 0 ≡ get_or memberships first 0) firsts)
    → Any (λ first. get_or memberships node 0 ≡ get_or memberships first 0) firsts
    → (x : ℕ) → 1 ≤ x → x < node + 1 → Any (λ first. get_or memberships x 0 ≡ get_or memberships first 0) firsts
more_nodes memberships firsts node each here x low high = elim (cases_eq node x) [
  | inl same ↦ subst (λ (y : ℕ). Any (λ first. get_or memberships y 0 ≡ get_or memberships first 0) firsts) same here
  | inr other ↦ each x low (omega (arith, high, other))
]

-- the first nodes of the parts so far
record IsKept (memberships firsts : List ℕ) (node : ℕ) : Type 0 where
  pub places : All (IsNodePlace memberships) firsts
  pub differ : AreDifferent memberships firsts
  pub each : (x : ℕ) → 1 ≤ x → x < node → Any (λ first. get_or memberships x 0 ≡ get_or memberships first 0) firsts
  pub few : length firsts ≤ 14

pushed_kept : (memberships firsts : List ℕ) (node : ℕ) → IsKept memberships firsts node → IsNodePlace memberships node
    → (Any (λ first. get_or memberships node 0 ≡ get_or memberships first 0) firsts → ⊥) → length firsts < 14
    → IsKept memberships (firsts ++ node ∷ []) (node + 1)
pushed_kept memberships firsts node h place new room = record {
  places = All-push (IsNodePlace memberships) firsts node h.places place;
  differ = differ_more memberships firsts node h.differ new;
  each = more_nodes memberships (firsts ++ node ∷ []) node (λ x low high. any_more (λ first. get_or memberships x 0 ≡ get_or memberships first 0) firsts node (h.each x low high))
      (Any-push (λ first. get_or memberships node 0 ≡ get_or memberships first 0) firsts node refl);
  few = let long = length-append firsts (node ∷ []) in omega (arith, long, room);
}

-- plan: a node alike to an earlier one adds no part (`any_more`); another is the first of its part (`differ_more`)
pub nodes-preserved : goal.nodes-preserved
nodes-preserved c =
    let memberships : List ℕ = c.args.memberships.now in
    let firsts : List ℕ = c.nodes.firsts.items in
    let node : ℕ = c.nodes.node in
    let h = c.nodes.invariant in
    let place : IsNodePlace memberships node = (omega arith, omega (arith, c.nodes-test.true)) in
    let kept : IsKept memberships firsts node = record { places = h.places; differ = h.differ; each = h.each; few = h.few } in
    let all : IsKept memberships c.if-not-has_membership.firsts.items (node + 1) = elim c.if-not-has_membership.branch [
      | then-not-has_membership+else-len-ge-MOST_PARTS+in_ok-push w ↦
          let new : Any (λ first. get_or memberships node 0 ≡ get_or memberships first 0) firsts → ⊥ = λ found. iff_false c.has_membership.ensures w.if-not-has_membership.true
          (subst (Any (λ first. get_or memberships node 0 ≡ get_or memberships first 0)) (sym c.deref.ensures.value) found) in
          let same : c.if-not-has_membership.firsts.items ≡ firsts ++ node ∷ [] = ap (λ v. v.items) w.firsts-is ∙ w.in_ok-push.ensures.items in
          subst (λ (xs : List ℕ). IsKept memberships xs (node + 1)) (sym same) (pushed_kept memberships firsts node kept place new (omega (arith, w.if-len-ge-MOST_PARTS.false, w.len.ensures)))
      | else-not-has_membership w ↦
          let here : Any (λ first. get_or memberships node 0 ≡ get_or memberships first 0) firsts =
          subst (Any (λ first. get_or memberships node 0 ≡ get_or memberships first 0)) c.deref.ensures.value (c.has_membership.ensures.0 w.if-not-has_membership.false) in
          let same : c.if-not-has_membership.firsts.items ≡ firsts = ap (λ v. v.items) w.firsts-is in
          subst (λ (xs : List ℕ). IsKept memberships xs (node + 1)) (sym same)
          (record { places = h.places; differ = h.differ; each = more_nodes memberships firsts node h.each here; few = h.few })
    ] in
    record { places = all.places; differ = all.differ; each = all.each; few = all.few }
