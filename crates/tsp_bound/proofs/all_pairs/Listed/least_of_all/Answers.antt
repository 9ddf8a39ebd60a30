-- The goals of `Listed::least_of_all` in src/all_pairs.rt, which finds the least link out of a component by all pairs
-- of a place: its loop.
use Rattle.tsp_bound.proofs.Prelude.{◌≡◌, ◌≢◌, ◌+◌, ◌<◌, ◌≤ℤ◌, ◌∙◌, ℕ, ℤ, List, length, inl, inr, refl, arith, rules, ap, sym, subst, w64, to_z, of_z, SFits, cases_eq, to_z-of_z, get_or_read}
use Rattle.tsp_bound.proofs.RoundJoins.{lower_reached}
use Rattle.tsp_bound.specs.declared.search.Link.{Link}
use Rattle.tsp_bound.specs.states.Components.{label_at, weight_over}
use Rattle.tsp_bound.proofs.AllPairs.{IsEnding, ending_offered}
use Rattle.tsp_bound.proofs.all_pairs.Listed.least_of_all.Goals as goal
use Rattle.tsp_bound.proofs.all_pairs.Listed.least_of_all.Goals.{then-index-own, else-index-own}

-- plan: by the place: a link to another component is offered (`reached_offered`), and one inside the component isn't
-- (`ending_offered`)
pub places-preserved : goal.places-preserved
places-preserved g c =
    let s = c.args.self.now in
    let n : ℕ = length s.placed.order.now in
    let w = weight_over (g.W.Weights.at s.placed.w.now) s.placed.order.now in
    let label = label_at s.labels.items in
    let from : ℕ = c.args.from in
    let place : ℕ = c.places.place in
    let from_is : c.index-own.result.now ≡ label from = get_or_read s.labels.items from c.index-own.result.now (omega (arith, s.as_many, c.requires)) c.index-own.ensures 0 in
    let place_is : c.index.result.now ≡ label place = get_or_read s.labels.items place c.index.result.now (omega (arith, s.as_many, c.places-test.true)) c.index.ensures 0 in
    elim c.if-index-own.branch [
      | then-index-own u ↦
          let fits : SFits w64 u.weight-weight.result = search rules in
          let weight_is : to_z w64 (of_z w64 u.weight-weight.result) ≡ w from place = to_z-of_z w64 u.weight-weight.result fits ∙ u.weight-weight.ensures in
          let link : Link = record { weight = to_z w64 (of_z w64 u.weight-weight.result); from = from; to = place } in
          let out : label place ≢ label from = λ e. u.if-index-own.true (place_is ∙ (e ∙ sym from_is)) in
          let ending : IsEnding n w label from link = record { from_is = refl; to_in = c.places-test.true; to_out = out; weight_is = weight_is } in
          let new : Link = u.better.result in
          rw u.best-is (record {
            ending = ending_offered n w label from c.places.best link new c.places.invariant.ending ending u.better.ensures;
            least = λ x x_in x_out. elim (cases_eq x place) [
              | inl same ↦ subst (λ (i : ℕ). new.weight ≤ℤ w from i) (sym same) (subst (λ (z : ℤ). new.weight ≤ℤ z) weight_is u.better.ensures.no_worse)
              | inr other ↦ lower_reached c.places.best link new (w from x) u.better.ensures (c.places.invariant.least x (omega (arith, x_in, other)) x_out)
            ];
          })
      | else-index-own u ↦
          rw u.best-is (record {
            ending = c.places.invariant.ending;
            least = λ x x_in x_out. elim (cases_eq x place) [
              | inl same ↦ absurd (x_out (ap label same ∙ (sym place_is ∙ (u.if-index-own.false ∙ from_is))))
              | inr other ↦ c.places.invariant.least x (omega (arith, x_in, other)) x_out
            ];
          })
    ]
