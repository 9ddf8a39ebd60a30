-- The goals of `numbered_sites_of` in src/boxes.rt, which puts the nodes of an order beside each other with
-- their places and numbers: its loop.
use Rattle.tsp_bound.proofs.Prelude.{◌≡◌, ◌<◌, ◌+◌, ◌++◌, ◌∷◌, [], ℕ, List, length, arith, sym, subst, ap, ◌∙◌, inl, inr, rules, w64, to_z, of_z, SFits, slice_index_or, ℤ, pos, neg_ℤ, cases_eq, to_z-of_z, length-append, get_or_append_left, get_or_push, IsFromTo, most_number}
use Rattle.tsp_bound.specs.declared.boxes.NumberedSite.{NumberedSite}
use Rattle.tsp_bound.specs.states.Boxes.{node_of, IsNumberedSiteOf}
use Rattle.tsp_bound.proofs.boxes.numbered_sites_of.Goals as goal

-- plan: the pushed site has the node's own point and number (`own`); those before it are as they were
-- (`get_or_append_left`)
pub places-preserved : goal.places-preserved
places-preserved g c =
    let placed = c.args.placed.now in
    let n = g.W.Weights.nodes placed.w.now in
    let place = g.W.BoxedWeights.place_of placed.w.now in
    let number = g.W.BoxedWeights.number_of placed.w.now in
    let old : List NumberedSite = c.places.sites.items in
    let fits : SFits w64 c.number-number.result = search rules in
    let back : to_z w64 (of_z w64 c.number-number.result) ≡ c.number-number.result = to_z-of_z w64 c.number-number.result fits in
    let new : NumberedSite = record { site = c.in-Some.site; number = to_z w64 (of_z w64 c.number-number.result) } in
    let pushed : c.push.new.list.items ≡ old ++ new ∷ [] = c.in_ok-push.ensures.items in
    let own : IsNumberedSiteOf n place number (node_of placed.order.now c.places.place) new = record {
      here = c.in-Some.ensures.0;
      known = record {
        site = c.in-Some.ensures.1;
        value = back ∙ c.number-number.ensures.value ∙ ap number (sym c.in-Some.ensures.0);
        size = subst (λ (z : ℤ). IsFromTo (neg_ℤ (pos most_number)) (pos most_number) z) (sym back) c.number-number.ensures.size;
      };
    } in
    record {
      len = ap length pushed ∙ length-append old (new ∷ []) ∙ ap (λ (k : ℕ). k + 1) c.places.invariant.len;
      done = λ j other j_in. subst (λ (sites : List NumberedSite). IsNumberedSiteOf n place number (node_of placed.order.now j) (slice_index_or sites j other)) (sym pushed)
          (elim (cases_eq j c.places.place) [
            | inl same ↦ subst (λ (k : ℕ). IsNumberedSiteOf n place number (node_of placed.order.now k) (slice_index_or (old ++ new ∷ []) k other)) (sym same)
                (subst (IsNumberedSiteOf n place number (node_of placed.order.now c.places.place)) (sym (get_or_push old new other c.places.place c.places.invariant.len)) own)
            | inr apart ↦ let before : j < c.places.place = omega (arith, apart, j_in) in
                subst (IsNumberedSiteOf n place number (node_of placed.order.now j)) (sym (get_or_append_left old (new ∷ []) other j (omega (arith, before, c.places.invariant.len))))
                (c.places.invariant.done j other before)
          ]);
    }
