-- The goals of `Listed::best_kept` in src/all_pairs.rt, which finds the least listed link out of a component: its loop
-- and what it ensures.
use Rattle.tsp_bound.proofs.Prelude.{◌≡◌, ◌≢◌, ◌+◌, ◌-◌, ◌*◌, ◌<◌, ◌≤ℤ◌, ◌∙◌, ℕ, pos, List, length, get_or, inl, inr, arith, rules, ap, sym, subst, w64, to_z, of_z, SFits, cases_eq, to_z-of_z, get_or_read}
use Rattle.tsp_bound.proofs.RoundJoins.{lower_reached}
use Rattle.tsp_bound.specs.declared.search.Link.{Link}
use Rattle.tsp_bound.specs.states.Components.{label_at, weight_over, kept_at, empty_link, IsOwnLink, links_kept}
use Rattle.tsp_bound.proofs.AllPairs.{IsEnding, ending_offered}
use Rattle.tsp_bound.proofs.all_pairs.Listed.best_kept.Goals as goal
use Rattle.tsp_bound.proofs.all_pairs.Listed.best_kept.Goals.{then-link-ne9223372036854775807+then-index-own, else-link-ne9223372036854775807, else-link-ne9223372036854775807-via-then-link-ne9223372036854775807+else-index-own, else-link-ne9223372036854775807-via-else-link-ne9223372036854775807}
use Rattle.tsp_bound.specs.states.Boxes.{no_weight}

-- plan: by the listed link: one to another component is offered (`reached_offered`), and one inside its component isn't
-- (`ending_offered`)
pub links-preserved : goal.links-preserved
links-preserved g c =
    let s = c.args.self.now in
    let n : ℕ = length s.placed.order.now in
    let w = weight_over (g.W.Weights.at s.placed.w.now) s.placed.order.now in
    let label = label_at s.labels.items in
    let from : ℕ = c.args.from in
    let links : List Link = s.links.items in
    let k : ℕ = c.links.k in
    let link : Link = c.index-link.result.now in
    let inside : links_kept * from + k < length links = omega (arith, s.long, c.requires, c.links-test.true) in
    let link_is : link ≡ kept_at links from k = get_or_read links (links_kept * from + k) link inside c.index-link.ensures empty_link in
    let own : IsOwnLink n w from link = subst (IsOwnLink n w from) (sym link_is) (s.listed.own from k c.requires c.links-test.true) in
    let from_is : c.index-own.result.now ≡ label from = get_or_read s.labels.items from c.index-own.result.now (omega (arith, s.as_many, c.requires)) c.index-own.ensures 0 in
    let fits : SFits w64 link.weight = search rules in
    let most : SFits w64 (no_weight) = search rules in
    elim c.if-link-ne9223372036854775807.branch [
      | then-link-ne9223372036854775807+then-index-own u ↦
          let some : link.weight ≢ no_weight = λ e. u.if-link-ne9223372036854775807.true (ap (of_z w64) e) in
          let it = own some in
          let to_is : u.index.result.now ≡ label link.to = get_or_read s.labels.items link.to u.index.result.now (omega (arith, s.as_many, it.1)) u.index.ensures 0 in
          let out : label link.to ≢ label from = λ e. u.if-index-own.true (to_is ∙ (e ∙ sym from_is)) in
          let ending : IsEnding n w label from link = record { from_is = it.0; to_in = it.1; to_out = out; weight_is = it.2 } in
          let new : Link = u.better.result in
          rw u.best-is (record {
            ending = ending_offered n w label from c.links.best link new c.links.invariant.ending ending u.better.ensures;
            least = λ j j_in is_one j_out. elim (cases_eq j k) [
              | inl same ↦ subst (λ (i : ℕ). new.weight ≤ℤ (kept_at links from i).weight) (sym same) (subst (λ (l : Link). new.weight ≤ℤ l.weight) link_is u.better.ensures.no_worse)
              | inr other ↦ lower_reached c.links.best link new (kept_at links from j).weight u.better.ensures (c.links.invariant.least j (omega (arith, j_in, other)) is_one j_out)
            ];
          })
      | else-link-ne9223372036854775807 u ↦
          let left : link.weight ≢ no_weight → label link.to ≢ label from → ⊥ = λ some out. elim u.else-link-ne9223372036854775807.branch [
            | else-link-ne9223372036854775807-via-then-link-ne9223372036854775807+else-index-own v ↦
                let it = own some in
                out (sym (get_or_read s.labels.items link.to v.index.result.now (omega (arith, s.as_many, it.1)) v.index.ensures 0) ∙ (v.if-index-own.false ∙ from_is))
            | else-link-ne9223372036854775807-via-else-link-ne9223372036854775807 v ↦
                some (sym (to_z-of_z w64 link.weight fits) ∙ (ap (to_z w64) v.if-link-ne9223372036854775807.false ∙ to_z-of_z w64 (no_weight) most))
          ] in
          rw u.best-is (record {
            ending = c.links.invariant.ending;
            least = λ j j_in is_one j_out. elim (cases_eq j k) [
              | inl same ↦
                  let it : kept_at links from j ≡ link = ap (kept_at links from) same ∙ sym link_is in
                  absurd (left (subst (λ (l : Link). l.weight ≢ no_weight) it is_one) (subst (λ (l : Link). label l.to ≢ label from) it j_out))
              | inr other ↦ c.links.invariant.least j (omega (arith, j_in, other)) is_one j_out
            ];
          })
    ]

pub returns-in-None-clause-own : goal.returns-in-None-clause-own
returns-in-None-clause-own g c =
    let s = c.args.self.now in
    let n : ℕ = length s.placed.order.now in
    let w = weight_over (g.W.Weights.at s.placed.w.now) s.placed.order.now in
    let from : ℕ = c.args.from in
    let links : List Link = s.links.items in
    let link : Link = c.index-in-None.result.now in
    let k : ℕ = c.heaviest.result - links_kept * from in
    let k_in : k < links_kept = omega (arith, c.heaviest.ensures.low, c.heaviest.ensures.high) in
    let inside : c.heaviest.result < length links = omega (arith, s.long, c.requires, c.heaviest.ensures.high) in
    let is : link ≡ kept_at links from k = get_or_read links c.heaviest.result link inside c.index-in-None.ensures empty_link
    ∙ ap (λ i. get_or links i empty_link) (omega (arith, c.heaviest.ensures.low)) in
    subst (IsOwnLink n w from) (sym is) (s.listed.own from k c.requires k_in)
