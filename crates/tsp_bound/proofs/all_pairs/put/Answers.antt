-- The goals of `put` in src/all_pairs.rt, which puts a link into the list of its place: what it ensures.
use Rattle.tsp_bound.proofs.Prelude.{◌≡◌, ◌-◌, ◌+◌, ◌*◌, ◌<◌, ◌≤ℤ◌, ◌∙◌, ℤ, ℕ, List, refl, length, get_or, arith, rules, ap, sym, subst, set, pos, w64, to_z, of_z, SFits, get_or_default, least_at}
use Rattle.tsp_bound.specs.declared.search.Link.{Link}
use Rattle.tsp_bound.specs.states.Components.{kept_at, empty_link, links_kept}
use Rattle.tsp_bound.proofs.AllPairs.{bound_seen}
use Rattle.tsp_bound.proofs.all_pairs.put.Goals as goal

-- plan: the new link replaces the heaviest one, and the number of the place is at most the weight of each link that
-- isn't listed (`bound_seen`)
pub returns : goal.returns
returns c =
    let from = c.args.link.from in
    let slot : ℕ = c.heaviest-slot.result - links_kept * from in
    let slot_is : c.heaviest-slot.result ≡ links_kept * from + slot = omega (arith, c.heaviest-slot.ensures.low) in
    let zero : Link = record { weight = pos 0; from = 0; to = 0 } in
    let old : Link = get_or c.args.links.now c.heaviest-slot.result zero in
    let inside : c.heaviest-slot.result < length c.args.links.now = omega (arith, c.heaviest-slot.ensures.high, c.requires.long, c.requires.from) in
    let old_is : old ≡ kept_at c.args.links.now from slot = get_or_default c.args.links.now c.heaviest-slot.result zero empty_link inside
    ∙ ap (λ i. get_or c.args.links.now i empty_link) slot_is in
    let number_fits : SFits w64 (least_at c.args.bounds.now from) = search rules in
    let old_fits : SFits w64 old.weight = search rules in
    let dropped_fits : SFits w64 c.lesser-dropped.result = search rules in
    let fits : SFits w64 c.lesser.result = search rules in
    record {
      slot = slot;
      few = omega (arith, c.heaviest-slot.ensures.low, c.heaviest-slot.ensures.high);
      bound = to_z w64 (of_z w64 c.lesser.result);
      links_is = ap (λ i. set c.args.links.now i c.args.link) slot_is;
      bounds_is = refl;
      lower = bound_seen (least_at c.args.bounds.now from) c.lesser-dropped.result c.lesser.result number_fits dropped_fits fits c.lesser-dropped.ensures.first c.lesser.ensures.first;
      below = subst (λ (l : Link). to_z w64 (of_z w64 c.lesser.result) ≤ℤ l.weight) old_is
          (bound_seen old.weight c.lesser-dropped.result c.lesser.result old_fits dropped_fits fits c.lesser-dropped.ensures.second c.lesser.ensures.first);
    }
