-- The goals of `Placed::lowered` in src/search.rt, which finds the nearest node once multipliers lower weights: its
-- loop and what it ensures.
use Rattle.tsp_bound.proofs.Prelude.{◌≡◌, ◌≤ℤ◌, ◌∙◌, ℕ, ℤ, arith, rules, sym, subst, w64, to_z, of_z, FitsSigned, false≢true, to_z-of_z, not_less_of}
use Rattle.tsp_bound.specs.states.Boxes.{node_of}
use Rattle.tsp_bound.proofs.Searches.{less_seen}
use Rattle.tsp_bound.proofs.Lowest.{ArePlaces, AreLowered, lowest_kept, lowest_taken, lowest_end}
use Rattle.tsp_bound.proofs.search.Placed.lowered.Goals as goal
use Rattle.tsp_bound.proofs.search.Placed.lowered.Goals.{in-Some+then-weight-best, in-Some+else-weight-best, in_default}

-- plan: by whether a listed node is outside and lighter: it is the new best (`lowest_taken`), or isn't (`lowest_kept`)
pub lowered-preserved : goal.lowered-preserved
lowered-preserved g c =
    let s = c.args.self.now in
    let n = g.W.Weights.nodes s.w.now in
    let v = g.W.Weights.at s.w.now in
    let node : ℕ = node_of s.order.now c.args.from in
    let listed = g.W.BoxedWeights.lowered_of s.w.now node in
    let outside = g.S.Seen.outside_of c.args.seen.now in
    let index : ℕ = c.lowered.index in
    let own = c.lowered-other in
    let places : ArePlaces n s.order.now s.places.now = record { inner = s.inner; placed = s.placed; back = s.back; there = s.there } in
    let best = c.lowered.best in
    let best_fits = c.lowered.invariant.fits in
    let fits : FitsSigned w64 own.result.1 = search rules in
    elim c.match-place_outside.branch [
      | in-Some+then-weight-best u ↦
          let better : to_z w64 (of_z w64 own.result.1) ≤ℤ best.weight = less_seen (to_z w64 (of_z w64 own.result.1)) best.weight best_fits u.if-weight-best.true in
          let back : to_z w64 (of_z w64 own.result.1) ≡ own.result.1 = to_z-of_z w64 own.result.1 fits in
          let found = u.in-Some.ensures in
          rw u.best-is (lowest_taken n v listed s.order.now s.places.now outside node index c.args.unlowered best _ own.result.0 places own.ensures.listed
          found.0 found.1 found.2 (back ∙ own.ensures.weight) (subst (FitsSigned w64) (sym back) fits) better c.lowered.invariant)
      | in-Some+else-weight-best u ↦
          let worse : best.weight ≤ℤ own.result.1 = not_less_of own.result.1 best.weight fits best_fits u.if-weight-best.false in
          rw u.best-is (lowest_kept n v listed s.order.now s.places.now outside node index c.args.unlowered best own.result.0 own.ensures.listed
          (λ in_x out_x. subst (λ (z : ℤ). best.weight ≤ℤ z) own.ensures.weight worse) c.lowered.invariant)
      | in_default u ↦
          rw u.best-is (lowest_kept n v listed s.order.now s.places.now outside node index c.args.unlowered best own.result.0 own.ensures.listed
          (λ in_x out_x. absurd (false≢true (sym (u.in_default.ensures in_x) ∙ out_x))) c.lowered.invariant)
    ]

pub returns : goal.returns
returns g c =
    let s = c.args.self.now in
    let n = g.W.Weights.nodes s.w.now in
    let node : ℕ = node_of s.order.now c.args.from in
    let listed = g.W.BoxedWeights.lowered_of s.w.now node in
    let lower : AreLowered n (g.W.BoxedWeights.unlowered s.w.now) (g.W.Weights.at s.w.now) listed node = record {
      no_more = λ x inner. c.count_lowered-index-end.ensures.no_more x (omega (arith, inner.0), inner.1);
      others = λ x inner. c.count_lowered-index-end.ensures.others x (omega (arith, inner.0), inner.1);
    } in
    let places : ArePlaces n s.order.now s.places.now = record { inner = s.inner; placed = s.placed; back = s.back; there = s.there } in
    lowest_end n (g.W.BoxedWeights.unlowered s.w.now) (g.W.Weights.at s.w.now) listed s.order.now s.places.now (g.S.Seen.outside_of c.args.seen.now) node c.lowered.index c.args.unlowered
    c.lowered.best (omega (arith, c.count_lowered-index-end.ensures.value)) places lower c.requires.best c.lowered.invariant
