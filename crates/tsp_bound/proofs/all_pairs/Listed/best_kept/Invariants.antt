-- The loop of `Listed::best_kept` in src/all_pairs.rt, which finds the least listed link out of a component.
use Rattle.std.proofs.Common.{◌≢◌, ◌<◌, ℕ, pos, length, IfSome}
use Rattle.tsp_bound.specs.states.Components.{label_at, weight_over, kept_at}
use Rattle.tsp_bound.proofs.RoundJoins.{IsReached}
use Rattle.tsp_bound.proofs.AllPairs.{IsEnding}
use Rattle.tsp_bound.specs.states.Boxes.{no_weight}
use Rattle.tsp_bound.proofs.all_pairs.Listed.best_kept.Given as goal

-- if a listed link before this one leaves the component, `best` does so too, and weighs no more
abbrev pub invariant-links : goal.invariant-links
invariant-links g l =
    let s = l.self in
    let label = label_at s.labels.items in
    record {
      ending : IfSome l.best (IsEnding (length s.placed.order.now) (weight_over (g.W.Weights.at s.placed.w.now) s.placed.order.now) label l.from);
      least : (k : ℕ) → k < l.k → (kept_at s.links.items l.from k).weight ≢ no_weight → label (kept_at s.links.items l.from k).to ≢ label l.from
          → IsReached l.best (kept_at s.links.items l.from k).weight;
    }
