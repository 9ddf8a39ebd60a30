-- The loop of `join` in src/rounds.rt, which joins the components of a round by their best links.
use Rattle.std.proofs.Common.{◌≡◌, ◌<◌, ℕ, false, length}
use Rattle.tsp_bound.specs.states.Boxes.{box_at}
use Rattle.tsp_bound.specs.states.Components.{label_at}
use Rattle.tsp_bound.proofs.RoundJoins.{IsJoining}
use Rattle.tsp_bound.proofs.rounds.join.Given as goal

-- the pairs so far are least joins; both ends of each have one label, or equal new labels
abbrev pub invariant-components : goal.invariant-components
invariant-components g l =
    let n = g.P.Components.count_of l.nodes in
    let w = g.P.Components.weight_of l.nodes in
    let label = g.P.Components.label_of l.nodes in
    record {
      len : length l.labels.items ≡ n;
      met_len : length l.met.items ≡ n;
      low : (c : ℕ) → c < n → label_at l.labels.items c < n;
      joining : IsJoining n w label (label_at l.labels.items) (box_at false l.met.items) l.added.items;
    }
