-- The loop of `grow` in src/prim.rt.
use Rattle.tsp_bound.proofs.Prelude.{◌≡◌, ◌-◌, ◌*◌, ◌^◌, length, MatchOption, pos, neg_ℤ, IsFromTo}
use Rattle.tsp_bound.specs.states.Outside.{IsLeastPlace}
use Rattle.tsp_bound.proofs.GrowingTrees.{IsState}
use Rattle.tsp_bound.proofs.prim.grow.Given as goal

-- the pairs grow a tree from node 2; each node outside is listed once, with the nearest node inside, and `nearest` is
-- the least place
abbrev pub invariant-grow : goal.invariant-grow
invariant-grow g l =
    let n = g.W.Weights.nodes l.w in
    record {
      state : IsState n (g.W.Weights.at l.w) l.outside.items l.near.items l.least.items l.pairs.items l.weight;
      nearest : MatchOption l.nearest (length l.outside.items ≡ 0) (IsLeastPlace l.least.items);
      size : IsFromTo (neg_ℤ (pos ((n - length l.outside.items) * 2 ^ 63))) (pos ((n - length l.outside.items) * 2 ^ 63)) l.weight;
    }

-- each round takes a node off `outside`
abbrev pub decreases-grow : goal.decreases-grow
decreases-grow g l = length l.outside.items
