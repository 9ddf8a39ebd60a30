-- The goals of `entry_with` in src/least_q_route.rt, which improves an entry by the next nodes of a range: its loop,
-- what its call requires and what it ensures.
use Rattle.std.proofs.Common.{◌≡◌, ℕ, ◌+◌, ◌-◌, subst, arith}
use Rattle.tsp_routing.specs.QRoutes.{IsEntryBelowTo, IsEntryMetTo}
use Rattle.tsp_routing.specs.states.Demands.{onward_entry, entry_at}
use Rattle.tsp_routing.proofs.least_q_route.entry_with.Goals as goal

-- plan: the loop has the best entry of the nodes so far, as low as any way on and met by a walk
pub entry_by-best-requires-clause-next : goal.entry_by-best-requires-clause-next
entry_by-best-requires-clause-next g c =
    let above = c.nodes.invariant.above in (
      (omega arith, omega (arith, c.nodes-test.true, c.requires.to)),
      (c.requires.others (c.nodes.index + 1) (omega (arith, above)) (omega (arith, c.nodes-test.true))).0,
    )

pub entry_by-best-requires-clause-other : goal.entry_by-best-requires-clause-other
entry_by-best-requires-clause-other g c =
    let above = c.nodes.invariant.above in
    (c.requires.others (c.nodes.index + 1) (omega (arith, above)) (omega (arith, c.nodes-test.true))).1

pub nodes-preserved : goal.nodes-preserved
nodes-preserved g c =
    let value = g.S.Sum.value in
    let n : ℕ = c.args.q_routes.now.nodes in
    let at : c.nodes.index ≡ c.nodes.index + 1 - 1 = omega arith in
    record {
      above = let so_far = c.nodes.invariant.above in omega (arith, so_far);
      below = λ w default rows begun.
          c.entry_by-best.ensures.below w default (rows (c.nodes.index + 1) (omega arith, omega (arith, c.nodes-test.true, c.requires.to)))
          (subst (λ (k : ℕ). IsEntryBelowTo n c.args.q_routes.now.depot w (entry_at value c.args.known.now default) c.args.node k
          (onward_entry value c.nodes.best)) at (c.nodes.invariant.below w default rows begun));
      met = λ w default rows begun.
          c.entry_by-best.ensures.met w default (rows (c.nodes.index + 1) (omega arith, omega (arith, c.nodes-test.true, c.requires.to)))
          (subst (λ (k : ℕ). IsEntryMetTo g.S.Sum.half n c.args.q_routes.now.depot w (entry_at value c.args.known.now default) c.args.node k
          (onward_entry value c.nodes.best)) at (c.nodes.invariant.met w default rows begun));
      size = λ size fits rows begun.
          c.entry_by-best.ensures.size size fits rows (c.nodes.invariant.size size fits rows begun);
      order = c.entry_by-best.ensures.order;
    }

pub returns-clause-below : goal.returns-clause-below
returns-clause-below g c = λ w default rows begun.
    let above = c.nodes.invariant.above in
    let at : c.nodes.index ≡ c.args.to = omega (arith, c.nodes-test.false, c.nodes.auto.index-end, above, c.requires.after) in
    subst (λ (k : ℕ). IsEntryBelowTo c.args.q_routes.now.nodes c.args.q_routes.now.depot w (entry_at g.S.Sum.value c.args.known.now default)
    c.args.node k (onward_entry g.S.Sum.value c.nodes.best)) at (c.nodes.invariant.below w default rows begun)

pub returns-clause-met : goal.returns-clause-met
returns-clause-met g c = λ w default rows begun.
    let above = c.nodes.invariant.above in
    let at : c.nodes.index ≡ c.args.to = omega (arith, c.nodes-test.false, c.nodes.auto.index-end, above, c.requires.after) in
    subst (λ (k : ℕ). IsEntryMetTo g.S.Sum.half c.args.q_routes.now.nodes c.args.q_routes.now.depot w
    (entry_at g.S.Sum.value c.args.known.now default) c.args.node k (onward_entry g.S.Sum.value c.nodes.best)) at
    (c.nodes.invariant.met w default rows begun)
