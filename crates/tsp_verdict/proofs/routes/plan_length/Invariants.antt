-- The loop of `plan_length` in src/routes.rt.
use Rattle.tsp_verdict.proofs.Prelude.{◌≡◌, ◌+◌, length, take, drop, map, ◌+ℤ◌, cost, plan_length}
use Rattle.tsp_verdict.specs.states.Marks.{nodes_in, IsSumOf}
use Rattle.tsp_verdict.proofs.routes.plan_length.Given as goal

-- the length so far and that of the routes left are the length of the plan
abbrev pub invariant-routes : goal.invariant-routes
invariant-routes l = record {
  size : IsSumOf (length (nodes_in (take l.route-index l.routes)) + l.route-index) l.length;
  so_far : (l.length +ℤ plan_length (cost l.inst) l.depot (map (λ r. r.items) (drop l.route-index l.routes))) ≡ plan_length
      (cost l.inst) l.depot (map (λ r. r.items) l.routes);
}
