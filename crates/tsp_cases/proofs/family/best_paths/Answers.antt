-- The goals of `best_paths` in src/family.rt, which finds the best paths through all sets of parts: its loop.
use Rattle.tsp_cases.proofs.Prelude.{ℕ, ◌+◌, ◌-◌, ◌≤◌, List, [], ◌∷◌, length, ap, sym, ◌∙◌, subst, arith, length-append, All, All-push}
use Rattle.tsp_cases.specs.Crossings.{cost_by_rows, no_path, IsBestPath, AreBestPaths}
use Rattle.tsp_cases.proofs.LeastCycles.{by_rows_push}
use Rattle.tsp_cases.proofs.family.best_paths.Goals as goal

-- plan: one cell more has the best path through its set from its part (`by_rows_push`)
pub nodes-preserved : goal.nodes-preserved
nodes-preserved c =
    let n : ℕ = c.args.between.now.nodes in
    let paths : List ℕ = c.nodes.paths.items in
    let h = c.nodes.invariant in
    let pushed = c.in_ok-push.ensures.items in
    let long = length-append paths (c.best_path-best.result ∷ []) in
    record {
      long = ap length pushed ∙ omega (arith, long, h.long);
      small = subst (All (λ path. path ≤ no_path)) (sym pushed) (All-push (λ path. path ≤ no_path) paths c.best_path-best.result h.small c.best_path-best.ensures.most);
      best = subst (AreBestPaths n (cost_by_rows n c.args.between.now.costs.now)) (sym pushed)
          (by_rows_push (n - 1) (λ set other best. IsBestPath n (cost_by_rows n c.args.between.now.costs.now) set
          (other + 2) best) paths c.sets.set c.nodes.other c.best_path-best.result c.nodes-test.true h.long h.best
          c.best_path-best.ensures);
    }
