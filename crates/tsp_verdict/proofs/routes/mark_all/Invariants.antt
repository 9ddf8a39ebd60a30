-- The loop of `mark_all` in src/routes.rt.
use Rattle.tsp_verdict.proofs.Prelude.{◌≡◌, length, take, vec_len}
use Rattle.tsp_verdict.specs.states.Marks.{Marked, nodes_in}
use Rattle.tsp_verdict.proofs.routes.mark_all.Given as goal

-- just the nodes of the routes before this one are marked; no two of them are the same, and `before` is how many they
-- are
abbrev pub invariant-routes : goal.invariant-routes
invariant-routes l = record {
  counted : l.before ≡ length (nodes_in (take l.route-index l.routes));
  wide : vec_len l.seen ≡ vec_len l.initial.seen;
  marks : Marked (nodes_in l.routes) l.seen.items l.before;
}
