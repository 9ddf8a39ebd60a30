-- The goals of `search_again` in src/rounds.rt, which finds the best link of each component for the next round: its
-- loop, what its calls require and what it ensures.
use Rattle.tsp_bound.proofs.Prelude.{◌≡◌, ◌≢◌, ◌<◌, ◌+◌, ◌∙◌, ℕ, pos, length, Option, None, Some, IfSome, set, arith, sym, subst, get_or_read}
use Rattle.tsp_bound.specs.declared.search.Link.{Link}
use Rattle.tsp_bound.specs.states.Components.{AreLeaving, IsLeaving, IsOffered, link_of}
use Rattle.tsp_bound.proofs.RoundJoins.{IsReached, AreReached, leaving_kept, reached_set, kept_set, leaving_offered, reached_more, reached_again, reached_all, end_in}
use Rattle.tsp_bound.proofs.rounds.search_again.Goals as goal
use Rattle.tsp_bound.proofs.rounds.search_again.Goals.{then-is_better+in-Some+else-steps-most_steps+then-label, then-is_better+in-Some+else-steps-most_steps+else-label+else-is_better-2, else-is_better}

pub nearest-requires-clause-near : goal.nearest-requires-clause-near
nearest-requires-clause-near g c =
    let n = g.P.Components.count_of c.args.nodes.now in
    let w = g.P.Components.weight_of c.args.nodes.now in
    let label = g.P.Components.label_of c.args.nodes.now in
    let node = c.nodes.node in
    let best = c.nodes.best.items in
    let h = c.nodes.invariant in
    let node_in : node < n = omega (arith, c.nodes-test.true, c.count-node-end.ensures.value) in
    let label_is : c.label-label.result ≡ label node = c.label-label.ensures in
    let label_in : label node < n = c.count-node-end.ensures.labels node node_in in
    let read : c.index-then-is_better.result.now ≡ link_of best (label node) = subst (λ (k : ℕ). c.index-then-is_better.result.now ≡ link_of best k) label_is
    (get_or_read best c.label-label.result c.index-then-is_better.result.now (omega (arith, h.best.len, label_is, label_in)) c.index-then-is_better.ensures None) in
    end_in n w label (label node) node c.end_of-near.result c.index-then-is_better.result.now node_in
    (subst (λ (o : Option Link). IfSome o (IsLeaving n w label (label node))) (sym read) (h.best.each (label node) label_in)) c.end_of-near.ensures

pub returns-then-is_better-2-clause-known : goal.returns-then-is_better-2-clause-known
returns-then-is_better-2-clause-known g c =
    kept_set (g.P.Components.count_of c.args.nodes.now) (g.P.Components.weight_of c.args.nodes.now) (g.P.Components.label_of c.args.nodes.now) c.nodes.known.items c.nodes.node c.in-Some.link
    (omega (arith, c.nodes-test.true, c.count-node-end.ensures.value)) c.nodes.invariant.known c.in-Some.ensures

-- plan: by whether a node is searched for again: a new link out of its component is offered (`reached_again`). A new
-- one inside it, and one that is known already, weighs no less than the best (`reached_set`, `reached_more`)
pub nodes-preserved : goal.nodes-preserved
nodes-preserved g c =
    let n = g.P.Components.count_of c.args.nodes.now in
    let w = g.P.Components.weight_of c.args.nodes.now in
    let label = g.P.Components.label_of c.args.nodes.now in
    let node = c.nodes.node in
    let known = c.nodes.known.items in
    let best = c.nodes.best.items in
    let h = c.nodes.invariant in
    let node_in : node < n = omega (arith, c.nodes-test.true, c.count-node-end.ensures.value) in
    let node_in_known : node < length known = omega (arith, h.known.len, node_in) in
    let label_is : c.label-label.result ≡ label node = c.label-label.ensures in
    let label_in : label node < n = c.count-node-end.ensures.labels node node_in in
    let in_best : c.label-label.result < length best = omega (arith, h.best.len, label_is, label_in) in
    let of_best : (o : Option Link) → o ≡ link_of best c.label-label.result → o ≡ link_of best (label node) = λ o is. subst (λ (k : ℕ). o ≡ link_of best k) label_is is in
    elim c.if-is_better.branch [
      | then-is_better+in-Some+else-steps-most_steps+then-label u ↦
          let link : Link = u.in-Some.link in
          let new : Link = u.better.result in
          let again : u.index-then-label.result.now ≡ link_of best (label node) = of_best u.index-then-label.result.now
          (get_or_read best c.label-label.result u.index-then-label.result.now in_best u.index-then-label.ensures None) in
          let offered : IsOffered (link_of best (label node)) link new = subst (λ (o : Option Link). IsOffered o link new) again u.better.ensures in
          let out : label link.to ≢ label node = λ e. u.if-label.true (u.label.ensures ∙ (e ∙ sym label_is)) in
          rw (u.known-is, u.best-is) (record {
            known = kept_set n w label known node link node_in h.known u.in-Some.ensures;
            best = subst (λ (k : ℕ). AreLeaving n w label (set best k (Some new))) (sym label_is)
                (leaving_offered n w label best (label node) link new label_in h.best (leaving_kept n w label node link node_in u.in-Some.ensures out) offered);
            reached = subst (λ (k : ℕ). AreReached label (set best k (Some new)) (set known node link) (node + 1)) (sym label_is)
                (reached_again n label best known node link new node_in_known (omega (arith, h.best.len, label_in)) h.reached offered);
          })
      | then-is_better+in-Some+else-steps-most_steps+else-label+else-is_better-2 u ↦
          let link : Link = u.in-Some.link in
          let again : u.index-else-label.result.now ≡ link_of best (label node) = of_best u.index-else-label.result.now
          (get_or_read best c.label-label.result u.index-else-label.result.now in_best u.index-else-label.ensures None) in
          rw (u.known-is, u.best-is) (record {
            known = kept_set n w label known node link node_in h.known u.in-Some.ensures;
            best = h.best;
            reached = reached_set label best known node link node_in_known h.reached
                (subst (λ (o : Option Link). IsReached o link.weight) again (u.is_better-else-label.ensures u.if-is_better-2.false));
          })
      | else-is_better u ↦
          let read : c.index-in-nodes.result.now ≡ link_of best (label node) = of_best c.index-in-nodes.result.now
          (get_or_read best c.label-label.result c.index-in-nodes.result.now in_best c.index-in-nodes.ensures None) in
          rw (u.known-is, u.best-is) (record {
            known = h.known;
            best = h.best;
            reached = reached_more label best known node h.reached (λ d.
                subst (λ (l : Link). IsReached (link_of best (label node)) l.weight)
                (get_or_read known node c.index.result.now node_in_known c.index.ensures d)
                (subst (λ (o : Option Link). IsReached o c.index.result.now.weight) read (c.is_better.ensures u.if-is_better.false)));
          })
    ]

pub returns-clause-best : goal.returns-clause-best
returns-clause-best g c =
    let n = g.P.Components.count_of c.args.nodes.now in
    let w = g.P.Components.weight_of c.args.nodes.now in
    let label = g.P.Components.label_of c.args.nodes.now in
    reached_all n w label c.nodes.best.items c.nodes.known.items (record { weight = pos 0; from = 0; to = 0 }) c.nodes.invariant.known c.nodes.invariant.best
    (subst (AreReached label c.nodes.best.items c.nodes.known.items) (omega (arith, c.nodes-test.false, c.count-node-end.ensures.value)) c.nodes.invariant.reached)
