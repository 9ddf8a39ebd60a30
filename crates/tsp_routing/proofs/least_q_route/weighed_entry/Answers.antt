-- The goals of `weighed_entry` in src/least_q_route.rt, which finds the entry of a node, whose row is kept or made:
-- what a call requires, and what it ensures.
use Rattle.tsp_routing.proofs.Prelude.{◌≡◌, ℕ, subst, sym, pos, neg_ℤ, IsFromTo, IsNode, least_at}
use Rattle.tsp_routing.proofs.least_q_route.weighed_entry.Goals as goal

-- plan: the row of the node has its weights, whether it is kept or filled
pub returns-in-Some-clause-below : goal.returns-in-Some-clause-below
returns-in-Some-clause-below g c = λ default.
    let row : (next : ℕ) → IsNode c.args.q_routes.now.nodes next
    → least_at c.in-Some.kept.now next ≡ g.W.Weights.at c.args.q_routes.now.weights.now c.args.node next = λ next there.
    c.in-Some.ensures.values next (subst (λ (k : ℕ). IsNode k next) (sym c.args.q_routes.now.same) there) in
    c.best_entry.ensures.below (g.W.Weights.at c.args.q_routes.now.weights.now) default row

pub returns-in-Some-clause-met : goal.returns-in-Some-clause-met
returns-in-Some-clause-met g c = λ default.
    let row : (next : ℕ) → IsNode c.args.q_routes.now.nodes next
    → least_at c.in-Some.kept.now next ≡ g.W.Weights.at c.args.q_routes.now.weights.now c.args.node next = λ next there.
    c.in-Some.ensures.values next (subst (λ (k : ℕ). IsNode k next) (sym c.args.q_routes.now.same) there) in
    c.best_entry.ensures.met (g.W.Weights.at c.args.q_routes.now.weights.now) default row

pub returns-clause-below : goal.returns-clause-below
returns-clause-below g c = λ default.
    let row : (next : ℕ) → IsNode c.args.q_routes.now.nodes next
    → least_at c.fill.new.row next ≡ g.W.Weights.at c.args.q_routes.now.weights.now c.args.node next = λ next there.
    c.fill.ensures.values next (subst (λ (k : ℕ). IsNode k next) (sym c.args.q_routes.now.same) there) in
    c.best_entry-2.ensures.below (g.W.Weights.at c.args.q_routes.now.weights.now) default row

pub returns-clause-met : goal.returns-clause-met
returns-clause-met g c = λ default.
    let row : (next : ℕ) → IsNode c.args.q_routes.now.nodes next
    → least_at c.fill.new.row next ≡ g.W.Weights.at c.args.q_routes.now.weights.now c.args.node next = λ next there.
    c.fill.ensures.values next (subst (λ (k : ℕ). IsNode k next) (sym c.args.q_routes.now.same) there) in
    c.best_entry-2.ensures.met (g.W.Weights.at c.args.q_routes.now.weights.now) default row

pub returns-in-Some-clause-size : goal.returns-in-Some-clause-size
returns-in-Some-clause-size g c = c.best_entry.ensures.size

pub returns-clause-size : goal.returns-clause-size
returns-clause-size g c = c.best_entry-2.ensures.size

pub best_entry-requires-2-clause-node : goal.best_entry-requires-2-clause-node
best_entry-requires-2-clause-node g c = c.requires.node

pub best_entry-requires-2-clause-sizes : goal.best_entry-requires-2-clause-sizes
best_entry-requires-2-clause-sizes g c = c.requires.sizes

pub best_entry-requires-2-clause-links : goal.best_entry-requires-2-clause-links
best_entry-requires-2-clause-links g c = λ next there.
    let link : ℕ = g.S.Sum.link in
    subst (IsFromTo (neg_ℤ (pos link)) (pos link))
    (sym (c.fill.ensures.values next (subst (λ (k : ℕ). IsNode k next) (sym c.args.q_routes.now.same) there)))
    (c.requires.links c.args.node next c.requires.node.0 there)
