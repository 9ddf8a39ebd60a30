-- The goals of `least_q_route` in src/least_q_route.rt, which finds the least weight of a walk: its loop and what it
-- ensures.
use Rattle.tsp_routing.proofs.Prelude.{◌≡◌, ◌+◌, ◌-◌, ◌*◌, ◌∙◌, ℕ, ℤ, List, [], ◌∷◌, ◌++◌, length, subst, sym, ap, arith, length-append, Some, Vec, length_of}
use Rattle.tsp_routing.specs.QRoutes.{IsLeastAmong, IsQRoute, IsBelowQRoutes}
use Rattle.tsp_routing.specs.declared.least_q_route.Onward.{Onward}
use Rattle.tsp_routing.specs.states.Demands.{load_at, IsRowSized, AreRowsSized, IsRowLow, AreRowsLow, IsRowMet, AreRowsMet}
use Rattle.tsp_routing.proofs.QRouteRests.{places_push, no_number_no_q_route, found_least}
use Rattle.tsp_routing.proofs.least_q_route.least_q_route.Goals as goal

-- plan: the loop has the rows of the loads so far; the start by the last row is the least walk
pub loads-preserved : goal.loads-preserved
loads-preserved g c =
    let value = g.S.Sum.value in
    let half : ℕ = g.S.Sum.half in
    let link : ℕ = g.S.Sum.link in
    let n : ℕ = c.args.q_routes.now.nodes in
    let depot : ℕ = c.args.q_routes.now.depot in
    let w = g.W.Weights.at c.args.q_routes.now.weights.now in
    let load = load_at c.args.q_routes.now.loads.now in
    let table : List (Vec (Onward g.row.S.Denot)) = c.loads.table.items in
    let next : Vec (Onward g.row.S.Denot) = c.in_ok-next.next in
    let pushed : c.push.new.list.items ≡ table ++ next ∷ [] = c.in_ok-push.ensures.items in
    let long = length-append table (next ∷ []) in
    let h = c.loads.invariant in
    record {
      long = ap (λ xs. length xs) pushed ∙ omega (arith, long, h.long);
      room = c.in_ok-next.ensures.room ∙ h.room;
      rows = subst (AreRowsLow value n depot w load) (sym pushed)
          (places_push (λ k (v : Vec (Onward g.row.S.Denot)). IsRowLow value n depot w load k v.items) table next h.rows
          (subst (λ (xs : List (Vec (Onward g.row.S.Denot))). AreRowsLow value n depot w load xs
          → IsRowLow value n depot w load (length xs) next.items) c.deref.ensures.value c.in_ok-next.ensures.low h.rows));
      mets = subst (AreRowsMet value half n depot w load) (sym pushed)
          (places_push (λ k (v : Vec (Onward g.row.S.Denot)). IsRowMet value half n depot w load k v.items) table next h.mets
          (subst (λ (xs : List (Vec (Onward g.row.S.Denot))). AreRowsMet value half n depot w load xs
          → IsRowMet value half n depot w load (length xs) next.items) c.deref.ensures.value c.in_ok-next.ensures.met h.mets));
      sizes = subst (AreRowsSized value half link n) (sym pushed)
          (places_push (λ k (v : Vec (Onward g.row.S.Denot)). IsRowSized value half n ((k + 1) * link) v.items) table next h.sizes
          (subst (λ (xs : List (Vec (Onward g.row.S.Denot))). IsRowSized value half n ((length xs + 1) * link) next.items)
          c.deref.ensures.value c.in_ok-next.ensures.sizes));
    }

pub returns-clause-exact : goal.returns-clause-exact
returns-clause-exact g c =
    let value = g.S.Sum.value in
    let half : ℕ = g.S.Sum.half in
    let link : ℕ = g.S.Sum.link in
    let n : ℕ = c.args.q_routes.now.nodes in
    let depot : ℕ = c.args.q_routes.now.depot in
    let w = g.W.Weights.at c.args.q_routes.now.weights.now in
    let load = load_at c.args.q_routes.now.loads.now in
    let length_in : List ℕ → ℤ = λ nodes. length_of w (depot ∷ nodes) in
    let long : length c.deref-2.result.now ≡ c.loads.load = ap (λ xs. length xs) c.deref-2.ensures.value ∙ c.loads.invariant.long in
    let room : length c.deref-2.result.now - 1 ≡ c.args.room = omega (arith, long, c.loads-test.false, c.loads.auto.load-end) in
    let lows = subst (AreRowsLow value n depot w load) (sym c.deref-2.ensures.value) c.loads.invariant.rows in
    let mets = subst (AreRowsMet value half n depot w load) (sym c.deref-2.ensures.value) c.loads.invariant.mets in
    let below : IsBelowQRoutes n depot load c.args.room w (value c.start.result) =
    subst (λ (k : ℕ). IsBelowQRoutes n depot load k w (value c.start.result)) room (c.start.ensures.below lows) in
    let fits = g.met.S.Sum.fits 1 (omega arith) in
    found_least (IsQRoute n depot load c.args.room) length_in half (value c.start.result) c.weight.result c.weight.ensures
    (λ real. subst (λ (k : ℕ). IsLeastAmong (IsQRoute n depot load k) length_in (Some (value c.start.result))) room
    (c.start.ensures.met lows mets real))
    (λ far. no_number_no_q_route half link n depot w load c.args.room (value c.start.result) c.args.q_routes.now.depot_in c.requires.links
    (omega (arith, fits)) below far)
