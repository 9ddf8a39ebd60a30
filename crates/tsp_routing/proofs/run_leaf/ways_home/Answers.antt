-- The goals of `ways_home` in src/run_leaf.rt, which makes the table of ways home: its loop.
use Rattle.tsp_routing.proofs.Prelude.{◌≡◌, ◌+◌, ◌<◌, ◌∙◌, ℕ, ℤ, List, [], ◌∷◌, ◌++◌, length, get_or, ap, subst, sym, arith, length-append, Vec}
use Rattle.tsp_routing.specs.states.RunTables.{rules_by, IsHomeRow, AreHomeRows, IsHomeRowSized, AreHomeRowsSized}
use Rattle.tsp_routing.proofs.WaysHome.{rows_pushed}
use Rattle.tsp_routing.proofs.run_leaf.ways_home.Goals as goal

-- plan: the table has the rows so far, and one more
pub lefts-preserved : goal.lefts-preserved
lefts-preserved c =
    let nodes = c.args.run_nodes.now in
    let table : List (Vec ℤ) = c.lefts.table.items in
    let next : Vec ℤ = c.in_ok-next.next in
    let pushed : c.push.new.list.items ≡ table ++ next ∷ [] = c.in_ok-push.ensures.items in
    let long = length-append table (next ∷ []) in
    let h = c.lefts.invariant in
    record {
      long = ap (λ (xs : List (Vec ℤ)). length xs) pushed ∙ omega (arith, long, h.long);
      rows = λ near rows.
          let rules = rules_by nodes.nodes nodes.depot nodes.loads.now nodes.room nodes.rows.now near rows in
          subst (AreHomeRows rules) (sym pushed) (rows_pushed (IsHomeRow rules) table next (h.rows near rows)
          (subst (λ (xs : List (Vec ℤ)). AreHomeRows rules xs → IsHomeRow rules (length xs) next.items) c.deref.ensures.value
          (c.in_ok-next.ensures.exact near rows) (h.rows near rows)));
      sizes = subst (AreHomeRowsSized nodes.nodes) (sym pushed)
          (rows_pushed (λ (k : ℕ) (row : List ℤ). IsHomeRowSized nodes.nodes (k + 1) row) table next h.sizes
          (subst (λ (xs : List (Vec ℤ)). IsHomeRowSized nodes.nodes (length xs + 1) next.items) c.deref.ensures.value c.in_ok-next.ensures.sizes));
    }
