-- The goals of `next_nodes` in src/tour.rt, which lists the next node of each node of a cycle: that indices are in
-- range, its loop and what it ensures.
use Rattle.tsp_verdict.proofs.Prelude.{◌≡◌, ◌+◌, ◌∷◌, [], ◌++◌, List, ℕ, suc, length, get_or, set, sym, ap, subst, ◌∙◌, arith, vec_len, IsCycle}
use Rattle.tsp_verdict.specs.states.Marks.{AreNext}
use Rattle.tsp_verdict.proofs.TourVerdicts.{SetUpTo, set_next, are_next, from_in, further, next_at, last_at}
use Rattle.tsp_verdict.proofs.tour.next_nodes.Goals as goal

-- plan: one link more is in the table (`set_next`); with all of them it says what comes next (`are_next`)
pub index_mut-requires : goal.index_mut-requires
index_mut-requires c =
    let first : ℕ = c.in-Some.first.now in
    let others : List ℕ = c.in-Some.others.now in
    let cycle : IsCycle c.args.n (first ∷ others) =
    subst (λ (xs : List ℕ). IsCycle c.args.n xs) c.in-Some.ensures.cases.0 c.requires in
    from_in c.args.n first others c.nodes.node-index c.nodes.from (vec_len c.nodes.next) cycle (omega (arith, c.nodes-test.true))
    c.nodes.invariant.from c.nodes.invariant.wide

pub nodes-preserved : goal.nodes-preserved
nodes-preserved c =
    let first : ℕ = c.in-Some.first.now in
    let others : List ℕ = c.in-Some.others.now in
    let index : ℕ = c.nodes.node-index in
    let cycle : IsCycle c.args.n (first ∷ others) =
    subst (λ (xs : List ℕ). IsCycle c.args.n xs) c.in-Some.ensures.cases.0 c.requires in
    record {
      wide = c.nodes.invariant.wide;
      from = further first others index;
      table = set_next c.args.n first others c.nodes.next.items index c.nodes.from (get_or others index 0) cycle
          (omega (arith, c.nodes-test.true)) (sym c.nodes.next.ok.0 ∙ c.nodes.invariant.wide)
          c.nodes.invariant.from (next_at first others index c.nodes-test.true) c.nodes.invariant.table;
    }

pub returns : goal.returns
returns c =
    let first : ℕ = c.in-Some.first.now in
    let others : List ℕ = c.in-Some.others.now in
    let index : ℕ = c.nodes.node-index in
    let last : index ≡ length others = omega (arith, c.nodes-test.false, c.nodes.auto.node-index-end) in
    let cycle : IsCycle c.args.n (first ∷ others) =
    subst (λ (xs : List ℕ). IsCycle c.args.n xs) c.in-Some.ensures.cases.0 c.requires in
    let value : first ≡ get_or (others ++ first ∷ []) index 0 = last_at first others
    ∙ ap (λ k. get_or (others ++ first ∷ []) k 0) (sym last) in
    let table : SetUpTo (first ∷ others) (others ++ first ∷ []) (set c.nodes.next.items c.nodes.from first) (index + 1) =
    set_next c.args.n first others c.nodes.next.items index c.nodes.from first cycle (omega (arith, last))
    (sym c.nodes.next.ok.0 ∙ c.nodes.invariant.wide)
    c.nodes.invariant.from value c.nodes.invariant.table in
    let count : index + 1 ≡ suc (length others) = omega (arith, last) in (
      c.nodes.invariant.wide,
      subst (λ (xs : List ℕ). AreNext xs (set c.nodes.next.items c.nodes.from first)) (sym c.in-Some.ensures.cases.0)
          (are_next first others (set c.nodes.next.items c.nodes.from first)
          (subst (λ k. SetUpTo (first ∷ others) (others ++ first ∷ []) (set c.nodes.next.items c.nodes.from first) k) count
          table)),
    )
