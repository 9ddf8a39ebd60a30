-- The goals of `first_links` in src/rounds.rt, which finds the least link of each node: its loop.
use Rattle.tsp_bound.proofs.Prelude.{◌≡◌, ◌<◌, ◌+◌, ◌++◌, ◌∷◌, [], ◌∙◌, ℕ, List, length, get_or, inl, inr, arith, ap, sym, subst, length-append, cases_eq, get_or_append_left}
use Rattle.std.proofs.Math.Seq.{get_or-append_seam}
use Rattle.tsp_bound.specs.declared.search.Link.{Link}
use Rattle.tsp_bound.specs.states.Components.{IsKeptLink}
use Rattle.tsp_bound.proofs.rounds.first_links.Goals as goal

-- plan: one node more has its own nearest link, and those before it are as they were
pub nodes-preserved : goal.nodes-preserved
nodes-preserved g c =
    let n = g.P.Components.count_of c.args.nodes.now in
    let w = g.P.Components.weight_of c.args.nodes.now in
    let label = g.P.Components.label_of c.args.nodes.now in
    let known : List Link = c.nodes.known.items in
    let node : ℕ = c.nodes.node in
    let link : Link = c.in-Some.link in
    let len = c.nodes.invariant.len in
    let pushed : c.push.new.list.items ≡ known ++ link ∷ [] = c.in_ok-push.ensures.items in
    let own : IsKeptLink n w label node link = c.in-Some.ensures in
    record {
      near_in = λ more. own.to_in;
      len = ap length pushed ∙ omega (arith, length-append known (link ∷ []), len);
      each = λ x d x_in. subst (λ (xs : List Link). IsKeptLink n w label x (get_or xs x d)) (sym pushed) (elim (cases_eq x node) [
        | inl same ↦
            let here : get_or (known ++ link ∷ []) x d ≡ link = ap (λ i. get_or (known ++ link ∷ []) i d) (same ∙ sym len) ∙ get_or-append_seam known link [] d in
            subst (IsKeptLink n w label x) (sym here) (subst (λ (k : ℕ). IsKeptLink n w label k link) (sym same) own)
        | inr other ↦
            let before : x < node = omega (arith, x_in, other) in
            subst (IsKeptLink n w label x) (sym (get_or_append_left known (link ∷ []) d x (omega (arith, before, len)))) (c.nodes.invariant.each x d before)
      ]);
    }
