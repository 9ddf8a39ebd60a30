-- The goals of `join` in src/rounds.rt, which joins the components of a round by their best links: its loop.
use Rattle.tsp_bound.proofs.Prelude.{◌≡◌, ◌<◌, ◌++◌, ◌∷◌, [], ℕ, Option, IfSome, true, false, inl, inr, arith, ap, sym, ◌∙◌, subst, set, length, length-set, get_or_read, get_or-set_same, get_or-set_other, cases_eq}
use Rattle.tsp_bound.specs.declared.search.Link.{Link}
use Rattle.tsp_bound.specs.states.Boxes.{box_at}
use Rattle.tsp_bound.specs.states.Components.{label_at, IsLeastOf}
use Rattle.tsp_bound.proofs.RoundJoins.{IsJoining, joining_start, joining_more, set_kept}
use Rattle.tsp_bound.proofs.rounds.join.Goals as goal
use Rattle.tsp_bound.proofs.rounds.join.Goals.{in-Some+in_ok-push, in_default}

pub components-init : goal.components-init
components-init g c =
    let n = g.P.Components.count_of c.args.nodes.now in
    let w = g.P.Components.weight_of c.args.nodes.now in
    let label = g.P.Components.label_of c.args.nodes.now in
    let own : (k : ℕ) → k < n → label_at c.in_ok-labels.labels.items k ≡ k = λ k k_in. c.in_ok-labels.ensures.own k (omega (arith, k_in, c.count.ensures.value)) in
    record {
      len = omega (arith, c.in_ok-labels.ensures.len, c.count.ensures.value);
      met_len = omega (arith, c.in_ok-met.ensures.len, c.count-2.ensures.value);
      low = λ k k_in. subst (λ (z : ℕ). z < n) (sym (own k k_in)) k_in;
      joining = joining_start n w label (label_at c.in_ok-labels.labels.items) (box_at false c.in_ok-met.met.items) c.args.added.now.items c.requires.forest;
    }

-- plan: by whether this component is joined: the forest has one least join more (`joining_more`), or is as it was
pub components-preserved : goal.components-preserved
components-preserved g c =
    let n = g.P.Components.count_of c.args.nodes.now in
    let w = g.P.Components.weight_of c.args.nodes.now in
    let label = g.P.Components.label_of c.args.nodes.now in
    let h = c.components.invariant in
    let labels = c.components.labels.items in
    let met = c.components.met.items in
    let here = c.components.label in
    elim c.match-best-label.branch [
      | in-Some+in_ok-push u ↦
          let link : Link = u.in-Some.link in
          let here_in : here < n = omega (arith, c.components-test.true, c.count-label-end.ensures.value) in
          let least : IsLeastOf n w label here link = subst (λ (o : Option Link). IfSome o (IsLeastOf n w label here)) u.in-Some.is (c.requires.best.each here here_in) in
          let other : ℕ = u.label-other.result in
          let other_is : other ≡ label link.to = u.label-other.ensures in
          let other_in : other < n = subst (λ (k : ℕ). k < n) (sym other_is) (c.count.ensures.labels link.to least.leaving.to_in) in
          let in_labels : other < length labels = omega (arith, h.len, other_in) in
          let here_in_labels : here < length labels = omega (arith, h.len, here_in) in
          let here_in_met : here < length met = omega (arith, h.met_len, here_in) in
          let other_in_met : other < length (set met here true) = omega (arith, h.met_len, length-set met here true, other_in) in
          let new : ℕ = u.index-in-Some.result.now in
          let read : new ≡ label_at labels other = get_or_read labels other new in_labels u.index-in-Some.ensures 0 in
          let free : box_at false met here ≡ false = sym (get_or_read met here c.index.result.now here_in_met c.index.ensures false) ∙ c.if-index.false in
          let pushed : u.push.new.list.items ≡ c.components.added.items ++ (link.from, link.to) ∷ [] = u.in_ok-push.ensures.items in
          rw (u.added-is, u.labels-is, u.met-is) (record {
            len = length-set labels here new ∙ h.len;
            met_len = length-set (set met here true) other true ∙ (length-set met here true ∙ h.met_len);
            low = λ k k_in. elim (cases_eq k here) [
              | inl same ↦ subst (λ (z : ℕ). z < n) (sym (ap (label_at (set labels here new)) same ∙ (get_or-set_same labels here new 0 here_in_labels ∙ read))) (h.low other other_in)
              | inr apart ↦ subst (λ (z : ℕ). z < n) (sym (get_or-set_other labels here k new 0 apart)) (h.low k k_in)
            ];
            joining = subst (IsJoining n w label (label_at (set labels here new)) (box_at false (set (set met here true) other true))) (sym pushed)
                (joining_more n w label (label_at labels) (label_at (set labels here new)) (box_at false met) (box_at false (set (set met here true) other true))
                c.components.added.items here link h.joining least free
                (λ l m. set_kept (set met here true) other l (set_kept met here l m))
                (set_kept (set met here true) other here (get_or-set_same met here true false here_in_met))
                (ap (box_at false (set (set met here true) other true)) (sym other_is) ∙ get_or-set_same (set met here true) other true false other_in_met)
                (λ l apart. get_or-set_other labels here l new 0 apart)
                (get_or-set_same labels here new 0 here_in_labels ∙ (read ∙ ap (label_at labels) other_is)));
          })
      | in_default u ↦ rw (u.added-is, u.labels-is, u.met-is) h
    ]
