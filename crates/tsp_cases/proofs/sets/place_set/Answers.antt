-- The goals of `place_set` in src/sets.rt, which puts a set into the lists of its nodes: its loop and what it ensures.
use Rattle.tsp_cases.proofs.Prelude.{◌≤◌, ◌<◌, ℕ, List, ◌++◌, length, get_or, refl, ap, sym, subst, ◌∙◌, arith, length-set, drop_all, append-nil}
use Rattle.tsp_cases.specs.states.Sets.{times}
use Rattle.tsp_cases.proofs.SetSums.{listed_more}
use Rattle.tsp_cases.proofs.sets.place_set.Goals as goal

-- plan: one node of the set more has the set in its list (`listed_more`)
pub nodes-preserved : goal.nodes-preserved
nodes-preserved c =
    let index : ℕ = c.nodes.node-index in
    let node : ℕ = get_or c.args.nodes.now index 0 in
    let inside : node < length c.nodes.lists.items = subst (λ (k : ℕ). node < k) (sym c.nodes.invariant.count) (c.requires index 0 c.nodes-test.true) in
    record {
      count = length-set c.nodes.lists.items node c.push.new.list ∙ c.nodes.invariant.count;
      said = λ x a b below.
          listed_more c.args.place c.args.nodes.now index node c.nodes.lists.items c.index_mut.result.now c.push.new.list x a
          ((get_or c.args.lists.now.items x b).items ++ times c.args.place c.args.nodes.now x)
          c.nodes-test.true refl inside c.index_mut.ensures.value c.in_ok-push.ensures.items (λ d. c.nodes.invariant.said x d b below);
    }

pub returns : goal.returns
returns c =
    let nodes : List ℕ = c.args.nodes.now in
    let past : length nodes ≤ c.nodes.node-index = omega (arith, c.nodes-test.false) in (
      c.nodes.invariant.count,
      λ x a b below.
          sym (append-nil (get_or c.nodes.lists.items x a).items)
          ∙ ap (λ ns. (get_or c.nodes.lists.items x a).items ++ times c.args.place ns x) (sym (drop_all c.nodes.node-index nodes past))
          ∙ c.nodes.invariant.said x a b below,
    )
