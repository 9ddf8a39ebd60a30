-- The goals of `grow` in src/prim.rt, which grows a tree over the nodes 2..n by least weights: its loop, and what its
-- calls require.
use Rattle.tsp_bound.proofs.Prelude.{◌≡◌, ◌+◌, ◌-◌, ◌<◌, ◌≤◌, ℕ, ℤ, List, [], length, slice_index, replicate, MatchOption, ap, sym, subst, ◌∙◌, arith, rules, FitsSigned, to_z, w64, w128, pos, ◌<ℤ◌, ints, get_or-replicate, get_or_default, most_nodes, least_at, most_64, written_back, sum_more, sum_computed}
use Rattle.tsp_bound.specs.states.Outside.{AreFromThree, AreBroughtNearer, AreInner, IsLeastPlace}
use Rattle.tsp_bound.proofs.GrowingTrees.{removed_length, IsState, state_start, state_more, inner_left}
use Rattle.tsp_bound.proofs.prim.grow.Goals as goal

-- plan: the lists are what the code fills in, and `state_start` is the state with node 2
pub grow-init : goal.grow-init
grow-init g c =
    let n = g.W.Weights.nodes c.args.w.now in
    let w = g.W.Weights.at c.args.w.now in
    let outside : List ℕ = c.in_ok-outside.outside.items in
    let new_near : List ℕ = c.reach-nearest.new.near in
    let new_least : List ℤ = c.reach-nearest.new.least in
    let near : List ℕ = c.in_ok-near.near.items in
    let items : List ℤ = c.in_ok-least.least.items in
    let reached = c.reach-nearest.ensures in
    let seen : c.deref.result.now ≡ outside = c.deref.ensures.value in
    let most : items ≡ replicate c.len-2.result most_64 = c.in_ok-least.ensures.items_if_clones_equal (λ y h. h) in
    let near_long : c.in_ok-near.near.len ≡ length near = omega arith in
    let least_long : c.in_ok-least.least.len ≡ length items = omega arith in
    let near_was : length c.deref_mut.result.now ≡ length near = ap length c.deref_mut.ensures.value in
    let was : length c.deref_mut-2.result.now ≡ length items = ap length c.deref_mut-2.ensures.value in
    let near_size : length near ≡ length outside = omega (arith, near_long, c.in_ok-near.ensures.len, c.len.ensures) in
    let size : length items ≡ length outside = omega (arith, least_long, c.in_ok-least.ensures.len, c.len-2.ensures) in
    let near_kept = written_back near new_near c.in_ok-near.near.len (omega (arith, near_long, near_was, c.reach-nearest.auto.near)) in
    let kept = written_back items new_least c.in_ok-least.least.len (omega (arith, least_long, was, c.reach-nearest.auto.least)) in
    let near_same : length new_near ≡ length outside = omega (arith, near_was, c.reach-nearest.auto.near, near_size) in
    let same : length new_least ≡ length outside = omega (arith, was, c.reach-nearest.auto.least, size) in
    let nearer : AreBroughtNearer 2 (w 2) outside c.deref_mut.result.now c.deref_mut-2.result.now new_near new_least =
    subst (λ (xs : List ℕ). AreBroughtNearer 2 (w 2) xs c.deref_mut.result.now c.deref_mut-2.result.now new_near new_least) seen reached.nearer in
    let small : (k : ℕ) → k < length outside → w 2 (slice_index outside k) <ℤ most_64 =
    subst (λ (xs : List ℕ). (k : ℕ) → k < length xs → w 2 (slice_index xs k) <ℤ most_64) seen reached.small in
    let from_three : AreFromThree n outside = subst (λ (k : ℕ). AreFromThree k outside) c.count.ensures.value c.in_ok-outside.ensures in
    let state : IsState n w outside new_near new_least [] (pos 0) = state_start n w outside c.deref_mut.result.now c.deref_mut-2.result.now new_near new_least from_three
    (λ k below. ap (λ xs. least_at xs k) (c.deref_mut-2.ensures.value ∙ most) ∙ get_or-replicate c.len-2.result k most_64 (pos 0) (omega (arith, below, c.len-2.ensures)))
    nearer small near_same same in
    rw c.in_ok-pairs.ensures.items (record {
      state = rw (near_kept, kept) state;
      nearest = rw kept (subst (λ (k : ℕ). MatchOption c.reach-nearest.result (k ≡ 0) (IsLeastPlace new_least)) (ap length seen) reached.nearest);
      size = (omega (arith, ints), omega (arith, ints));
    })

pub reach-nearest-requires-in-Some-clause-inner : goal.reach-nearest-requires-in-Some-clause-inner
reach-nearest-requires-in-Some-clause-inner g c =
    let n = g.W.Weights.nodes c.args.w.now in
    let outside : List ℕ = c.grow.outside.items in
    let least : List ℤ = c.grow.least.items in
    let s = c.grow.invariant.state in
    let is_least : IsLeastPlace least c.in-Some.place = subst (λ o. MatchOption o (length outside ≡ 0) (IsLeastPlace least)) c.in-Some.is c.grow.invariant.nearest in
    subst (λ (xs : List ℕ). AreInner n xs) (sym c.deref-in-Some.ensures.value)
    (inner_left n outside c.swap_remove-next.new.self.items c.in-Some.place c.swap_remove-next.result (omega (arith, is_least.inside, s.same)) c.swap_remove-next.ensures.items s.inner)

-- plan: the place found is that of a nearest node; `state_more` for the state after it, `sum_more` for the sum
pub grow-preserved : goal.grow-preserved
grow-preserved g c =
    let n = g.W.Weights.nodes c.args.w.now in
    let w = g.W.Weights.at c.args.w.now in
    let outside : List ℕ = c.grow.outside.items in
    let near : List ℕ = c.grow.near.items in
    let least : List ℤ = c.grow.least.items in
    let new_outside : List ℕ = c.swap_remove-next.new.self.items in
    let near_left : List ℕ = c.swap_remove.new.self.items in
    let left : List ℤ = c.swap_remove-in-Some.new.self.items in
    let new_near : List ℕ = c.reach-nearest-in-Some.new.near in
    let new_least : List ℤ = c.reach-nearest-in-Some.new.least in
    let place : ℕ = c.in-Some.place in
    let next : ℕ = c.swap_remove-next.result in
    let joint : ℕ = c.swap_remove.result in
    let here : ℤ = c.swap_remove-in-Some.result in
    let sum : ℤ = to_z w128 c.grow.weight-bits in
    let s = c.grow.invariant.state in
    let reached = c.reach-nearest-in-Some.ensures in
    let fits : FitsSigned w64 here = search rules in
    let is_least : IsLeastPlace least place = subst (λ o. MatchOption o (length outside ≡ 0) (IsLeastPlace least)) c.in-Some.is c.grow.invariant.nearest in
    let inside : place < length outside = omega (arith, is_least.inside, s.same) in
    let next_is : next ≡ slice_index outside place = c.swap_remove-next.ensures.value ∙ get_or_default outside place next 0 inside in
    let joint_is : joint ≡ slice_index near place = c.swap_remove.ensures.value ∙ get_or_default near place joint 0 (omega (arith, inside, s.near_same)) in
    let here_is : here ≡ least_at least place = c.swap_remove-in-Some.ensures.value ∙ get_or_default least place here (pos 0) is_least.inside in
    let seen : c.deref-in-Some.result.now ≡ new_outside = c.deref-in-Some.ensures.value in
    let near_was : c.deref_mut-in-Some.result.now ≡ near_left = c.deref_mut-in-Some.ensures.value in
    let was : c.deref_mut-in-Some-2.result.now ≡ left = c.deref_mut-in-Some-2.ensures.value in
    let near_len : c.swap_remove.new.self.len ≡ length near_left = omega arith in
    let left_len : c.swap_remove-in-Some.new.self.len ≡ length left = omega arith in
    let near_same : length new_near ≡ length near_left = c.reach-nearest-in-Some.auto.near ∙ ap length near_was in
    let same : length new_least ≡ length left = c.reach-nearest-in-Some.auto.least ∙ ap length was in
    let near_kept = written_back near_left new_near c.swap_remove.new.self.len (near_len ∙ sym near_same) in
    let kept = written_back left new_least c.swap_remove-in-Some.new.self.len (left_len ∙ sym same) in
    let nearer : AreBroughtNearer next (w next) new_outside near_left left new_near new_least =
    subst (λ (xs : List ℕ). AreBroughtNearer next (w next) xs near_left left new_near new_least) seen
    (subst (λ (old : List ℕ). AreBroughtNearer next (w next) c.deref-in-Some.result.now old left new_near new_least) near_was
    (subst (λ (old : List ℤ). AreBroughtNearer next (w next) c.deref-in-Some.result.now c.deref_mut-in-Some.result.now old new_near new_least) was reached.nearer)) in
    let shorter : length new_outside ≡ length outside - 1 = ap length c.swap_remove-next.ensures.items ∙ removed_length outside place next in
    let index : ℕ = n - length outside in
    let few : index ≤ most_nodes = omega (arith, c.count.ensures.value, c.count.ensures.most) in
    let computed = sum_computed sum here c.from-weight.result index few c.grow.invariant.size fits c.from-weight.ensures in
    let more : n - length new_outside ≡ index + 1 = omega (arith, shorter, inside, s.count) in
    record {
      state = rw (near_kept, kept, computed) (state_more n w outside new_outside near near_left new_near least left new_least c.grow.pairs.items c.push.new.list.items sum place next joint here
          s is_least next_is joint_is here_is c.swap_remove-next.ensures.items c.swap_remove.ensures.items c.swap_remove-in-Some.ensures.items nearer near_same same c.in_ok-push.ensures.items);
      nearest = rw kept (subst (λ (k : ℕ). MatchOption c.reach-nearest-in-Some.result (k ≡ 0) (IsLeastPlace new_least)) (ap length seen) reached.nearest);
      size = rw (computed, more) (sum_more sum here index c.grow.invariant.size fits);
    }
