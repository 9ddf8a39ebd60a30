-- The goals of `moved_of` in src/plan_leaf.rt, which lessens each potential by the multipliers of the node's sets: the
-- facts of the multiplied families that it makes, what its calls require, and what it ensures.
use Rattle.tsp_routing.proofs.Prelude.{◌≡◌, ◌∙◌, ◌+◌, ℕ, ℤ, List, length, sym, replicate, ap, arith, pos, neg_ℤ, ◌+ℤ◌, w64, int_wrap, ints, get_or-replicate, length-replicate, All-from_recursion, IsFromTo, entry, least_at, multipliers_at, lent_in, written, wrapped_by}
use Rattle.tsp_cases.proofs.SetSums.{moved_from_ends}
use Rattle.tsp_routing.specs.PlanVerdicts.{most_of_multipliers}
use Rattle.tsp_routing.proofs.RouteProducts.{each_small}
use Rattle.tsp_routing.proofs.plan_leaf.moved_of.Goals as goal

-- plan: what the multipliers take off each node, then its potential
pub invariant_of-multiplied : goal.invariant_of-multiplied
invariant_of-multiplied g c =
    let each = All-from_recursion (IsFromTo (neg_ℤ (pos most_of_multipliers)) (pos most_of_multipliers)) c.args.multipliers.now
    (each_small most_of_multipliers c.args.multipliers.now c.requires.numbers.sum) in
    record {
      as_many = c.requires.numbers.each_family ∙ c.args.context.now.many;
      small = λ k d lt. let own = each k d lt in (omega (arith, ints, own.0), omega (arith, ints, own.1));
    }

pub returns-clause-moved : goal.returns-clause-moved
returns-clause-moved g c = λ x x_in.
    let s = c.args.context.now in
    let lists : List (List (List ℕ)) = lent_in s.families.now in
    let ms : List ℤ = c.args.multipliers.now in
    let taken : ℤ = neg_ℤ (multipliers_at ms lists x) in
    let zeros : c.in_ok-ends.ends.items ≡ replicate (s.demands.nodes + 1) (pos 0) = c.in_ok-ends.ensures.items_if_clones_equal (λ y h. h) in
    let zero : least_at c.deref_mut.result.now x ≡ pos 0 = ap (λ (zs : List ℤ). least_at zs x) (c.deref_mut.ensures.value ∙ zeros)
    ∙ get_or-replicate (s.demands.nodes + 1) x (pos 0) (pos 0)
    (let long = length-replicate (s.demands.nodes + 1) (pos 0) in omega (arith, x_in.1, long)) in
    let ends_is : c.deref.result.now ≡ c.take_multipliers.new.row = c.deref.ensures.value
    ∙ written c.in_ok-ends.ends.len c.take_multipliers.new.row _ (c.take_multipliers.auto.row ∙ c.deref_mut.ensures.len) in
    let end : int_wrap w64 (least_at c.deref.result.now x) ≡ int_wrap w64 (pos 0 +ℤ taken) =
    ap (λ (zs : List ℤ). int_wrap w64 (least_at zs x)) ends_is
    ∙ wrapped_by taken (least_at c.deref_mut.result.now x) (least_at c.take_multipliers.new.row x) (pos 0) (c.take_multipliers.ensures x) zero in
    let same : pos 0 +ℤ taken ≡ taken = omega (arith, ints) in
    let moved_is = written c.in_ok-moved.moved.len c.fill_moved.new.row _ (c.fill_moved.auto.row ∙ c.deref_mut-2.ensures.len) in
    let held = c.fill_moved.ensures x (x_in.0, omega (arith, x_in.1, c.requires.numbers.each_node)) in
    ap (λ (zs : List ℤ). int_wrap w64 (least_at zs x)) moved_is
    ∙ moved_from_ends (entry c.args.potentials.now x) (least_at c.deref.result.now x) (least_at c.fill_moved.new.row x) taken held
    (end ∙ ap (int_wrap w64) same)

pub returns-clause-long : goal.returns-clause-long
returns-clause-long g c =
    let moved_is = written c.in_ok-moved.moved.len c.fill_moved.new.row _ (c.fill_moved.auto.row ∙ c.deref_mut-2.ensures.len) in
    ap length moved_is ∙ (c.fill_moved.auto.row ∙ (c.deref_mut-2.ensures.len ∙ c.in_ok-moved.ensures.len))

pub fill_moved-requires : goal.fill_moved-requires
fill_moved-requires g c =
    let each = ap (λ (k : ℕ). k + 1) (sym c.requires.numbers.each_node) in
    let ends_is = c.deref.ensures.value
    ∙ written c.in_ok-ends.ends.len c.take_multipliers.new.row _ (c.take_multipliers.auto.row ∙ c.deref_mut.ensures.len) in
    record {
      room = c.deref_mut-2.ensures.len ∙ (c.in_ok-moved.ensures.len ∙ each);
      ends = ap length ends_is ∙ (c.take_multipliers.auto.row ∙ (c.deref_mut.ensures.len ∙ (c.in_ok-ends.ensures.len ∙ each)));
    }

pub take_multipliers-requires : goal.take_multipliers-requires
take_multipliers-requires g c =
    c.deref_mut.ensures.len ∙ (c.in_ok-ends.ensures.len ∙ ap (λ (k : ℕ). k + 1) (sym c.args.context.now.own))
