-- The goals of `Points::along` in src/points.rt, which computes the length of a tour: its loop, and what it ensures.
use Rattle.tsp_cost.proofs.Prelude.{◌≡◌, ◌≤◌, ℕ, ◌+◌, ◌-◌, List, [], ◌∷◌, ◌++◌, length, sym, ap, subst, ◌∙◌, arith, to_z, take-append-drop, ℤ, pos, ◌+ℤ◌, w64, ints, IsNode, length_of}
use Rattle.std.specs.List.{All}
use Rattle.std.proofs.lemmas.List.{nil_from_length}
use Rattle.std.proofs.lemmas.List.Elements.{All-tail, All-drop}
use Rattle.std.proofs.Math.IntN.{+ℤ_assoc, +ℤ_idl, +ℤ_idr}
use Rattle.std.proofs.lemmas.Bool.{eqb-true}
use Rattle.tsp_cost.specs.states.Views.{points_nodes, points_cost}
use Rattle.tsp_cost.specs.states.Metrics.{length_to, IsSumOfCosts}
use Rattle.tsp_cost.proofs.Ways.{sum_none, sum_both, sum_fits, cost_fits}
use Rattle.tsp_cost.proofs.points.Points.along.Goals as goal

pub parts-init : goal.parts-init
parts-init g c =
    let IsIn : ℕ → Type 0 = IsNode (points_nodes c.args.self.now) in
    let first : ℕ = c.in-Some.first.now in
    let others : List ℕ = c.in-Some.others.now in
    let cost : ℕ → ℕ → ℤ = points_cost g.P.InSpace.place c.args.self.now in
    let all : All IsIn (first ∷ others) = subst (λ (xs : List ℕ). All IsIn xs) c.in-Some.ensures.cases.0 c.requires.range in
    record {
      node = all 0 0 (omega arith);
      range = All-tail IsIn first others all;
      few = omega (arith, c.in-Some.ensures.cases.1);
      size = subst (λ (n : ℕ). IsSumOfCosts n (pos 0)) (omega (arith, c.in-Some.ensures.cases.1)) sum_none;
      so_far = +ℤ_idl (length_to cost first first others) ∙ ap (length_of cost) (sym c.in-Some.ensures.cases.0);
    }

-- plan: the list is cut into blocks: the lengths of these add up (`sum_both`), and fit 64 bits (`sum_fits`)
pub parts-preserved : goal.parts-preserved
parts-preserved g c =
    let IsIn : ℕ → Type 0 = IsNode (points_nodes c.args.self.now) in
    let cost : ℕ → ℕ → ℤ = points_cost g.P.InSpace.place c.args.self.now in
    let first : ℕ = c.in-Some.first.now in
    let rest : List ℕ = c.parts.rest.now in
    let front : List ℕ = c.split_at.result.0.now in
    let later : List ℕ = c.split_at.result.1.now in
    let so_far : ℤ = to_z w64 c.parts.length-bits in
    let way : ℤ = c.through-way.result.0 in
    let halves : front ++ later ≡ rest =
    rw (c.split_at.ensures.front, c.split_at.ensures.back) (take-append-drop c.min.result rest) in
    let counts : (length c.args.tour.now - (length rest + 1)) + length front ≡ length c.args.tour.now - (length later + 1) =
    omega (arith, c.split_at.ensures.front_len, c.split_at.ensures.back_len, c.parts.invariant.few) in
    let fits = sum_fits so_far way (length c.args.tour.now - (length rest + 1)) (length front)
    (omega (arith, counts, c.requires.size)) c.parts.invariant.size c.through-way.ensures.size in
    record {
      node = c.through-way.ensures.last;
      range = subst (λ (xs : List ℕ). All IsIn xs) (sym c.split_at.ensures.back)
          (All-drop IsIn c.min.result rest c.parts.invariant.range);
      few = omega (arith, c.split_at.ensures.back_len, c.parts.invariant.few);
      size = rw fits (subst (λ (n : ℕ). IsSumOfCosts n (so_far +ℤ way)) counts
          (sum_both so_far way (length c.args.tour.now - (length rest + 1)) (length front) c.parts.invariant.size
          c.through-way.ensures.size));
      so_far = rw fits (+ℤ_assoc so_far way (length_to cost first c.through-way.result.1 later)
          ∙ ap (λ (z : ℤ). so_far +ℤ z) (c.through-way.ensures.sum first later)
          ∙ ap (λ (xs : List ℕ). so_far +ℤ length_to cost first c.parts.from xs) halves
          ∙ c.parts.invariant.so_far);
    }

pub returns : goal.returns
returns g c =
    let cost : ℕ → ℕ → ℤ = points_cost g.P.InSpace.place c.args.self.now in
    let first : ℕ = c.in-Some.first.now in
    let so_far : ℤ = to_z w64 c.parts.length-bits in
    let none : c.parts.rest.now ≡ [] =
    nil_from_length c.parts.rest.now (eqb-true (length c.parts.rest.now) 0 (sym c.is_empty.ensures ∙ c.parts-test.false)) in
    let few : length c.args.tour.now - (length c.parts.rest.now + 1) ≤ 1000000 = omega (arith, c.requires.size) in
    let fits = cost_fits so_far c.cost.result (length c.args.tour.now - (length c.parts.rest.now + 1)) few c.parts.invariant.size
    c.cost.ensures.low c.cost.ensures.high in
    rw (fits, c.cost.ensures.value)
    (ap (λ (z : ℤ). so_far +ℤ z) (sym (+ℤ_idr (cost c.parts.from first)))
    ∙ ap (λ (xs : List ℕ). so_far +ℤ length_to cost first c.parts.from xs) (sym none)
    ∙ c.parts.invariant.so_far)
