-- The goals of `unit_loads` in src/demands.rt, which counts loads and capacity in parts of a unit: its loop and what it
-- ensures.
use Rattle.tsp_routing.proofs.Prelude.{◌≡◌, ◌∙◌, ◌<◌, ◌+◌, ◌*◌, ◌/◌, ℕ, List, length, refl, sym, ap, subst, arith, inl, inr, to_z, of_z, ℤ, nat_abs, w64, ints, cases_eq, get_or-set_same, get_or-set_other, length-set, length-replicate}
use Rattle.std.proofs.Math.ListN.{set}
use Rattle.tsp_routing.specs.PlanLinks.{load_in}
use Rattle.tsp_routing.specs.states.Demands.{loads_problem, load_at}
use Rattle.tsp_routing.proofs.CutNeeds.{load_is}
use Rattle.tsp_routing.proofs.demands.unit_loads.Goals as goal

-- plan: the load just written is that of its node (`load_is`), and the other loads are as they were
pub nodes-preserved : goal.nodes-preserved
nodes-preserved c =
    let loads : List ℕ = c.nodes.loads.items in
    let h = c.nodes.invariant in
    let inside : c.nodes.node < length loads = omega (arith, h.places, c.nodes-test.true) in
    record {
      places = length-set loads c.nodes.node _ ∙ h.places;
      loads_are = λ cost light node parts there below. elim (cases_eq node c.nodes.node) [
        | inl same ↦
            let problem = loads_problem c.args.demands.now cost in
            let units = c.whole_units.ensures.value cost in
            subst (λ (k : ℕ). load_at (set loads c.nodes.node c.load_of.result) k ≡ load_in problem c.args.unit light k)
            (sym same)
            (get_or-set_same loads c.nodes.node _ 0 inside ∙ c.load_of.ensures
            ∙ load_is problem c.args.unit c.nodes.node c.whole_units.result (c.count_light-light.result + 1) light units parts)
        | inr other ↦
            get_or-set_other loads c.nodes.node node _ 0 other ∙ h.loads_are cost light node parts there (omega (arith, below, other))
      ];
    }

pub returns : goal.returns
returns c =
    let light : ℕ = c.count_light-light.result in
    let size = c.requires.demands.capacity_is in
    let capacity : to_z w64 (of_z w64 c.args.demands.now.capacity) ≡ c.args.demands.now.capacity = omega (arith, ints, size.0, size.1) in
    record {
      are = c.count_light-light.ensures.units;
      places = c.nodes.invariant.places;
      loads_are = λ cost node there. c.nodes.invariant.loads_are cost light node refl there
          (omega (arith, there.1, c.nodes-test.false));
      room_is = λ cost. ap (λ (z : ℤ). nat_abs z / c.args.unit * (light + 1) + light) capacity;
    }

-- no node comes before the first one
pub nodes-init : goal.nodes-init
nodes-init c =
    let zeros = c.in_ok-loads.ensures.items_if_clones_equal (λ y h. h) in
    record {
      places = ap length zeros ∙ length-replicate (c.args.demands.now.nodes + 1) 0;
      loads_are = λ cost light node parts there below. absurd (omega (arith, there.0, below));
    }
