-- The goals of `cut_crossings` in src/plan_verdict.rt, which counts how often a plan crosses a set of customers at
-- least: what its call requires and what it ensures.
use Rattle.tsp_routing.proofs.Prelude.{◌≡◌, ◌≢◌, ◌∙◌, ◌*◌, ℕ, List, [], ◌∷◌, length, get_or, true, refl, ap, sym, subst, arith, ◌||◌, ◌==◌, All, eq-eqb, ne_eqb, both_ways, IsNode, has, lists_of, Crossings, family_with, HasEachOnce}
use Rattle.tsp_cases.specs.states.GoodFamilies.{AreUnmarked, AreMarked}
use Rattle.tsp_routing.specs.PlanLinks.{IsCutFamily}
use Rattle.tsp_routing.specs.PlanVerdicts.{IsGoodSet}
use Rattle.tsp_routing.specs.states.Demands.{loads_problem}
use Rattle.tsp_routing.proofs.PlanJudging.{few_customers, one_list, nodes_inside, depot_inside, is_one_set, customers_of}
use Rattle.tsp_routing.proofs.plan_verdict.cut_crossings.Goals as goal

-- plan: each node gets a new mark, so none comes twice. If the depot has none, the set is of customers (`good`)
pub returns-then-marks-demands-clause-found : goal.returns-then-marks-demands-clause-found
returns-then-marks-demands-clause-found c =
    let nodes : List ℕ = c.as_slice-customers.result.now in
    let depot : ℕ = c.args.demands.now.depot in
    let own = (c.if-not-mark_nodes.ensures.marked refl).own depot in
    let inside : has nodes depot ≡ true = sym (ap (λ b. b || has nodes depot) (c.requires.fresh depot)) ∙ sym own
    ∙ eq-eqb (get_or c.mark_nodes.new.marks depot 0) c.args.mark c.if-marks-demands.true in
    depot_inside c.args.demands.now.nodes depot (lists_of c.args.sets.now) nodes
    (one_list c.args.sets.now c.index-sets-0.result nodes c.if-sets-ne1.false c.index-sets-0.is c.as_slice-customers.ensures.value) inside

pub need-requires-clause-few : goal.need-requires-clause-few
need-requires-clause-few c =
    let once = (c.if-not-mark_nodes.ensures.new.0 refl).once in
    let few = few_customers c.args.demands.now.nodes c.args.demands.now.depot c.as_slice-customers.result.now
    (nodes_inside c.args.demands.now.nodes c.args.sets.now c.index-sets-0.result c.as_slice-customers.result.now c.requires.inside
    c.if-sets-ne1.false c.index-sets-0.is c.as_slice-customers.ensures.value) once in
    omega (arith, few, c.requires.demands.few)

good : (n depot : ℕ) (nodes old new : List ℕ) (mark : ℕ) → nodes ≢ [] → All (IsNode n) nodes → HasEachOnce nodes → AreUnmarked old mark
    → AreMarked mark nodes old new → (get_or new depot 0 ≡ mark → ⊥) → (sets : List (List ℕ)) → sets ≡ nodes ∷ [] → IsGoodSet n depot sets
good n depot nodes old new mark some inside once fresh marked off sets is =
    is_one_set n depot sets nodes is some inside once
    (sym (ap (λ b. b || has nodes depot) (fresh depot)) ∙ sym (marked.own depot) ∙ ne_eqb (get_or new depot 0) mark off)

pub need-requires-clause-customers : goal.need-requires-clause-customers
need-requires-clause-customers c =
    let n : ℕ = c.args.demands.now.nodes in
    let depot : ℕ = c.args.demands.now.depot in
    let nodes : List ℕ = c.as_slice-customers.result.now in
    let some : nodes ≢ [] = λ none.
    both_ways (length nodes == 0) (sym c.is_empty.ensures ∙ c.if-is_empty.false) (eq-eqb (length nodes) 0 (ap length none)) in
    let inside = nodes_inside n c.args.sets.now c.index-sets-0.result nodes c.requires.inside c.if-sets-ne1.false c.index-sets-0.is
    c.as_slice-customers.ensures.value in
    let set = good n depot nodes c.args.marks.now c.mark_nodes.new.marks c.args.mark some inside
    (c.if-not-mark_nodes.ensures.new.0 refl).once c.requires.fresh (c.if-not-mark_nodes.ensures.marked refl) c.if-marks-demands.false
    (nodes ∷ []) refl in
    customers_of n depot nodes set

pub returns-clause-found : goal.returns-clause-found
returns-clause-found c =
    let n : ℕ = c.args.demands.now.nodes in
    let depot : ℕ = c.args.demands.now.depot in
    let nodes : List ℕ = c.as_slice-customers.result.now in
    let some : nodes ≢ [] = λ none.
    both_ways (length nodes == 0) (sym c.is_empty.ensures ∙ c.if-is_empty.false) (eq-eqb (length nodes) 0 (ap length none)) in
    let is = one_list c.args.sets.now c.index-sets-0.result nodes c.if-sets-ne1.false c.index-sets-0.is
    c.as_slice-customers.ensures.value in
    let inside = nodes_inside n c.args.sets.now c.index-sets-0.result nodes c.requires.inside c.if-sets-ne1.false c.index-sets-0.is
    c.as_slice-customers.ensures.value in
    let own : Crossings = record { least = 2 * c.from.result; most = 1 } in (
      good n depot nodes c.args.marks.now c.mark_nodes.new.marks c.args.mark some inside
          (c.if-not-mark_nodes.ensures.new.0 refl).once c.requires.fresh (c.if-not-mark_nodes.ensures.marked refl)
          c.if-marks-demands.false (lists_of c.args.sets.now) is,
      omega (arith, c.need.ensures.size, c.from.ensures),
      λ cost. subst (λ (ss : List (List ℕ)). IsCutFamily (loads_problem c.args.demands.now cost) (family_with own ss)) (sym is) (record {
        alone = refl;
        need = c.need.result;
        cut = c.need.ensures.cut cost;
        least_is = ap (λ (k : ℕ). 2 * k) c.from.ensures;
        most_is = refl;
      }),
    )
