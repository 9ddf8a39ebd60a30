-- The goals of `first_against_nodes` in src/tour.rt, which finds the first reason against the nodes of a tour: what it
-- ensures.
use Rattle.tsp_verdict.proofs.Prelude.{List, ℕ, ◌≤◌, subst, rules, All, Fields, nodes_of}
use Rattle.tsp_verdict.specs.SolutionReasons.{NoneOfTourBeforeRepeats}
use Rattle.tsp_verdict.proofs.TourVerdicts.{cycle_found, larger_first, none_up_to_repeats, repeated_first}
use Rattle.tsp_verdict.proofs.tour.first_against_nodes.Goals as goal

-- plan: by what is found first: a node too large (`larger_first`), one twice (`repeated_first`); else a cycle
-- (`cycle_found`)
pub returns-then-are_different : goal.returns-then-are_different
returns-then-are_different c =
    cycle_found c.args.inst.now c.args.sol.now c.args.tour.now c.count-nodes.result c.requires.only c.requires.each c.requires.some
    (c.requires.before 0) c.count-nodes.ensures.value c.if-are_different.ensures.0 c.if-are_different.ensures.1

pub returns-in-Some : goal.returns-in-Some
returns-in-Some c =
    larger_first c.args.inst.now c.args.sol.now c.args.tour.now c.count-nodes.result c.in-Some.place c.requires.only
    c.count-nodes.ensures.value (c.requires.before 0) c.in-Some.ensures

pub returns-in_err-place : goal.returns-in_err-place
returns-in_err-place c =
    let inst : Fields = c.args.inst.now in
    let sol : Fields = c.args.sol.now in
    let tour : List ℕ = c.args.tour.now in
    let high : All (λ node. node ≤ nodes_of inst) tour =
    subst (λ n. All (λ node. node ≤ n) tour) c.count-nodes.ensures.value c.in_default.ensures in
    let none : NoneOfTourBeforeRepeats inst sol =
    λ place. none_up_to_repeats inst sol tour c.requires.only (c.requires.before 0) high in
    search (rules, none)

pub returns-in-Some-2 : goal.returns-in-Some-2
returns-in-Some-2 c =
    let inst : Fields = c.args.inst.now in
    let sol : Fields = c.args.sol.now in
    let tour : List ℕ = c.args.tour.now in
    let high : All (λ node. node ≤ nodes_of inst) tour =
    subst (λ n. All (λ node. node ≤ n) tour) c.count-nodes.ensures.value c.in_default.ensures in
    let first = rw c.in-Some-2.is at c.in_ok-place.ensures in
    repeated_first inst sol tour c.in-Some-2.place c.requires.only
    (none_up_to_repeats inst sol tour c.requires.only (c.requires.before 0) high) first

pub returns-in-None : goal.returns-in-None
returns-in-None c =
    let once = rw c.in-None.is at c.in_ok-place.ensures in
    cycle_found c.args.inst.now c.args.sol.now c.args.tour.now c.count-nodes.result c.requires.only c.requires.each c.requires.some
    (c.requires.before 0) c.count-nodes.ensures.value c.in_default.ensures once
