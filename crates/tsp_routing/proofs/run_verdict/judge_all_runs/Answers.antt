-- The goals of `judge_all_runs` in src/run_verdict.rt, which bounds the leaves by their least runs: what its call requires,
-- and the facts of the judge that it makes.
use Rattle.tsp_routing.proofs.Prelude.{ℕ, ◌≡◌, List, length, refl, lent_in}
use Rattle.tsp_format.specs.states.TreeSteps.{steps_of}
use Rattle.tsp_cases.specs.declared.judged.TreeVerdict.{TreeVerdict}
use Rattle.tsp_cases.specs.declared.judged.TreeVerdict.TheVariants as verdict
use Rattle.tsp_cases.proofs.Passes.{by_leaves}
use Rattle.tsp_routing.specs.states.MemoryTables.{near_in}
use Rattle.tsp_routing.specs.states.RunJudged.{AreRunsJudged, tree_in}
use Rattle.tsp_routing.specs.states.RunTables.{item_lists}
use Rattle.tsp_routing.proofs.RunJudging.{good_memories, small_rows, tables_for}
use Rattle.tsp_routing.proofs.run_verdict.judge_all_runs.Goals as goal

-- plan: good lists and rows are memories (`good_memories`), whose tables serve every leaf (`tables_for`)
pub memories_of-requires-clause-memories : goal.memories_of-requires-clause-memories
memories_of-requires-clause-memories g c =
    let s = c.args.context.now in
    let tree = c.args.tree.now in
    good_memories s.demands.nodes s.demands.depot (item_lists tree.near.now) tree.rows.now (near_in c.args.near.now) s.are.depot_in
    c.requires.memory c.requires.near.are

pub invariant_of-judge : goal.invariant_of-judge
invariant_of-judge g c =
    let s = c.args.context.now in
    let tree = c.args.tree.now in
    let memories = c.in_ok-memories.memories in
    record {
      room = c.requires.room;
      same = c.in_ok-memories.ensures.nodes;
      many = c.in_ok-memories.ensures.rows;
      small = small_rows s.demands.nodes s.demands.depot tree.rows.now s.are.few c.requires.memory.rows_are;
      tables = ∣ tables_for s.demands (g.C.Costs.at s.costs.now) s.scale s.unit s.units.now.light s.crossed.now (lent_in s.families.now)
          tree.near.now tree.rows.now c.args.near.now memories.count memories.keys.items memories.places.items
          c.in_ok-memories.ensures.rows c.requires.near c.in_ok-memories.ensures.are ∣₁;
    }

pub returns-clause-judged : goal.returns-clause-judged
returns-clause-judged g c =
    let s = c.args.context.now in
    let tree = c.args.tree.now in
    let all = tree_in s.demands (g.C.Costs.at s.costs.now) s.scale s.unit s.units.now.light s.crossed.now (lent_in s.families.now)
    tree.near.now tree.rows.now in
    by_leaves _ _ (λ (judged : TreeVerdict). ((leaf : ℕ) → judged ≡ verdict.BadLeaf leaf → ⊥)
    → AreRunsJudged all (steps_of c.args.steps.now) judged)
    c.in_ok-judged.judged c.in_ok-judged.ensures.judged (λ found is none. (is.2, is.1)) (λ leaf is none. absurd (none leaf refl)) c.in_default.not-BadLeaf
