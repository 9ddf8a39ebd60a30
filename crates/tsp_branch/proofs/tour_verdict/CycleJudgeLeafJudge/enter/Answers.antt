-- The goals of `enter` in src/tour_verdict.rt, of the trait `LeafJudge` for `CycleJudge`: what it ensures. It goes on
-- to the case with one decision more.
use Rattle.tsp_branch.proofs.Prelude.{ℕ, length, lent_in}
use Rattle.tsp_branch.proofs.tour_verdict.CycleJudgeLeafJudge.enter.Goals as goal

-- plan: the numbers of the leaf don't change, and the kept rows get the mark of the new decision, as the call ensures
pub returns : goal.returns
returns g c = λ case is.
    let s = c.args.self.now.context.now in (
      record {
        potentials = is.0.potentials;
        multipliers = is.0.multipliers;
        row = is.0.row;
        moved = is.0.moved;
      },
      c.mark.ensures (g.C.Costs.nodes s.costs.now) (length s.families.now.crossed.items) s.cases.now.scale (lent_in s.families.now)
          (g.C.Costs.at s.costs.now) case is.1 c.requires.decision,
    )
