-- The goals of `leave` in src/tour_verdict.rt, of the trait `LeafJudge` for `CycleJudge`: what it ensures. It goes on
-- from a leaf to the next open case.
use Rattle.tsp_branch.proofs.Prelude.{ℕ, length, lent_in}
use Rattle.tsp_branch.proofs.tour_verdict.CycleJudgeLeafJudge.leave.Goals as goal

-- plan: the numbers of the leaf don't change, and the kept rows get the marks of the next case, as the call ensures
pub returns : goal.returns
returns g c = λ given is_open next is pairs turned.
    let s = c.args.self.now.context.now in (
      record {
        potentials = is.0.potentials;
        multipliers = is.0.multipliers;
        row = is.0.row;
        moved = is.0.moved;
      },
      c.leave.ensures (g.C.Costs.nodes s.costs.now) (length s.families.now.crossed.items) s.cases.now.scale (lent_in s.families.now)
          (g.C.Costs.at s.costs.now) given is_open next is.1 pairs turned,
    )
