-- The goals of `Instance::fixed` in src/instance.rt: what it ensures.
use Rattle.tsp_cost.proofs.Prelude.{◌≡◌, ℕ, List, Some, sym, ap, subst, ◌∙◌, Fields}
use Rattle.tsp_file.specs.Valid.{AreFixed}
use Rattle.tsp_cost.specs.states.Views.{HasFound}
use Rattle.tsp_cost.proofs.OneProblem.{pairs_of}
use Rattle.tsp_cost.proofs.instance.Instance.fixed.Goals as goal

pub returns-in-Some-clause-few : goal.returns-in-Some-clause-few
returns-in-Some-clause-few c = (c.self.invariant.range.fixed c.in-Some.pairs.now (sym c.in-Some.ensures)).few

-- plan: the pairs are those of the file, and both nodes of each are in their range (`pairs_of`)
pub returns-in-Some-clause-range : goal.returns-in-Some-clause-range
returns-in-Some-clause-range c =
    let f : Fields = c.args.self.now in
    let pairs : List (ℕ × ℕ) = c.in-Some.pairs.now in
    let found = subst (λ (g : Fields). HasFound g c.self.inside.nodes c.self.inside.source) c.self.view_is c.self.invariant in
    let stand : f.fixed ≡ Some pairs = ap (λ (g : Fields). g.fixed) (sym c.self.view_is) ∙ sym c.in-Some.ensures in
    let held : AreFixed f pairs = found.range.fixed pairs stand in
    pairs_of f pairs held
