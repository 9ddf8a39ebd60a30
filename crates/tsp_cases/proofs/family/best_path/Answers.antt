-- The goals of `best_path` in src/family.rt, which finds the best path through a set of parts: what it ensures.
use Rattle.tsp_cases.proofs.Prelude.{◌≡◌, ℕ, ◌+◌, ◌-◌, ◌*◌, ◌/◌, ◌%◌, ◌^◌, inl, inr, ap, sym, ◌∙◌, subst, arith, rules, bit_at}
use Rattle.tsp_cases.specs.Crossings.{cost_by_rows, IsLeastSum}
use Rattle.tsp_cases.proofs.LeastCycles.{StartsWith, no_best, best_from}
use Rattle.tsp_cases.proofs.family.best_path.Goals.{then-rest-eq0, else-rest-eq0}
use Rattle.tsp_cases.proofs.family.best_path.Goals as goal

pub returns-then-set-bit-eq0 : goal.returns-then-set-bit-eq0
returns-then-set-bit-eq0 c = no_best c.args.between.now.nodes c.args.set c.args.other (cost_by_rows c.args.between.now.nodes c.args.between.now.costs.now)
    (ap (λ (z : ℕ). c.args.set / z % 2) (sym c.power-bit.ensures) ∙ c.if-set-bit-eq0.true)

-- plan: by whether the set has other parts: none is left, or a least step and a best path through the others
-- (`best_from`)
pub returns : goal.returns
returns c =
    let n : ℕ = c.args.between.now.nodes in
    let power : c.power-bit.result ≡ 2 ^ c.args.other = c.power-bit.ensures in
    let same : bit_at c.args.set c.args.other ≡ c.args.set / c.power-bit.result % 2 = ap (λ (z : ℕ). c.args.set / z % 2) (sym power) in
    let own : bit_at c.args.set c.args.other ≡ 1 = same ∙ omega (arith, c.if-set-bit-eq0.false) in
    let starts : StartsWith n c.args.between.now.costs.now c.args.set c.args.other c.if-rest-eq0.start = elim c.if-rest-eq0.branch [
      | then-rest-eq0 w ↦ inl (ap (λ (z : ℕ). c.args.set - z) (sym power) ∙ w.if-rest-eq0.true, w.start-is ∙ w.from-start.ensures)
      | else-rest-eq0 w ↦ inr (λ none. w.if-rest-eq0.false (ap (λ (z : ℕ). c.args.set - z) power ∙ none), w.start-is)
    ] in
    best_from n c.args.set c.args.other c.if-rest-eq0.start c.least_sum.result c.args.between.now.costs.now c.args.paths.now c.requires.other own c.requires.paths c.requires.best
    (search rules) starts
    (subst (λ (z : ℕ). IsLeastSum c.if-rest-eq0.start c.args.between.now.costs.now c.args.paths.now ((c.args.other + 1) * n + 1) ((c.args.set - z) * (n - 1))
    (n - 1) c.least_sum.result) power c.least_sum.ensures)
