-- The goals of `add_at` in src/costs.rt, which adds a number at a place of a row: what it ensures.
use Rattle.tsp_theory.proofs.Prelude.{◌∙◌, ap, rules, FitsSigned, pos, ◌+ℤ◌, w64, int_wrap, wrapping_add_is, get_or-set_same}
use Rattle.tsp_theory.proofs.costs.add_at.Goals as goal

-- plan: at the node's own place the entry is the sum, and elsewhere it is as it was
pub returns-clause-here : goal.returns-clause-here
returns-clause-here c =
    let first : FitsSigned w64 c.weight_in-old.result = search rules in
    let second : FitsSigned w64 c.args.number = search rules in
    get_or-set_same c.args.row.now c.args.node _ (pos 0) c.requires ∙ wrapping_add_is w64 c.weight_in-old.result c.args.number first second ∙ ap (λ z. int_wrap w64 (z +ℤ c.args.number))
    c.weight_in-old.ensures
