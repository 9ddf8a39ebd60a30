-- The goals of `instances_are_problems` in src/laws.rt: what it ensures.
use Rattle.tsp_cost.proofs.Prelude.{sym, subst, refl, IsTrue}
use Rattle.tsp_format.specs.declared.kinds.Kind.TheVariants as kinds
use Rattle.tsp_file.specs.Rules.{is_routing}
use Rattle.tsp_cost.proofs.OneProblem.{AreDefined, AreUnique, some_problem, one_problem, one_routing}
use Rattle.tsp_cost.proofs.laws.instances_are_problems.Goals as goal

-- plan: a valid instance has a problem (`some_problem`), and no other (`one_problem`, `one_routing`)
pub returns : goal.returns
returns c =
    let defined : AreDefined = c.costs_are_by_inequalities.ensures.defined in
    let unique : AreUnique = c.costs_are_by_inequalities.ensures.unique in
    record {
      some = λ f valid instance. some_problem f defined unique (c.valid_fields_are_in_range.ensures f valid)
          (c.valid_files_are_complete.ensures.instance f valid instance)
          (λ kind. c.valid_files_are_complete.ensures.routing f valid (subst (λ k. IsTrue (is_routing k)) (sym kind) refl));
      one = one_problem unique;
      one_routing = one_routing unique;
    }
