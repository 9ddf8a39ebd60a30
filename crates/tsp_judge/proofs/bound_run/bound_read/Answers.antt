-- The goals of `bound_read` in src/bound_run.rt, which bounds the tours of files that were read, or returns the first
-- fault: what it ensures.
use Rattle.tsp_judge.proofs.Prelude.{refl, sym, subst, Keeps-refl, IsFile, IsProblem}
use Rattle.tsp_judge.proofs.Yeses.{bounded_none}
use Rattle.tsp_judge.proofs.Bounding.{ends_unbounded, bound_run_of, bound_fault_of}
use Rattle.tsp_judge.proofs.bound_run.bound_read.Goals as goal

-- plan: by how it ends: of the wrong kind, out of memory, or with a report (`bound_run_of`)
pub returns-in_default : goal.returns-in_default
returns-in_default g c = λ first second one two.
    rw c.wrong_kind.ensures
    (bound_fault_of c.args.strict _ _ _ _ _ (c.args.instance, c.args.certificate, one, two, (bounded_none c.args.by _ c.in_default.ensures.2, (Keeps-refl _, refl))))

pub returns-in-Err : goal.returns-in-Err
returns-in-Err g c = λ first second one two.
    bound_fault_of c.args.strict _ _ _ _ _
    (ends_unbounded c.args.strict c.args.by first second c.in-Ok.instance c.args.certificate _ _ (subst (IsFile first) (sym c.in-Ok.ensures.0) one) two c.in-Err.ensures)

pub returns-in-Ok-bound_files : goal.returns-in-Ok-bound_files
returns-in-Ok-bound_files g c = λ first second one two.
    bound_run_of c.args.strict _ _ _ _ _ (subst IsProblem (sym c.in-Ok.ensures.0) c.in-Ok.ensures.2) (subst (IsFile first) (sym c.in-Ok.ensures.0) one, two, c.in-Ok-bound_files.ensures)
