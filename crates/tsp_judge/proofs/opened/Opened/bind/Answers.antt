-- The goals of `Opened::bind` in src/opened.rt, which binds a certificate to an open instance: that what it keeps is
-- the known bound, and what it ensures.
use Rattle.tsp_judge.proofs.Prelude.{◌≡◌, Err, ap, refl, rules, subst, IsTrue, IsBoundVerdict, is_bounded, propagated}
use Rattle.tsp_judge.specs.declared.run_status.RunFault.TheVariants.{OutOfMemory}
use Rattle.tsp_judge.specs.Open.{Open, IsUnbound}
use Rattle.tsp_judge.proofs.Bounding.{unbound}
use Rattle.tsp_judge.proofs.opened.Opened.bind.Goals as goal

-- plan: by how it ends: no file, no memory for the bound (`unbound`), or the new known bound
pub invariant_of-self : goal.invariant_of-self
invariant_of-self c =
    let bounded : IsTrue (is_bounded c.args.by c.self.inside.instance.kind) = search rules in
    (c.self.invariant.0, (bounded, c.known_bound_of-self-inside.ensures c.args.by c.in_ok-file.file c.in-Ok.ensures))

pub returns-in_err-file : goal.returns-in_err-file
returns-in_err-file c =
    let same : c.from_residual.result ≡ Err c.in_err-file.field-0.0 = propagated _ _ c.from_residual.ensures.1 in
    rw same (refl, unbound c.args.by c.args.text.now c.args.self.now _ c.in_err-file.ensures)

pub returns-in-Err : goal.returns-in-Err
returns-in-Err c =
    let bounded : IsTrue (is_bounded c.args.by c.self.inside.instance.kind) = search rules in
    rw c.refused.ensures (
      refl,
      subst (λ (o : Open). IsUnbound c.args.by c.args.text.now o OutOfMemory) c.self.view_is
          (c.in_ok-file.file, c.in_ok-file.ensures, bounded, c.in-Err.ensures.0, c.in-Err.ensures.1),
    )

pub returns : goal.returns
returns c =
    let bounded : IsTrue (is_bounded c.args.by c.self.inside.instance.kind) = search rules in
    record {
      same = ap (λ (o : Open). o.instance) c.self.view_is;
      certificate = c.in_ok-file.file;
      spelled = c.in_ok-file.ensures;
      held = refl;
      of_type = subst (λ (o : Open). IsTrue (is_bounded c.args.by o.instance.kind)) c.self.view_is bounded;
      judged = subst (λ (o : Open). IsBoundVerdict c.args.by o.instance c.in_ok-file.file c.in-Ok.found) c.self.view_is c.in-Ok.ensures;
    }
