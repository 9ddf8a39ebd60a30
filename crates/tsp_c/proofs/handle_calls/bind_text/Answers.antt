-- The goals of `bind_text` in src/handle_calls.rt, which binds the certificate of a text to a handle's instance: what
-- it ensures.
use Rattle.tsp_c.proofs.Prelude.{◌≡◌, subst, rules, Option, Some, CertificateKind, Open}
use Rattle.tsp_c.specs.NumberCalls.{nth}
use Rattle.tsp_c.specs.Opened.{Held, BindsOpen, BindsText}
use Rattle.tsp_c.specs.Texts.{certificates}
use Rattle.tsp_c.proofs.handle_calls.bind_text.Goals as goal

-- plan: the open instance is taken out of the handle, bound and put back, so what the call ensures of it holds of the
-- handle
pub returns-in-Some-take : goal.returns-in-Some-take
returns-in-Some-take c =
    let call_result = c.bind_opened-status.new.call_result in
    let status = c.bind_opened-status.result in
    let text = c.args.text.now in
    let kind : Some c.in-Some.by ≡ nth c.args.by certificates = search rules in
    let old : Some c.in-Some-take.opened.value ≡ c.args.handle.now.loose.value = search rules in
    let new : Some c.bind_opened-status.new.opened ≡ c.put.new.self.loose.value = search rules in
    let lent : c.deref_mut.result.now ≡ c.in-Some-take.opened.value = search rules in
    subst (λ (k : Option CertificateKind). BindsText k text c.args.handle.now.loose.value c.put.new.self.loose.value call_result status) kind
    (subst (λ (h : Held). BindsText (Some c.in-Some.by) text h c.put.new.self.loose.value call_result status) old
    (subst (λ (h : Held). BindsOpen c.in-Some.by text c.in-Some-take.opened.value h call_result status) new
    (subst (λ (o : Open). BindsOpen c.in-Some.by text o (Some c.bind_opened-status.new.opened) call_result status) lent c.bind_opened-status.ensures)))
