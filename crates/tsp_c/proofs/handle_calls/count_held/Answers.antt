-- The goals of `count_held` in src/handle_calls.rt, which counts the nodes of a handle's instance: what it ensures.
use Rattle.tsp_c.proofs.Prelude.{◌≡◌, ◌∙◌, ap, refl, subst, rules, Some, unwrap_or, Fields, Open}
use Rattle.tsp_c.specs.NumberCalls.{EndsCount}
use Rattle.tsp_c.specs.Opened.{Held, OfHeld}
use Rattle.tsp_c.proofs.HandleCalls.{some_count}
use Rattle.tsp_c.proofs.handle_calls.count_held.Goals as goal

-- plan: the handle has an open instance, whose text says this DIMENSION (`some_count`)
pub returns-in-Some-clause-fills : goal.returns-in-Some-clause-fills
returns-in-Some-clause-fills c =
    let held : Open = c.in-Some.opened.value in
    let old : Some held ≡ c.args.handle.now.loose.value = search rules in
    let lent : c.instance.result.now ≡ held.instance = search rules in
    subst (λ (h : Held). OfHeld h (λ instance. EndsCount instance c.count.result c.done.result) c.args.count.now c.count.result c.done.result) old (
      c.done.ensures,
      some_count held.instance.dimension c.count.result
          (c.count.ensures.value ∙ ap (λ (f : Fields). unwrap_or f.dimension 0) lent) c.count.ensures.some,
    )
