-- The goals of `next_item` in src/items.rt, which cuts the next item from a text: what it ensures.
use Rattle.tsp_read.proofs.Prelude.{◌≡◌, ◌≤◌, ℕ, Bool, false, List, ◌∷◌, length, ap, sym, ◌∙◌, length-drop, arith, ne_eqb, common_steps}
use Rattle.tsp_read.specs.states.Left.{from, token_at, ends_token}
use Rattle.tsp_read.proofs.Onwards.{start_shorter, filled_first, goes_on_past, none_next, end_next, token_next, token_missing_next, end_follows, token_follows, token_short}
use Rattle.tsp_read.proofs.items.next_item.Goals as goal

-- plan: by the first byte that is no blank: none (`none_next`), a line's end (`end_next`), or a token (`token_next`)
pub returns-in_default-clause-items : goal.returns-in_default-clause-items
returns-in_default-clause-items c =
    none_next c.args.goes_on c.args.inside c.args.text.now c.without_start-filled.result.now
    c.without_start-filled.ensures c.in_default.ensures.cases

pub returns-then-first-eq10-clause-items : goal.returns-then-first-eq10-clause-items
returns-then-first-eq10-clause-items c =
    end_next c.args.goes_on c.args.inside c.args.text.now c.without_start-filled.result.now c.in-Some.first.now c.in-Some.after.now
    c.without_start-filled.ensures c.in-Some.ensures.cases.0 c.if-first-eq10.true

pub returns-in_err-front-clause-items : goal.returns-in_err-front-clause-items
returns-in_err-front-clause-items c =
    rw c.from_residual.ensures (token_missing_next c.args.goes_on c.args.inside c.args.text.now c.without_start-filled.result.now
    c.in-Some.first.now c.in-Some.after.now c.begun_by-token.result c.without_start-filled.ensures c.in-Some.ensures.cases.0
    c.if-first-eq10.false c.begun_by-token.ensures c.in_err-front.ensures)

pub returns-clause-items : goal.returns-clause-items
returns-clause-items c =
    rw (c.of.ensures.item, c.of.ensures.inside) (token_next c.args.goes_on c.args.inside c.args.text.now c.without_start-filled.result.now c.in-Some.first.now c.in-Some.after.now
    c.begun_by-token.result _ _ c.without_start-filled.ensures c.in-Some.ensures.cases.0 c.if-first-eq10.false c.begun_by-token.ensures
    c.in_ok-front.ensures.0 c.in_ok-front.ensures.1 c.in_ok-front.ensures.2)

pub returns-then-first-eq10-clause-follows : goal.returns-then-first-eq10-clause-follows
returns-then-first-eq10-clause-follows c = λ goes short.
    end_follows c.args.inside c.args.text.now c.without_start-filled.result.now c.in-Some.first.now c.in-Some.after.now
    c.without_start-filled.ensures c.in-Some.ensures.cases.0 c.if-first-eq10.true

pub returns-clause-follows : goal.returns-clause-follows
returns-clause-follows c = rw (c.of.ensures.item, c.of.ensures.inside) (λ goes short.
    token_follows c.args.inside c.args.goes_on c.args.text.now c.without_start-filled.result.now c.in-Some.first.now c.in-Some.after.now
    c.begun_by-token.result _ _ c.without_start-filled.ensures c.in-Some.ensures.cases.0 c.if-first-eq10.false c.begun_by-token.ensures
    c.in_ok-front.ensures.0 c.in_ok-front.ensures.1 c.in_ok-front.ensures.2 goes (token_short c.begun_by-token.result _ short))

pub returns-then-first-eq10-clause-shorter : goal.returns-then-first-eq10-clause-shorter
returns-then-first-eq10-clause-shorter c =
    omega (arith, start_shorter c.args.text.now, ap length c.without_start-filled.ensures, ap length c.in-Some.ensures.cases.0)

-- what follows the first byte is shorter, if that byte doesn't end the token
from_shorter : (test : ℕ → Bool) (first : ℕ) (after : List ℕ) → test first ≡ false → length (from test (first ∷ after)) ≤ length after
from_shorter test first after on = grind (arith, common_steps)

pub returns-clause-shorter : goal.returns-clause-shorter
returns-clause-shorter c =
    let token = c.begun_by-token.result in
    let parts = c.in-Some.ensures.cases.0 in
    let on : ends_token token c.in-Some.first.now ≡ false =
    goes_on_past c.args.inside c.in-Some.first.now token (filled_first c.args.text.now c.in-Some.first.now c.in-Some.after.now (sym parts ∙ c.without_start-filled.ensures))
    (ne_eqb c.in-Some.first.now 10 c.if-first-eq10.false) c.begun_by-token.ensures in
    let shorter = from_shorter (ends_token token) c.in-Some.first.now c.in-Some.after.now on in
    let rest = ap length (c.in_ok-front.ensures.1 ∙ ap (from (ends_token token)) parts) in
    omega (arith, shorter, rest, start_shorter c.args.text.now, ap length c.without_start-filled.ensures, ap length parts)
