-- The goals of `Begun::join` in src/items.rt, which takes the item that has begun, if the piece has its end: what it
-- ensures.
use Rattle.tsp_read.proofs.Prelude.{◌≡◌, Ok, Err, true, sym, ap, ◌∙◌, ◌<◌, ◌≤◌, ◌+◌, ◌++◌, List, ℕ, length, subst, length-append, refl, arith, nil_from_test, is_not_empty, Item}
use Rattle.tsp_read.specs.declared.items.Token.{Token}
use Rattle.tsp_read.specs.states.Left.{up_to_first, from, ends_token, most_bytes}
use Rattle.tsp_read.specs.states.Onward.{HasTakenItems, TakesNext, IsReadTo}
use Rattle.tsp_read.proofs.BegunSteps.{token_here, token_joins, fed_longer, fed_none, joined_none, joined_fault, joined_end, joined_more, settled_filled, settled_long, has_taken, filled_rest, propagated}
use Rattle.tsp_read.proofs.Onwards.{token_long}
use Rattle.tsp_read.proofs.items.Begun.join.Goals as goal

-- plan: by where the begun item ends: not yet, in the new piece (`token_joins`), or past its limit (`settled_long`)
pub returns-then-is_empty-clause-joined : goal.returns-then-is_empty-clause-joined
returns-then-is_empty-clause-joined c = λ bytes h.
    joined_none c.args.intake.now c.args.self.now bytes c.args.piece.now h (sym c.is_empty.ensures ∙ c.if-is_empty.true)

pub returns-then-len-front-clause-joined : goal.returns-then-len-front-clause-joined
returns-then-len-front-clause-joined c = λ bytes h.
    let token : Token = c.args.self.now.token in
    let begun : List ℕ = c.args.self.now.bytes.items in
    let piece : List ℕ = c.args.piece.now in
    let some = sym c.is_empty.ensures ∙ c.if-is_empty.false in
    let joins = token_joins c.args.intake.now.inside token begun (token_here c.args.intake.now.inside token begun some h.begins) in
    let long : most_bytes token < length begun + length c.cut.result.0.now =
    omega (arith, c.if-len-front.true, c.len.ensures.value, c.most_bytes.ensures) in
    let over : most_bytes token < length (begun ++ up_to_first (ends_token token) piece) =
    subst (λ (n : ℕ). most_bytes token < n) (ap (λ (xs : List ℕ). length begun + length xs) c.cut.ensures.before
    ∙ sym (length-append begun (up_to_first (ends_token token) piece))) long in
    joined_fault token c.args.intake.now c.too_long.new.self begun piece bytes (begun ++ up_to_first (ends_token token) piece) c.too_long.result refl
    (settled_long (most_bytes token) true (begun ++ up_to_first (ends_token token) piece) (from (ends_token token) piece) over) joins h.read
    (λ earlier s. c.too_long.ensures earlier s (begun ++ up_to_first (ends_token token) piece) (token_long token _ over))

pub returns-then-is_empty-2-clause-joined : goal.returns-then-is_empty-2-clause-joined
returns-then-is_empty-2-clause-joined c = λ bytes h.
    let token : Token = c.args.self.now.token in
    let begun : List ℕ = c.args.self.now.bytes.items in
    let piece : List ℕ = c.args.piece.now in
    let some = sym c.is_empty.ensures ∙ c.if-is_empty.false in
    let short : length begun + length c.cut.result.0.now ≤ most_bytes token =
    omega (arith, c.if-len-front.false, c.len.ensures.value, c.most_bytes.ensures) in
    let added : c.try_extend_from_slice.new.self.items ≡ begun ++ up_to_first (ends_token token) piece =
    has_taken c.try_extend_from_slice.result token begun _ c.cut.result.0.now c.try_extend_from_slice.ensures.variant
    c.try_extend_from_slice.ensures.ok short ∙ ap (λ (xs : List ℕ). begun ++ xs) c.cut.ensures.before in
    fed_longer c.args.intake.now c.args.self.now _ bytes piece c.cut.result.1.now h some refl added c.cut.ensures.from
    (nil_from_test c.cut.result.1.now (sym c.is_empty-2.ensures ∙ c.if-is_empty-2.true))
    (subst (λ (xs : List ℕ). length begun + length xs ≤ most_bytes token) c.cut.ensures.before short)

pub returns-in_err-take_next-clause-joined : goal.returns-in_err-take_next-clause-joined
returns-in_err-take_next-clause-joined c = λ bytes h.
    let token : Token = c.args.self.now.token in
    let begun : List ℕ = c.args.self.now.bytes.items in
    let piece : List ℕ = c.args.piece.now in
    let some = sym c.is_empty.ensures ∙ c.if-is_empty.false in
    let joins = token_joins c.args.intake.now.inside token begun (token_here c.args.intake.now.inside token begun some h.begins) in
    let short : length begun + length c.cut.result.0.now ≤ most_bytes token =
    omega (arith, c.if-len-front.false, c.len.ensures.value, c.most_bytes.ensures) in
    let added : c.try_extend_from_slice.new.self.items ≡ begun ++ up_to_first (ends_token token) piece =
    has_taken c.try_extend_from_slice.result token begun _ c.cut.result.0.now c.try_extend_from_slice.ensures.variant
    c.try_extend_from_slice.ensures.ok short ∙ ap (λ (xs : List ℕ). begun ++ xs) c.cut.ensures.before in
    let tail : is_not_empty (from (ends_token token) piece) ≡ true =
    ap is_not_empty (sym c.cut.ensures.from) ∙ filled_rest c.cut.result.1.now (sym c.is_empty-2.ensures ∙ c.if-is_empty-2.false) in
    let same : c.from_residual.result ≡ Err c.in_err-take_next.field-0.0 = propagated _ _ c.from_residual.ensures.1 in
    rw same (joined_fault token c.args.intake.now c.take_next.new.self begun piece bytes c.as_slice.result.now
    c.in_err-take_next.field-0.0 (c.as_slice.ensures.value ∙ added)
    (settled_filled (most_bytes token) true (begun ++ up_to_first (ends_token token) piece) (from (ends_token token) piece) tail) joins h.read
    (subst (λ (item : Item). (earlier : List Item) → HasTakenItems c.args.intake.now earlier
    → TakesNext earlier item c.take_next.new.self (Err c.in_err-take_next.field-0.0)) c.of.ensures.item c.in_err-take_next.ensures.item))

pub returns-then-branch-clause-joined : goal.returns-then-branch-clause-joined
returns-then-branch-clause-joined c = λ bytes h.
    let token : Token = c.args.self.now.token in
    let begun : List ℕ = c.args.self.now.bytes.items in
    let piece : List ℕ = c.args.piece.now in
    let some = sym c.is_empty.ensures ∙ c.if-is_empty.false in
    let joins = token_joins c.args.intake.now.inside token begun (token_here c.args.intake.now.inside token begun some h.begins) in
    let short : length begun + length c.cut.result.0.now ≤ most_bytes token =
    omega (arith, c.if-len-front.false, c.len.ensures.value, c.most_bytes.ensures) in
    let added : c.try_extend_from_slice.new.self.items ≡ begun ++ up_to_first (ends_token token) piece =
    has_taken c.try_extend_from_slice.result token begun _ c.cut.result.0.now c.try_extend_from_slice.ensures.variant
    c.try_extend_from_slice.ensures.ok short ∙ ap (λ (xs : List ℕ). begun ++ xs) c.cut.ensures.before in
    let tail : is_not_empty (from (ends_token token) piece) ≡ true =
    ap is_not_empty (sym c.cut.ensures.from) ∙ filled_rest c.cut.result.1.now (sym c.is_empty-2.ensures ∙ c.if-is_empty-2.false) in
    joined_end token c.args.intake.now c.take_next.new.self begun piece bytes c.as_slice.result.now c.in_ok-take_next.field-0
    c.if-branch.true (c.as_slice.ensures.value ∙ added) tail joins h.read
    (subst (λ (item : Item). (earlier : List Item) → HasTakenItems c.args.intake.now earlier
    → TakesNext earlier item c.take_next.new.self (Ok c.in_ok-take_next.field-0)) c.of.ensures.item c.in_ok-take_next.ensures.item)

pub returns-clause-joined : goal.returns-clause-joined
returns-clause-joined c = λ bytes h.
    let token : Token = c.args.self.now.token in
    let begun : List ℕ = c.args.self.now.bytes.items in
    let piece : List ℕ = c.args.piece.now in
    let some = sym c.is_empty.ensures ∙ c.if-is_empty.false in
    let joins = token_joins c.args.intake.now.inside token begun (token_here c.args.intake.now.inside token begun some h.begins) in
    let short : length begun + length c.cut.result.0.now ≤ most_bytes token =
    omega (arith, c.if-len-front.false, c.len.ensures.value, c.most_bytes.ensures) in
    let added : c.try_extend_from_slice.new.self.items ≡ begun ++ up_to_first (ends_token token) piece =
    has_taken c.try_extend_from_slice.result token begun _ c.cut.result.0.now c.try_extend_from_slice.ensures.variant
    c.try_extend_from_slice.ensures.ok short ∙ ap (λ (xs : List ℕ). begun ++ xs) c.cut.ensures.before in
    let tail : is_not_empty (from (ends_token token) piece) ≡ true =
    ap is_not_empty (sym c.cut.ensures.from) ∙ filled_rest c.cut.result.1.now (sym c.is_empty-2.ensures ∙ c.if-is_empty-2.false) in
    fed_none c.take_next.new.self _ bytes c.cut.result.1.now c.clear.ensures
    (subst (λ (xs : List ℕ). IsReadTo c.take_next.new.self bytes xs) (sym c.cut.ensures.from)
    (joined_more token c.args.intake.now c.take_next.new.self begun piece bytes c.as_slice.result.now c.in_ok-take_next.field-0
    c.if-branch.false (c.as_slice.ensures.value ∙ added) tail joins h.read (c.in_ok-take_next.ensures.inside ∙ c.of.ensures.inside)
    (subst (λ (item : Item). (earlier : List Item) → HasTakenItems c.args.intake.now earlier
    → TakesNext earlier item c.take_next.new.self (Ok c.in_ok-take_next.field-0)) c.of.ensures.item c.in_ok-take_next.ensures.item)))
