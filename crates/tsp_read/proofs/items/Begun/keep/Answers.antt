-- The goals of `Begun::keep` in src/items.rt, which keeps what is left of a piece: what it ensures.
use Rattle.std.proofs.Common.{arith, ◌≤◌, ◌+◌, ◌++◌, List, ℕ, length, sym, ap, subst, ◌∙◌}
use Rattle.tsp_read.specs.states.Left.{most_bytes}
use Rattle.tsp_read.proofs.BegunSteps.{begun_token, open_token, has_taken}
use Rattle.tsp_read.proofs.items.Begun.keep.Goals as goal

-- the kept part is all that is left, without the blanks at its beginning
kept_all : goal.returns-clause-kept
kept_all c =
    let filled : List ℕ = c.without_start-filled.result.now in
    let unended = open_token c.args.inside c.args.rest.now filled c.in-Some.first.now _ c.begun_by-self.result c.without_start-filled.ensures
    c.in-Some.ensures.cases.0 c.begun_by-self.ensures c.requires in
    has_taken c.try_extend_from_slice.result c.begun_by-self.result _ _ filled c.try_extend_from_slice.ensures.variant
    c.try_extend_from_slice.ensures.ok (subst (λ (xs : List ℕ). length xs + length filled ≤ most_bytes c.begun_by-self.result)
    (sym c.clear.ensures) (omega (arith, unended.short)))
    ∙ ap (λ (xs : List ℕ). xs ++ filled) c.clear.ensures ∙ c.without_start-filled.ensures

pub returns-clause-kept : goal.returns-clause-kept
returns-clause-kept c = kept_all c

-- plan: the kept bytes begin the next item (`begun_token`), without the blanks before it (`kept_all`)
pub returns-clause-begins : goal.returns-clause-begins
returns-clause-begins c =
    let filled : List ℕ = c.without_start-filled.result.now in
    let unended = open_token c.args.inside c.args.rest.now filled c.in-Some.first.now _ c.begun_by-self.result c.without_start-filled.ensures
    c.in-Some.ensures.cases.0 c.begun_by-self.ensures c.requires in
    begun_token c.args.inside c.begun_by-self.result _ filled (kept_all c ∙ sym c.without_start-filled.ensures)
    (record {
      first = c.in-Some.first.now;
      others = _;
      parts = c.in-Some.ensures.cases.0;
      token_is = c.begun_by-self.ensures;
      no_end = unended.no_end;
    })
