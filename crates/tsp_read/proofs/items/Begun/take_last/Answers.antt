-- The goals of `Begun::take_last` in src/items.rt, which takes the item that has begun as the text's last: what it
-- ensures.
use Rattle.tsp_read.proofs.Prelude.{sym, ◌∙◌, subst, List, Item}
use Rattle.tsp_read.specs.states.Onward.{HasTakenItems, TakesNext}
use Rattle.tsp_read.proofs.FeedSteps.{last_token, last_none}
use Rattle.tsp_read.proofs.items.Begun.take_last.Goals as goal

pub returns-then-is_empty : goal.returns-then-is_empty
returns-then-is_empty c = λ bytes h.
    last_none c.args.intake.now c.args.self.now bytes h (sym c.is_empty.ensures ∙ c.if-is_empty.true)

-- plan: at the end of the text the begun item is whole (`last_token`), or nothing has begun (`last_none`)
pub returns : goal.returns
returns c = λ bytes h.
    last_token c.args.intake.now c.take_next.new.self c.args.self.now bytes c.as_slice.result.now c.take_next.result h
    (sym c.is_empty.ensures ∙ c.if-is_empty.false) c.as_slice.ensures.value
    (subst (λ (item : Item). (earlier : List Item) → HasTakenItems c.args.intake.now earlier → TakesNext earlier item c.take_next.new.self c.take_next.result)
    c.of.ensures.item c.take_next.ensures.item)
