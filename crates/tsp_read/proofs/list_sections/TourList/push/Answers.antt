-- The goals of `TourList::push` in src/list_sections.rt, which takes the next word: what it ensures.
use Rattle.tsp_read.proofs.Prelude.{◌+◌, ◌≡◌, ◌∙◌, ap, false, refl, tests, rules, Ok, nat_le, negsuc, pos, node_or_end}
use Rattle.tsp_read.specs.states.Parts.{as_node_or_end}
use Rattle.tsp_read.specs.declared.list_sections.TourList.{TourList}
use Rattle.tsp_read.proofs.SectionLists.{after_end, after_node}
use Rattle.tsp_read.proofs.list_sections.TourList.push.Goals as goal

pub returns-in_default-clause-takes : goal.returns-in_default-clause-takes
returns-in_default-clause-takes c = λ n words h.
    let read : node_or_end 100000 c.args.word.now ≡ Ok (negsuc 0) = c.in_ok-node.ensures.read ∙ ap as_node_or_end (ap (λ o. Ok o) c.in_default.is) in
    after_end n words c.args.word.now c.args.self.now c.end_run.new.self read c.in_ok-end_run.ensures.done c.end_run.ensures.count h

-- plan: by the word: a -1 ends a tour (`after_end`), a node comes after the others (`after_node`)
pub returns-clause-takes : goal.returns-clause-takes
returns-clause-takes c = λ n words h.
    let read : node_or_end 100000 c.args.word.now ≡ Ok (pos c.in-Some.node) = rw c.in-Some.is at c.in_ok-node.ensures.read in
    let few : nat_le 1000000 c.args.self.now.count ≡ false = search (tests, rules) in
    let new : TourList = record { done = c.args.self.now.done; run = c.push.new.list; count = c.args.self.now.count + 1 } in
    after_node n c.in-Some.node words c.args.word.now c.args.self.now new read few refl c.in_ok-push.ensures.items refl h
