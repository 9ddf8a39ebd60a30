-- The goals of `NumberListPlainNumberList::take_whole` in src/plain_numbers.rt, which takes the number of a word, if
-- the list takes it: what it ensures.
use Rattle.tsp_read.proofs.Prelude.{Ok, refl, rules, FitsSigned, w64, to_z-of_z}
use Rattle.tsp_read.specs.declared.section_builder.SectionBuilder.TheVariants as parts
use Rattle.tsp_read.proofs.PlainNumbers as steps
use Rattle.tsp_read.proofs.plain_numbers.NumberListPlainNumberList.take_whole.Goals as goal

-- plan: a number that was read is taken as its word is
pub returns-clause-taken : goal.returns-clause-taken
returns-clause-taken c = λ taken word read n words h.
    let fits : FitsSigned w64 c.args.number = search rules in
    steps.numbers (parts.Numbers c.args.self.now) c.args.self.now c.push_read.new.self n words word (Ok tt) refl
    (λ low high m ws held. c.push_read.ensures.taken taken low high m ws word (rw (to_z-of_z w64 c.args.number fits) read) held) h
