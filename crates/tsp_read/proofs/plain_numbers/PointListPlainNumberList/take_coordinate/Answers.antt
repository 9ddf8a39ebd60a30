-- The goals of `PointListPlainNumberList::take_coordinate` in src/plain_numbers.rt, which takes a coordinate if it
-- fits: what it ensures.
use Rattle.std.proofs.Common.{Ok, refl}
use Rattle.tsp_read.specs.declared.section_builder.SectionBuilder.TheVariants as parts
use Rattle.tsp_read.proofs.PlainNumbers as steps
use Rattle.tsp_read.proofs.plain_numbers.PointListPlainNumberList.take_coordinate.Goals as goal

pub returns-clause-taken : goal.returns-clause-taken
returns-clause-taken c = λ taken word read n words h.
    steps.points (parts.Points c.args.self.now) c.args.self.now c.push_coordinate.new.self n words word (Ok tt) refl
    (λ in_space m ws held. c.push_coordinate.ensures.taken taken in_space m ws word read held) h
