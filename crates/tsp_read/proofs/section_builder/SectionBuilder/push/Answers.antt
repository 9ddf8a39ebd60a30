-- The goals of `SectionBuilder::push` in src/section_builder.rt, which takes the next word of the open section: what it
-- ensures.
use Rattle.std.proofs.Common.{refl}
use Rattle.tsp_read.specs.declared.section_builder.SectionBuilder.TheVariants as parts
use Rattle.tsp_read.proofs.PlainNumbers as steps
use Rattle.tsp_read.proofs.section_builder.SectionBuilder.push.Goals as goal

-- plan: by the section: the part takes or refuses the word as `push` of the section's list does (`steps`)
pub returns-in-Numbers-clause-takes : goal.returns-in-Numbers-clause-takes
returns-in-Numbers-clause-takes c = λ n words h.
    steps.numbers c.args.self.now c.in-Numbers.part c.push.new.self n words c.args.word.now
    c.push.result c.in-Numbers.is c.push.ensures.takes h

pub returns-in-Points-clause-takes : goal.returns-in-Points-clause-takes
returns-in-Points-clause-takes c = λ n words h.
    steps.points c.args.self.now c.in-Points.part c.push-in-Points.new.self n words c.args.word.now
    c.push-in-Points.result c.in-Points.is (λ in_space m ws. c.push-in-Points.ensures.takes in_space m ws) h

pub returns-in-Pairs-clause-takes : goal.returns-in-Pairs-clause-takes
returns-in-Pairs-clause-takes c = λ n words h.
    steps.as_list c.args.self.now (parts.Pairs c.in-Pairs.part) (parts.Pairs c.push-in-Pairs.new.self) n words
    c.args.word.now c.push-in-Pairs.result c.in-Pairs.is refl (c.push-in-Pairs.ensures.takes n words) h

pub returns-in-Tours-clause-takes : goal.returns-in-Tours-clause-takes
returns-in-Tours-clause-takes c = λ n words h.
    steps.as_list c.args.self.now (parts.Tours c.in-Tours.part) (parts.Tours c.push-in-Tours.new.self) n words
    c.args.word.now c.push-in-Tours.result c.in-Tours.is refl (c.push-in-Tours.ensures.takes n words) h

pub returns-in-Triples-clause-takes : goal.returns-in-Triples-clause-takes
returns-in-Triples-clause-takes c = λ n words h.
    steps.as_list c.args.self.now (parts.Triples c.in-Triples.part) (parts.Triples c.push-in-Triples.new.self) n words
    c.args.word.now c.push-in-Triples.result c.in-Triples.is refl (c.push-in-Triples.ensures.takes n words) h

pub returns-in-Triples-clause-kept : goal.returns-in-Triples-clause-kept
returns-in-Triples-clause-kept c =
    steps.kept_list c.args.self.now (parts.Triples c.in-Triples.part) (parts.Triples c.push-in-Triples.new.self)
    c.push-in-Triples.result c.in-Triples.is refl c.push-in-Triples.ensures.kept

pub returns-in-Families-clause-takes : goal.returns-in-Families-clause-takes
returns-in-Families-clause-takes c = λ n words h.
    steps.as_list c.args.self.now (parts.Families c.in-Families.part) (parts.Families c.push-in-Families.new.self) n words
    c.args.word.now c.push-in-Families.result c.in-Families.is refl (c.push-in-Families.ensures.takes n words) h

pub returns-in-Families-clause-kept : goal.returns-in-Families-clause-kept
returns-in-Families-clause-kept c =
    steps.kept_list c.args.self.now (parts.Families c.in-Families.part) (parts.Families c.push-in-Families.new.self)
    c.push-in-Families.result c.in-Families.is refl c.push-in-Families.ensures.kept

pub returns-in-Memories-clause-takes : goal.returns-in-Memories-clause-takes
returns-in-Memories-clause-takes c = λ n words h.
    steps.as_list c.args.self.now (parts.Memories c.in-Memories.part) (parts.Memories c.push-in-Memories.new.self) n words
    c.args.word.now c.push-in-Memories.result c.in-Memories.is refl (c.push-in-Memories.ensures.takes n words) h

pub returns-in-Memories-clause-kept : goal.returns-in-Memories-clause-kept
returns-in-Memories-clause-kept c =
    steps.kept_list c.args.self.now (parts.Memories c.in-Memories.part) (parts.Memories c.push-in-Memories.new.self)
    c.push-in-Memories.result c.in-Memories.is refl c.push-in-Memories.ensures.kept

pub returns-in-SubsetRows-clause-takes : goal.returns-in-SubsetRows-clause-takes
returns-in-SubsetRows-clause-takes c = λ n words h.
    steps.as_list c.args.self.now (parts.SubsetRows c.in-SubsetRows.part) (parts.SubsetRows c.push-in-SubsetRows.new.self) n words
    c.args.word.now c.push-in-SubsetRows.result c.in-SubsetRows.is refl (c.push-in-SubsetRows.ensures.takes n words) h

pub returns-in-SubsetRows-clause-kept : goal.returns-in-SubsetRows-clause-kept
returns-in-SubsetRows-clause-kept c =
    steps.kept_list c.args.self.now (parts.SubsetRows c.in-SubsetRows.part) (parts.SubsetRows c.push-in-SubsetRows.new.self)
    c.push-in-SubsetRows.result c.in-SubsetRows.is refl c.push-in-SubsetRows.ensures.kept

pub returns-in-Steps-clause-takes : goal.returns-in-Steps-clause-takes
returns-in-Steps-clause-takes c = λ n words h.
    steps.as_list c.args.self.now (parts.Steps c.in-Steps.part) (parts.Steps c.push-in-Steps.new.self) n words
    c.args.word.now c.push-in-Steps.result c.in-Steps.is refl (c.push-in-Steps.ensures.takes n words) h

pub returns-in-Steps-clause-kept : goal.returns-in-Steps-clause-kept
returns-in-Steps-clause-kept c =
    steps.kept_list c.args.self.now (parts.Steps c.in-Steps.part) (parts.Steps c.push-in-Steps.new.self)
    c.push-in-Steps.result c.in-Steps.is refl c.push-in-Steps.ensures.kept
