-- The goals of `PointList::push` in src/node_sections.rt, which takes the next word: what it ensures.
use Rattle.tsp_read.proofs.Prelude.{◌∙◌, sym, subst, Err, arith, points_of}
use Rattle.tsp_read.specs.states.Parts.{IsNewNode}
use Rattle.tsp_read.proofs.CoordSteps.{end_taken, one_too_many, node_faulty, coordinate_bad, node_taken}
use Rattle.tsp_read.proofs.node_sections.PointList.push.Goals as goal

-- plan: by the word's place: past the groups, a node (`node_taken`), or a coordinate that is put to it
pub returns-then-is_minus_one-clause-takes : goal.returns-then-is_minus_one-clause-takes
returns-then-is_minus_one-clause-takes c = λ in_space n words h.
    let s = c.args.self.now in
    let next = end_taken s.seen.items (points_of s.entries) s.left s.begun s.x s.y n words in_space h.read c.args.word.now c.if-self-eq0.true
    (sym c.is_minus_one.ensures ∙ c.if-is_minus_one.true) in
    (next.0, record { kind = h.kind; read = next.1 })

pub returns-then-self-eq0-clause-takes : goal.returns-then-self-eq0-clause-takes
returns-then-self-eq0-clause-takes c = λ in_space n words h.
    let s = c.args.self.now in
    one_too_many s.seen.items (points_of s.entries) s.left s.begun s.x s.y n words in_space h.read c.args.word.now c.if-self-eq0.true
    (sym c.is_minus_one.ensures ∙ c.if-is_minus_one.false)

pub returns-in-Ok-clause-takes : goal.returns-in-Ok-clause-takes
returns-in-Ok-clause-takes c = λ in_space n words h.
    let s = c.args.self.now in
    let new = rw c.as_slice.ensures.value at c.in-Ok.ensures in
    let next = node_taken s.seen.items (points_of s.entries) s.left s.begun s.x s.y n words in_space h.read c.args.word.now c.in-Ok.node (omega arith) c.in-None.is new in
    (next.0, record { kind = h.kind; read = next.1 })

pub returns-in-Err-clause-takes : goal.returns-in-Err-clause-takes
returns-in-Err-clause-takes c = λ in_space n words h.
    let s = c.args.self.now in
    let new = subst (λ seen. IsNewNode seen c.args.word.now (Err c.in-Err.fault)) c.as_slice.ensures.value c.in-Err.ensures in
    node_faulty s.seen.items (points_of s.entries) s.left s.begun s.x s.y n words in_space h.read c.args.word.now c.in-Err.fault (omega arith) c.in-None.is new

pub returns-in-Ok-parse_decimal-clause-takes : goal.returns-in-Ok-parse_decimal-clause-takes
returns-in-Ok-parse_decimal-clause-takes c = λ in_space n words h.
    c.put.ensures in_space n words c.args.word.now h (sym c.parse_decimal.ensures.computed ∙ c.in-Ok-parse_decimal.is)

pub returns-in-Err-parse_decimal-clause-takes : goal.returns-in-Err-parse_decimal-clause-takes
returns-in-Err-parse_decimal-clause-takes c = λ in_space n words h.
    let s = c.args.self.now in
    coordinate_bad s.seen.items (points_of s.entries) s.left s.begun s.x s.y n words in_space h.read c.args.word.now c.in-Some.node c.in-Err-parse_decimal.fault (omega arith)
    c.in-Some.is (sym c.parse_decimal.ensures.computed ∙ c.in-Err-parse_decimal.is)
