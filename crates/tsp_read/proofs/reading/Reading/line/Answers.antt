-- The goals of `Reading::line` in src/reading.rt, which takes a word line: what it ensures.
use Rattle.tsp_read.proofs.Prelude.{refl, map, lt-ltb, le-ltb, most_line_bytes}
use Rattle.tsp_read.specs.states.Holds.{seen}
use Rattle.tsp_read.proofs.TextSteps as texts
use Rattle.tsp_read.proofs.reading.Reading.line.Goals as goal

-- plan: by the keyword of the line: the end, a section, a known keyword or another
pub returns-in-Eof : goal.returns-in-Eof
returns-in-Eof c = λ earlier h.
    let short = le-ltb most_line_bytes c.args.line.now.size c.if-line-gt-MOST_LINE_BYTES.false in
    rw c.in-Eof.is (texts.end_line c.close.new.self (seen c.args.line.now) earlier short (c.in_default.ensures.closed earlier h))

pub returns-in-Unknown : goal.returns-in-Unknown
returns-in-Unknown c = λ earlier h.
    let short = le-ltb most_line_bytes c.args.line.now.size c.if-line-gt-MOST_LINE_BYTES.false in
    rw c.in-Unknown.is (texts.other_line c.close.new.self _ (seen c.args.line.now) (map (λ v. (v.0.items, v.1.items)) c.add_other.new.others.items)
    c.add_other.result c.add_other.ensures refl refl refl earlier (c.in_default.ensures.closed earlier h) short)

pub returns-in-Some : goal.returns-in-Some
returns-in-Some c = λ earlier h.
    let short = le-ltb most_line_bytes c.args.line.now.size c.if-line-gt-MOST_LINE_BYTES.false in
    rw c.in-Known.is (c.open.ensures earlier (c.in_default.ensures.closed earlier h) short)

pub returns-in-None : goal.returns-in-None
returns-in-None c = λ earlier h.
    let short = le-ltb most_line_bytes c.args.line.now.size c.if-line-gt-MOST_LINE_BYTES.false in
    rw c.in-Known.is (c.known.ensures earlier (c.in_default.ensures.closed earlier h) short)

pub returns-in-EdgeDataFormat : goal.returns-in-EdgeDataFormat
returns-in-EdgeDataFormat c = λ earlier h.
    let short = le-ltb most_line_bytes c.args.line.now.size c.if-line-gt-MOST_LINE_BYTES.false in
    rw c.in-EdgeDataFormat.is (texts.format_line (seen c.args.line.now) earlier short)

pub returns-in-EdgeDataSection : goal.returns-in-EdgeDataSection
returns-in-EdgeDataSection c = λ earlier h.
    let short = le-ltb most_line_bytes c.args.line.now.size c.if-line-gt-MOST_LINE_BYTES.false in
    rw c.in-EdgeDataSection.is (texts.data_line (seen c.args.line.now) earlier short)

pub returns-then-line-gt-MOST_LINE_BYTES : goal.returns-then-line-gt-MOST_LINE_BYTES
returns-then-line-gt-MOST_LINE_BYTES c = λ earlier h.
    let long = lt-ltb most_line_bytes c.args.line.now.size c.if-line-gt-MOST_LINE_BYTES.true in
    rw long refl
