-- The goals of `Reading::known` in src/reading.rt, which takes the line of a keyword: what it ensures.
use Rattle.tsp_read.proofs.Prelude.{refl, rules, map, option_map, fields_of, spatial}
use Rattle.tsp_read.specs.states.Holds.{seen}
use Rattle.tsp_read.proofs.KeywordSteps.{other_alone}
use Rattle.tsp_read.proofs.KeywordSteps as keywords
use Rattle.tsp_read.proofs.TextSteps as texts
use Rattle.tsp_read.proofs.reading.Reading.known.Goals as goal

-- plan: by the keyword: its value is kept, or has the fault of its row
pub returns-in-NameKey : goal.returns-in-NameKey
returns-in-NameKey c = λ earlier h short.
    rw c.in-NameKey.is (texts.name_line c.args.self.now _ (seen c.args.line.now)
    (option_map (λ v. v.items) c.set_name.new.slot) c.set_name.result c.set_name.ensures refl refl refl earlier h short)

pub returns-in-CommentKey : goal.returns-in-CommentKey
returns-in-CommentKey c = λ earlier h short.
    rw c.in-CommentKey.is (texts.comment_line c.args.self.now _ (seen c.args.line.now)
    (map (λ v. v.items) c.add_comment.new.comments.items) c.add_comment.result c.add_comment.ensures refl refl refl earlier h short)

pub returns-in-TypeKey : goal.returns-in-TypeKey
returns-in-TypeKey c = λ earlier h short.
    let sets = rw (c.is_late-late.ensures, c.in-TypeKey.is) at c.set_named.ensures in
    rw c.in-TypeKey.is (keywords.kind_line c.args.self.now _ (seen c.args.line.now) c.set_named.new.slot
    c.set_named.result sets refl refl refl earlier h short)

pub returns-in-EdgeWeightTypeKey : goal.returns-in-EdgeWeightTypeKey
returns-in-EdgeWeightTypeKey c = λ earlier h short.
    let sets = rw (c.is_late-late.ensures, c.in-EdgeWeightTypeKey.is) at c.set_named-in-EdgeWeightTypeKey.ensures in
    rw c.in-EdgeWeightTypeKey.is (keywords.weight_kind_line c.args.self.now _ (seen c.args.line.now) c.set_named-in-EdgeWeightTypeKey.new.slot
    c.set_named-in-EdgeWeightTypeKey.result sets refl refl refl earlier h short)

pub returns-in-EdgeWeightFormatKey : goal.returns-in-EdgeWeightFormatKey
returns-in-EdgeWeightFormatKey c = λ earlier h short.
    let sets = rw (c.is_late-late.ensures, c.in-EdgeWeightFormatKey.is) at c.set_named-in-EdgeWeightFormatKey.ensures in
    rw c.in-EdgeWeightFormatKey.is (keywords.weight_format_line c.args.self.now _ (seen c.args.line.now) c.set_named-in-EdgeWeightFormatKey.new.slot
    c.set_named-in-EdgeWeightFormatKey.result sets refl refl refl earlier h short)

pub returns-in-NodeCoordTypeKey : goal.returns-in-NodeCoordTypeKey
returns-in-NodeCoordTypeKey c = λ earlier h short.
    let sets = rw (c.is_late-late.ensures, c.in-NodeCoordTypeKey.is) at c.set_named-in-NodeCoordTypeKey.ensures in
    rw c.in-NodeCoordTypeKey.is (keywords.coord_kind_line c.args.self.now _ (seen c.args.line.now) c.set_named-in-NodeCoordTypeKey.new.slot
    c.set_named-in-NodeCoordTypeKey.result sets refl refl refl earlier h short)

pub returns-in-DisplayDataTypeKey : goal.returns-in-DisplayDataTypeKey
returns-in-DisplayDataTypeKey c = λ earlier h short.
    let sets = rw (c.is_late-late.ensures, c.in-DisplayDataTypeKey.is) at c.set_named-in-DisplayDataTypeKey.ensures in
    rw c.in-DisplayDataTypeKey.is (keywords.display_kind_line c.args.self.now _ (seen c.args.line.now) c.set_named-in-DisplayDataTypeKey.new.slot
    c.set_named-in-DisplayDataTypeKey.result sets refl refl refl earlier h short)

pub returns-in_default-value_shape : goal.returns-in_default-value_shape
returns-in_default-value_shape c = λ earlier h short.
    let d = c.in_default in
    texts.unnamed_field c.args.self.now c.args.field (seen c.args.line.now) earlier
    (other_alone (spatial (fields_of c.args.self.now.draft)) c.args.field c.requires d.not-NameKey d.not-TypeKey d.not-CommentKey d.not-EdgeWeightTypeKey
    d.not-EdgeWeightFormatKey d.not-NodeCoordTypeKey d.not-DisplayDataTypeKey (λ low high is. search rules)) short h

pub returns-in_default-value_shape-2 : goal.returns-in_default-value_shape-2
returns-in_default-value_shape-2 c = λ earlier h short.
    let d = c.in_default in
    texts.unnamed_field c.args.self.now c.args.field (seen c.args.line.now) earlier
    (other_alone (spatial (fields_of c.args.self.now.draft)) c.args.field c.requires d.not-NameKey d.not-TypeKey d.not-CommentKey d.not-EdgeWeightTypeKey
    d.not-EdgeWeightFormatKey d.not-NodeCoordTypeKey d.not-DisplayDataTypeKey (λ low high is. search rules)) short h
