-- The goals of `put_field` in src/writer.rt, which adds the text of a field that is present: what it ensures.
use Rattle.tsp_file.proofs.writer.put_field.Goals as goal

-- plan: by the field: the call that writes it ensures its text
pub returns-in-NameKey : goal.returns-in-NameKey
returns-in-NameKey g c = rw c.in-NameKey.is c.put_name.ensures

pub returns-in-TypeKey : goal.returns-in-TypeKey
returns-in-TypeKey g c = rw c.in-TypeKey.is (rw c.in-TypeKey.is at c.put_word.ensures)

pub returns-in-CommentKey : goal.returns-in-CommentKey
returns-in-CommentKey g c = let comments = rw c.deref.ensures.value at c.put_comments.ensures in rw c.in-CommentKey.is comments

pub returns-in-OtherKey : goal.returns-in-OtherKey
returns-in-OtherKey g c = let others = rw c.deref-in-OtherKey.ensures.value at c.put_others.ensures in rw c.in-OtherKey.is others

pub returns-in-DimensionKey : goal.returns-in-DimensionKey
returns-in-DimensionKey g c = rw c.in-DimensionKey.is (rw c.in-DimensionKey.is at c.put_whole.ensures)

pub returns-in-EdgeWeightTypeKey : goal.returns-in-EdgeWeightTypeKey
returns-in-EdgeWeightTypeKey g c =
    rw c.in-EdgeWeightTypeKey.is (rw c.in-EdgeWeightTypeKey.is at c.put_word-in-EdgeWeightTypeKey.ensures)

pub returns-in-EdgeWeightFormatKey : goal.returns-in-EdgeWeightFormatKey
returns-in-EdgeWeightFormatKey g c =
    rw c.in-EdgeWeightFormatKey.is (rw c.in-EdgeWeightFormatKey.is at c.put_word-in-EdgeWeightFormatKey.ensures)

pub returns-in-NodeCoordTypeKey : goal.returns-in-NodeCoordTypeKey
returns-in-NodeCoordTypeKey g c =
    rw c.in-NodeCoordTypeKey.is (rw c.in-NodeCoordTypeKey.is at c.put_word-in-NodeCoordTypeKey.ensures)

pub returns-in-DisplayDataTypeKey : goal.returns-in-DisplayDataTypeKey
returns-in-DisplayDataTypeKey g c =
    rw c.in-DisplayDataTypeKey.is (rw c.in-DisplayDataTypeKey.is at c.put_word-in-DisplayDataTypeKey.ensures)
