-- The goals of `File::others` in src/file.rt, which returns the lines of unknown keywords: what it ensures.
use Rattle.std.proofs.Common.{ap}
use Rattle.tsp_file.specs.Fields.{Fields}
use Rattle.tsp_file.proofs.file.File.others.Goals as goal

-- plan: the lines that the draft lends are those of the file's fields
pub returns : goal.returns
returns c = rw c.as_slice.ensures.value (ap (λ (f : Fields). f.others) c.self.view_is)
