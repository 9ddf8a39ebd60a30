-- The goals of `File::kind` in src/file.rt: that TYPE is present.
use Rattle.tsp_file.proofs.ValidFields.{has_kind}
use Rattle.tsp_file.specs.states.Drafts.{fields_of}
use Rattle.tsp_file.proofs.file.File.kind.Goals as goal

-- plan: a valid file has a TYPE (`has_kind`)
pub unwrap-requires : goal.unwrap-requires
unwrap-requires c = has_kind (fields_of c.self.inside.draft) c.self.invariant
