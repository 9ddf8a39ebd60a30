-- The goals of `File::fields` in src/file.rt, which returns the fields as a draft: what it ensures.
use Rattle.std.proofs.Common.{◌≡◌, None, subst}
use Rattle.tsp_file.specs.Fields.{Fields}
use Rattle.tsp_file.specs.Rules.{fault_of}
use Rattle.tsp_file.proofs.FileFields.{holds_its_type}
use Rattle.tsp_file.proofs.file.File.fields.Goals as goal

-- plan: the draft has no fault, so the fields that its TYPE requires are present and in their ranges (`holds_its_type`)
pub returns-clause-valid : goal.returns-clause-valid
returns-clause-valid c = subst (λ (f : Fields). fault_of f ≡ None) c.self.view_is c.self.invariant

pub returns-clause-held : goal.returns-clause-held
returns-clause-held c = holds_its_type c.args.self.now (subst (λ (f : Fields). fault_of f ≡ None) c.self.view_is c.self.invariant)
