-- The goals of `valid_files_are_complete` in src/laws.rt: what it ensures.
use Rattle.tsp_file.proofs.ValidFields.{has_kind, has_instance, has_routing, has_tours, has_potentials, has_branches}
use Rattle.tsp_file.proofs.laws.valid_files_are_complete.Goals as goal

-- plan: the end table asks for the fields of each TYPE, so a file without a fault has them
pub returns : goal.returns
returns c =
    record { kind = has_kind; instance = has_instance; routing = has_routing; tours = has_tours; potentials = has_potentials; branches = has_branches }
