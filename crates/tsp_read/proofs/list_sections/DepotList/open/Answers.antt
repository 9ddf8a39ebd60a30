-- The goals of `DepotList::open` in src/list_sections.rt, which begins the section: what it ensures.
use Rattle.std.proofs.Common.{ap, length, refl}
use Rattle.tsp_read.proofs.list_sections.DepotList.open.Goals as goal

pub returns : goal.returns
returns c =
    record { nodes = refl; read = record { list = c.new.ensures.items; closed = refl; count = λ open_ended. ap length c.new.ensures.items } }
