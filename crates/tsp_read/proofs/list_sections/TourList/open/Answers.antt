-- The goals of `TourList::open` in src/list_sections.rt, which begins the section: what it ensures.
use Rattle.std.proofs.Common.{[], refl, ap, map}
use Rattle.tsp_read.proofs.list_sections.TourList.open.Goals as goal

pub returns : goal.returns
returns c =
    record { pieces = []; last = []; split = refl; tours = ap (map (λ tour. tour.items)) c.new.ensures.items; rest = c.new-2.ensures.items; nodes = refl }
