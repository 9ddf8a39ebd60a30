-- The goals of `crossings_of` in src/good_families.rt, which returns a family's least and most crossings, or `None` if
-- it is bad: what it ensures.
use Rattle.tsp_cases.proofs.Prelude.{length, iff_false}
use Rattle.tsp_cases.specs.Crossings.{lists_of}
use Rattle.tsp_cases.proofs.GoodFamilies.{known_found, lists_long}
use Rattle.tsp_cases.proofs.good_families.crossings_of.Goals as goal

-- plan: by whether the sets are a comb or a lone set, whose crossings the number of sets gives (`known_found`), or
-- another family
pub returns-then-is_comb-clause-found : goal.returns-then-is_comb-clause-found
returns-then-is_comb-clause-found c =
    let sets = c.args.family.now.sets.now in
    known_found c.args.family.now.nodes (length sets) (lists_of sets) c.known_crossings.result (lists_long sets) c.known_crossings.ensures.least c.known_crossings.ensures.most
    ((c.is_comb.ensures.comb c.args.family.now.nodes c.requires.handle_places c.args.family.now.inside).0 c.if-is_comb.true)

pub returns-clause-found : goal.returns-clause-found
returns-clause-found c = c.other_crossings.ensures.found (λ good. iff_false (c.is_comb.ensures.comb c.args.family.now.nodes c.requires.handle_places c.args.family.now.inside) c.if-is_comb.false good)
