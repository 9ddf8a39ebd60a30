-- The goals of `WeightList::push` in src/list_sections.rt, which takes the next word: what it ensures.
use Rattle.tsp_read.proofs.Prelude.{◌≡◌, sym, Ok, arith, w64, ints, to_z-of_z, most_weight, whole_of_size}
use mir.Val.{SFits}
use Rattle.tsp_read.proofs.SectionLists.{weight_more}
use Rattle.tsp_read.proofs.list_sections.WeightList.push.Goals as goal

-- plan: the word is one weight more (`weight_more`)
pub returns-clause-takes : goal.returns-clause-takes
returns-clause-takes c = λ n words h.
    let s = c.args.self.now in
    let read : whole_of_size most_weight c.args.word.now ≡ Ok c.in_ok-weight.weight = sym c.in_ok-weight.ensures.computed in
    let next = weight_more s.weights.items s.most n words c.args.word.now c.in_ok-weight.weight (omega arith) read h in
    let range = c.in_ok-weight.ensures.reads in
    let fits : SFits w64 c.in_ok-weight.weight = search (arith, ints, range) in
    (next.0, rw c.in_ok-push.ensures.items (simp (to_z-of_z, fits) next.1))
