-- The goals of `nearest_two` in src/prim.rt, which finds the two nodes of least weight in a row: its loop and what it
-- ensures.
use Rattle.tsp_bound.proofs.Prelude.{◌-◌, ◌<◌, ◌≤◌, ℕ, length, arith, rules, FitsSigned, ℤ, ◌≤ℤ◌, ◌<ℤ◌, w64, least_at, two_first, three_first, nearer_first, nearer_second, nearer_none, nearest_of_all, less_of, not_less_of}
use Rattle.tsp_bound.proofs.prim.nearest_two.Goals as goal
use Rattle.tsp_bound.proofs.prim.nearest_two.Goals.{then-three-two, else-three-two, then-next-first, else-next-first+then-next-second, else-next-first+else-next-second}

pub nodes-init : goal.nodes-init
nodes-init c =
    let n : ℕ = length c.args.weights.now - 1 in
    let w : ℕ → ℕ → ℤ = λ i j. least_at c.args.weights.now j in
    let some : 3 ≤ n = omega (arith, c.requires.some) in
    let two = c.root_edge_to-two in
    let three = c.root_edge_to-three in
    let two_in : FitsSigned w64 c.root_edge_to-two.result.weight = search rules in
    let three_in : FitsSigned w64 c.root_edge_to-three.result.weight = search rules in
    elim c.if-three-two.branch [
      | then-three-two v ↦
          let less : c.root_edge_to-three.result.weight <ℤ c.root_edge_to-two.result.weight = less_of c.root_edge_to-three.result.weight c.root_edge_to-two.result.weight three_in two_in v.if-three-two.true in
          rw (v.first-is, v.second-is)
          (three_first n w two.result.node three.result.node two.result.weight three.result.weight some two.ensures.node three.ensures.node two.ensures.weight three.ensures.weight less)
      | else-three-two v ↦
          let least : c.root_edge_to-two.result.weight ≤ℤ c.root_edge_to-three.result.weight = not_less_of c.root_edge_to-three.result.weight c.root_edge_to-two.result.weight three_in two_in v.if-three-two.false in
          rw (v.first-is, v.second-is)
          (two_first n w two.result.node three.result.node two.result.weight three.result.weight some two.ensures.node three.ensures.node two.ensures.weight three.ensures.weight least)
    ]

-- plan: by the branches of the code: it is the first, the second or neither (`nearer_first`, `nearer_second`,
-- `nearer_none`)
pub nodes-preserved : goal.nodes-preserved
nodes-preserved c =
    let n : ℕ = length c.args.weights.now - 1 in
    let w : ℕ → ℕ → ℤ = λ i j. least_at c.args.weights.now j in
    let node : ℕ = c.nodes.node in
    let next = c.root_edge_to-next in
    let low : 2 ≤ node = omega (arith, c.nodes.auto.node) in
    let high : node ≤ n = omega (arith, c.nodes-test.true) in
    let next_in : FitsSigned w64 c.root_edge_to-next.result.weight = search rules in
    let first_in : FitsSigned w64 c.nodes.first.weight = search rules in
    let second_in : FitsSigned w64 c.nodes.second.weight = search rules in
    elim c.if-next-first.branch [
      | then-next-first v ↦
          let less = less_of c.root_edge_to-next.result.weight c.nodes.first.weight next_in first_in v.if-next-first.true in
          rw (v.first-is, v.second-is)
          (nearer_first n w node c.nodes.first.node c.nodes.second.node next.result.node c.nodes.first.weight c.nodes.second.weight next.result.weight c.nodes.invariant low high
          next.ensures.node (next.ensures.weight) less)
      | else-next-first+then-next-second v ↦
          let least = not_less_of c.root_edge_to-next.result.weight c.nodes.first.weight next_in first_in v.if-next-first.false in
          let less = less_of c.root_edge_to-next.result.weight c.nodes.second.weight next_in second_in v.if-next-second.true in
          rw (v.first-is, v.second-is)
          (nearer_second n w node c.nodes.first.node c.nodes.second.node next.result.node c.nodes.first.weight c.nodes.second.weight next.result.weight c.nodes.invariant low high
          next.ensures.node (next.ensures.weight) least less)
      | else-next-first+else-next-second v ↦
          let least = not_less_of c.root_edge_to-next.result.weight c.nodes.first.weight next_in first_in v.if-next-first.false in
          let later = not_less_of c.root_edge_to-next.result.weight c.nodes.second.weight next_in second_in v.if-next-second.false in
          rw (v.first-is, v.second-is)
          (nearer_none n w node c.nodes.first.node c.nodes.second.node c.nodes.first.weight c.nodes.second.weight next.result.weight c.nodes.invariant (next.ensures.weight) least later)
    ]

pub returns : goal.returns
returns c =
    let n : ℕ = length c.args.weights.now - 1 in
    let past : n < c.nodes.node = omega (arith, c.nodes-test.false) in
    let found = c.nodes.invariant in
    record {
      nearest = nearest_of_all n (λ i j. least_at c.args.weights.now j) c.nodes.node c.nodes.first.node c.nodes.second.node c.nodes.first.weight c.nodes.second.weight past found;
      first = found.first_is;
      second = found.second_is;
    }
