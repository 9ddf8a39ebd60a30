-- The goals of `equal_states_go_on_alike` in src/laws.rt: what it ensures.
use Rattle.tsp_routing.proofs.KeptStarts.{equal_states_go_on_alike}
use Rattle.tsp_routing.proofs.laws.equal_states_go_on_alike.Goals as goal

-- plan: customer by customer, the states after them are equal, and so is what is paid
pub returns : goal.returns
returns c = equal_states_go_on_alike
