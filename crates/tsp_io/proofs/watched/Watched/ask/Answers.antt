-- The goals of `Watched::ask` in src/watched.rt. The call is one of the value that is watched.
use Rattle.std.proofs.Common.{rules, refl}
use Rattle.tsp_io.proofs.watched.Watched.ask.Goals as goal

-- plan: the outer call is one call of the inner value, whose outcome is returned as it is
pub returns : goal.returns
returns g c = record {
  asked = record { first = _; second = _; shows = (refl, refl); first_left = _; second_left = _; met = c.call-outcome.ensures; leaves = (refl, refl) };
  failed = search rules;
}
