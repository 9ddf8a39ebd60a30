-- Which comments claim a length in brackets, for src/verdict_reasons.rt. No verdict rests on it: a wrong claim is only
-- told by `--explain`.
use Rattle.std.specs.List.{starts_with}
use Rattle.std.specs.Prelude.{ℕ, List, Bool, codes, ◌||◌, ◌==◌}

-- the comment begins with these bytes
abbrev pub begins_with : List ℕ → List ℕ → Bool
begins_with comment word = starts_with (λ a b. a == b) comment word

-- The comment is on an optimal solution, as in TSPLIB's own files of tours: `Optimal tour for a280.tsp (2579)`.
abbrev pub is_on_optimum : List ℕ → Bool
is_on_optimum comment = begins_with comment (codes "Optimal ") || begins_with comment (codes "Optimum ")
    || begins_with comment (codes "optimal ") || begins_with comment (codes "optimum ")
