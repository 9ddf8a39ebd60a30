-- Sets of pairs of nodes, in which an undirected pair has its smaller node first, as loops use them to find a pair that
-- is listed twice or isn't fixed. Only `src/certificate.rt` and `src/potentials_certificate.rt` use them. You may
-- change them with the code, because reasons are defined without them.
use Rattle.tsp_verdict.specs.Prelude.{ℕ, Bool, true, false, List, nat_le, list_any, is_same_pair, is_same}
use Rattle.std.specs.Prelude.{◌≡◌, if◌then◌else◌}
use Rattle.std.specs.BTreeSet.{BTreeSet, contains}
use Rattle.std.specs.Ordering.{nat_cmp, ordering_then}
use Rattle.std.specs.declared.cmp.Ordering.{Ordering}

-- the pair with its smaller node first
abbrev pub undirected : ℕ × ℕ → ℕ × ℕ
undirected pair = if nat_le pair.0 pair.1 then pair else (pair.1, pair.0)

-- the order of pairs in a set
abbrev pub pair_cmp : ℕ × ℕ → ℕ × ℕ → Ordering
pair_cmp p q = ordering_then (nat_cmp p.0 q.0) (nat_cmp p.1 q.1)

-- the set has exactly the pairs of a list, in either direction
abbrev pub HasPairs : {X : Type 0} → (X → ℕ × ℕ) → BTreeSet (ℕ × ℕ) → List X → Type 0
HasPairs pair_in set xs = (pair : ℕ × ℕ)
    → contains pair_cmp set (undirected pair) ≡ list_any (λ x. is_same_pair pair (pair_in x)) xs

-- a pair as a set has it: directed as it is, otherwise with its smaller node first
abbrev pub key_of : Bool → ℕ × ℕ → ℕ × ℕ
key_of true pair = pair
key_of false pair = undirected pair

-- the set has exactly the pairs of a list; undirected: in either direction
abbrev pub HasKeys : Bool → BTreeSet (ℕ × ℕ) → List (ℕ × ℕ) → Type 0
HasKeys directed set pairs =
    (pair : ℕ × ℕ) → contains pair_cmp set (key_of directed pair) ≡ list_any (is_same directed pair) pairs
