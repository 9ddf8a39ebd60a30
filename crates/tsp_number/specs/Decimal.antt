-- Circles 1 and 2 of docs/trust.md.
-- The unit of all coordinates, 10^-9, and how large a count of it may be. src/decimal.rt promises both numbers to code,
-- and docs/format.md to users. Crates above import it, too.
use Rattle.std.specs.Prelude.{ℕ}

-- the count of the number 1
abbrev pub unit : ℕ
unit = 1000000000

-- the largest size of a count: that of the number 10^9
abbrev pub most_count : ℕ
most_count = 1000000000000000000
