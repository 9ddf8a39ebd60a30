-- Short names for the rows of src/examples.rt: a field at its place, the cells of a small layout, costs of three nodes.
-- No other contract uses them.
use Rattle.std.specs.Prelude.{◌≡◌, ℕ, ◌+◌, ◌-◌, ◌*◌, List, map, slice_index_or, ℤ, pos}
use Rattle.tsp_format.specs.declared.keyword.Field.{Field}
use Rattle.tsp_format.specs.declared.keyword.Field.TheVariants.{OtherKey}
use Rattle.tsp_format.specs.declared.keyword.Keyword.TheVariants.{Known}
use Rattle.tsp_format.specs.declared.layout.Layout.{Layout}
use Rattle.tsp_format.specs.Nodes.{cells}
use Rattle.tsp_format.specs.Limits.{keyword_of}
use Rattle.tsp_format.specs.Words.{field_word, fields_in_order}

-- the field is at this place of the canonical order, counted from 1, and has this word, which as a keyword is its own
abbrev pub StandsAt : ℕ → Field → List ℕ → Type 0
StandsAt place field word = (slice_index_or fields_in_order (place - 1) OtherKey ≡ field) × (field_word field ≡ word)
    × (keyword_of word ≡ Known field)

-- the cells of the layout over n nodes, each as a number of two digits: its row and its column
abbrev pub CellsAre : Layout → ℕ → List ℕ → Type 0
CellsAre layout n digits = map (λ cell. 10 * cell.0 + cell.1) (cells layout n) ≡ digits

-- costs of three nodes, by rows
abbrev pub by_rows : List ℤ → ℕ → ℕ → ℤ
by_rows costs i j = slice_index_or costs (3 * (i - 1) + (j - 1)) (pos 0)
