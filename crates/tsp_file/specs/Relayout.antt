-- What `tsp convert --layout` makes of a file: the same costs in another layout, or the first reason why the layout
-- can't hold them, with the printed words of the reason. src/relayout.rt promises it. In no circle of docs/trust.md,
-- because no `yes` rests on it. Crates above import it, too.
use Rattle.tsp_file.specs.Prelude.{ℕ, List, codes, decimal, Bool, false, map, Some, IsSome, IsTrue, Result, Ok, Err, ℤ, pos, IsNode, is_listed, cells, IsSymmetric, IsFirstAsymmetric, Listed, Explicit, Layout, FullMatrix}
use Rattle.std.specs.Prelude.{◌++◌, ◌≡◌, ◌≢◌, ◌<◌, ◌⊎◌}
use Rattle.tsp_file.specs.Cost.{cost}
use Rattle.tsp_file.specs.Fields.{Fields, nodes_of}
use Rattle.tsp_file.specs.declared.relayout.RelayoutFault.{RelayoutFault}
use Rattle.tsp_file.specs.declared.relayout.RelayoutFault.TheVariants.{NotExplicit, NotSymmetric, DiagonalLost, OutOfMemory}

-- its name, and the nodes whose cost the layout can't hold
abbrev pub relayout_fault_text : RelayoutFault → List ℕ
relayout_fault_text NotExplicit = codes "NotExplicit"
relayout_fault_text (NotSymmetric i j) = codes "NotSymmetric " ++ (decimal i ++ (codes " " ++ decimal j))
relayout_fault_text (DiagonalLost i) = codes "DiagonalLost " ++ decimal i
relayout_fault_text OutOfMemory = codes "OutOfMemory"

-- ---- the file after its weights are put into another layout

-- ---- which costs a layout can hold

-- A full matrix holds any costs between different nodes, half of one the symmetric ones.
abbrev pub HoldsPairs : Layout → (ℕ → ℕ → ℤ) → Type 0
HoldsPairs layout cost = (layout ≡ FullMatrix) ⊎ IsSymmetric cost

-- whether a layout lists the diagonal
abbrev pub lists_diagonal : Layout → Bool
lists_diagonal layout = is_listed layout (1, 1)

-- A layout that lists no diagonal holds costs that are 0 from each node to itself.
abbrev pub HoldsDiagonal : Layout → (ℕ → ℕ → ℤ) → Type 0
HoldsDiagonal layout cost = IsTrue (lists_diagonal layout) ⊎ ((i : ℕ) → cost i i ≡ pos 0)

-- the first node of 1..n whose cost to itself isn't 0
pub record IsFirstOnDiagonal (n : ℕ) (cost : ℕ → ℕ → ℤ) (i : ℕ) : Type 0 where
  pub node : IsNode n i
  pub differs : cost i i ≢ pos 0
  pub first : (k : ℕ) → IsNode n k → k < i → cost k k ≡ pos 0

-- ---- the change

-- the weight type is EXPLICIT, and weights are present
abbrev pub HasListedWeights : Fields → Type 0
HasListedWeights f = (f.weight_kind ≡ Some Explicit) × IsSome f.weights

-- the same fields but for these weights, in this layout
abbrev pub with_weights : Fields → Layout → List ℤ → Fields
with_weights f to weights = record f { weight_format = Some (Listed to); weights = Some weights }

-- the costs of the cells of a layout, in their order
abbrev pub costs_in : Layout → ℕ → (ℕ → ℕ → ℤ) → List ℤ
costs_in layout n cost = map (λ cell. cost cell.0 cell.1) (cells layout n)

-- the file lists weights, and the layout can hold their costs
pub record CanGo (f : Fields) (to : Layout) : Type 0 where
  pub listed : HasListedWeights f
  pub pairs : HoldsPairs to (cost f)
  pub diagonal : HoldsDiagonal to (cost f)

-- Only the layout and the list of weights change, and every cost is as before, also from a node to itself.
pub record IsRelaid (old : Fields) (to : Layout) (new : Fields) : Type 0 where
  pub can_go : CanGo old to
  pub fields : new ≡ with_weights old to (costs_in to (nodes_of old) (cost old))
  pub costs : (i j : ℕ) → cost new i j ≡ cost old i j

-- Why the layout isn't changed: the first of these that holds. It can't be memory if the file has that layout
-- already.
abbrev pub IsRefused : Fields → Layout → RelayoutFault → Type 0
IsRefused f to NotExplicit = ¬ HasListedWeights f
IsRefused f to (NotSymmetric i j) = HasListedWeights f × (to ≢ FullMatrix) × IsFirstAsymmetric (nodes_of f) (cost f) (i, j)
IsRefused f to (DiagonalLost i) = HasListedWeights f × HoldsPairs to (cost f)
    × (lists_diagonal to ≡ false) × IsFirstOnDiagonal (nodes_of f) (cost f) i
IsRefused f to OutOfMemory = CanGo f to × (f.weight_format ≢ Some (Listed to))

-- the file in the new layout; or the fault, with the file as it was
abbrev pub IsRelayout : Fields → Layout → Result Fields (RelayoutFault × Fields) → Type 0
IsRelayout old to (Ok new) = IsRelaid old to new
IsRelayout old to (Err (fault, back)) = IsRefused old to fault × (back ≡ old)
