-- A tree of boxes over nodes in some order, with one node in each leaf, and what a search of it finds: the nearest node
-- outside a component (`IsBest`). `src/boxes.rt` builds the tree, `src/search.rt` searches it, and `src/rounds.rt`
-- numbers nodes as in the tree (`IsNumbering`). You may change the boxes with the code, as long as no box is skipped
-- that has a nearer node (`IsBelowAll`).
use Rattle.tsp_bound.specs.Prelude.{ℕ, zero, suc, Bool, true, List, Option, None, Some, length, slice_index_or, slice_set, ℤ, pos, neg_ℤ, IsFromTo, most_number}
use Rattle.std.specs.Prelude.{◌≡◌, ◌+◌, ◌*◌, ◌/◌, ◌<◌, ◌≤◌, ◌≤ℤ◌, ◌⊎◌}
use denote.Struct.Props as logic
use mathlib.Core.HLevel.{Π_prop, ⊥_prop}
use Rattle.tsp_number.specs.declared.decimal.Point.{Point}
use Rattle.tsp_theory.specs.Costs.{IsIn, IsSite}
use Rattle.tsp_bound.specs.declared.area.Area.{Area}
use Rattle.tsp_bound.specs.declared.boxes.NumberedSite.{NumberedSite}
use Rattle.tsp_bound.specs.declared.search.Best.{Best}

-- the box is there, the node's point lies in it, and the node's number is no less than the box's least number
abbrev pub HoldsNode : (ℕ → Point) → (ℕ → ℤ) → Option Area → ℕ → Type 0
HoldsNode place number None node = ⊥
HoldsNode place number (Some area) node = IsIn area.region (place node) × (area.least ≤ℤ number node)

-- the box height levels above the box v: 2 * v and 2 * v + 1 are the halves of v
abbrev pub up : ℕ → ℕ → ℕ
up zero v = v
up (suc height) v = up height v / 2

-- the node at a place of the order
abbrev pub node_of : List ℕ → ℕ → ℕ
node_of order j = slice_index_or order j 0

-- the entry of a list for the box v, or `none` if the list has no such entry
abbrev pub box_at : {A : Type 0} → A → List A → ℕ → A
box_at none boxes v = slice_index_or boxes v none

-- the area of the box v; None if no node is in it
abbrev pub area_at : List (Option Area) → ℕ → Option Area
area_at areas v = slice_index_or areas v None

-- each node outside is in its leaf, which is the box length order + j, and in the boxes above it, as far as their
-- numbers are `low` or more
abbrev pub AreHeldFrom : {A : Type 0} → (A → ℕ → Type 0) → ℕ → List ℕ → (ℕ → Bool) → (ℕ → A) → Type 0
AreHeldFrom In low order outside box = (j height : ℕ) → j < length order → outside j ≡ true
    → low ≤ up height (length order + j)
    → In (box (up height (length order + j))) (node_of order j)

-- each node outside is in its leaf and in all boxes above it; the box 0 isn't used
abbrev pub AreHeld : {A : Type 0} → (A → ℕ → Type 0) → List ℕ → (ℕ → Bool) → (ℕ → A) → Type 0
AreHeld In order outside box = AreHeldFrom In 1 order outside box

-- the list has a new box v, which holds each node that one of its two halves holds
pub record IsRefit {A : Type 0} (none : A) (In : A → ℕ → Type 0) (old new : List A) (v : ℕ) : Type 0 where
  pub box : A
  pub is : new ≡ slice_set old v box
  pub left : (p : ℕ) → In (box_at none old (2 * v)) p → In box p
  pub right : (p : ℕ) → In (box_at none old (2 * v + 1)) p → In box p

-- no node for which IsOne and In hold weighs less than the bound
abbrev pub IsBelowAll : (ℕ → Type 0) → (ℕ → Type 0) → (ℕ → ℤ) → ℤ → Type 0
IsBelowAll IsOne In weight bound = (node : ℕ) → IsOne node → In node → bound ≤ℤ weight node

-- the best is a place of the order whose node is outside, with the weight from `from` to that node
pub record IsFound (w : ℕ → ℕ → ℤ) (order : List ℕ) (outside : ℕ → Bool) (from : ℕ) (best : Best) : Type 0 where
  pub node_in : best.place < length order
  pub out : outside best.place ≡ true
  pub weight_is : best.weight ≡ w from (node_of order best.place)

-- the largest number of 64 bits, which stands for no weight
abbrev pub no_weight : ℤ
no_weight = pos 9223372036854775807

-- the best before the search: no node, and no weight
abbrev pub no_best : Best
no_best = record { weight = no_weight; place = 0 }

-- no node outside weighs less than the best, which is one of them, or none
pub record IsBest (w : ℕ → ℕ → ℤ) (order : List ℕ) (outside : ℕ → Bool) (from : ℕ) (best : Best) : Type 0 where
  pub least : (j : ℕ) → j < length order → outside j ≡ true → best.weight ≤ℤ w from (node_of order j)
  pub found : (best ≡ no_best) ⊎ IsFound w order outside from best

-- after the search of the box v the best weighs no more than before, and no more than any node outside in that box; it
-- is the old one, or a node outside
pub record IsSearched (w : ℕ → ℕ → ℤ) (order : List ℕ) (outside : ℕ → Bool) (from : ℕ) (v : ℕ) (old new : Best)
    : Type 0 where
  pub kept : new.weight ≤ℤ old.weight
  pub below : (j height : ℕ) → j < length order → outside j ≡ true → up height (length order + j) ≡ v
      → new.weight ≤ℤ w from (node_of order j)
  pub found : (new ≡ old) ⊎ IsFound w order outside from new

-- ---- HoldsNode and AreHeld have one proof at most, as a `ghost` fact of `Search` and of `Labelled` needs

pub HoldsNode-prop : (place : ℕ → Point) (number : ℕ → ℤ) (area : Option Area) (node : ℕ)
    → IsProp (HoldsNode place number area node)
HoldsNode-prop place number None node = ⊥_prop
HoldsNode-prop place number (Some area) node = Prim.hlevel logic.props

pub AreHeld-prop : (place : ℕ → Point) (number : ℕ → ℤ) (order : List ℕ) (outside : ℕ → Bool) (area : ℕ → Option Area)
    → IsProp (AreHeld (HoldsNode place number) order outside area)
AreHeld-prop place number order outside area =
    Π_prop λ j. Π_prop λ height. Π_prop λ _. Π_prop λ _. Π_prop λ _.
    HoldsNode-prop place number (area (up height (length order + j))) (node_of order j)

-- ---- nodes with their points and their numbers

-- a node with its point and its number, which is within its limit
pub record IsNumberedSite (nodes : ℕ) (place : ℕ → Point) (number : ℕ → ℤ) (numbered : NumberedSite) : Type 0 where
  pub site : IsSite nodes place numbered.site
  pub value : numbered.number ≡ number numbered.site.node
  pub size : IsFromTo (neg_ℤ (pos most_number)) (pos most_number) numbered.number

-- the same for this node
pub record IsNumberedSiteOf (nodes : ℕ) (place : ℕ → Point) (number : ℕ → ℤ) (node : ℕ) (numbered : NumberedSite) : Type 0 where
  pub here : numbered.site.node ≡ node
  pub known : IsNumberedSite nodes place number numbered

-- the list has each node of the order so, at its index
abbrev pub AreNumberedSites : ℕ → (ℕ → Point) → (ℕ → ℤ) → List ℕ → List NumberedSite → Type 0
AreNumberedSites nodes place number order sites = (j : ℕ) (other : NumberedSite) → j < length order
    → IsNumberedSiteOf nodes place number (node_of order j) (slice_index_or sites j other)

-- ---- nodes that are numbered by their places in a list

-- `node` and `place` are inverse to each other, between 0..n-1 and the nodes
pub record IsNumbering (n : ℕ) (Node : ℕ → Type 0) (node place : ℕ → ℕ) : Type 0 where
  pub node_in : (i : ℕ) → i < n → Node (node i)
  pub place_in : (x : ℕ) → Node x → place x < n
  pub back : (i : ℕ) → i < n → place (node i) ≡ i
  pub there : (x : ℕ) → Node x → node (place x) ≡ x

-- the nodes at the two places of a pair
abbrev pub on_both : (ℕ → ℕ) → ℕ × ℕ → ℕ × ℕ
on_both node pair = (node pair.0, node pair.1)
