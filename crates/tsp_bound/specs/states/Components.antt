-- A forest that grows in Boruvka's rounds: the label of each component, the lightest link that leaves it, and the edges
-- joined so far (`IsForest`). `src/search.rt` finds links in boxes, `src/all_pairs.rt` among the twelve lightest links
-- of each place, and `src/rounds.rt` joins them. You may change how links are found, as long as the rounds end with a
-- minimum tree (`IsSpanning`).
use Rattle.tsp_bound.specs.Prelude.{All, ℕ, Bool, true, not, List, [], length, slice_index_or, Option, None, Some, ℤ, pos, neg_ℤ, IfSome, slice_set, most_nodes, IsFromTo, weight_of, least_at}
use Rattle.std.specs.Prelude.{◌≡◌, ◌≢◌, ◌+◌, ◌*◌, ◌^◌, ◌==◌, ◌<◌, if◌then◌else◌, ◌≤ℤ◌, ◌⊎◌}
use Rattle.tsp_theory.specs.Forest.{AreLeastJoins, IsWholeForest}
use Rattle.tsp_bound.specs.declared.area.Area.{Area}
use Rattle.tsp_bound.specs.declared.search.Link.{Link}
use Rattle.tsp_bound.specs.states.Boxes.{AreHeld, box_at, no_weight, node_of}

-- x is a place of 0..n-1
abbrev pub IsBelow : ℕ → ℕ → Type 0
IsBelow n x = x < n

-- the label of the component of the place x
abbrev pub label_at : List ℕ → ℕ → ℕ
label_at labels x = slice_index_or labels x 0

-- in another component than the nodes of label `own`
abbrev pub is_in_other_component : (ℕ → ℕ) → ℕ → ℕ → Bool
is_in_other_component label own x = not (label x == own)

-- ---- tags of boxes

-- the tag of a box with nodes of several labels
abbrev pub mixed : ℕ
mixed = 4294967295

-- a tag, if it isn't the mixed one, is the label of each node in the box
abbrev pub IsTagOf : ℕ → ℕ → Type 0
IsTagOf tag label = tag ≢ mixed → tag ≡ label

-- the tag of each box fits the labels of all nodes in it
abbrev pub AreTags : List ℕ → List ℕ → Type 0
AreTags labels tags = AreHeld IsTagOf labels (λ _. true) (box_at 0 tags)

-- the area of the box v in a search from the component `own`: none if all nodes of the box are in that component
abbrev pub seen_area : List ℕ → (ℕ → Option Area) → ℕ → ℕ → Option Area
seen_area tags area own v = if box_at 0 tags v == own then None else area v

-- ---- links

-- a link from `from` to a place outside its component; no link from it to such a place weighs less
pub record IsNearest (n : ℕ) (w : ℕ → ℕ → ℤ) (outside : ℕ → Bool) (from : ℕ) (link : Link) : Type 0 where
  pub from_is : link.from ≡ from
  pub to_in : link.to < n
  pub to_out : outside link.to ≡ true
  pub weight_is : link.weight ≡ w from link.to
  pub least : (x : ℕ) → x < n → outside x ≡ true → link.weight ≤ℤ w from x

-- a link from the place x, with its weight; no link from x to another component weighs less
pub record IsKeptLink (n : ℕ) (w : ℕ → ℕ → ℤ) (label : ℕ → ℕ) (x : ℕ) (link : Link) : Type 0 where
  pub from_is : link.from ≡ x
  pub to_in : link.to < n
  pub weight_is : link.weight ≡ w x link.to
  pub least : (y : ℕ) → y < n → label y ≢ label x → link.weight ≤ℤ w x y

-- such a link for each place
pub record AreKept (n : ℕ) (w : ℕ → ℕ → ℤ) (label : ℕ → ℕ) (known : List Link) : Type 0 where
  pub len : length known ≡ n
  pub each : (x : ℕ) (default : Link) → x < n → IsKeptLink n w label x (slice_index_or known x default)

-- a link that leaves the component of label c
pub record IsLeaving (n : ℕ) (w : ℕ → ℕ → ℤ) (label : ℕ → ℕ) (c : ℕ) (link : Link) : Type 0 where
  pub from_in : link.from < n
  pub from_is : label link.from ≡ c
  pub to_in : link.to < n
  pub to_out : label link.to ≢ c
  pub weight_is : link.weight ≡ w link.from link.to

-- a lightest link that leaves the component of label c
pub record IsLeastOf (n : ℕ) (w : ℕ → ℕ → ℤ) (label : ℕ → ℕ) (c : ℕ) (link : Link) : Type 0 where
  pub leaving : IsLeaving n w label c link
  pub least : (x y : ℕ) → x < n → y < n → label x ≡ c → label y ≢ c → link.weight ≤ℤ w x y

-- the link that is listed for the label c, if there is one
abbrev pub link_of : List (Option Link) → ℕ → Option Link
link_of best c = slice_index_or best c None

-- for each label a link that leaves its component, or none
pub record AreLeaving (n : ℕ) (w : ℕ → ℕ → ℤ) (label : ℕ → ℕ) (best : List (Option Link)) : Type 0 where
  pub len : length best ≡ n
  pub each : (c : ℕ) → c < n → IfSome (link_of best c) (IsLeaving n w label c)

-- for each label a lightest link that leaves its component, or none
pub record AreLeast (n : ℕ) (w : ℕ → ℕ → ℤ) (label : ℕ → ℕ) (best : List (Option Link)) : Type 0 where
  pub len : length best ≡ n
  pub each : (c : ℕ) → c < n → IfSome (link_of best c) (IsLeastOf n w label c)

-- the lighter one of the old link, if there is one, and of another link
pub record IsOffered (old : Option Link) (link new : Link) : Type 0 where
  pub no_worse : new.weight ≤ℤ link.weight
  pub kept : IfSome old (λ was. new.weight ≤ℤ was.weight)
  pub one : (new ≡ link) ⊎ (old ≡ Some new)

-- ---- the forest

-- the edges that were added are least joins, each with both ends in one component
pub record IsForest (n : ℕ) (w : ℕ → ℕ → ℤ) (label : ℕ → ℕ) (added : List (ℕ × ℕ)) : Type 0 where
  pub joins : AreLeastJoins (IsBelow n) w [] added
  pub ends : All (λ pair. (pair.0 < n) × (pair.1 < n)) added
  pub within : All (λ pair. label pair.0 ≡ label pair.1) added

-- least joins, as many as a tree over the places 0..n-1 has
pub record IsSpanning (n : ℕ) (w : ℕ → ℕ → ℤ) (added : List (ℕ × ℕ)) : Type 0 where
  pub joins : AreLeastJoins (IsBelow n) w [] added
  pub ends : All (λ pair. (pair.0 < n) × (pair.1 < n)) added
  pub count : length added + 1 ≡ n

-- least joins over the nodes 2..n, as many as a tree over them has, and the sum of their weights
pub record IsWeighedForest (n : ℕ) (w : ℕ → ℕ → ℤ) (added : List (ℕ × ℕ)) (sum : ℤ) : Type 0 where
  pub whole : IsWholeForest n w added
  pub weight : sum ≡ weight_of w added
  pub size : IsFromTo (neg_ℤ (pos (most_nodes * 2 ^ 63))) (pos (most_nodes * 2 ^ 63)) sum

-- ---- for each place 0..n-1 of an order some links to other places

-- how many links a place has
abbrev pub links_kept : ℕ
links_kept = 12

-- the weights between the places of an order, by those between its nodes
abbrev pub weight_over : (ℕ → ℕ → ℤ) → List ℕ → ℕ → ℕ → ℤ
weight_over w order i j = w (node_of order i) (node_of order j)

-- the entry if there is no link
abbrev pub empty_link : Link
empty_link = record { weight = no_weight; from = 0; to = 0 }

-- the link k of the place x
abbrev pub kept_at : List Link → ℕ → ℕ → Link
kept_at links x k = slice_index_or links (links_kept * x + k) empty_link

-- an empty entry, or a link from the place x, with its weight
abbrev pub IsOwnLink : ℕ → (ℕ → ℕ → ℤ) → ℕ → Link → Type 0
IsOwnLink n w x link = link.weight ≢ no_weight → (link.from ≡ x) × (link.to < n) × (link.weight ≡ w x link.to)

-- the pair of x and y is listed at x, or weighs no less than the number of x
abbrev pub IsKnown : (ℕ → ℕ → ℤ) → List Link → List ℤ → ℕ → ℕ → Type 0
IsKnown w links bounds x y = ((k : ℕ) → k < links_kept → (kept_at links x k).to ≡ y → (kept_at links x k).weight ≢ w x y)
    → least_at bounds x ≤ℤ w x y

-- ---- a link is taken into the lists

-- the link replaces one of those at its place, and the number of the place is at most the weight of the replaced
-- one
pub record IsPut (link : Link) (old_links : List Link) (old_bounds : List ℤ) (links : List Link) (bounds : List ℤ) : Type 0 where
  pub slot : ℕ
  pub few : slot < links_kept
  pub bound : ℤ
  pub links_is : links ≡ slice_set old_links (links_kept * link.from + slot) link
  pub bounds_is : bounds ≡ slice_set old_bounds link.from bound
  pub lower : bound ≤ℤ least_at old_bounds link.from
  pub below : bound ≤ℤ (kept_at old_links link.from slot).weight

-- the link is put in its place, or nothing changes, because it weighs no less than the number of its place
abbrev pub IsTaken : Link → List Link → List ℤ → List Link → List ℤ → Type 0
IsTaken link old_links old_bounds links bounds =
    ((links ≡ old_links) × (bounds ≡ old_bounds) × (least_at old_bounds link.from ≤ℤ link.weight))
    ⊎ IsPut link old_links old_bounds links bounds

-- ---- the pairs that a pass has seen

-- the pair of x and a larger place y was seen: y is below `first`; or y is below `last` and x below `from`; or x is
-- `from` and y below `next`
abbrev pub IsSeen : ℕ → ℕ → ℕ → ℕ → ℕ → ℕ → Type 0
IsSeen first last from next x y = (y < first) ⊎ (((y < last) × (x < from)) ⊎ ((x ≡ from) × (y < next)))

-- the lists after these pairs were seen: their links are those of their places, and each pair is known at both ends
pub record AreOffered (n : ℕ) (w : ℕ → ℕ → ℤ) (first last from next : ℕ) (links : List Link) (bounds : List ℤ) : Type 0 where
  pub own : (x k : ℕ) → x < n → k < links_kept → IsOwnLink n w x (kept_at links x k)
  pub known : (x y : ℕ) → x < y → y < n → IsSeen first last from next x y
      → IsKnown w links bounds x y × IsKnown w links bounds y x
