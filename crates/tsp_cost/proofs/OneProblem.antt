-- A valid instance is one problem, and its costs are those that the code looks up: the law in src/laws.rt.
use Rattle.tsp_cost.proofs.Prelude.{◌≡◌, ◌≢◌, ℕ, true, false, List, [], Option, None, Some, refl, sym, ap, ◌∙◌, length, subst, ◌+◌, ◌-◌, ◌<◌, eqb, ltb-false, Bool, ◌∷◌, map, inl, inr, arith, unwrap_or, ℤ, ◌⊎◌, pos, unsigned_abs, is_some, IsSome, slice_index, slice_index_or, nat_lt, nat_le, if◌then◌else◌, Point, IsNode, nodes_to, is_listed, cells, lists, cost_of_listed, cost_of_cell, cost_unlisted, triangle_even, unlisted_has_no_place, laid_at, own_costs, distance, point_of, cost_by, cost, listed_cost, ListsWeights, origin, layout_of, UnlistedHaveNoPlace, Fields, nodes_of, RoutingProblem, demand_of, Problem}
use Rattle.std.proofs.lemmas.Bool.{false≢true, leb-false}
use Rattle.std.proofs.lemmas.Bool.Decides.{eqb_tells}
use Rattle.std.proofs.lemmas.List.{length-map, get_or-map, ext_get_or}
use Rattle.std.proofs.lemmas.List.FromFn.{length-range_with_len, get_or-range_with_len}
use Rattle.std.specs.List.{All, range_with_len}
use Rattle.tsp_format.proofs.Pairs.{cell_is}
use Rattle.tsp_format.proofs.Places.{placed, place_within, no_place}
use Rattle.tsp_format.specs.Place.{place_of, place_by_table}
use Rattle.tsp_format.specs.declared.kinds.Kind.{Kind}
use Rattle.tsp_format.specs.declared.kinds.Kind.TheVariants as kinds
use Rattle.tsp_format.specs.declared.kinds.WeightKind.{WeightKind}
use Rattle.tsp_format.specs.declared.kinds.WeightKind.TheVariants.{Explicit, Euc2d, Ceil2d, Man2d, Max2d, Att, Euc3d, Man3d, Max3d}
use Rattle.tsp_format.specs.declared.layout.Layout.{Layout}
use Rattle.tsp_format.specs.declared.layout.Layout.TheVariants.{FullMatrix, UpperRow, LowerRow, UpperDiagRow, LowerDiagRow, UpperCol, LowerCol, UpperDiagCol, LowerDiagCol}
use Rattle.tsp_file.specs.ByInequalities.{IsDistanceBy}
use Rattle.tsp_file.specs.Relayout.{costs_in}
use Rattle.tsp_file.specs.Rules.{is_explicit}
use Rattle.tsp_file.specs.Valid.{IsPairOf, AreFixed, IsInRange, HasInstance, HasRouting}
use Rattle.tsp_cost.specs.Problems.{CostsAreListed, CostsAreDistances, IsProblemOf, IsRoutingOf, IsProblem, HaveSameCosts, AreSame, AreSameRouting, is_directed, problem_of, routing_of, depots_of, demands_of}
use Rattle.tsp_cost.specs.declared.instance.CostSource.{CostSource}
use Rattle.tsp_cost.specs.declared.instance.CostSource.TheVariants.{Distances, Weights}
use Rattle.tsp_cost.specs.declared.metric.Metric.{Metric}
use Rattle.tsp_cost.specs.declared.metric.Metric.TheVariants as metrics
use Rattle.tsp_cost.specs.states.Metrics.{weight_kind_of}
use Rattle.tsp_cost.specs.states.Views.{ComesFrom, HasFound}

-- ---- the costs of an instance by its EDGE_WEIGHT_TYPE

-- the cost from the coordinates
by_distance : (kind : WeightKind) (f : Fields) (i j : ℕ) → kind ≢ Explicit
    → cost_by (Some kind) f i j ≡ distance kind (point_of (unwrap_or f.coords []) i) (point_of (unwrap_or f.coords []) j)
by_distance Explicit f i j other = absurd (other refl)
by_distance Euc2d f i j other = refl
by_distance Ceil2d f i j other = refl
by_distance Man2d f i j other = refl
by_distance Max2d f i j other = refl
by_distance Att f i j other = refl
by_distance Euc3d f i j other = refl
by_distance Man3d f i j other = refl
by_distance Max3d f i j other = refl

pub cost_of_points : (f : Fields) (kind : WeightKind) (points : List Point) → f.weight_kind ≡ Some kind → kind ≢ Explicit
    → f.coords ≡ Some points → (i j : ℕ)
    → distance kind (point_of points i) (point_of points j) ≡ cost f i j
unfolding cost
cost_of_points f kind points is_kind other stand i j = sym (
    ap (λ k. cost_by k f i j) is_kind
    ∙ by_distance kind f i j other
    ∙ ap (λ o. distance kind (point_of (unwrap_or o []) i) (point_of (unwrap_or o []) j)) stand)

pub is_listed_kind : (o : Option WeightKind) → is_explicit o ≡ true → o ≡ Some Explicit
is_listed_kind None is = absurd (false≢true is)
is_listed_kind (Some Explicit) is = refl
is_listed_kind (Some Euc2d) is = absurd (false≢true is)
is_listed_kind (Some Ceil2d) is = absurd (false≢true is)
is_listed_kind (Some Man2d) is = absurd (false≢true is)
is_listed_kind (Some Max2d) is = absurd (false≢true is)
is_listed_kind (Some Att) is = absurd (false≢true is)
is_listed_kind (Some Euc3d) is = absurd (false≢true is)
is_listed_kind (Some Man3d) is = absurd (false≢true is)
is_listed_kind (Some Max3d) is = absurd (false≢true is)

pub distance_kind : (f : Fields) (kind : WeightKind) → is_explicit f.weight_kind ≡ false → f.weight_kind ≡ Some kind
    → kind ≢ Explicit
distance_kind f kind other is explicit = false≢true (sym other ∙ ap is_explicit (is ∙ ap (λ k. Some k) explicit))

-- ---- the costs of an instance by their source

none_listed : (metric : Metric) → is_explicit (Some (weight_kind_of metric)) ≡ false
none_listed metrics.Euc2d = refl
none_listed metrics.Euc3d = refl
none_listed metrics.Ceil2d = refl
none_listed metrics.Man2d = refl
none_listed metrics.Man3d = refl
none_listed metrics.Max2d = refl
none_listed metrics.Max3d = refl
none_listed metrics.Att = refl

is_distance : (metric : Metric) → weight_kind_of metric ≢ Explicit
is_distance metric same = false≢true (sym (none_listed metric) ∙ ap (λ kind. is_explicit (Some kind)) same)

-- the costs are the distances of these points
pub record AreOfPoints (f : Fields) (metric : Metric) (points : List Point) : Type 0 where
  pub kind : is_explicit f.weight_kind ≡ false
  pub count : f.dimension ≡ Some (length points)
  pub every : (i j : ℕ) → distance (weight_kind_of metric) (point_of points i) (point_of points j) ≡ cost f i j

pub of_points : (f : Fields) (nodes : ℕ) (source : CostSource) (metric : Metric) (points : List Point) → HasFound f nodes source
    → ComesFrom f (Distances metric)
    → f.coords ≡ Some points → AreOfPoints f metric points
of_points f nodes source metric points found comes stand = record {
  kind = ap is_explicit comes.0 ∙ none_listed metric;
  count = (found.range.coords points stand).0;
  every = cost_of_points f (weight_kind_of metric) points comes.0 (is_distance metric) stand;
}

-- the costs are these weights in a layout
pub record AreOfWeights (f : Fields) (layout : Layout) (nodes : ℕ) (weights : List ℤ) : Type 0 where
  pub kind : is_explicit f.weight_kind ≡ true
  pub lists : ListsWeights f layout nodes weights
  pub every : (i j : ℕ) → listed_cost layout nodes weights i j ≡ cost f i j

pub of_weights : (f : Fields) (nodes : ℕ) (source : CostSource) (layout : Layout) (weights : List ℤ) → HasFound f nodes source
    → ComesFrom f (Weights layout)
    → f.weights ≡ Some weights → AreOfWeights f layout nodes weights
of_weights f nodes source layout weights found comes stand =
    let held : ListsWeights f layout nodes weights = lists f layout nodes weights found.range comes.1 found.dimension stand in
    record { kind = ap is_explicit comes.0; lists = held; every = cost_of_listed f layout nodes weights comes.0 held }

pub pairs_of : (f : Fields) (pairs : List (ℕ × ℕ)) → AreFixed f pairs → All (IsPairOf (nodes_of f)) pairs
pairs_of f pairs held =
    subst (λ n. All (IsPairOf n) pairs) (sym (ap (λ o. unwrap_or o 0) held.dimension)) held.pairs_of_nodes

-- ---- each valid instance is one problem

-- the law of the distances: each is defined, and unique
abbrev pub AreDefined : Type 0
AreDefined = (f : Fields) (kind : WeightKind) (i j : ℕ) → f.weight_kind ≡ Some kind → kind ≢ Explicit
    → IsDistanceBy kind (point_of (unwrap_or f.coords []) i) (point_of (unwrap_or f.coords []) j) (unsigned_abs (cost f i j))

abbrev pub AreUnique : Type 0
AreUnique = (f : Fields) (kind : WeightKind) (i j k : ℕ) → f.weight_kind ≡ Some kind
    → IsDistanceBy kind (point_of (unwrap_or f.coords []) i) (point_of (unwrap_or f.coords []) j) k → cost f i j ≡ pos k

-- a field that is present
held : {A : Type 0} (o : Option A) (d : A) → IsSome o → o ≡ Some (unwrap_or o d)
held None d is = absurd (false≢true is)
held (Some x) d is = refl

value : {A : Type 0} (o : Option A) (d x : A) → o ≡ Some x → x ≡ unwrap_or o d
value o d x is = ap (λ p. unwrap_or p d) (sym is)

-- ---- lists by node

-- a list is that of its entries by node
by_node : {X : Type 0} (d : X) (xs : List X) → map (λ i. slice_index_or xs (i - 1) d) (nodes_to (length xs)) ≡ xs
unfolding nodes_to
by_node {X = X} d xs = ext_get_or d (map entry nodes) xs (length-map nodes entry ∙ length-range_with_len 1 (length xs)) (λ k lt.
    let short : k < length xs = omega (arith, lt, length-map nodes entry, length-range_with_len 1 (length xs)) in
    get_or-map entry nodes k 0 d (omega (arith, short, length-range_with_len 1 (length xs)))
    ∙ ap entry (get_or-range_with_len 1 (length xs) k 0 short)
    ∙ ap (λ (place : ℕ). slice_index_or xs place d) (omega arith))
  where
    entry : ℕ → X
    entry i = slice_index_or xs (i - 1) d

    nodes : List ℕ
    nodes = range_with_len 1 (length xs)

-- if it has as many entries as there are nodes
over_nodes : {X : Type 0} (d : X) (n : ℕ) (xs : List X) → length xs ≡ n
    → Some xs ≡ Some (map (λ i. slice_index_or xs (i - 1) d) (nodes_to n))
over_nodes d n xs each =
    ap (λ ys. Some ys) (sym (by_node d xs)) ∙ ap (λ m. Some (map (λ i. slice_index_or xs (i - 1) d) (nodes_to m))) each

-- the entry of a node
at_node : {X : Type 0} (d : X) (f : ℕ → X) (n i : ℕ) → IsNode n i → slice_index_or (map f (nodes_to n)) (i - 1) d ≡ f i
unfolding nodes_to
at_node d f n i node =
    let short : i - 1 < n = omega (arith, node.0, node.1) in
    let place : 1 + (i - 1) ≡ i = omega (arith, node.0) in
    get_or-map f (range_with_len 1 n) (i - 1) 0 d (omega (arith, short, length-range_with_len 1 n))
    ∙ ap f (get_or-range_with_len 1 n (i - 1) 0 short ∙ place)

-- ---- listed costs

unlisted : (layout : Layout) (n : ℕ) → UnlistedHaveNoPlace layout n
unlisted layout n = unlisted_has_no_place cell_is no_place layout n

listed_diagonal : (layout : Layout) (n : ℕ) (weights : List ℤ) (i : ℕ) → is_listed layout (i, i) ≡ false
    → listed_cost layout n weights i i ≡ pos 0
listed_diagonal layout n weights i out =
    cost_unlisted layout n weights i i (unlisted layout n i i out) (unlisted layout n i i out)

-- of two different nodes one direction is listed
by_order : (a b : ℕ) → a ≢ b → nat_lt a b ≡ false → nat_lt b a ≡ true
by_order a b other not = by_test (nat_lt b a) refl
  where
    by_test : (t : Bool) → nat_lt b a ≡ t → t ≡ true
    by_test true is = refl
    by_test false is = absurd (other (omega (arith, ltb-false a b not, ltb-false b a is)))

or_equal : (a b : ℕ) → a ≢ b → nat_le a b ≡ false → nat_le b a ≡ true
or_equal a b other not = by_test (nat_le b a) refl
  where
    by_test : (t : Bool) → nat_le b a ≡ t → t ≡ true
    by_test true is = refl
    by_test false is = absurd (other (omega (arith, leb-false a b not, leb-false b a is)))

other_listed : (layout : Layout) (i j : ℕ) → i ≢ j → is_listed layout (i, j) ≡ false → is_listed layout (j, i) ≡ true
other_listed FullMatrix i j other out = refl
other_listed UpperRow i j other out = by_order i j other out
other_listed LowerRow i j other out = by_order j i (λ is. other (sym is)) out
other_listed UpperDiagRow i j other out = or_equal i j other out
other_listed LowerDiagRow i j other out = or_equal j i (λ is. other (sym is)) out
other_listed UpperCol i j other out = by_order i j other out
other_listed LowerCol i j other out = by_order j i (λ is. other (sym is)) out
other_listed UpperDiagCol i j other out = or_equal i j other out
other_listed LowerDiagCol i j other out = or_equal j i (λ is. other (sym is)) out

no_matrix : (layout : Layout) (i j : ℕ) → is_listed layout (i, j) ≡ false → layout ≢ FullMatrix
no_matrix layout i j out is = false≢true (sym out ∙ ap (λ l. is_listed l (i, j)) is)

-- ---- the costs of a valid instance

listed : (f : Fields) → IsInRange f → HasInstance f → is_explicit f.weight_kind ≡ true → CostsAreListed f (nodes_of f) (cost f)
listed f range has is =
    let kind : f.weight_kind ≡ Some Explicit = is_listed_kind f.weight_kind is in
    let n : ℕ = nodes_of f in
    let weights : List ℤ = unwrap_or f.weights [] in
    let section : f.weights ≡ Some weights = held f.weights [] (has.weights is) in
    let are = range.weights weights section in
    let dimension : f.dimension ≡ Some n = held f.dimension 0 has.dimension in
    let layout : Layout = are.layout in
    let lists_these = lists f layout n weights range are.format dimension section in
    let costs : listed_cost layout n weights ≡ cost f = λ t i j. cost_of_listed f layout n weights kind lists_these i j t in
    let same : (i j : ℕ) → cost f i j ≡ listed_cost layout n weights i j =
    λ i j. sym (cost_of_listed f layout n weights kind lists_these i j) in
    record {
      weight_type = kind;
      layout = layout;
      format = are.format;
      weights = section ∙ ap (λ ws. Some ws) (sym (own_costs layout n weights lists_these.filled))
          ∙ ap (λ c. Some (costs_in layout n c)) costs;
      half = λ i j row column part other. same i j ∙ triangle_even layout n weights part (unlisted layout n) i j other
          ∙ sym (same j i);
      diagonal = λ i row out. same i i ∙ listed_diagonal layout n weights i out;
    }

distances : (f : Fields) → AreDefined → AreUnique → IsInRange f → HasInstance f → is_explicit f.weight_kind ≡ false
    → CostsAreDistances f (nodes_of f) (cost f)
distances f defined unique range has not = by_kind f.weight_kind refl
  where
    of_kind : (kind : WeightKind) → f.weight_kind ≡ Some kind → CostsAreDistances f (nodes_of f) (cost f)
    of_kind kind is =
        let other : kind ≢ Explicit = distance_kind f kind not is in
        let section = held f.coords [] (has.coords not) in
        let points : List Point = unwrap_or f.coords [] in
        let each : length points ≡ nodes_of f = value f.dimension 0 (length points) (range.coords points section).0 in
        record {
          kind = kind;
          weight_type = is;
          point = point_of points;
          points = section ∙ over_nodes origin (nodes_of f) points each;
          costs = λ i j row column.
              let by : IsDistanceBy kind (point_of points i) (point_of points j) (unsigned_abs (cost f i j)) =
              defined f kind i j is other in
              (unsigned_abs (cost f i j), unique f kind i j (unsigned_abs (cost f i j)) is by, by);
        }

    by_kind : (o : Option WeightKind) → f.weight_kind ≡ o → CostsAreDistances f (nodes_of f) (cost f)
    by_kind None is = absurd (false≢true (sym (ap is_some is) ∙ has.weight_kind))
    by_kind (Some kind) is = of_kind kind is

costs_of : (f : Fields) → AreDefined → AreUnique → IsInRange f → HasInstance f
    → CostsAreListed f (nodes_of f) (cost f) ⊎ CostsAreDistances f (nodes_of f) (cost f)
costs_of f defined unique range has = by_test (is_explicit f.weight_kind) refl
  where
    by_test : (b : Bool) → is_explicit f.weight_kind ≡ b
        → CostsAreListed f (nodes_of f) (cost f) ⊎ CostsAreDistances f (nodes_of f) (cost f)
    by_test true is = inl (listed f range has is)
    by_test false is = inr (distances f defined unique range has is)

-- ---- the problem of a valid instance

type_of_tours : (kind : Option Kind) → (kind ≡ Some kinds.Tsp) ⊎ (kind ≡ Some kinds.Atsp)
    → kind ≡ Some (if is_directed kind then kinds.Atsp else kinds.Tsp)
type_of_tours kind (inl tsp) = subst (λ k. k ≡ Some (if is_directed k then kinds.Atsp else kinds.Tsp)) (sym tsp) refl
type_of_tours kind (inr atsp) = subst (λ k. k ≡ Some (if is_directed k then kinds.Atsp else kinds.Tsp)) (sym atsp) refl

one_depot : (depots : List ℕ) → length depots ≡ 1 → depots ≡ slice_index depots 0 ∷ []
one_depot [] is = absurd (omega (arith, is))
one_depot (depot ∷ []) is = refl
one_depot (depot ∷ other ∷ depots) is = absurd (omega (arith, is))

pub some_problem : (f : Fields) → AreDefined → AreUnique → IsInRange f → HasInstance f → (f.kind ≡ Some kinds.Cvrp → HasRouting f)
    → IsProblem f
some_problem f defined unique range has routing = record {
  of_tours = λ kind. record {
    type = type_of_tours f.kind kind;
    nodes = held f.dimension 0 has.dimension;
    costs = costs_of f defined unique range has;
    fixed = refl;
  };
  of_routes = λ kind one.
      let more = routing kind in
      record {
        type = kind;
        nodes = held f.dimension 0 has.dimension;
        costs = costs_of f defined unique range has;
        depot = held f.depots [] more.depots ∙ ap (λ ds. Some ds) (one_depot (depots_of f) one);
        demands = held f.demands [] more.demands ∙ over_nodes (pos 0) (nodes_of f) (demands_of f) (carried more.demands);
        capacity = held f.capacity (pos 0) more.capacity;
      };
}
  where
    carried : IsSome f.demands → length (demands_of f) ≡ nodes_of f
    carried is = value f.dimension 0 (length (demands_of f)) (range.demands (demands_of f) (held f.demands [] is)).0

-- ---- there is no other

-- plan: by the pair: listed (`at_cell`), on a diagonal that isn't listed (`on_diagonal`), or in the other half
-- (`in_other_half`)
same_listed : (f : Fields) (n : ℕ) (costs : ℕ → ℕ → ℤ) → f.dimension ≡ Some n → CostsAreListed f n costs
    → HaveSameCosts n costs (cost f)
unfolding cost
same_listed f n costs dimension are i j row column = either i j row column ∙ sym (
    ap (λ k. cost_by k f i j) are.weight_type
    ∙ ap (λ o. listed_cost (layout_of o) (unwrap_or f.dimension 0) (unwrap_or f.weights []) i j) are.format
    ∙ ap (λ o. listed_cost are.layout (unwrap_or o 0) (unwrap_or f.weights []) i j) dimension
    ∙ ap (λ o. listed_cost are.layout n (unwrap_or o []) i j) are.weights)
  where
    weights : List ℤ
    weights = costs_in are.layout n costs

    at_cell : (i j : ℕ) → IsNode n i → IsNode n j → is_listed are.layout (i, j) ≡ true
        → costs i j ≡ listed_cost are.layout n weights i j
    at_cell i j row column in_layout =
        let place : ℕ = place_by_table are.layout n i j in
        let there : place_of are.layout n (i, j) ≡ Some place = placed are.layout n i j row column in_layout in
        let within : place < length (cells are.layout n) = place_within are.layout n i j row column in_layout in
        sym (cost_of_cell are.layout n weights i j place there ∙ laid_at are.layout n costs i j place there within)

    on_diagonal : (i j : ℕ) → IsNode n i → i ≡ j → is_listed are.layout (i, j) ≡ false
        → costs i j ≡ listed_cost are.layout n weights i j
    on_diagonal i j row same out =
        subst (λ k. is_listed are.layout (i, k) ≡ false → costs i k ≡ listed_cost are.layout n weights i k) same
        (λ none. are.diagonal i row none ∙ sym (listed_diagonal are.layout n weights i none)) out

    in_other_half : (i j : ℕ) → IsNode n i → IsNode n j → i ≢ j → is_listed are.layout (i, j) ≡ false
        → costs i j ≡ listed_cost are.layout n weights i j
    in_other_half i j row column other out =
        are.half i j row column (no_matrix are.layout i j out) other
        ∙ at_cell j i column row (other_listed are.layout i j other out)
        ∙ sym (triangle_even are.layout n weights (no_matrix are.layout i j out) (unlisted are.layout n) i j other)

    either : (i j : ℕ) → IsNode n i → IsNode n j → costs i j ≡ listed_cost are.layout n weights i j
    either i j row column = by_test (is_listed are.layout (i, j)) refl (eqb_tells i j)
      where
        by_test : (b : Bool) → is_listed are.layout (i, j) ≡ b → ((eqb i j ≡ true) × (i ≡ j)) ⊎ ((eqb i j ≡ false) × (i ≢ j))
            → costs i j ≡ listed_cost are.layout n weights i j
        by_test true is tells = at_cell i j row column is
        by_test false is (inl same) = on_diagonal i j row same.1 is
        by_test false is (inr other) = in_other_half i j row column other.1 is

same_distances : (f : Fields) (n : ℕ) (costs : ℕ → ℕ → ℤ) → AreUnique → CostsAreDistances f n costs
    → HaveSameCosts n costs (cost f)
same_distances f n costs unique are i j row column =
    let found = are.costs i j row column in
    let by : IsDistanceBy are.kind (point_of (unwrap_or f.coords []) i) (point_of (unwrap_or f.coords []) j) found.0 =
    subst (λ p. IsDistanceBy are.kind (point_of (unwrap_or f.coords []) i) p found.0) (sym (point_is j column))
    (subst (λ p. IsDistanceBy are.kind p (are.point j) found.0) (sym (point_is i row)) found.2) in
    found.1 ∙ sym (unique f are.kind i j found.0 are.weight_type by)
  where
    point_is : (i : ℕ) → IsNode n i → point_of (unwrap_or f.coords []) i ≡ are.point i
    point_is i node = ap (λ o. point_of (unwrap_or o []) i) are.points ∙ at_node origin are.point n i node

same_costs : (f : Fields) (n : ℕ) (costs : ℕ → ℕ → ℤ) → AreUnique → f.dimension ≡ Some n
    → CostsAreListed f n costs ⊎ CostsAreDistances f n costs → HaveSameCosts n costs (cost f)
same_costs f n costs unique dimension (inl are) = same_listed f n costs dimension are
same_costs f n costs unique dimension (inr are) = same_distances f n costs unique are

direction : (directed : Bool) (kind : Option Kind) → kind ≡ Some (if directed then kinds.Atsp else kinds.Tsp)
    → directed ≡ is_directed kind
direction true kind is = sym (ap is_directed is)
direction false kind is = sym (ap is_directed is)

pub one_problem : AreUnique → (f : Fields) (problem : Problem) → IsProblemOf f problem → AreSame problem (problem_of f)
one_problem unique f problem is = record {
  nodes = value f.dimension 0 problem.nodes is.nodes;
  directed = direction problem.directed f.kind is.type;
  costs = same_costs f problem.nodes problem.cost unique is.nodes is.costs;
  fixed = sym is.fixed;
}

pub one_routing : AreUnique → (f : Fields) (problem : RoutingProblem) → IsRoutingOf f problem
    → AreSameRouting problem (routing_of f)
one_routing unique f problem is = record {
  nodes = value f.dimension 0 problem.nodes is.nodes;
  costs = same_costs f problem.nodes problem.cost unique is.nodes is.costs;
  depot = ap (λ o. slice_index (unwrap_or o []) 0) (sym is.depot);
  demands = λ i node. sym (ap (λ o. demand_of (unwrap_or o []) i) is.demands
      ∙ at_node (pos 0) problem.demand problem.nodes i node);
  capacity = value f.capacity (pos 0) problem.capacity is.capacity;
}
