-- How a call for C ends, and the results of the calls that fill in numbers: nodes, costs, lengths, coordinates,
-- distances. Most calls in src/lib.rt are stated in these words. In no circle of docs/trust.md, because no `yes` rests
-- on them.
use Rattle.tsp_c.specs.Prelude.{ℕ, zero, suc, Bool, true, false, List, [], length, drop, Option, None, Some, Result, Ok, Err, min, cond, slice_index_or, IsTrue, ℤ, pos, negsuc, Point, cost, distance, point_of, Fields, nodes_of, ParsesTo, run_fault_text, status_of, status_of_fault, IsTextFault, IsUnopened, RunFault, File, Write, is_ok}
use Rattle.std.specs.List.{All}
use Rattle.std.specs.Prelude.{◌≡◌, ◌⊎◌, ◌≤◌, ◌<◌, ◌∷◌, ◌++◌, ◌+◌, ◌-◌, ◌*◌, ◌/◌, ◌%◌, ◌==◌}
use Rattle.tsp_number.specs.Distances.{IsInSpace}
use Rattle.tsp_io.specs.Streams.{Sink, HasWritten}
use Rattle.tsp_io.specs.declared.piece.WriteFault.TheVariants as write_faults
use Rattle.tsp_format.specs.Limits.{most_tour_nodes}
use Rattle.tsp_format.specs.Nodes.{IsNode}
use Rattle.tsp_format.specs.declared.kinds.WeightKind.{WeightKind}
use Rattle.tsp_format.specs.declared.kinds.WeightKind.TheVariants.{Euc2d, Ceil2d, Man2d, Max2d, Att, Euc3d, Man3d, Max3d}
use Rattle.tsp_file.specs.Rules.{is_instance}
use Rattle.tsp_text.specs.declared.fault.ReadFault.TheVariants as read_faults
use Rattle.tsp_theory.specs.Tour.{length_of}
use Rattle.tsp_judge.specs.declared.bound_run.Bounded.{Bounded}

-- ---- the caller's buffer

-- The text's length is written. If the text fits, the buffer begins with it, and the result is its status; otherwise
-- the buffer is as it was, and the result is 6.
abbrev pub IsPlaced : List ℕ → ℕ → List ℕ → List ℕ → ℕ → ℕ → Type 0
IsPlaced text status old new written answer = (written ≡ length text)
    × (length text ≤ length old → (new ≡ text ++ drop (length text) old) × (answer ≡ status))
    × (length old < length text → (new ≡ old) × (answer ≡ 6))

-- a text and its status, for which P holds, are put into the buffer
abbrev pub PlacesText : (ℕ → List ℕ → Type 0) → List ℕ → List ℕ → ℕ → ℕ → Type 0
PlacesText P old new written answer = (status : ℕ) × (text : List ℕ) × P status text × IsPlaced text status old new written answer

-- ---- the choices of a caller, by numbers

-- the element with this number, counted from 1
abbrev pub nth : {X : Type 0} → ℕ → List X → Option X
nth number [] = None
nth zero (x ∷ xs) = None
nth (suc zero) (x ∷ xs) = Some x
nth (suc (suc number)) (x ∷ xs) = nth (suc number) xs

-- ---- how a run ends

-- the answer of a call that only does something: yes, once it is done
abbrev pub done : Result (Unit {0}) RunFault → Result Bool RunFault
done (Ok is) = Ok true
done (Err fault) = Err fault

-- the answer of a bound: whether no reason applies
abbrev pub bound_answer : Result Bounded RunFault → Result Bool RunFault
bound_answer (Ok bounded) = Ok (is_ok bounded.found)
bound_answer (Err fault) = Err fault

-- The fault of a call on texts. They are in memory and have no device, so a read or write that fails is out of memory.
abbrev pub without_devices : RunFault → RunFault
without_devices (File file read_faults.Device) = File file read_faults.OutOfMemory
without_devices (Write write_faults.Device) = Write write_faults.OutOfMemory
without_devices fault = fault

-- the line of a fault
abbrev pub fault_line : RunFault → List ℕ
fault_line fault = run_fault_text fault ++ 10 ∷ []

-- A run with a result ends with its status and with the text that was written; one without, with the status and the
-- line of its fault.
abbrev pub IsPrinted : Result Bool RunFault → List ℕ → ℕ → List ℕ → Type 0
IsPrinted (Ok answer) written status text = (status ≡ status_of (Ok answer)) × (text ≡ written)
IsPrinted (Err fault) written status text =
    (status ≡ status_of_fault (without_devices fault)) × (text ≡ fault_line (without_devices fault))

-- the same; if there is no memory for the line of the fault, the status is 3, without a text
abbrev pub EndsOnTexts : Result Bool RunFault → List ℕ → ℕ → List ℕ → Type 0
EndsOnTexts (Ok answer) written status text = (status ≡ status_of (Ok answer)) × (text ≡ written)
EndsOnTexts (Err fault) written status text =
    ((status ≡ status_of_fault (without_devices fault)) × (text ≡ fault_line (without_devices fault)))
    ⊎ ((status ≡ 3) × (text ≡ []))

-- the whole report was written, and the answer is the report's; or the writer has failed
abbrev pub Reports : Sink → List ℕ → Bool → Result Bool RunFault → Type 0
Reports sink report accepts (Ok answer) = HasWritten sink report × (answer ≡ accepts)
Reports sink report accepts (Err fault) = fault ≡ Write write_faults.Device

-- ---- the meaning of a status

-- Yes holds for the text if the answer is yes, No if it is no. Stops holds for a fault, and the text is its line.
abbrev pub SaysEnding : (List ℕ → Type 0) → (List ℕ → Type 0) → (RunFault → Type 0) → Result Bool RunFault → List ℕ → Type 0
SaysEnding Yes No Stops (Ok true) text = Yes text
SaysEnding Yes No Stops (Ok false) text = No text
SaysEnding Yes No Stops (Err fault) text = Stops fault × (text ≡ fault_line fault)

-- The status is that of some ending of the run, with its text. Or the run ends with a fault, and there is no memory for
-- its line: then the status is 3, and there is no text.
abbrev pub EndsWithText : (List ℕ → Type 0) → (List ℕ → Type 0) → (RunFault → Type 0) → ℕ → List ℕ → Type 0
EndsWithText Yes No Stops status text =
    ((ending : Result Bool RunFault) × (status ≡ status_of ending) × SaysEnding Yes No Stops ending text)
    ⊎ ((fault : RunFault) × Stops fault × (status ≡ 3) × (text ≡ []))

-- ---- the results of the calls that fill in numbers

-- ---- a buffer of numbers

-- The first `count` numbers of the buffer are these, in order, and the others are as they were.
pub record IsFilled (count : ℕ) (number : ℕ → ℤ) (old new : List ℤ) : Type 0 where
  pub size : length new ≡ length old
  pub filled : (k : ℕ) → k < count → slice_index_or new k (pos 0) ≡ number k
  pub others : (k : ℕ) → count ≤ k → slice_index_or new k (pos 0) ≡ slice_index_or old k (pos 0)

-- ---- an instance in memory

-- the text parses to this instance
abbrev pub IsInstanceText : List ℕ → Fields → Type 0
IsInstanceText text instance = ParsesTo text instance × IsTrue (is_instance instance.kind)

-- the instance of a text, or the fault by which it has none
abbrev pub FindsInstance : List ℕ → Result Fields RunFault → Type 0
FindsInstance text (Ok instance) = IsInstanceText text instance
FindsInstance text (Err fault) = IsUnopened text fault

-- a call ends with this fault: the status is the fault's, and nothing is filled in
abbrev pub StopsWith : {X : Type 0} → RunFault → X → X → ℕ → Type 0
StopsWith fault old new status = (status ≡ status_of_fault fault) × (new ≡ old)

-- The text is an instance, for which P holds; or the call ends with the fault of a text that is none.
abbrev pub OfInstance : {X : Type 0} → List ℕ → (Fields → Type 0) → X → X → ℕ → Type 0
OfInstance text P old new status = ((instance : Fields) × IsInstanceText text instance × P instance)
    ⊎ ((fault : RunFault) × IsUnopened text fault × StopsWith fault old new status)

-- ---- how many nodes

-- the status is 0, and the number of nodes is filled in
abbrev pub EndsCount : Fields → ℕ → ℕ → Type 0
EndsCount instance count status = (status ≡ 0) × (instance.dimension ≡ Some count)

-- the same for the instance that a text parses to
abbrev pub FillsCount : List ℕ → ℕ → ℕ → ℕ → Type 0
FillsCount text old new status = OfInstance text (λ instance. EndsCount instance new status) old new status

-- ---- a buffer that is filled for an instance

-- How a call ends that asks for numbers of an instance. 0: the buffer is filled. 4: the instance doesn't have them. 6:
-- the buffer has fewer than `least` places. At 4 and 6 the buffer is as it was.
abbrev pub EndsBuffer : Type 0 → ℕ → ℕ → (ℕ → ℤ) → List ℤ → List ℤ → ℕ → Type 0
EndsBuffer Asked least count number old new status =
    ((status ≡ 0) × Asked × (least ≤ length old) × IsFilled count number old new)
    ⊎ ((status ≡ 4) × (new ≡ old) × ¬ Asked)
    ⊎ ((status ≡ 6) × (new ≡ old) × Asked × (length old < least))

-- ---- costs of pairs

-- the numbers are pairs of nodes of 1..nodes
abbrev pub ArePairs : List ℕ → ℕ → Type 0
ArePairs pairs nodes = (length pairs ≡ 2 * (length pairs / 2)) × All (IsNode nodes) pairs

-- how many pairs there are
abbrev pub pair_count : List ℕ → ℕ
pair_count pairs = length pairs / 2

-- the cost from the first node of a pair to its second
abbrev pub pair_cost : List ℕ → Fields → ℕ → ℤ
pair_cost pairs instance k = cost instance (slice_index_or pairs (2 * k) 0) (slice_index_or pairs (2 * k + 1) 0)

-- the costs of these pairs
abbrev pub EndsWeights : Fields → List ℕ → List ℤ → List ℤ → ℕ → Type 0
EndsWeights instance pairs old new status =
    EndsBuffer (ArePairs pairs (nodes_of instance)) (pair_count pairs) (pair_count pairs) (pair_cost pairs instance)
    old new status

-- the same for the instance that a text parses to
abbrev pub FillsWeights : List ℕ → List ℕ → List ℤ → List ℤ → ℕ → Type 0
FillsWeights text pairs old new status = OfInstance text (λ instance. EndsWeights instance pairs old new status) old new status

-- ---- rows of the matrix

-- how many rows are filled in: as many whole ones as fit, from the first one on to the last one of the instance
abbrev pub row_count : ℕ → ℕ → ℕ → ℕ
row_count places nodes first = min (places / nodes) (nodes + 1 - first)

-- the cost from a node of these rows to each, row by row
abbrev pub row_cost : ℕ → Fields → ℕ → ℤ
row_cost first instance k = cost instance (first + k / nodes_of instance) (k % nodes_of instance + 1)

-- the costs of these rows
abbrev pub EndsMatrix : Fields → ℕ → List ℤ → List ℤ → ℕ → Type 0
EndsMatrix instance first old new status = EndsBuffer (IsNode (nodes_of instance) first) (nodes_of instance)
    (row_count (length old) (nodes_of instance) first * nodes_of instance) (row_cost first instance) old new status

-- the same for the instance that a text parses to
abbrev pub FillsMatrix : List ℕ → ℕ → List ℤ → List ℤ → ℕ → Type 0
FillsMatrix text first old new status = OfInstance text (λ instance. EndsMatrix instance first old new status) old new status

-- ---- lengths of lists of nodes

-- the lists with a node more at the beginning of the first one
abbrev pub onto_first_list : ℕ → List (List ℕ) → List (List ℕ)
onto_first_list node [] = []
onto_first_list node (list ∷ lists) = (node ∷ list) ∷ lists

-- the lists of nodes, each of which a 0 ends
abbrev pub lists_in : List ℕ → List (List ℕ)
lists_in [] = []
lists_in (node ∷ nodes) = cond (node == 0) ([] ∷ lists_in nodes) (onto_first_list node (lists_in nodes))

-- the nodes are of 1..count, not too many, and each list has its 0
abbrev pub AreLists : List ℕ → ℕ → Type 0
AreLists nodes count = (length nodes ≤ most_tour_nodes) × (slice_index_or nodes (length nodes - 1) 0 ≡ 0)
    × All (λ node. node ≤ count) nodes

-- how many lists there are
abbrev pub list_count : List ℕ → ℕ
list_count nodes = length (lists_in nodes)

-- the length of a list as a cycle
abbrev pub list_length : List ℕ → Fields → ℕ → ℤ
list_length nodes instance k = length_of (cost instance) (slice_index_or (lists_in nodes) k [])

-- the lengths of these lists
abbrev pub EndsLengths : Fields → List ℕ → List ℤ → List ℤ → ℕ → Type 0
EndsLengths instance nodes old new status =
    EndsBuffer (AreLists nodes (nodes_of instance)) (list_count nodes) (list_count nodes) (list_length nodes instance)
    old new status

-- the same for the instance that a text parses to
abbrev pub FillsLengths : List ℕ → List ℕ → List ℤ → List ℤ → ℕ → Type 0
FillsLengths text nodes old new status = OfInstance text (λ instance. EndsLengths instance nodes old new status) old new status

-- ---- coordinates of points

-- the points of NODE_COORD_SECTION for 1, of DISPLAY_DATA_SECTION for 2
abbrev pub section_points : ℕ → Fields → Option (List Point)
section_points (suc zero) file = file.coords
section_points (suc (suc zero)) file = file.display
section_points section file = None

-- the number is that of a section
abbrev pub IsSection : ℕ → Type 0
IsSection section = (1 ≤ section) × (section ≤ 2)

-- x for 0, y for 1, z for 2
abbrev pub coordinate : ℕ → Point → ℤ
coordinate zero point = point.x
coordinate (suc zero) point = point.y
coordinate (suc (suc axis)) point = point.z

-- the three coordinates of each node, node by node
abbrev pub point_number : List Point → ℕ → ℤ
point_number points k = coordinate (k % 3) (point_of points (k / 3 + 1))

-- How a call ends that asks for these points: 1 if the file has none in the section, otherwise 0 or 6 as above.
abbrev pub EndsPoints : Option (List Point) → List ℤ → List ℤ → ℕ → Type 0
EndsPoints None old new status = (status ≡ 1) × (new ≡ old)
EndsPoints (Some points) old new status =
    ((status ≡ 0) × (3 * length points ≤ length old) × IsFilled (3 * length points) (point_number points) old new)
    ⊎ ((status ≡ 6) × (new ≡ old) × (length old < 3 * length points))

-- the same for the file that a text parses to; 4 if there is no such section
abbrev pub FillsPoints : List ℕ → ℕ → List ℤ → List ℤ → ℕ → Type 0
FillsPoints text section old new status =
    (IsSection section × ((file : Fields) × ParsesTo text file × EndsPoints (section_points section file) old new status))
    ⊎ (IsSection section × ((fault : RunFault) × IsTextFault 1 text fault × StopsWith fault old new status))
    ⊎ ((status ≡ 4) × (new ≡ old) × ¬ IsSection section)

-- ---- distances

-- the weight types that are distances, by their numbers
abbrev pub distance_kinds : List WeightKind
distance_kinds = Euc2d ∷ Ceil2d ∷ Man2d ∷ Max2d ∷ Att ∷ Euc3d ∷ Man3d ∷ Max3d ∷ []

-- the distance of two points, whose coordinates are counts of 10^-9; -1 if no weight type has the number, or a
-- coordinate is no decimal
abbrev pub GivesDistance : ℕ → Point → Point → ℤ → Type 0
GivesDistance number a b result =
    ((kind : WeightKind) × (nth number distance_kinds ≡ Some kind) × IsInSpace a × IsInSpace b × (result ≡ distance kind a b))
    ⊎ ((result ≡ negsuc 0) × ((nth number distance_kinds ≡ None) ⊎ ¬ IsInSpace a ⊎ ¬ IsInSpace b))
