-- The names of the forms of solutions, and their table. For src/form.rt; tsp_tool and tsp_c take the names and numbers
-- from here.
use Rattle.std.specs.List.{flat_map}
use Rattle.std.specs.Prelude.{◌≡◌, ◌≢◌, ◌++◌, ◌∷◌, ℕ, List, [], length, drop, Option, None, Some, codes}
use Rattle.tsp_solution.specs.declared.form.Form.{Form}
use Rattle.tsp_solution.specs.declared.form.Form.TheVariants.{Tour, Json, OrTools, Cvrplib, LkhRoutes, RTour, ConcordeEdges, ConcordeTour, Table, List as NodeList}

-- the name of a form
abbrev pub form_word : Form → List ℕ
form_word Tour = codes "tour"
form_word Json = codes "json"
form_word OrTools = codes "ortools"
form_word Cvrplib = codes "cvrplib"
form_word LkhRoutes = codes "lkh"
form_word RTour = codes "r"
form_word ConcordeEdges = codes "concorde-edges"
form_word ConcordeTour = codes "concorde"
form_word Table = codes "table"
form_word NodeList = codes "list"

-- the form has this name, or no form has
abbrev pub IsFormOf : List ℕ → Option Form → Type 0
IsFormOf word (Some form) = word ≡ form_word form
IsFormOf word None = (form : Form) → word ≢ form_word form

-- ---- the table that `tsp solution --forms` prints

-- what tells the form from those after it
abbrev pub form_mark : Form → List ℕ
form_mark Tour = codes "a line TYPE or TOUR_SECTION"
form_mark Json = codes "begins with { or [, and is JSON"
form_mark OrTools = codes "a line of nodes with -> between them"
form_mark Cvrplib = codes "a line that begins with Route and has a colon"
form_mark LkhRoutes = codes "a line with (#"
form_mark RTour = codes "begins with [1]"
form_mark ConcordeEdges = codes "a first line of two equal numbers"
form_mark ConcordeTour = codes "a first line with the number of nodes"
form_mark Table = codes "lines of two numbers, one of them the position"
form_mark NodeList = codes "other numbers"

-- what is read of the form
abbrev pub form_content : Form → List ℕ
form_content Tour = codes "a file of TYPE TOUR; with --of, LKH-3's copies of the depot too"
form_content Json = codes "a list of nodes or routes, alone or in an object, such as VRPLIB's"
form_content OrTools = codes "what OR-Tools' examples print; nodes count from 0"
form_content Cvrplib = codes "routes of CVRPLIB and PyVRP; customers count from 1"
form_content LkhRoutes = codes "LKH-3's MTSP_SOLUTION_FILE; needs --of"
form_content RTour = codes "what R prints for as.integer(tour); nodes count from 1"
form_content ConcordeEdges = codes "the edges of Concorde's tour; nodes count from 0"
form_content ConcordeTour = codes "Concorde's tour; nodes count from 0"
form_content Table = codes "nodes by position, below a line of names or without one"
form_content NodeList = codes "a list of nodes, such as Concorde's cycles and numpy's"

-- a line of two columns, the first 16 bytes wide
abbrev pub form_row : List ℕ → List ℕ → List ℕ
form_row name words = name ++ (drop (length name) (codes "                ") ++ (words ++ 10 ∷ []))

-- the two lines of a form
abbrev pub rows_of_form : Form → List ℕ
rows_of_form form = form_row (form_word form) (form_mark form) ++ form_row [] (form_content form)

-- each form, in the order in which they are tried
abbrev pub all_forms : List Form
all_forms = Tour ∷ Json ∷ OrTools ∷ Cvrplib ∷ LkhRoutes ∷ RTour ∷ ConcordeEdges ∷ ConcordeTour ∷ Table ∷ NodeList ∷ []

-- the table of the forms
abbrev pub forms_table : List ℕ
forms_table = flat_map rows_of_form all_forms
