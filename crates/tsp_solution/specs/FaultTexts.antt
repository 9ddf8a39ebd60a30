-- The texts of the faults of solutions. For src/fault.rt; tsp_tool prints them. tsp_c imports it, too.
use Rattle.std.specs.Prelude.{ℕ, List, codes, decimal, ◌++◌}
use Rattle.tsp_io.specs.Streams.{write_fault_text}
use Rattle.tsp_text.specs.ParsesTo.{read_fault_text}
use Rattle.tsp_solution.specs.declared.fault.FormFault.{FormFault}
use Rattle.tsp_solution.specs.declared.fault.FormFault.TheVariants.{NoForm, Ambiguous, NoInstance, NotATour, NotAnInstance, NotANode, OutOfRange, TooManyNodes, NoNodes, UnknownLine, NotClosed, WrongCount, NotTwoEdges, SeveralCycles, TooManyColumns, NoDepot, BadJson, TooDeep, NoList, SeveralLists}
use Rattle.tsp_solution.specs.declared.fault.SolutionFault.{SolutionFault}
use Rattle.tsp_solution.specs.declared.fault.SolutionFault.TheVariants.{Place, File, OutOfMemory}
use Rattle.tsp_solution.specs.declared.solution_writer.SolutionRunFault.{SolutionRunFault}
use Rattle.tsp_solution.specs.declared.solution_writer.SolutionRunFault.TheVariants as runs

-- the name of a fault at a word
abbrev pub form_fault_text : FormFault → List ℕ
form_fault_text NoForm = codes "NoForm"
form_fault_text Ambiguous = codes "Ambiguous"
form_fault_text NoInstance = codes "NoInstance"
form_fault_text NotATour = codes "NotATour"
form_fault_text NotAnInstance = codes "NotAnInstance"
form_fault_text NotANode = codes "NotANode"
form_fault_text OutOfRange = codes "OutOfRange"
form_fault_text TooManyNodes = codes "TooManyNodes"
form_fault_text NoNodes = codes "NoNodes"
form_fault_text UnknownLine = codes "UnknownLine"
form_fault_text NotClosed = codes "NotClosed"
form_fault_text WrongCount = codes "WrongCount"
form_fault_text NotTwoEdges = codes "NotTwoEdges"
form_fault_text SeveralCycles = codes "SeveralCycles"
form_fault_text TooManyColumns = codes "TooManyColumns"
form_fault_text NoDepot = codes "NoDepot"
form_fault_text BadJson = codes "BadJson"
form_fault_text TooDeep = codes "TooDeep"
form_fault_text NoList = codes "NoList"
form_fault_text SeveralLists = codes "SeveralLists"

-- what the fault means, in a sentence or two
abbrev pub form_fault_sentence : FormFault → List ℕ
form_fault_sentence NoForm = codes "The text has none of the forms that tsp solution --forms prints."
form_fault_sentence Ambiguous = codes "The numbers can be read in two ways. Name the instance with --of, the form with --form,\nor with --first 0 or 1 whether the numbers are customers or nodes."
form_fault_sentence NoInstance = codes "Routes of LKH-3 are read if you name their instance with --of."
form_fault_sentence NotATour = codes "The file has another TYPE than TOUR."
form_fault_sentence NotAnInstance = codes "The file that --of names is no instance: its TYPE isn't TSP, ATSP or CVRP."
form_fault_sentence NotANode = codes "The word isn't the number of a node or a customer."
form_fault_sentence OutOfRange = codes "The number is larger than that of any node."
form_fault_sentence TooManyNodes = codes "A file of TYPE TOUR has at most 1,000,000 nodes, from 1 to 100,000."
form_fault_sentence NoNodes = codes "There are no nodes."
form_fault_sentence UnknownLine = codes "The line is no route. Besides routes, a file may have a cost, comments with #, and lines NAME: VALUE."
form_fault_sentence NotClosed = codes "A walk begins and ends at the depot, and all walks at the same one."
form_fault_sentence WrongCount = codes "There are more or fewer lines or nodes than the first line says."
form_fault_sentence NotTwoEdges = codes "In a tour each node has two edges, and this is the node's third."
form_fault_sentence SeveralCycles = codes "The edges are more than one cycle."
form_fault_sentence TooManyColumns = codes "A table has a column of nodes, and at most one more, of their positions."
form_fault_sentence NoDepot = codes "No number is the depot or a copy of it."
form_fault_sentence BadJson = codes "The text isn't JSON from here on."
form_fault_sentence TooDeep = codes "Values of JSON are nested at most 64 deep."
form_fault_sentence NoList = codes "The JSON has no list of nodes or routes."
form_fault_sentence SeveralLists = codes "The JSON has a second list, so that it isn't clear which one is the solution."

-- why a text isn't read as a solution
abbrev pub solution_fault_text : SolutionFault → List ℕ
solution_fault_text (Place line word fault) =
    codes "line " ++ decimal line ++ codes " word " ++ decimal word ++ codes ": " ++ form_fault_text fault
solution_fault_text (File fault) = read_fault_text fault
solution_fault_text OutOfMemory = codes "out of memory"

-- why no solution was written whole
abbrev pub solution_run_fault_text : SolutionRunFault → List ℕ
solution_run_fault_text (runs.File file fault) = codes "file " ++ decimal file ++ codes ": " ++ solution_fault_text fault
solution_run_fault_text (runs.Write fault) = codes "output: " ++ write_fault_text fault
