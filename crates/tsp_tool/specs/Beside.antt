-- Opened files that aren't a standard stream: src/input.rt promises that it opens each file so. If a standard stream was
-- closed before the start, the system gives its number to the next file, which would be read as standard input.
use Rattle.std.specs.Prelude.{ℤ, pos, ◌<ℤ◌}
use Rattle.std.specs.Fd.{file_raw_fd}
use Rattle.std.specs.declared.fs.File.{File}
use Rattle.tsp_tool.specs.declared.input.InputFile.{InputFile}
use Rattle.tsp_tool.specs.declared.input.InputFile.TheVariants.{Input, Opened, Missing}

-- the number of the file's descriptor is above 2, which is that of standard error
abbrev pub IsBesideStreams : File → Type 0
IsBesideStreams file = pos 2 <ℤ file_raw_fd file

-- a file that was opened isn't a standard stream
abbrev pub IsBeside : {I : Type 0} → InputFile I File → Type 0
IsBeside (Input input) = Unit {0}
IsBeside (Opened file) = IsBesideStreams file
IsBeside (Missing error) = Unit {0}
