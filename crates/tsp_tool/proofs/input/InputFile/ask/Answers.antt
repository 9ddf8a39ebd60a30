-- The goals of `InputFile::ask` in src/input.rt. The call is one read of the source, with what that gives.
use Rattle.std.proofs.Common.{refl, sym, subst}
use Rattle.tsp_tool.specs.declared.input.InputFile.{InputFile}
use Rattle.tsp_tool.specs.declared.input.InputFile.TheVariants.{Input, Opened}
use Rattle.tsp_tool.specs.states.InputFile.{IsAskedOnce}
use Rattle.tsp_tool.proofs.input.InputFile.ask.Goals as goal

-- plan: by the source: standard input or an opened file, whose call it is
pub returns-in-Input : goal.returns-in-Input
returns-in-Input g c = record {
  asked = subst (λ (old : InputFile _ _). IsAskedOnce g.OfInput.FnOnce c.args.of_input g.OfFile.FnOnce c.args.of_file
      old c.args.room.now c.of_input.result (Input c.of_input.new.arg2) c.of_input.new.arg3) (sym c.in-Input.is)
      (record {
        first = _;
        second = _;
        shows = (c.in-Input.input-is, refl);
        first_left = _;
        second_left = _;
        met = c.of_input.ensures;
        leaves = (refl, refl);
      });
}

pub returns-in-Opened : goal.returns-in-Opened
returns-in-Opened g c = record {
  asked = subst (λ (old : InputFile _ _). IsAskedOnce g.OfInput.FnOnce c.args.of_input g.OfFile.FnOnce c.args.of_file
      old c.args.room.now c.of_file.result (Opened c.of_file.new.arg2) c.of_file.new.arg3) (sym c.in-Opened.is)
      (record {
        first = _;
        second = _;
        shows = (c.in-Opened.file-is, refl);
        first_left = _;
        second_left = _;
        met = c.of_file.ensures;
        leaves = (refl, refl);
      });
}
