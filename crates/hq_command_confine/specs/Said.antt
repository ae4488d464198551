-- A line as what is to be written.
use Rattle.std.specs.Prelude.{Some}
use Rattle.hq_command.specs.Ending.{Output}
use Rattle.hq_command_confine.specs.declared.judging.Said.{Said}

abbrev pub said_view : Said → Output
said_view said = record { done = said.done; bytes = Some said.line }
