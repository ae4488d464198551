use Rattle.std.proofs.Common.{◌≤◌, map, take}
use Rattle.std.specs.List.{concat}
use Rattle.std.specs.Io.KnownBytes.{Appends}
use Rattle.hq_load.specs.Line.{part_text}
use Rattle.hq_load.proofs.parts.write_parts.Given as goal

-- the parts so far were written, and no count fell
abbrev pub invariant-loop-part : goal.invariant-loop-part
invariant-loop-part g l = record {
  written : Appends (g.K.Sink.written l.fn.out) (g.K.Sink.written l.out) (concat (map part_text (take l.part-index l.parts)));
  later : g.K.Sink.faults l.fn.out ≤ g.K.Sink.faults l.out;
}
