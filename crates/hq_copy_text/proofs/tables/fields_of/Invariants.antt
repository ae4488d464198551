use Rattle.std.proofs.Common.{◌≡◌, map, take}
use Rattle.hq_laws_written.specs.Tables.Written.{field_of}
use Rattle.hq_copy_text.proofs.tables.fields_of.Given as goal

-- the fields so far
abbrev pub invariant-loop-value : goal.invariant-loop-value
invariant-loop-value l =
    l.fields.items ≡ map field_of (take l.value-index l.row)
