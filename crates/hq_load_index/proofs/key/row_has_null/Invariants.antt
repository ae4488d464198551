use Rattle.std.proofs.Common.{◌≡◌, drop}
use Rattle.hq_load_index.specs.Keys.{key_in, has_null}
use Rattle.hq_load_index.proofs.key.row_has_null.Given as goal

-- those that are left tell what all do
abbrev pub invariant-loop-column : goal.invariant-loop-column
invariant-loop-column l = has_null (key_in (drop l.column-index l.columns) l.row) ≡ has_null (key_in l.columns l.row)
