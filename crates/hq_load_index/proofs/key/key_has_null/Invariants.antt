use Rattle.std.proofs.Common.{◌≡◌, drop, map}
use Rattle.hq_load_index.specs.Keys.{cell_view, has_null}
use Rattle.hq_load_index.proofs.key.key_has_null.Given as goal

-- those that are left tell what all do
abbrev pub invariant-loop-cell : goal.invariant-loop-cell
invariant-loop-cell l = has_null (map cell_view (drop l.cell-index l.key)) ≡ has_null (map cell_view l.key)
