use Rattle.std.proofs.Common.{◌≡◌, ◌++◌, map, take}
use Rattle.hq_copy_definition.specs.Extras.{extra_column}
use Rattle.hq_copy_tables.specs.Views.{extra_view}
use Rattle.hq_copy_tables.proofs.columns.push_extras.Given as goal

-- the added columns so far stand behind the others
abbrev pub invariant-loop-extra : goal.invariant-loop-extra
invariant-loop-extra l =
    l.columns ≡ l.fn.columns ++ map extra_column (map extra_view (take l.extra-index l.extras))
