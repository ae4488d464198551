use Rattle.std.proofs.Common.{◌≡◌, ◌++◌, map, take}
use Rattle.hq_copy_definition.specs.Extras.{extra_name}
use Rattle.hq_copy_tables.specs.Views.{extra_view}
use Rattle.hq_copy_tables.proofs.metadata.push_names.Given as goal

-- the names so far stand behind the others
abbrev pub invariant-loop-extra : goal.invariant-loop-extra
invariant-loop-extra l =
    l.names ≡ l.fn.names ++ map extra_name (map extra_view (take l.extra-index l.extras))
