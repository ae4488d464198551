use Rattle.std.proofs.Common.{◌≡◌, ◌++◌, map, take}
use Rattle.hq_copy_tables.specs.Originals.{schema_in}
use Rattle.hq_copy_tables.specs.Views.{extra_view, source_view}
use Rattle.hq_copy.specs.Direct.{direct_value, rows_for}
use Rattle.hq_copy.specs.Lists.{lists_of}
use Rattle.hq_copy.proofs.row.push_extras.Given as goal

-- the values so far stand behind the others
abbrev pub invariant-loop-extra : goal.invariant-loop-extra
invariant-loop-extra l =
    l.values ≡ l.fn.values ++ map (direct_value (schema_in l.world.original.now) (rows_for (map source_view l.world.original.now.sources.now) (lists_of l.world.permitted.now)) l.at l.row)
    (map extra_view (take l.extra-index l.extras))
