use Rattle.std.proofs.Common.{◌≡◌, map, take}
use Rattle.hq_load_index.specs.Keys.{cell_view as key_view}
use Rattle.hq_sql_tree.specs.Meaning.{World}
use Rattle.hq_sql_access.specs.KeySets.{link_keys}
use Rattle.hq_sql_access.specs.View.{scope_of}
use Rattle.hq_sql_scans.proofs.key_set.key_at.Given as goal

-- the cells of the expressions so far
abbrev pub invariant-loop-link : goal.invariant-loop-link
invariant-loop-link l = (w : World) → map key_view l.key.items ≡ link_keys (take l.link-index l.links) (scope_of l.scope w)
