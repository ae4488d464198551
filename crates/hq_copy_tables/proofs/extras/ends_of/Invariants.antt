use Rattle.std.proofs.Common.{◌≡◌, ◌++◌, map, drop, suc}
use Rattle.hq_copy_definition.specs.Extras.{ends_from, ends_of}
use Rattle.hq_copy_tables.specs.Originals.{meta_in, role_in, schema_in}
use Rattle.hq_copy_tables.specs.Views.{extra_view, link_view}
use Rattle.hq_copy_tables.proofs.extras.ends_of.Given as goal

-- those so far, and then those of the links that are left
abbrev pub invariant-loop-at : goal.invariant-loop-at
invariant-loop-at l =
    map extra_view l.ends.items ++ ends_from (schema_in l.original) l.t (suc l.at) (map link_view (drop l.at l.links)) ≡ ends_of (role_in l.original) (meta_in l.original) (schema_in l.original) l.t
