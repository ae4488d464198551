-- What the parts of a copy in memory are seen as.
use Rattle.hq_copy_definition.specs.Extras as tree
use Rattle.hq_copy_definition.specs.Sources as copy
use Rattle.hq_copy_tables.specs.declared.extras.Extra.{Extra}
use Rattle.hq_copy_tables.specs.declared.extras.Extra.TheVariants as extra
use Rattle.hq_copy_tables.specs.declared.linked.Link.{Link}
use Rattle.hq_copy_tables.specs.declared.seen.Source.{Source}
use Rattle.hq_model.specs.Meta.{tracked_view}
use Rattle.hq_model.specs.PermView.{permission_view}

-- a table of the copy
abbrev pub source_view : Source → copy.Source
source_view o = record { entry = tracked_view o.entry.now; permission = permission_view o.permission }

-- a link
abbrev pub link_view : Link → copy.Link
link_view l = record { table = l.table; relationship = l.relationship }

-- an added column
abbrev pub extra_view : Extra → tree.Extra
extra_view (extra.From k l) = tree.from_end k (link_view l)
extra_view (extra.To k l) = tree.to_end k (link_view l)
extra_view extra.Position = tree.row_position
