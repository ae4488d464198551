-- What a permission handed out is seen as.
use Rattle.std.specs.Prelude.{map}
use Rattle.hq_model.specs.Bexp.{bexp_view}
use Rattle.hq_model.specs.Permission.{Mask, Permission}
use Rattle.hq_model.specs.declared.perm.Mask.{Mask as DeclaredMask}
use Rattle.hq_model.specs.declared.perm.PermView.{PermView}

-- a mask: its column, and the rows for which that shows
abbrev pub mask_view : DeclaredMask → Mask
mask_view m = record { column = m.col; shown = bexp_view m.shown }

-- its columns, filter, limit, aggregates and masks
abbrev pub permission_view : PermView → Permission
permission_view p = record {
  columns = p.cols;
  filter = bexp_view p.filter;
  limit = p.limit;
  aggregations = p.aggregations;
  masks = map mask_view p.masks.items;
}
