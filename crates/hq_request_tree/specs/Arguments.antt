-- The arguments of a list, without where they lie in memory.
use Rattle.std.specs.Prelude.{map}
use Rattle.hq_model.specs.Bexp.{bexp_view}
use Rattle.hq_model.specs.Selected.{SortKey, ListArguments}
use Rattle.hq_request_tree.specs.declared.arguments.Args.{Args}
use Rattle.hq_request_tree.specs.declared.arguments.Sort.{Sort}

-- what an entry of order_by is seen as
abbrev pub sort_view : Sort → SortKey
sort_view k = record { through = k.through; column = k.col; desc = k.desc; nulls_first = k.nulls_first }

-- what arguments are seen as
abbrev pub arguments_view : Args → ListArguments
arguments_view a = record {
  wanted = bexp_view a.filter;
  sorts = map sort_view a.sorts;
  distinct = a.distinct;
  limit = a.limit;
  offset = a.offset;
}
