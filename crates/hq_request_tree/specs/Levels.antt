-- How deep the fields of a request stand in one another.
use Rattle.std.specs.Prelude.{ℕ, suc, max, List, [], ◌∷◌}
use Rattle.hq_request_tree.specs.Fields.{FieldTrees, no_field, field, FieldTree, column, typename, no_queries, object, list, by_key, aggregate, introspect, PartTrees, no_part, part, PartTree, summary, nodes, part_typename}
use Rattle.hq_request_tree.specs.Introspection.{IntrospectionTree, look, IntrospectionTrees, no_look, looks}
use Rattle.hq_request_tree.specs.declared.aggregate.AggField.{AggField}
use Rattle.hq_request_tree.specs.declared.aggregate.AggField.TheVariants as take
use Rattle.hq_request_tree.specs.declared.aggregate.KeyedAggCol.{KeyedAggCol}
use Rattle.hq_request_tree.specs.declared.aggregate.KeyedAggField.{KeyedAggField}

-- fields of introspection, of which those without fields of their own are one deep
abbrev mutual
  pub look_levels : IntrospectionTree → ℕ
  look_levels (look name type_name deprecated fs) = suc (looks_levels fs)

  pub looks_levels : IntrospectionTrees → ℕ
  looks_levels no_look = 0
  looks_levels (looks key f fs) = max (look_levels f) (looks_levels fs)

-- the columns of an aggregate
abbrev pub taken_levels : List KeyedAggCol → ℕ
taken_levels [] = 0
taken_levels (c ∷ cs) = 1

-- the fields of aggregate
abbrev pub one_summary_levels : AggField → ℕ
one_summary_levels (take.Count c distinct) = 1
one_summary_levels (take.Columns a cs) = suc (taken_levels cs)
one_summary_levels (take.Typename name) = 1

abbrev pub summary_levels : List KeyedAggField → ℕ
summary_levels [] = 0
summary_levels (f ∷ fs) = max (one_summary_levels f.field) (summary_levels fs)

-- the greatest number of fields that stand in one another
abbrev mutual
  pub levels : FieldTrees → ℕ
  levels no_field = 0
  levels (field key f fs) = max (field_levels f) (levels fs)

  pub field_levels : FieldTree → ℕ
  field_levels (column c) = 1
  field_levels (typename name) = 1
  field_levels no_queries = 1
  field_levels (object r fs) = suc (levels fs)
  field_levels (list o a fs) = suc (levels fs)
  field_levels (by_key u key fs) = suc (levels fs)
  field_levels (aggregate o a ps) = suc (part_levels ps)
  field_levels (introspect f) = look_levels f

  pub part_levels : PartTrees → ℕ
  part_levels no_part = 0
  part_levels (part key p ps) = max (one_part_levels p) (part_levels ps)

  pub one_part_levels : PartTree → ℕ
  one_part_levels (summary fs) = suc (summary_levels fs)
  one_part_levels (nodes fs) = suc (levels fs)
  one_part_levels (part_typename name) = 1
