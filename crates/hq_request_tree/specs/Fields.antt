-- The fields of a typed request, without where they lie in memory (GraphQL October 2021, section 6.3.2: collected fields;
-- Hasura, Queries).
use Rattle.std.specs.Prelude.{ℕ, List, [], ◌∷◌, Option, Some, None}
use Rattle.hq_base.specs.declared.value.Val.{Val}
use Rattle.hq_model.specs.Selected.{ListArguments}
use Rattle.hq_request_tree.specs.Arguments.{arguments_view}
use Rattle.hq_request_tree.specs.Introspection.{IntrospectionTree, introspection_view}
use Rattle.hq_request_tree.specs.declared.aggregate.KeyedAggField.{KeyedAggField}
use Rattle.hq_request_tree.specs.declared.field.AggPart.{AggPart, fold-AggPart}
use Rattle.hq_request_tree.specs.declared.field.AggPart.TheOpen.{AggPart-F, AskField-F, KeyedAggPart-F, KeyedAskField-F}
use Rattle.hq_request_tree.specs.declared.field.AskField.{AskField, fold-AskField}
use Rattle.hq_request_tree.specs.declared.field.KeyedAggPart.{KeyedAggPart, fold-KeyedAggPart}
use Rattle.hq_request_tree.specs.declared.field.KeyedAskField.{KeyedAskField, fold-KeyedAskField}

-- where a list begins: at all rows of a table, as at the root, or at those behind an array relationship
pub data Origin : Type 0 where
  from_table : (table : ℕ) → Origin
  along : (relationship : ℕ) → Origin

-- where a list begins that names its table, and its relationship below the root
abbrev pub origin_of : (table : ℕ) → (relationship : Option ℕ) → Origin
origin_of t None = from_table t
origin_of t (Some r) = along r

mutual
  -- fields, each under its response key
  pub data FieldTrees : Type 0 where
    no_field : FieldTrees
    field : (key : List ℕ) → FieldTree → FieldTrees → FieldTrees

  pub data FieldTree : Type 0 where
    column : (column : ℕ) → FieldTree
    typename : (name : List ℕ) → FieldTree
    no_queries : FieldTree
    object : (relationship : ℕ) → FieldTrees → FieldTree
    list : Origin → ListArguments → FieldTrees → FieldTree
    by_key : (table : ℕ) → (key : List Val) → FieldTrees → FieldTree
    aggregate : Origin → ListArguments → PartTrees → FieldTree
    introspect : IntrospectionTree → FieldTree

  -- the fields of an aggregate, each under its response key
  pub data PartTrees : Type 0 where
    no_part : PartTrees
    part : (key : List ℕ) → PartTree → PartTrees → PartTrees

  pub data PartTree : Type 0 where
    summary : List KeyedAggField → PartTree
    nodes : FieldTrees → PartTree
    part_typename : (name : List ℕ) → PartTree

-- the fields of a list, and the parts of one
abbrev pub fields_of : List (List ℕ × FieldTree) → FieldTrees
fields_of [] = no_field
fields_of (f ∷ fs) = field f.0 f.1 (fields_of fs)

abbrev pub parts_of : List (List ℕ × PartTree) → PartTrees
parts_of [] = no_part
parts_of (p ∷ ps) = part p.0 p.1 (parts_of ps)

-- one level, whose parts are seen already
abbrev pub part_step : AggPart-F PartTree FieldTree (List ℕ × PartTree) (List ℕ × FieldTree) → PartTree
part_step (AggPart-F.Fields fs) = summary fs
part_step (AggPart-F.Nodes fs) = nodes (fields_of fs.items)
part_step (AggPart-F.«AggPart::Typename» name) = part_typename name

abbrev pub field_step : AskField-F PartTree FieldTree (List ℕ × PartTree) (List ℕ × FieldTree) → FieldTree
field_step (AskField-F.Column c) = column c
field_step (AskField-F.«AskField::Typename» name) = typename name
field_step AskField-F.NoQueries = no_queries
field_step (AskField-F.Object r fs) = object r (fields_of fs.items)
field_step (AskField-F.List t r args fs) = list (origin_of t r) (arguments_view args) (fields_of fs.items)
field_step (AskField-F.ByPk t key fs) = by_key t key (fields_of fs.items)
field_step (AskField-F.Aggregate t r args ps) = aggregate (origin_of t r) (arguments_view args) (parts_of ps.items)
field_step (AskField-F.Introspect f) = introspect (introspection_view f)

abbrev pub keyed_part_step : KeyedAggPart-F PartTree FieldTree (List ℕ × PartTree) (List ℕ × FieldTree) → List ℕ × PartTree
keyed_part_step p = (p.key, p.part)

abbrev pub keyed_field_step : KeyedAskField-F PartTree FieldTree (List ℕ × PartTree) (List ℕ × FieldTree) → List ℕ × FieldTree
keyed_field_step f = (f.key, f.field)

-- what each is seen as
abbrev pub field_view : AskField → FieldTree
field_view = fold-AskField PartTree FieldTree (List ℕ × PartTree) (List ℕ × FieldTree) part_step field_step keyed_part_step keyed_field_step

abbrev pub part_view : AggPart → PartTree
part_view = fold-AggPart PartTree FieldTree (List ℕ × PartTree) (List ℕ × FieldTree) part_step field_step keyed_part_step keyed_field_step

abbrev pub keyed_field_view : KeyedAskField → List ℕ × FieldTree
keyed_field_view = fold-KeyedAskField PartTree FieldTree (List ℕ × PartTree) (List ℕ × FieldTree) part_step field_step keyed_part_step keyed_field_step

abbrev pub keyed_part_view : KeyedAggPart → List ℕ × PartTree
keyed_part_view = fold-KeyedAggPart PartTree FieldTree (List ℕ × PartTree) (List ℕ × FieldTree) part_step field_step keyed_part_step keyed_field_step
