-- A `__typename` has the name of the type that it stands in (GraphQL October 2021, 4.4: type name introspection; Hasura, API
-- reference: GraphQL API).
use Rattle.std.specs.Prelude.{◌≡◌, ℕ, List, [], ◌∷◌, ◌++◌, true, bytes_eq, codes, option_map, unwrap_or}
use Rattle.hq_base.specs.Aggregates.{aggregate_suffix}
use Rattle.hq_model.specs.Meta.{MetaTree, tracked_table}
use Rattle.hq_model.specs.Schema.{Schema}
use Rattle.hq_request_tree.specs.Everywhere.{FromRoot}
use Rattle.hq_request_tree.specs.Fields.{FieldTrees, FieldTree, column, typename, no_queries, object, list, by_key, aggregate, introspect, PartTree, summary, nodes, part_typename}
use Rattle.hq_request_tree.specs.declared.aggregate.AggCol.{AggCol}
use Rattle.hq_request_tree.specs.declared.aggregate.AggCol.TheVariants as of
use Rattle.hq_request_tree.specs.declared.aggregate.AggField.{AggField}
use Rattle.hq_request_tree.specs.declared.aggregate.AggField.TheVariants as take
use Rattle.hq_request_tree.specs.declared.aggregate.KeyedAggCol.{KeyedAggCol}
use Rattle.hq_request_tree.specs.declared.aggregate.KeyedAggField.{KeyedAggField}

-- two names are equal
abbrev pub SameName : (name wanted : List ℕ) → Type 0
SameName name wanted = bytes_eq name wanted ≡ true

-- the name of a table's type
abbrev pub row_type_name : MetaTree → ℕ → List ℕ
row_type_name m t = unwrap_or (option_map (λ k. k.name) (tracked_table m t)) []

-- the columns of an aggregate, whose type has this name
abbrev pub OneTakenNamed : (type : List ℕ) → AggCol → Type 0
OneTakenNamed type (of.Column c) = Unit {0}
OneTakenNamed type (of.Typename name) = SameName name type

abbrev pub TakenNamed : (type : List ℕ) → List KeyedAggCol → Type 0
TakenNamed type [] = Unit {0}
TakenNamed type (c ∷ cs) = OneTakenNamed type c.field × TakenNamed type cs

-- the fields of aggregate, where the table's type has this name
abbrev pub OneSummaryNamed : (row_type : List ℕ) → AggField → Type 0
OneSummaryNamed n (take.Count c distinct) = Unit {0}
OneSummaryNamed n (take.Columns a cs) = TakenNamed (n ++ aggregate_suffix a) cs
OneSummaryNamed n (take.Typename name) = SameName name (n ++ codes "_aggregate_fields")

abbrev pub SummaryNamed : (row_type : List ℕ) → List KeyedAggField → Type 0
SummaryNamed n [] = Unit {0}
SummaryNamed n (f ∷ fs) = OneSummaryNamed n f.field × SummaryNamed n fs

-- a root field
abbrev pub RootNamed : FieldTree → Type 0
RootNamed (column c) = Unit {0}
RootNamed (typename name) = SameName name (codes "query_root")
RootNamed no_queries = Unit {0}
RootNamed (object r fs) = Unit {0}
RootNamed (list o a fs) = Unit {0}
RootNamed (by_key u key fs) = Unit {0}
RootNamed (aggregate o a ps) = Unit {0}
RootNamed (introspect f) = Unit {0}

-- a field at a row of table t
abbrev pub FieldNamed : MetaTree → (t : ℕ) → FieldTree → Type 0
FieldNamed m t (column c) = Unit {0}
FieldNamed m t (typename name) = SameName name (row_type_name m t)
FieldNamed m t no_queries = Unit {0}
FieldNamed m t (object r fs) = Unit {0}
FieldNamed m t (list o a fs) = Unit {0}
FieldNamed m t (by_key u key fs) = Unit {0}
FieldNamed m t (aggregate o a ps) = Unit {0}
FieldNamed m t (introspect f) = Unit {0}

-- a part of an aggregate over rows of table u
abbrev pub PartNamed : MetaTree → (u : ℕ) → PartTree → Type 0
PartNamed m u (summary fs) = SummaryNamed (row_type_name m u) fs
PartNamed m u (nodes fs) = Unit {0}
PartNamed m u (part_typename name) = SameName name (row_type_name m u ++ codes "_aggregate")

-- each type name of a request
abbrev pub AllNamed : FieldTrees → MetaTree → Schema → (root : ℕ) → Type 0
AllNamed fs m s root = FromRoot RootNamed (FieldNamed m) (PartNamed m) fs s root
