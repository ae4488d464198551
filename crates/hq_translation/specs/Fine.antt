-- What a request and a catalog must be, that each part of the statement has its type in scope.
use Rattle.std.specs.Prelude.{◌≡◌, ℕ, ◌<◌, ◌≤◌, ◌^◌, ◌+◌, List, [], ◌∷◌, length, map, Bool, true, ◌&&◌, ◌||◌, ◌==◌, Some, None, bytes_eq, codes, slice_index_or}
use Rattle.std.specs.List.{list_all}
use Rattle.hq_base.specs.Aggregates.{is_aggregate_of}
use Rattle.hq_base.specs.Lists.{all_differ, Each}
use Rattle.hq_base.specs.declared.aggregate.Aggregate.{Aggregate}
use Rattle.hq_base.specs.declared.value.Ty.{Ty}
use Rattle.hq_base.specs.declared.value.Ty.TheVariants.{Opaque}
use Rattle.hq_base.specs.declared.value.Val.{Val}
use Rattle.hq_model.specs.Bexp.{BexpTree, always, and_of, or_of, not_of, test, through, exists_in, two_columns, BexpTrees, no_bexp, bexp, operands_of}
use Rattle.hq_model.specs.Catalog.{is_catalog}
use Rattle.hq_model.specs.Meta.{MetaTree}
use Rattle.hq_model.specs.Permission.{Mask}
use Rattle.hq_model.specs.Schema.{Schema, schema_of, table, rel, no_column}
use Rattle.hq_model.specs.Selected.{SortKey, ListArguments, entries}
use Rattle.hq_model.specs.declared.meta.Pair.{Pair}
use Rattle.hq_model.specs.Tests.{arity}
use Rattle.hq_model.specs.declared.bexp.Operand.{Operand}
use Rattle.hq_model.specs.declared.bexp.Operand.TheVariants.{Const}
use Rattle.hq_model.specs.declared.op.Op.TheVariants.{Eq}
use Rattle.hq_model.specs.declared.table.Column.{Column}
use Rattle.hq_model.specs.declared.table.Table.{Table}
use Rattle.hq_model.specs.declared.test.Test.{Test}
use Rattle.hq_model.specs.declared.test.Test.TheVariants.{Compare}
use Rattle.hq_request_tree.specs.Fields.{Origin, from_table, along, FieldTrees, no_field, field, FieldTree, column, typename, no_queries, object, list, by_key, aggregate, introspect, PartTrees, no_part, part, PartTree, summary, nodes, part_typename}
use Rattle.hq_request_tree.specs.Resolve.{origin_table}
use Rattle.hq_request_tree.specs.ResponseKeys.{keys_of, part_keys}
use Rattle.hq_request_tree.specs.declared.aggregate.AggCol.{AggCol}
use Rattle.hq_request_tree.specs.declared.aggregate.AggCol.TheVariants as of
use Rattle.hq_request_tree.specs.declared.aggregate.AggField.{AggField}
use Rattle.hq_request_tree.specs.declared.aggregate.AggField.TheVariants as take
use Rattle.hq_request_tree.specs.declared.aggregate.KeyedAggCol.{KeyedAggCol}
use Rattle.hq_request_tree.specs.declared.aggregate.KeyedAggField.{KeyedAggField}
use Rattle.hq_sql_tree.specs.Tree as sql
use Rattle.hq_sql_tree.specs.WellFormed.{text, Aliases, Kind, Names, kind_of_type, compare_kinds, is_typed_test, is_typed}
use Rattle.hq_translation.specs.Looks.{tested_form, is_used}
use Rattle.hq_translation.specs.Conditions.{literals_for}
use Rattle.hq_translation.specs.GrantedTables.{GrantedTables}
use Rattle.hq_translation.specs.Lists.{once, list_sorts}
use Rattle.hq_translation.specs.Aggregates.{needed}
use Rattle.hq_translation.specs.Fields.{fields_numbers}
use Rattle.hq_translation.specs.Statement.{statement}

-- ---- columns

-- the columns of a table with their kinds
abbrev pub kinds_of : List Column → Names
kinds_of columns = map (λ c. (c.name, Some (kind_of_type c.ty))) columns

abbrev pub Known : Schema → (t : ℕ) → Type 0
Known s t = t < length s

abbrev pub Has : Schema → (t c : ℕ) → Type 0
Has s t c = c < length (table s t).columns

abbrev pub type_of : Schema → (t c : ℕ) → Ty
type_of s t c = (slice_index_or (table s t).columns c no_column).ty

abbrev pub kind_of : Schema → (t c : ℕ) → Kind
kind_of s t c = kind_of_type (type_of s t c)

-- the kind of a column as it is compared: of one that is written by its text, a text
abbrev pub compared_kind : Ty → Kind
compared_kind Opaque = text
compared_kind ty = kind_of_type ty

abbrev pub compared_kind_of : Schema → (t c : ℕ) → Kind
compared_kind_of s t c = compared_kind (type_of s t c)

-- ---- conditions

-- one alias alone, with one column of a type
abbrev pub column_alone : Ty → Aliases
column_alone ty = (codes "t", (codes "c", Some (kind_of_type ty)) ∷ []) ∷ []

-- a test of a column of a type has its types with these operands
abbrev pub TestFits : Test → Ty → List Operand → Type 0
TestFits t ty vs = is_typed_test (column_alone ty) (sql.column (codes "t") (codes "c") (tested_form t ty)) t (literals_for ty (arity t) vs) ≡ true

-- the columns of a pair are the tables' and can be compared
abbrev pub FinePair : Schema → (t u : ℕ) → Pair → Type 0
FinePair s t u p = Has s t p.own × Has s u p.remote × (compare_kinds (Some (compared_kind_of s u p.remote)) (Some (compared_kind_of s t p.own)) ≡ true)

abbrev pub FineRel : Schema → (t r : ℕ) → Type 0
FineRel s t r = Known s (rel s t r).remote × Each (FinePair s t (rel s t r).remote) (rel s t r).pairs

abbrev mutual
  pub FineBexp : BexpTree → Schema → (t : ℕ) → Type 0
  FineBexp always s t = Unit {0}
  FineBexp (and_of bs) s t = FineBexps bs s t
  FineBexp (or_of bs) s t = FineBexps bs s t
  FineBexp (not_of b) s t = FineBexp b s t
  FineBexp (test c tested vs negated) s t = Has s t c × TestFits tested (type_of s t c) (operands_of vs)
  FineBexp (through r b) s t = FineRel s t r × FineBexp b s (rel s t r).remote
  FineBexp (exists_in u b) s t = Known s u × FineBexp b s u
  FineBexp (two_columns l op r) s t = Has s t l × Has s t r × (compare_kinds (Some (compared_kind_of s t l)) (Some (compared_kind_of s t r)) ≡ true)

  pub FineBexps : BexpTrees → Schema → (t : ℕ) → Type 0
  FineBexps no_bexp s t = Unit {0}
  FineBexps (bexp b bs) s t = FineBexp b s t × FineBexps bs s t

abbrev pub FineMask : Schema → (t : ℕ) → Mask → Type 0
FineMask s t m = Has s t m.column × FineBexp m.shown s t

-- what is granted of a table fits it
pub record FineGranted (s : Schema) (g : GrantedTables) (t : ℕ) : Type 0 where
  pub filter : FineBexp (g.filter t) s t
  pub masks : Each (FineMask s t) (g.masks t)

-- ---- lists

abbrev pub FineChain : (through : List ℕ) → Schema → (t c : ℕ) → Type 0
FineChain [] s t c = Has s t c
FineChain (r ∷ rs) s t c = FineRel s t r × FineChain rs s (rel s t r).remote c

-- the entries begin with some that are plain columns, and as a set the distinct ones; those in front are among them
abbrev pub begin_columns : (distinct front : List ℕ) → List SortKey → Bool
begin_columns distinct front [] = list_all (λ c. is_used c front) distinct
begin_columns distinct front (k ∷ ks) =
    list_all (λ c. is_used c front) distinct
    || ((length k.through == 0) && is_used k.column distinct && begin_columns distinct (k.column ∷ front) ks)

-- the arguments of a list of rows of table t
pub record FineArguments (s : Schema) (t : ℕ) (a : ListArguments) : Type 0 where
  pub wanted : FineBexp a.wanted s t
  pub sorts : Each (λ k. FineChain k.through s t k.column) a.sorts
  pub distinct : Each (Has s t) (once a).distinct
  pub begins : begin_columns (once a).distinct [] (entries (once a)) ≡ true
  pub few : length (list_sorts s t a) ≤ 2 ^ 64

abbrev pub FineOrigin : Origin → Schema → (t : ℕ) → Type 0
FineOrigin (from_table u) s t = Known s u
FineOrigin (along r) s t = FineRel s t r

-- the values of a key
abbrev pub FineKey : Schema → (t : ℕ) → List ℕ → List Val → Type 0
FineKey s t [] vs = Unit {0}
FineKey s t (c ∷ cs) [] = Unit {0}
FineKey s t (c ∷ cs) (v ∷ vs) = TestFits (Compare Eq) (type_of s t c) (Const v ∷ []) × FineKey s t cs vs

-- ---- aggregates

-- a column of an aggregate, of a type over whose values this is taken
abbrev pub FineTaken : Aggregate → Schema → (t : ℕ) → AggCol → Type 0
FineTaken a s t (of.Column c) = Has s t c × (is_aggregate_of a (type_of s t c) ≡ true)
FineTaken a s t (of.Typename name) = Unit {0}

abbrev pub FineTakens : Aggregate → Schema → (t : ℕ) → List KeyedAggCol → Type 0
FineTakens a s t ks = Each (λ k. FineTaken a s t k.field) ks × (all_differ bytes_eq (map (λ k. k.key) ks) ≡ true)

abbrev pub FineSummary : Schema → (t : ℕ) → AggField → Type 0
FineSummary s t (take.Count None distinct) = Unit {0}
FineSummary s t (take.Count (Some c) distinct) = Has s t c
FineSummary s t (take.Columns a ks) = FineTakens a s t ks
FineSummary s t (take.Typename name) = Unit {0}

-- the fields of aggregate over rows of table t
abbrev pub FineSummaries : Schema → (t : ℕ) → List KeyedAggField → Type 0
FineSummaries s t fs = Each (λ f. FineSummary s t f.field) fs × (all_differ bytes_eq (map (λ f. f.key) fs) ≡ true) × (length (needed fs []) ≤ 2 ^ 64)

-- ---- fields

-- the response keys of an object differ
abbrev pub Apart : FieldTrees → Type 0
Apart fs = all_differ bytes_eq (keys_of fs) ≡ true

abbrev mutual
  pub FineFields : FieldTrees → Schema → (t : ℕ) → Type 0
  FineFields no_field s t = Unit {0}
  FineFields (field key f fs) s t = FineField f s t × FineFields fs s t

  pub FineField : FieldTree → Schema → (t : ℕ) → Type 0
  FineField (column c) s t = Has s t c
  FineField (typename name) s t = Unit {0}
  FineField no_queries s t = Unit {0}
  FineField (object r fs) s t = FineRel s t r × Apart fs × FineFields fs s (rel s t r).remote
  FineField (list o a fs) s t = FineOrigin o s t × FineArguments s (origin_table o s t) a × Apart fs × FineFields fs s (origin_table o s t)
  FineField (by_key u key fs) s t = Known s u × FineKey s u (table s u).key key × Apart fs × FineFields fs s u
  FineField (aggregate o a ps) s t = FineOrigin o s t × FineArguments s (origin_table o s t) a × (all_differ bytes_eq (part_keys ps) ≡ true) × FineParts ps s (origin_table o s t)
  FineField (introspect f) s t = Unit {0}

  pub FineParts : PartTrees → Schema → (u : ℕ) → Type 0
  FineParts no_part s u = Unit {0}
  FineParts (part key p ps) s u = FinePart p s u × FineParts ps s u

  pub FinePart : PartTree → Schema → (u : ℕ) → Type 0
  FinePart (summary fs) s u = FineSummaries s u fs
  FinePart (nodes fs) s u = Apart fs × FineFields fs s u
  FinePart (part_typename name) s u = Unit {0}

-- Each part of the statement has its type in scope.
abbrev pub IsTyped : FieldTrees → List Table → MetaTree → GrantedTables → Type 0
IsTyped fs tables meta g =
    let s = schema_of tables meta in
    is_catalog tables ≡ true → ((t : ℕ) → Known s t → FineGranted s g t) → FineFields fs s (length s) → Apart fs → 1 + fields_numbers fs s g (length s) ≤ 2 ^ 64 →
    is_typed (statement fs s g) tables [] ≡ true
