-- What it means that the statement is right.
use Rattle.std.specs.Prelude.{◌≡◌, ℕ, ◌+◌, ◌<◌, ◌≤◌, ◌^◌, List, [], length, true, bytes_eq}
use Rattle.hq_model.specs.Catalog.{is_catalog}
use Rattle.hq_model.specs.Database.{Row, is_database}
use Rattle.hq_model.specs.Grants.{Grants}
use Rattle.hq_model.specs.Meta.{MetaTree}
use Rattle.hq_model.specs.Schema.{Schema, schema_of, table, rel}
use Rattle.hq_model.specs.declared.table.Table.{Table}
use Rattle.hq_request_tree.specs.Fields.{FieldTrees, no_field, field, FieldTree, column, typename, no_queries, object, list, by_key, aggregate, introspect, PartTrees, no_part, part, PartTree, summary, nodes, part_typename}
use Rattle.hq_request_tree.specs.Resolve.{origin_table, resolved}
use Rattle.hq_sql_tree.specs.Form.{is_select}
use Rattle.hq_sql_tree.specs.Meaning.{meaning}
use Rattle.hq_sql_tree.specs.WellFormed.{aliases_in}
use Rattle.hq_base.specs.Lists.{all_differ}
use Rattle.hq_translation.specs.GrantedTables.{GrantedTables, granted_of}
use Rattle.hq_translation.specs.Lists.{list_sorts}
use Rattle.hq_translation.specs.Aggregates.{needed}
use Rattle.hq_translation.specs.Fields.{fields_numbers}
use Rattle.hq_translation.specs.Statement.{statement}

-- each list has at most 2 ^ 64 sort keys, and each aggregate needs at most 2 ^ 64 columns
abbrev mutual
  pub AreFew : FieldTrees → Schema → (t : ℕ) → Type 0
  AreFew no_field s t = Unit {0}
  AreFew (field key f fs) s t = IsFew f s t × AreFew fs s t

  pub IsFew : FieldTree → Schema → (t : ℕ) → Type 0
  IsFew (column c) s t = Unit {0}
  IsFew (typename name) s t = Unit {0}
  IsFew no_queries s t = Unit {0}
  IsFew (object r fs) s t = AreFew fs s (rel s t r).remote
  IsFew (list o a fs) s t = (length (list_sorts s (origin_table o s t) a) ≤ 2 ^ 64) × AreFew fs s (origin_table o s t)
  IsFew (by_key u key fs) s t = AreFew fs s u
  IsFew (aggregate o a ps) s t = (length (list_sorts s (origin_table o s t) a) ≤ 2 ^ 64) × AreFewParts ps s (origin_table o s t)
  IsFew (introspect f) s t = Unit {0}

  pub AreFewParts : PartTrees → Schema → (u : ℕ) → Type 0
  AreFewParts no_part s u = Unit {0}
  AreFewParts (part key p ps) s u = IsFewPart p s u × AreFewParts ps s u

  pub IsFewPart : PartTree → Schema → (u : ℕ) → Type 0
  IsFewPart (summary fs) s u = length (needed fs []) ≤ 2 ^ 64
  IsFewPart (nodes fs) s u = AreFew fs s u
  IsFewPart (part_typename name) s u = Unit {0}

-- The statement means, over every database of the catalog, what nested resolvers give over the permitted rows.
abbrev pub MeansResolved : FieldTrees → List Table → MetaTree → Grants → List (List Row) → Type 0
MeansResolved fs tables meta g d =
    let s = schema_of tables meta in
    is_catalog tables ≡ true → is_database tables d ≡ true → 1 + fields_numbers fs s (granted_of g) (length s) ≤ 2 ^ 64 → AreFew fs s (length s) →
    meaning (statement fs s (granted_of g)) (record { tables = tables; database = d }) ≡ resolved fs s g d

-- No two things of the statement that have an alias have the same one.
abbrev pub AliasesDiffer : FieldTrees → Schema → GrantedTables → Type 0
AliasesDiffer fs s g = 1 + fields_numbers fs s g (length s) ≤ 2 ^ 64 → all_differ bytes_eq (aliases_in (statement fs s g) []) ≡ true

-- each list is one of a table that has a key
abbrev pub HasKey : Schema → (t : ℕ) → Type 0
HasKey s t = 0 < length (table s t).key

abbrev mutual
  pub AreKeyed : FieldTrees → Schema → (t : ℕ) → Type 0
  AreKeyed no_field s t = Unit {0}
  AreKeyed (field key f fs) s t = IsKeyed f s t × AreKeyed fs s t

  pub IsKeyed : FieldTree → Schema → (t : ℕ) → Type 0
  IsKeyed (column c) s t = Unit {0}
  IsKeyed (typename name) s t = Unit {0}
  IsKeyed no_queries s t = Unit {0}
  IsKeyed (object r fs) s t = AreKeyed fs s (rel s t r).remote
  IsKeyed (list o a fs) s t = HasKey s (origin_table o s t) × AreKeyed fs s (origin_table o s t)
  IsKeyed (by_key u key fs) s t = AreKeyed fs s u
  IsKeyed (aggregate o a ps) s t = AreKeyedParts ps s (origin_table o s t)
  IsKeyed (introspect f) s t = Unit {0}

  pub AreKeyedParts : PartTrees → Schema → (u : ℕ) → Type 0
  AreKeyedParts no_part s u = Unit {0}
  AreKeyedParts (part key p ps) s u = IsKeyedPart p s u × AreKeyedParts ps s u

  pub IsKeyedPart : PartTree → Schema → (u : ℕ) → Type 0
  IsKeyedPart (summary fs) s u = Unit {0}
  IsKeyedPart (nodes fs) s u = HasKey s u × AreKeyed fs s u
  IsKeyedPart (part_typename name) s u = Unit {0}

-- The statement is a tree of SQL's grammar.
abbrev pub IsGrammatical : FieldTrees → Schema → GrantedTables → Type 0
IsGrammatical fs s g = AreKeyed fs s (length s) → is_select (statement fs s g) ≡ true
