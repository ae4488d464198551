-- What the rules are for.
use Rattle.std.specs.Prelude.{◌≡◌, ℕ, ◌+◌, ◌≤◌, ◌^◌, List, true, length}
use Rattle.hq_model.specs.Catalog.{is_catalog}
use Rattle.hq_model.specs.Database.{Row, is_database}
use Rattle.hq_model.specs.Grants.{Grants, grant}
use Rattle.hq_model.specs.Meta.{MetaTree}
use Rattle.hq_model.specs.Schema.{Schema, schema_of, table}
use Rattle.hq_model.specs.Seen.{all_of}
use Rattle.hq_model.specs.Truth.{keeps}
use Rattle.hq_model.specs.declared.table.Table.{Table}
use Rattle.hq_request_tree.specs.Fields.{FieldTrees}
use Rattle.hq_sql_tree.specs.Meaning.{Scope, named_row, kept}
use Rattle.hq_sql_tree.specs.Tree.{FilterTree}
use Rattle.hq_translation.specs.Fields.{fields_numbers}
use Rattle.hq_translation.specs.Masks.{filter_numbers}
use Rattle.hq_translation.specs.GrantedTables.{granted_of}
use Rattle.hq_translation.specs.Statement.{statement}
use Rattle.hq_confine_rules.specs.Conjuncts.{conjuncts}
use Rattle.hq_confine_rules.specs.Faults.{IsConfined}
use Rattle.hq_confine_rules.specs.Members.{filter_conjuncts, stand_among}
use Rattle.hq_confine_rules.specs.Ready.{AllowedFields}

-- Where the conjuncts of a WHERE contain those of the filter of table t at an alias, and it is true at a row of t there, the filter
-- is true of that row.
abbrev pub KeepsPermitted : List Table → MetaTree → Grants → (database : List (List Row)) → (t : ℕ) → (alias : List ℕ) → FilterTree → Type 0
KeepsPermitted tables meta g d t alias condition =
    let s = schema_of tables meta in
    is_catalog tables ≡ true → is_database tables d ≡ true → 1 + filter_numbers s (granted_of g) t ≤ 2 ^ 64 → stand_among (conjuncts condition) (filter_conjuncts s g t) alias ≡ true →
    (scope : Scope) (row : Row) → length row ≤ length (table s t).columns → scope alias ≡ named_row (table s t).columns row → kept condition (record { tables = tables; database = d }) scope ≡ true →
    keeps (grant g t).filter s (all_of s d) t row ≡ true

-- The statement of fields that ask for what is granted is confined for who asks.
abbrev pub AsksConfined : FieldTrees → Schema → Grants → Type 0
AsksConfined fs s g = AllowedFields fs s g (length s) → 1 + fields_numbers fs s (granted_of g) (length s) ≤ 2 ^ 64 → IsConfined s g (statement fs s (granted_of g))
