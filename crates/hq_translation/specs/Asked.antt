-- The statement that is asked for a typed request: that of the root fields that start at a table, by what the request grants.
use Rattle.std.specs.Prelude.{◌≡◌, ℕ, ◌+◌, ◌≤◌, ◌^◌, List, length, true}
use Rattle.hq_model.specs.Catalog.{is_catalog}
use Rattle.hq_model.specs.Database.{Row, is_database}
use Rattle.hq_model.specs.Fits.{fits}
use Rattle.hq_model.specs.Grants.{grants_of}
use Rattle.hq_model.specs.Meta.{MetaTree}
use Rattle.hq_model.specs.Schema.{Schema, schema_of}
use Rattle.hq_model.specs.declared.session.Session.{Session}
use Rattle.hq_model.specs.declared.table.Table.{Table}
use Rattle.hq_request_tree.specs.Request.{AskTree, grants_in}
use Rattle.hq_request_tree.specs.Resolve.{resolved}
use Rattle.hq_request_tree.specs.Root.{table_fields}
use Rattle.hq_request_tree.specs.Sessions.{IsFor}
use Rattle.hq_request_tree.specs.WellFormed.{IsRequest}
use Rattle.hq_sql_tree.specs.Form.{select_fits}
use Rattle.hq_sql_tree.specs.Meaning.{meaning}
use Rattle.hq_sql_tree.specs.Tree.{SelectTree}
use Rattle.hq_sql_tree.specs.WellFormed.{is_statement}
use Rattle.hq_translation.specs.Correct.{AreFew}
use Rattle.hq_translation.specs.Fields.{fields_numbers}
use Rattle.hq_translation.specs.GrantedTables.{GrantedTables, granted_of}
use Rattle.hq_translation.specs.Statement.{statement}

-- what a request grants
abbrev pub asked_granted : List Table → MetaTree → AskTree → GrantedTables
asked_granted tables m a = granted_of (grants_in a m (schema_of tables m))

-- its statement, and how many numbers this takes
abbrev pub asked_statement : List Table → MetaTree → AskTree → SelectTree
asked_statement tables m a = statement (table_fields a.fields) (schema_of tables m) (asked_granted tables m a)

abbrev pub asked_numbers : List Table → MetaTree → AskTree → ℕ
asked_numbers tables m a = 1 + fields_numbers (table_fields a.fields) (schema_of tables m) (asked_granted tables m a) (length (schema_of tables m))

-- a request with its table fields alone
abbrev pub table_request : AskTree → AskTree
table_request a = record { role = a.role; fields = table_fields a.fields; bound = a.bound }

abbrev pub TablesAsked : List Table → MetaTree → AskTree → Type 0
TablesAsked tables m a = IsRequest tables m a → IsRequest tables m (table_request a)

-- the lists of a request are no longer than the memory of a machine
abbrev pub IsHeld : List Table → MetaTree → AskTree → Type 0
IsHeld tables m a = (asked_numbers tables m a ≤ 2 ^ 64) × AreFew (table_fields a.fields) (schema_of tables m) (length (schema_of tables m))

-- The statement of a typed request is well-formed for the catalog, where a tree can hold its texts and numbers.
abbrev pub IsAsked : List Table → MetaTree → AskTree → Type 0
IsAsked tables m a =
    is_catalog tables ≡ true → fits tables m ≡ true → IsRequest tables m a → IsHeld tables m a → select_fits (asked_statement tables m a) ≡ true →
    is_statement (asked_statement tables m a) tables ≡ true

-- It means what nested resolvers give over the rows that the session may see.
abbrev pub MeansAsked : List Table → MetaTree → Session → AskTree → List (List Row) → Type 0
MeansAsked tables m session a d =
    let s : Schema = schema_of tables m in
    is_catalog tables ≡ true → is_database tables d ≡ true → IsRequest tables m a → IsFor s m session a → IsHeld tables m a →
    meaning (asked_statement tables m a) (record { tables = tables; database = d }) ≡ resolved (table_fields a.fields) s (grants_of session tables m) d
