-- What the text of a request is good for.
use Rattle.std.specs.Prelude.{◌≡◌, ℕ, true, List, Result, Ok, Err, ⊤}
use Rattle.hq_answer.specs.Answers.{IsAnswer}
use Rattle.hq_answer.specs.declared.answer.Answer.{Answer}
use Rattle.hq_request_tree.specs.Request.{AskTree}
use Rattle.hq_request_tree.specs.Resolve.{resolved}
use Rattle.hq_request_tree.specs.Root.{table_fields}
use Rattle.hq_translation.specs.Asked.{asked_statement}
use Rattle.hq_laws_confine.specs.Own.Asks.{IsAskedConfined}
use Rattle.hq_database.specs.Typed.{IsTyped}
use Rattle.hq_reply.specs.RootObject.{has_table_field}
use Rattle.hq_request.specs.declared.refusal.RequestRefusal.{RequestRefusal}
use Rattle.hq_sql_text.specs.Readable.{Spells}
use Rattle.hq_sql_tree.specs.Meaning.{meaning}
use Rattle.hq_sql_tree.specs.Spelling.{select_text}
use Rattle.hq_sql_tree.specs.Tree.{SelectTree}
use Rattle.hq_model.specs.Database.{Row, is_database}
use Rattle.hq_model.specs.Grants.{grants_of}
use Rattle.hq_model.specs.Meta.{MetaTree}
use Rattle.hq_model.specs.Schema.{schema_of}
use Rattle.hq_model.specs.declared.session.Session.{Session}
use Rattle.hq_model.specs.declared.table.Table.{Table}

-- the text spells the statement, which is well-formed for the catalog and confined for the session, and whose meaning over every
-- database of the catalog is the object of the root fields that start at a table
pub record IsStatement (tables : List Table) (meta : MetaTree) (session : Session) (ask : AskTree) : Type 0 where
  pub spelled : Spells (select_text (asked_statement tables meta ask)) (asked_statement tables meta ask)
  pub typed : IsTyped tables (asked_statement tables meta ask)
  pub confined : IsAskedConfined tables meta session ask
  pub means : (d : List (List Row)) → is_database tables d ≡ true
      → meaning (asked_statement tables meta ask) (record { tables = tables; database = d }) ≡ resolved (table_fields ask.fields) (schema_of tables meta) (grants_of session tables meta) d

-- the same of what a body makes, where it is a request with a table field
abbrev pub HasStatement : List Table → MetaTree → Session → Result AskTree RequestRefusal → Type 0
HasStatement tables meta session (Ok ask) = has_table_field ask.fields ≡ true → IsStatement tables meta session ask
HasStatement tables meta session (Err refusal) = ⊤

-- what is answered is the meaning, over a database, of each statement that a text spells
abbrev pub IsMeaning : List Table → (text : List ℕ) → Answer → List (List Row) → Type 0
IsMeaning tables text answer d = (s : SelectTree) → Spells text s → IsAnswer answer (meaning s (record { tables = tables; database = d }))
