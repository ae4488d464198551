-- What an engine asks of its database: one text for a request with a table field, and else none. The text is a function of the
-- catalog, the metadata, the session and the body; no database is looked at.
use Rattle.std.specs.Prelude.{◌⊎◌, ℕ, List, cond, Option, Some, None, Result, Ok, Err}
use Rattle.hq_request_tree.specs.Request.{AskTree}
use Rattle.hq_translation.specs.Asked.{asked_statement}
use Rattle.hq_database.specs.Asked.{Asked, NotAsked}
use Rattle.hq_reply.specs.RootObject.{has_table_field}
use Rattle.hq_request.specs.Request.{request_due}
use Rattle.hq_request.specs.declared.refusal.RequestRefusal.{RequestRefusal}
use Rattle.hq_sql_tree.specs.Spelling.{select_text}
use Rattle.hq_model.specs.Meta.{MetaTree}
use Rattle.hq_model.specs.declared.session.Session.{Session}
use Rattle.hq_model.specs.declared.table.Table.{Table}
use Rattle.hq_engine.specs.declared.refusal.EngineRefusal.{EngineRefusal}
use Rattle.hq_engine.specs.declared.refusal.EngineRefusal.TheVariants.{Database, Memory}

-- the text of a request's statement, where a root field starts at a table
abbrev pub statement_text : List Table → MetaTree → AskTree → Option (List ℕ)
statement_text tables meta ask = cond (has_table_field ask.fields) (Some (select_text (asked_statement tables meta ask))) None

-- the text that is asked for what a body makes
abbrev pub text_for : List Table → MetaTree → Result AskTree RequestRefusal → Option (List ℕ)
text_for tables meta (Ok ask) = statement_text tables meta ask
text_for tables meta (Err refusal) = None

-- the text that is asked for a body
abbrev pub asked_text : List Table → MetaTree → Session → (body : List ℕ) → Option (List ℕ)
asked_text tables meta session body = text_for tables meta (request_due tables meta session body)

-- how many texts a database was asked, and which was the last
pub record Counts : Type 0 where
  pub asks : ℕ
  pub last : Option (List ℕ)

abbrev pub AskedNone : (before now : Counts) → Type 0
AskedNone before now = NotAsked before.asks now.asks before.last now.last

-- there is a text, and it was asked once
abbrev pub AskedOne : Option (List ℕ) → (before now : Counts) → Type 0
AskedOne None before now = ⊥
AskedOne (Some text) before now = Asked before.asks now.asks now.last text

-- the text was asked once, where there is one, and else nothing
abbrev pub AskedExactly : Option (List ℕ) → (before now : Counts) → Type 0
AskedExactly None before now = AskedNone before now
AskedExactly (Some text) before now = Asked before.asks now.asks now.last text

-- An answer comes when all was asked that is to be asked, and a failure of the database when its text was; before Memory at most
-- this text was asked.
abbrev pub Asks : {X : Type 0} → Option (List ℕ) → (before now : Counts) → Result X EngineRefusal → Type 0
Asks text before now (Ok answer) = AskedExactly text before now
Asks text before now (Err (Database b a)) = AskedOne text before now
Asks text before now (Err Memory) = AskedNone before now ⊎ AskedOne text before now
