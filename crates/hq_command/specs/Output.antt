-- What is due on the standard output for a request: bytes that tell data, its text of SQL or a fault; or the first refusal. It is
-- a function of the directory's files, the headers and the input.
use Rattle.std.specs.Prelude.{ℕ, List, [], ◌++◌, codes, unwrap_or, length, nat_lt, Option, Some, None, is_some, Result, Ok, Err, cond, if◌then◌else◌}
use Rattle.hq_request_tree.specs.Request.{AskTree}
use Rattle.hq_base.specs.Due.{◌>>=◌}
use Rattle.hq_io.specs.declared.files.File.{File}
use Rattle.hq_model.specs.Database.{Row}
use Rattle.hq_model.specs.Meta.{MetaTree, meta_view}
use Rattle.hq_model.specs.declared.session.Session.{Session}
use Rattle.hq_model.specs.declared.table.Table.{Table}
use Rattle.hq_engine.specs.Asking.{asked_text, statement_text}
use Rattle.hq_faults.specs.FaultTexts.{fault_text, tells_fault}
use Rattle.hq_engine.specs.Replies.{due_object}
use Rattle.hq_reply.specs.DataTexts.{data_text}
use Rattle.hq_request.specs.Request.{request_due}
use Rattle.hq_engine.specs.declared.engine.Engine.{Engine}
use Rattle.hq_request.specs.declared.refusal.RequestRefusal.{RequestRefusal}
use Rattle.hq_request.specs.declared.refusal.RequestRefusal.TheVariants as request
use Rattle.hq_session.specs.Sessions.{session_of}
use Rattle.hq_session.specs.declared.header.Header.{Header}
use Rattle.hq_command.specs.Ending.{Output}
use Rattle.hq_command.specs.Refusals.{contents_due, description_of}
use Rattle.hq_command.specs.declared.done.Done.{Done}
use Rattle.hq_command.specs.declared.done.Done.TheVariants.{Answered, Faulty}
use Rattle.hq_command.specs.declared.reply.TheConstants.{INPUT_LIMIT}
use Rattle.hq_command.specs.declared.refusal.Refusal.{Refusal}
use Rattle.hq_command.specs.declared.refusal.Refusal.TheVariants.{Memory, InputTooLong}

-- what a reply tells is told by its bytes
abbrev pub done_by : (body : List ℕ) → Done
done_by body = if tells_fault body then Faulty else Answered

-- the data of a request, where it is known: over a told database, and over any where no text is asked of one
abbrev pub known_data : List Table → MetaTree → Session → Option (List (List Row)) → AskTree → Option (List ℕ)
known_data tables meta session (Some rows) ask = Some (data_text (due_object tables meta session rows ask))
known_data tables meta session None ask = cond (is_some (statement_text tables meta ask)) None (Some (data_text (due_object tables meta session [] ask)))

-- the reply to what a body makes: a fault needs no database
abbrev pub reply_output : List Table → MetaTree → Session → Option (List (List Row)) → Result AskTree RequestRefusal → Result Output Refusal
reply_output tables meta session database (Ok ask) =
    Ok (record { done = Answered; bytes = known_data tables meta session database ask })
reply_output tables meta session database (Err (request.Fault f)) = Ok (record { done = Faulty; bytes = Some (fault_text f) })
reply_output tables meta session database (Err request.Memory) = Err Memory

-- what is due for an input, of at most so many bytes
abbrev pub within_limit : (text : List ℕ) → Result Output Refusal → Result Output Refusal
within_limit text output = cond (nat_lt INPUT_LIMIT (length text)) (Err InputTooLong) output

abbrev pub request_output : List Table → MetaTree → Session → Option (List (List Row)) → (text : List ℕ) → Result Output Refusal
request_output tables meta session database text =
    within_limit text (reply_output tables meta session database (request_due tables meta session text))

-- the same by an engine
abbrev pub engine_output : Engine → Session → Option (List (List Row)) → (text : List ℕ) → Result Output Refusal
engine_output engine session database text = request_output engine.catalog.tables (meta_view engine.meta) session database text

-- what is due for a query: the directory first, then the input
abbrev pub query_output : (dir : List ℕ) → List Header → List File → (text : List ℕ) → Result Output Refusal
query_output dir headers files text =
    contents_due dir files >>= λ c. request_output c.tables c.meta (session_of headers) (Some c.rows) text

-- the text of SQL that is asked for what a body makes, and a line end; `none` where none is asked; the reply of a fault
abbrev pub line_text : (text : List ℕ) → List ℕ
line_text text = text ++ codes "\n"

abbrev pub stated_output : (text : Option (List ℕ)) → Result AskTree RequestRefusal → Result Output Refusal
stated_output text (Ok ask) = Ok (record { done = Answered; bytes = Some (line_text (unwrap_or text (codes "none"))) })
stated_output text (Err (request.Fault f)) = Ok (record { done = Faulty; bytes = Some (fault_text f) })
stated_output text (Err request.Memory) = Err Memory

abbrev pub statement_output : List Table → MetaTree → Session → (text : List ℕ) → Result Output Refusal
statement_output tables meta session text =
    within_limit text (stated_output (asked_text tables meta session text) (request_due tables meta session text))

-- what is due for the text of a request: the description first, then the input
abbrev pub sql_output : (dir : List ℕ) → List Header → List File → (text : List ℕ) → Result Output Refusal
sql_output dir headers files text = description_of dir files >>= λ d. statement_output d.tables d.meta (session_of headers) text
