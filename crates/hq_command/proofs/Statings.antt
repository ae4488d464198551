-- What is due where the text of a request is told.
use Rattle.std.proofs.Common.{◌≡◌, ◌≤◌, ◌∙◌, ℕ, List, length, true, Option, Some, None, IfSome, Result, Ok, Err, ap, sym, subst}
use Rattle.std.specs.Prelude.{codes, is_ok, OnOk}
use Rattle.std.proofs.lemmas.Result.{on_ok_weaker}
use Rattle.hq_request_tree.specs.Request.{AskTree}
use Rattle.hq_model.specs.Meta.{MetaTree, meta_view}
use Rattle.hq_model.specs.declared.session.Session.{Session}
use Rattle.hq_model.specs.declared.table.Table.{Table}
use Rattle.hq_engine.specs.Asking.{text_for}
use Rattle.hq_engine.specs.Engines.{engine_request, engine_text}
use Rattle.hq_faults.specs.FaultTexts.{fault_text}
use Rattle.hq_request.specs.Request.{fault_in}
use Rattle.hq_engine.specs.declared.engine.Engine.{Engine}
use Rattle.hq_faults.specs.declared.faults.RequestFault.{RequestFault}
use Rattle.hq_request.specs.declared.refusal.RequestRefusal.{RequestRefusal}
use Rattle.hq_request.specs.declared.refusal.RequestRefusal.TheVariants as request
use Rattle.hq_load.specs.Loading.{Described, description_due, refused_as}
use Rattle.hq_io.specs.Streams.{ReadsAll}
use Rattle.hq_io.specs.declared.files.File.{File}
use Rattle.hq_session.specs.Sessions.{session_of}
use Rattle.hq_session.specs.declared.header.Header.{Header}
use Rattle.hq_command.specs.Ending.{Outcome, Output}
use Rattle.hq_command.specs.Output.{line_text, stated_output, statement_output}
use Rattle.hq_command.specs.Refusals.{of_loading}
use Rattle.hq_command.specs.Stating.{HasStatementFor, HasStatementOver}
use Rattle.hq_command.specs.declared.done.Done.TheVariants.{Answered, Faulty}
use Rattle.hq_command.specs.declared.refusal.Refusal.{Refusal}
use Rattle.hq_command.specs.declared.reply.TheConstants.{INPUT_LIMIT}
use Rattle.hq_command.proofs.Endings.{within_short}

abbrev answered_with : (bytes : List ℕ) → Result Output Refusal
answered_with bytes = Ok (record { done = Answered; bytes = Some bytes })

text_due : (tables : List Table) (meta : MetaTree) (r : Result AskTree RequestRefusal) (text : List ℕ) → text_for tables meta r ≡ Some text
    → stated_output (text_for tables meta r) r ≡ answered_with (line_text text)
text_due tables meta (Ok ask) text h = ap (λ t. stated_output t (Ok ask)) h
text_due tables meta (Err e) text h = absurd cc

none_due : (tables : List Table) (meta : MetaTree) (r : Result AskTree RequestRefusal) → is_ok r ≡ true → text_for tables meta r ≡ None
    → stated_output (text_for tables meta r) r ≡ answered_with (line_text (codes "none"))
none_due tables meta (Ok ask) is h = ap (λ t. stated_output t (Ok ask)) h
none_due tables meta (Err e) is h = absurd cc

fault_due : (text : Option (List ℕ)) (r : Result AskTree RequestRefusal) (f : RequestFault) → fault_in r ≡ Some f → stated_output text r ≡ Ok (record { done = Faulty; bytes = Some (fault_text f) })
fault_due text (Ok ask) f h = absurd cc
fault_due text (Err (request.Fault g)) f h = let same : g ≡ f = cc in ap (λ e. Ok (record { done = Faulty; bytes = Some (fault_text e) })) same
fault_due text (Err request.Memory) f h = absurd cc

module _ (engine : Engine) (session : Session) (body : List ℕ) (short : length body ≤ INPUT_LIMIT) where
  abbrev due : Result Output Refusal
  due = statement_output engine.catalog.tables (meta_view engine.meta) session body

  pub text_is_due : (text : List ℕ) → engine_text engine session body ≡ Some text → due ≡ answered_with (line_text text)
  text_is_due text h = within_short body _ short ∙ text_due engine.catalog.tables (meta_view engine.meta) (engine_request engine session body) text h

  pub none_is_due : is_ok (engine_request engine session body) ≡ true → engine_text engine session body ≡ None → due ≡ answered_with (line_text (codes "none"))
  none_is_due is h = within_short body _ short ∙ none_due engine.catalog.tables (meta_view engine.meta) (engine_request engine session body) is h

  pub fault_is_due : (f : RequestFault) → fault_in (engine_request engine session body) ≡ Some f → due ≡ Ok (record { done = Faulty; bytes = Some (fault_text f) })
  fault_is_due f h = within_short body _ short ∙ fault_due (engine_text engine session body) (engine_request engine session body) f h

-- ---- what the text is good for

-- of all that was read
pub statement_read : (tables : List Table) (meta : MetaTree) (session : Session) (left : Option (List ℕ)) (body text : List ℕ)
    (answer : Outcome)
    → IfSome left (λ l. ReadsAll INPUT_LIMIT l (Ok body)) → text ≡ body
    → OnOk answer (HasStatementFor tables meta session text) → IfSome left (λ l. OnOk answer (HasStatementFor tables meta session l))
statement_read tables meta session None body text answer read is has = tt
statement_read tables meta session (Some l) body text answer read is has = subst (λ t. OnOk answer (HasStatementFor tables meta session t)) (is ∙ read.0) has

-- over what an engine was made of
pub statement_by : (session : Session) (left : Option (List ℕ)) (tables ts : List Table) (meta m : MetaTree) (answer : Outcome) → ts ≡ tables → m ≡ meta
    → IfSome left (λ text. OnOk answer (HasStatementFor ts m session text)) → IfSome left (λ text. OnOk answer (HasStatementFor tables meta session text))
statement_by session None tables ts meta m answer same_tables same_meta h = tt
statement_by session (Some text) tables ts meta m answer same_tables same_meta h =
    subst (λ (k : MetaTree). OnOk answer (HasStatementFor tables k session text)) same_meta (subst (λ (k : List Table). OnOk answer (HasStatementFor k m session text)) same_tables h)

-- over what a folder describes
pub statement_over : (folder : Option (List File)) (dir : List ℕ) (headers : List Header) (d : Described) (session : Session) (left : Option (List ℕ)) (answer : Outcome) → session ≡ session_of headers
    → IfSome folder (λ fs. description_due fs dir ≡ Ok d) → IfSome left (λ text. OnOk answer (HasStatementFor d.tables d.meta session text))
    → IfSome folder (λ fs. IfSome left (λ text. OnOk answer (HasStatementOver dir headers fs text)))
statement_over None dir headers d session left answer who holds h = tt
statement_over (Some fs) dir headers d session None answer who holds h = tt
statement_over (Some fs) dir headers d session (Some text) answer who holds h =
    on_ok_weaker answer
    (λ has e q.
    let found : Ok d ≡ Ok e = sym (ap (λ r. refused_as of_loading r) holds) ∙ q in
    let same : d ≡ e = cc in
    subst (λ (x : Described). HasStatementFor x.tables x.meta (session_of headers) text) same (subst (λ (s : Session). HasStatementFor d.tables d.meta s text) who has))
    h
