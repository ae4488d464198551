-- What is told of a request, by its parts.
use Rattle.std.proofs.Common.{◌≡◌, ◌≤◌, ◌∙◌, ℕ, List, length, Option, Some, None, IfSome, Result, Ok, Err, refl, sym, ap, subst}
use Rattle.std.proofs.lemmas.Bool.{le-ltb}
use Rattle.hq_request_tree.specs.Request.{AskTree}
use Rattle.hq_base.specs.Due.{◌>>=◌}
use Rattle.hq_faults.specs.declared.faults.RequestFault.{RequestFault}
use Rattle.hq_load.specs.Loading.{Contents, loading_due, refused_as}
use Rattle.hq_io.specs.Streams.{ReadsAll}
use Rattle.hq_io.specs.declared.files.File.{File}
use Rattle.hq_request.specs.Request.{request_due}
use Rattle.hq_request.specs.declared.refusal.RequestRefusal.{RequestRefusal}
use Rattle.hq_request.specs.declared.refusal.RequestRefusal.TheVariants as request
use Rattle.hq_session.specs.Sessions.{session_of}
use Rattle.hq_session.specs.declared.header.Header.{Header}
use Rattle.hq_model.specs.Meta.{MetaTree}
use Rattle.hq_model.specs.declared.session.Session.{Session}
use Rattle.hq_model.specs.declared.table.Table.{Table}
use Rattle.hq_command.specs.Ending.{Outcome, Output}
use Rattle.hq_command.specs.Output.{within_limit}
use Rattle.hq_command.specs.Refusals.{of_loading}
use Rattle.hq_command.specs.declared.refusal.Refusal.{Refusal}
use Rattle.hq_command.specs.declared.reply.TheConstants.{INPUT_LIMIT}
use Rattle.hq_command_explain.specs.Explaining.{Explains, accepted, at_fault, explain_output, explained, input_explained}

within_short : (text : List ℕ) (output : Result Output Refusal) → length text ≤ INPUT_LIMIT → within_limit text output ≡ output
within_short text output short = rw (le-ltb INPUT_LIMIT (length text) short) refl

module _ (tables : List Table) (meta : MetaTree) (session : Session) (body : List ℕ) (short : length body ≤ INPUT_LIMIT) where
  -- what is due for a body that makes this
  due_is : (r : Result AskTree RequestRefusal) → request_due tables meta session body ≡ r → input_explained tables meta session body ≡ explained body r
  due_is r is = within_short body (explained body (request_due tables meta session body)) short ∙ ap (explained body) is

  pub accepted_is_due : (ask : AskTree) → request_due tables meta session body ≡ Ok ask → input_explained tables meta session body ≡ accepted
  accepted_is_due ask is = due_is (Ok ask) is

  pub fault_is_due : (f : RequestFault) → request_due tables meta session body ≡ Err (request.Fault f) → input_explained tables meta session body ≡ at_fault body f
  fault_is_due f is = due_is (Err (request.Fault f)) is

-- the same over what an engine was made of
pub over_loaded : (session : Session) (left : Option (List ℕ)) (tables ts : List Table) (meta m : MetaTree) (old new : Option (List ℕ)) (answer : Outcome) → ts ≡ tables → m ≡ meta
    → IfSome left (λ text. Explains old new (input_explained ts m session text) answer) → IfSome left (λ text. Explains old new (input_explained tables meta session text) answer)
over_loaded session None tables ts meta m old new answer same_tables same_meta h = tt
over_loaded session (Some text) tables ts meta m old new answer same_tables same_meta h =
    subst (λ (k : MetaTree). Explains old new (input_explained tables k session text) answer) same_meta
    (subst (λ (k : List Table). Explains old new (input_explained k m session text) answer) same_tables h)

-- what is told of all that was read is told of what was left
pub read_told : (left : Option (List ℕ)) (body bytes : List ℕ) (due : List ℕ → Result Output Refusal) (old new : Option (List ℕ))
    (answer : Outcome)
    → IfSome left (λ l. ReadsAll INPUT_LIMIT l (Ok body)) → bytes ≡ body
    → Explains old new (due bytes) answer → IfSome left (λ l. Explains old new (due l) answer)
read_told None body bytes due old new answer read same told = tt
read_told (Some l) body bytes due old new answer read same told = subst (λ (b : List ℕ). Explains old new (due b) answer) (same ∙ read.0) told

-- the same over what a folder holds, where it is loaded
over_held : (due : Result Contents Refusal) (headers : List Header) (held : Contents) (session : Session) (left : Option (List ℕ))
    (old new : Option (List ℕ)) (answer : Outcome)
    → due ≡ Ok held → session ≡ session_of headers
    → IfSome left (λ text. Explains old new (input_explained held.tables held.meta session text) answer)
    → IfSome left (λ text. Explains old new (due >>= λ c. input_explained c.tables c.meta (session_of headers) text) answer)
over_held due headers held session None old new answer is who told = tt
over_held due headers held session (Some text) old new answer is who told =
    subst (λ (d : Result Contents Refusal). Explains old new (d >>= λ c. input_explained c.tables c.meta (session_of headers) text) answer) (sym is)
    (subst (λ (s : Session). Explains old new (input_explained held.tables held.meta s text) answer) who told)

pub over_folder : (folder : Option (List File)) (dir : List ℕ) (headers : List Header) (held : Contents) (session : Session)
    (left : Option (List ℕ)) (old new : Option (List ℕ)) (answer : Outcome)
    → session ≡ session_of headers
    → IfSome folder (λ fs. loading_due fs dir ≡ Ok held) → IfSome left (λ text. Explains old new (input_explained held.tables held.meta session text) answer)
    → IfSome folder (λ fs. IfSome left (λ text. Explains old new (explain_output dir headers fs text) answer))
over_folder None dir headers held session left old new answer who holds told = tt
over_folder (Some fs) dir headers held session left old new answer who holds told =
    over_held (refused_as of_loading (loading_due fs dir)) headers held session left old new answer (ap (λ r. refused_as of_loading r) holds) who told
