-- What `hq explain` writes: a front that is due, and behind it words that are free. A fault has its place in the query's text by line and
-- column, and its rule, in front.
use Rattle.std.specs.Prelude.{ℕ, List, ◌++◌, codes, Option, Some, option_map, Result, Ok, Err, ⊤, ◌≡◌}
use Rattle.hq_request_tree.specs.Request.{AskTree}
use Rattle.hq_base.specs.Due.{mapped, ◌>>=◌}
use Rattle.hq_explain.specs.Fronts.{fault_front}
use Rattle.hq_faults.specs.declared.faults.RequestFault.{RequestFault}
use Rattle.hq_io.specs.declared.files.File.{File}
use Rattle.hq_request.specs.Request.{request_due}
use Rattle.hq_request.specs.declared.refusal.RequestRefusal.{RequestRefusal}
use Rattle.hq_request.specs.declared.refusal.RequestRefusal.TheVariants as request
use Rattle.hq_session.specs.Sessions.{session_of}
use Rattle.hq_session.specs.declared.header.Header.{Header}
use Rattle.hq_model.specs.Meta.{MetaTree}
use Rattle.hq_model.specs.declared.session.Session.{Session}
use Rattle.hq_model.specs.declared.table.Table.{Table}
use Rattle.hq_command.specs.Ending.{Outcome, Ends, Output}
use Rattle.hq_command.specs.Output.{within_limit}
use Rattle.hq_command.specs.Refusals.{contents_due}
use Rattle.hq_command.specs.declared.done.Done.TheVariants.{Answered, Faulty}
use Rattle.hq_command.specs.declared.refusal.Refusal.{Refusal}
use Rattle.hq_command.specs.declared.refusal.Refusal.TheVariants as refusal

-- the front of what is told of a request that is accepted, and of a fault
abbrev pub accepted : Result Output Refusal
accepted = Ok (record { done = Answered; bytes = Some (codes "ok: ") })

abbrev pub at_fault : (body : List ℕ) → RequestFault → Result Output Refusal
at_fault body f = Ok (record { done = Faulty; bytes = Some (fault_front body f) })

-- of a body that makes this
abbrev pub explained : (body : List ℕ) → Result AskTree RequestRefusal → Result Output Refusal
explained body (Ok ask) = accepted
explained body (Err (request.Fault f)) = at_fault body f
explained body (Err request.Memory) = Err refusal.Memory

-- what is due for an input, and for a directory and an input
abbrev pub input_explained : List Table → MetaTree → Session → (text : List ℕ) → Result Output Refusal
input_explained tables meta session text = within_limit text (explained text (request_due tables meta session text))

abbrev pub explain_output : (dir : List ℕ) → List Header → List File → (text : List ℕ) → Result Output Refusal
explain_output dir headers files text = contents_due dir files >>= λ c. input_explained c.tables c.meta (session_of headers) text

-- an output with these words behind it
abbrev pub with_words : (words : List ℕ) → Output → Output
with_words words o = record { done = o.done; bytes = option_map (λ front. front ++ words) o.bytes }

-- how it ends: what is due was written with some words behind it
abbrev pub Explains : (old new : Option (List ℕ)) → (due : Result Output Refusal) → Outcome → Type 0
Explains old new due answer = (words : List ℕ) × Ends old new (mapped (with_words words) due) answer

-- nothing is written but where all is done, a write failed, or a file is refused
abbrev pub SilentButOfFiles : {A : Type 0} → (old new : A) → Outcome → Type 0
SilentButOfFiles old new (Ok _) = ⊤
SilentButOfFiles old new (Err refusal.WriteFailed) = ⊤
SilentButOfFiles old new (Err (refusal.File file fault)) = ⊤
SilentButOfFiles old new (Err r) = new ≡ old
