-- What `hq copy` writes: the named part of the copy of what a directory holds, for the session of the headers.
use Rattle.std.specs.Prelude.{◌≡◌, ◌≢◌, ◌⊎◌, ℕ, List, Some, Result, Ok, Err, ⊤}
use Rattle.hq_base.specs.Due.{◌>>=◌}
use Rattle.hq_command.specs.Ending.{Output}
use Rattle.hq_command.specs.Refusals.{contents_due}
use Rattle.hq_command.specs.declared.done.Done.TheVariants.{Answered}
use Rattle.hq_command.specs.declared.refusal.Refusal.{Refusal}
use Rattle.hq_command.specs.declared.refusal.Refusal.TheVariants.{Memory, NotCopied}
use Rattle.hq_copy_definition.specs.Copied.{Copied}
use Rattle.hq_copy_definition.specs.declared.refusal.CopyRefusal.{CopyRefusal}
use Rattle.hq_copy_definition.specs.declared.refusal.CopyRefusal.TheVariants as copy
use Rattle.hq_command_copy.specs.Causes.{copy_cause, part_cause}
use Rattle.hq_copy_text.specs.Parts.{part_due}
use Rattle.hq_laws_copy_text.specs.Laws.{ReadsBack}
use Rattle.hq_copy_text.specs.declared.refusal.PartRefusal.{PartRefusal}
use Rattle.hq_copy_text.specs.declared.refusal.PartRefusal.TheVariants as part
use Rattle.hq_load.specs.Loading.{Contents}
use Rattle.hq_io.specs.declared.files.File.{File}
use Rattle.hq_copy.specs.Redacting.{copy_due}
use Rattle.hq_session.specs.Sessions.{session_of}
use Rattle.hq_session.specs.declared.header.Header.{Header}
use Rattle.hq_model.specs.declared.session.Session.{Session}

-- the text of a part, or why there is none
abbrev pub of_part : Result (List ℕ) PartRefusal → Result (List ℕ) Refusal
of_part (Ok text) = Ok text
of_part (Err e) = Err (NotCopied (part_cause e))

-- the part of a copy, where there is one
abbrev pub of_copy : (name : List ℕ) → Result Copied CopyRefusal → Result (List ℕ) Refusal
of_copy name (Ok c) = of_part (part_due c name)
of_copy name (Err e) = Err (NotCopied (copy_cause e))

-- the part of the copy of what a directory holds
abbrev pub text_due : Session → (name : List ℕ) → Contents → Result (List ℕ) Refusal
text_due session name c = of_copy name (copy_due c.tables c.meta session c.rows)

-- what is written
abbrev pub copy_output : (dir name : List ℕ) → List Header → List File → Result Output Refusal
copy_output dir name headers files =
    contents_due dir files >>= λ c. text_due (session_of headers) name c >>= λ text. Ok (record { done = Answered; bytes = Some text })

-- what is read of the text of a part is what the copy holds
abbrev pub TextReadsBack : Session → (name : List ℕ) → Contents → Type 0
TextReadsBack session name content =
    (c : Copied) (text : List ℕ) → copy_due content.tables content.meta session content.rows ≡ Ok c → part_due c name ≡ Ok text → ReadsBack c name text

abbrev pub CopyReadsBack : (dir name : List ℕ) → List Header → List File → Type 0
CopyReadsBack dir name headers files = (content : Contents) → contents_due dir files ≡ Ok content → TextReadsBack (session_of headers) name content

-- tables in memory do not fail to be read
abbrev pub NotFailed : CopyRefusal → Type 0
NotFailed (copy.Failed before after) = ⊥
NotFailed e = ⊤

-- what a refusal is to the program: its cause, or want of memory
abbrev pub OfCopy : CopyRefusal → Refusal → Type 0
OfCopy e r = (r ≡ Memory) ⊎ (e ≢ copy.Memory) × (r ≡ NotCopied (copy_cause e))

abbrev pub OfPart : PartRefusal → Refusal → Type 0
OfPart e r = (r ≡ Memory) ⊎ (e ≢ part.Memory) × (r ≡ NotCopied (part_cause e))
