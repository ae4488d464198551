-- How the command ends, by its parts.
use Rattle.std.proofs.Common.{◌≡◌, ◌∙◌, ℕ, List, Option, Some, None, IfSome, Result, Ok, Err, refl, sym, ap, subst}
use Rattle.hq_load.specs.Loading.{Described, description_due, refused_as}
use Rattle.hq_io.specs.Streams.{ReadsAll}
use Rattle.hq_io.specs.declared.files.File.{File}
use Rattle.hq_io.specs.declared.streams.InputRefusal.{InputRefusal}
use Rattle.hq_io.specs.declared.streams.InputRefusal.TheVariants as input
use Rattle.hq_session.specs.Sessions.{session_of}
use Rattle.hq_session.specs.declared.header.Header.{Header}
use Rattle.hq_model.specs.Meta.{MetaTree}
use Rattle.hq_model.specs.declared.session.Session.{Session}
use Rattle.hq_model.specs.declared.table.Table.{Table}
use Rattle.hq_command.specs.Ending.{Outcome, Ends, Output}
use Rattle.hq_command.specs.Refusals.{of_input, of_loading}
use Rattle.hq_command.specs.declared.refusal.Refusal.{Refusal}
use Rattle.hq_command.specs.declared.refusal.Refusal.TheVariants as refusal
use Rattle.hq_command.specs.declared.reply.TheConstants.{INPUT_LIMIT}
use Rattle.hq_command_confine.specs.Confining.{Confines, EndsBy, IsDueBehind, IsDueFor, IsSaid, without_line_end}

-- what was written was due
said_ends : (IsDue : Result Output Refusal → Type 0) (old new : Option (List ℕ)) (output : Output) (answer : Outcome)
    → IsDue (Ok output) → Ends old new (Ok output) answer → EndsBy IsDue old new answer
said_ends IsDue old new output (Ok done) due h = (h.0, subst IsDue h.1 due, h.2, h.3)
said_ends IsDue old new output (Err refusal.WriteFailed) due h = (h.0, subst IsDue h.1 due, h.2)
said_ends IsDue old new output (Err refusal.ReadFailed) due h = tt
said_ends IsDue old new output (Err refusal.Memory) due h = tt
said_ends IsDue old new output (Err (refusal.Database before after)) due h = tt
said_ends IsDue old new output (Err refusal.BadWords) due h = absurd cc
said_ends IsDue old new output (Err (refusal.File file fault)) due h = absurd cc
said_ends IsDue old new output (Err refusal.InputTooLong) due h = absurd cc
said_ends IsDue old new output (Err (refusal.NotCopied cause)) due h = absurd cc

-- want of memory says nothing of what was due
pub by_memory : (IsDue : List ℕ → Result Output Refusal → Type 0) (left old new : Option (List ℕ)) (answer : Outcome) → answer ≡ Err refusal.Memory → IfSome left (λ l. EndsBy (IsDue l) old new answer)
by_memory IsDue None old new answer is = tt
by_memory IsDue (Some l) old new answer is = subst (EndsBy (IsDue l) old new) (sym is) tt

module _ (tables : List Table) (meta : MetaTree) (session : Session) where
  -- an input that is not read
  pub unread : (left old : Option (List ℕ)) (e : InputRefusal) (answer : Outcome) → answer ≡ Err (of_input e) → IfSome left (λ l. ReadsAll INPUT_LIMIT l (Err e))
      → IfSome left (λ l. EndsBy (IsDueFor tables meta session l) old old answer)
  unread None old e answer is h = tt
  unread (Some l) old input.Failed answer is h = subst (EndsBy (IsDueFor tables meta session l) old old) (sym is) tt
  unread (Some l) old input.TooLong answer is h = subst (EndsBy (IsDueFor tables meta session l) old old) (sym is) (h, refl)
  unread (Some l) old input.Memory answer is h = subst (EndsBy (IsDueFor tables meta session l) old old) (sym is) tt

  -- what is said of all that was read
  pub read_told : (left : Option (List ℕ)) (body text : List ℕ) (output : Output) (old new : Option (List ℕ)) (answer : Outcome) → IfSome left (λ l. ReadsAll INPUT_LIMIT l (Ok body))
      → text ≡ without_line_end body
      → IsSaid tables meta session text output → Ends old new (Ok output) answer → IfSome left (λ l. EndsBy (IsDueFor tables meta session l) old new answer)
  read_told None body text output old new answer read is said ends = tt
  read_told (Some l) body text output old new answer read is said ends =
      said_ends (IsDueFor tables meta session l) old new output answer (read.1, subst (λ t. IsSaid tables meta session t output) (is ∙ ap without_line_end read.0) said) ends

-- the same over what a folder describes
pub over_folder : (folder : Option (List File)) (dir : List ℕ) (headers : List Header) (d : Described) (session : Session) (left old new : Option (List ℕ)) (answer : Outcome)
    → session ≡ session_of headers
    → IfSome folder (λ fs. description_due fs dir ≡ Ok d) → IfSome left (λ l. EndsBy (IsDueFor d.tables d.meta session l) old new answer)
    → IfSome folder (λ fs. IfSome left (λ l. Confines dir headers fs l old new answer))
over_folder None dir headers d session left old new answer who holds told = tt
over_folder (Some fs) dir headers d session None old new answer who holds told = tt
over_folder (Some fs) dir headers d session (Some l) old new answer who holds told =
    subst (λ r. EndsBy (IsDueBehind headers l r) old new answer) (sym (ap (λ r. refused_as of_loading r) holds)) (subst (λ s. EndsBy (IsDueFor d.tables d.meta s l) old new answer) who told)
