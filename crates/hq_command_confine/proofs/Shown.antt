-- What is shown where the answer is yes, by its parts.
use Rattle.std.proofs.Common.{◌≡◌, ◌∙◌, ℕ, List, Option, Some, None, IfSome, IfOk, Result, Ok, Err, sym, ap, subst}
use Rattle.hq_base.specs.declared.memory.Memory.{Memory}
use Rattle.hq_load.specs.Loading.{Described, description_due, refused_as}
use Rattle.hq_io.specs.Streams.{ReadsAll}
use Rattle.hq_io.specs.declared.files.File.{File}
use Rattle.hq_session.specs.Sessions.{session_of}
use Rattle.hq_session.specs.declared.header.Header.{Header}
use Rattle.hq_sql_text.specs.Readable.{Spells}
use Rattle.hq_sql_tree.specs.Tree.{SelectTree}
use Rattle.hq_model.specs.Grants.{grants_of}
use Rattle.hq_model.specs.Meta.{MetaTree}
use Rattle.hq_model.specs.declared.session.Session.{Session}
use Rattle.hq_model.specs.declared.table.Table.{Table}
use Rattle.hq_confine.specs.Verdicts.{YesShowsTheView, told}
use Rattle.hq_confine.specs.declared.check.Verdict.{Verdict}
use Rattle.hq_confine.specs.declared.check.Verdict.TheVariants.{Yes, No}
use Rattle.hq_command.specs.Ending.{Outcome, Ends, Output}
use Rattle.hq_command.specs.Refusals.{of_loading}
use Rattle.hq_command.specs.declared.done.Done.{Done}
use Rattle.hq_command.specs.declared.done.Done.TheVariants.{Answered, Faulty}
use Rattle.hq_command.specs.declared.refusal.Refusal.{Refusal}
use Rattle.hq_command.specs.declared.reply.TheConstants.{INPUT_LIMIT}
use Rattle.hq_command_confine.specs.Confining.{says, verdict_output, without_line_end}
use Rattle.hq_command_confine.specs.Said.{said_view}
use Rattle.hq_command_confine.specs.Shown.{InputShows, IsShown, TextShows, TreeShows}
use Rattle.hq_command_confine.specs.declared.judging.Said.{Said}

abbrev done_of : Output → Done
done_of output = output.done

abbrev tells_fault : Done → Type 0
tells_fault Answered = ⊥
tells_fault Faulty = Unit {0}

-- what tells a fault is no answer
no_answer : (output : Output) (line : List ℕ) → output ≡ says Faulty line → output.done ≡ Answered → ⊥
no_answer output line is done_so = subst tells_fault (sym (ap done_of is) ∙ done_so) tt

abbrev done_in : Done → Result Output Refusal → Done
done_in other (Ok output) = output.done
done_in other (Err e) = other

module _ (tables : List Table) (meta : MetaTree) (session : Session) where
  pub fault_shows : (s : SelectTree) (line : List ℕ) (r : Result Said Memory) → IfOk r (λ said. said_view said ≡ says Faulty line) → IfOk r (λ said. TreeShows tables meta session s said.done)
  fault_shows s line (Ok said) is = λ done_so. absurd (no_answer (said_view said) line is done_so)
  fault_shows s line (Err e) is = tt

  pub verdict_shows : (s : SelectTree) (v : Verdict) (r : Result Said Memory) → YesShowsTheView v tables meta (grants_of session tables meta) s
      → IfOk r (λ said. said_view said ≡ verdict_output (told v)) → IfOk r (λ said. TreeShows tables meta session s said.done)
  verdict_shows s Yes (Ok said) shows is = λ done_so. shows
  verdict_shows s Yes (Err e) shows is = tt
  verdict_shows s (No rule alias) (Ok said) shows is = λ done_so. absurd (no_answer (said_view said) _ is done_so)
  verdict_shows s (No rule alias) (Err e) shows is = tt

  pub tree_shows : (text : List ℕ) (s : SelectTree) (r : Result Said Memory) → Spells text s → IfOk r (λ said. TreeShows tables meta session s said.done)
      → IfOk r (λ said. TextShows tables meta session text said.done)
  tree_shows text s (Ok said) spelled shows = λ done_so. (s, spelled, shows done_so)
  tree_shows text s (Err e) spelled shows = tt

  pub nothing_shows : (text line : List ℕ) (r : Result Said Memory) → IfOk r (λ said. said_view said ≡ says Faulty line) → IfOk r (λ said. TextShows tables meta session text said.done)
  nothing_shows text line (Ok said) is = λ done_so. absurd (no_answer (said_view said) line is done_so)
  nothing_shows text line (Err e) is = tt

  -- of all that was read
  pub read_shows : (left : Option (List ℕ)) (body text : List ℕ) (output : Output) (old new : Option (List ℕ)) (answer : Outcome) → IfSome left (λ l. ReadsAll INPUT_LIMIT l (Ok body))
      → text ≡ without_line_end body → TextShows tables meta session text output.done → Ends old new (Ok output) answer
      → IfSome left (λ l. IfOk answer (TextShows tables meta session (without_line_end l)))
  read_shows None body text output old new answer read is shows ends = tt
  read_shows (Some l) body text output old new (Ok done) read is shows ends =
      λ done_so. subst (IsShown tables meta session) (is ∙ ap without_line_end read.0) (shows (ap (done_in output.done) ends.1 ∙ ends.2 ∙ done_so))
  read_shows (Some l) body text output old new (Err e) read is shows ends = tt

abbrev shown_over : List Header → (text : List ℕ) → Described → Type 0
shown_over headers text d = IsShown d.tables d.meta (session_of headers) text

abbrev described_or : Described → Result Described Refusal → Described
described_or other (Ok d) = d
described_or other (Err e) = other

-- over what a folder describes
pub folder_shows : (folder : Option (List File)) (dir : List ℕ) (headers : List Header) (d : Described) (session : Session) (left : Option (List ℕ)) (answer : Outcome)
    → session ≡ session_of headers
    → IfSome folder (λ fs. description_due fs dir ≡ Ok d) → IfSome left (λ l. IfOk answer (TextShows d.tables d.meta session (without_line_end l)))
    → IfSome folder (λ fs. IfSome left (λ l. IfOk answer (InputShows dir headers fs l)))
folder_shows None dir headers d session left answer who holds shows = tt
folder_shows (Some fs) dir headers d session None answer who holds shows = tt
folder_shows (Some fs) dir headers d session (Some l) (Ok done) who holds shows =
    λ other loads done_so.
    subst (shown_over headers (without_line_end l)) (ap (described_or d) (sym (ap (λ r. refused_as of_loading r) holds) ∙ loads))
    (subst (λ s. IsShown d.tables d.meta s (without_line_end l)) who (shows done_so))
folder_shows (Some fs) dir headers d session (Some l) (Err e) who holds shows = tt
