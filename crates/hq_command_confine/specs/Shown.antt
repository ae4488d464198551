-- What `yes` is good for: the text spells a statement that means the same over each two databases of the catalog that agree for the
-- session.
use Rattle.std.specs.Prelude.{◌≡◌, ℕ, List, Ok}
use Rattle.hq_io.specs.declared.files.File.{File}
use Rattle.hq_load.specs.Loading.{Described}
use Rattle.hq_session.specs.Sessions.{session_of}
use Rattle.hq_session.specs.declared.header.Header.{Header}
use Rattle.hq_sql_text.specs.Readable.{Spells}
use Rattle.hq_sql_tree.specs.Tree.{SelectTree}
use Rattle.hq_model.specs.Grants.{grants_of}
use Rattle.hq_model.specs.Meta.{MetaTree}
use Rattle.hq_model.specs.declared.session.Session.{Session}
use Rattle.hq_model.specs.declared.table.Table.{Table}
use Rattle.hq_confine.specs.Verdicts.{ShowsTheView}
use Rattle.hq_command.specs.Refusals.{description_of}
use Rattle.hq_command.specs.declared.done.Done.{Done}
use Rattle.hq_command.specs.declared.done.Done.TheVariants.{Answered}
use Rattle.hq_command_confine.specs.Confining.{without_line_end}

-- a statement shows no more than the session's view where this is done
abbrev pub TreeShows : List Table → MetaTree → Session → SelectTree → Done → Type 0
TreeShows tables meta session s done = done ≡ Answered → ShowsTheView tables meta (grants_of session tables meta) s

-- a text spells such a statement
abbrev pub IsShown : List Table → MetaTree → Session → (text : List ℕ) → Type 0
IsShown tables meta session text = (s : SelectTree) × Spells text s × ShowsTheView tables meta (grants_of session tables meta) s

-- it does where this is done
abbrev pub TextShows : List Table → MetaTree → Session → (text : List ℕ) → Done → Type 0
TextShows tables meta session text done = done ≡ Answered → IsShown tables meta session text

-- the same of an input, over what a directory describes
abbrev pub InputShows : (dir : List ℕ) → List Header → List File → (input : List ℕ) → Done → Type 0
InputShows dir headers files input done = (d : Described) → description_of dir files ≡ Ok d → TextShows d.tables d.meta (session_of headers) (without_line_end input) done
