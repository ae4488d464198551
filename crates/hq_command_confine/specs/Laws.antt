-- One line is due for a text, and `yes` for a statement of hq's own.
use Rattle.std.specs.Prelude.{◌≡◌, ◌⊎◌, ◌≤◌, ℕ, List, length, codes, Ok}
use Rattle.hq_io.specs.declared.files.File.{File}
use Rattle.hq_session.specs.declared.header.Header.{Header}
use Rattle.hq_model.specs.Meta.{MetaTree}
use Rattle.hq_model.specs.declared.session.Session.{Session}
use Rattle.hq_model.specs.declared.table.Table.{Table}
use Rattle.hq_command.specs.Ending.{Output}
use Rattle.hq_command.specs.Output.{line_text, sql_output}
use Rattle.hq_command.specs.Stating.{HasStatementOver}
use Rattle.hq_command.specs.declared.done.Done.TheVariants.{Answered}
use Rattle.hq_command.specs.declared.reply.TheConstants.{INPUT_LIMIT}
use Rattle.hq_command_confine.specs.Confining.{IsConfineDue, IsSaid, says, yes}

-- no two lines are due for a text
abbrev pub OneLine : List Table → MetaTree → Session → (text : List ℕ) → Type 0
OneLine tables meta session text = (o p : Output) → IsSaid tables meta session text o → IsSaid tables meta session text p → o ≡ p

-- What `sql` answers a request by is the line `none`, or one for which `yes` is due where it is not too long for an input.
abbrev pub OwnConfined : (dir : List ℕ) → List Header → List File → (text : List ℕ) → Type 0
OwnConfined dir headers files text =
    HasStatementOver dir headers files text → (line : List ℕ) → sql_output dir headers files text ≡ Ok (says Answered line)
    → (line ≡ line_text (codes "none")) ⊎ (length line ≤ INPUT_LIMIT → IsConfineDue dir headers files line (Ok yes))
