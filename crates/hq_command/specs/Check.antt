-- What is due for a check: a line that tells how many tables the catalog has, how many roles the permissions name, and how many rows
-- there are in all; or the first refusal.
use Rattle.std.specs.Prelude.{ℕ, ◌+◌, List, [], ◌∷◌, length, Some, Result, Ok}
use Rattle.std.specs.Fmt.{decimal}
use Rattle.std.specs.List.{concat}
use Rattle.hq_base.specs.Due.{◌>>=◌}
use Rattle.hq_io.specs.declared.files.File.{File}
use Rattle.hq_model.specs.Database.{Row}
use Rattle.hq_schema_roles.specs.Roles.{roles_in}
use Rattle.hq_load.specs.Line.{phrase_text}
use Rattle.hq_load.specs.Loading.{Contents}
use Rattle.hq_load.specs.declared.phrase.Phrase.TheVariants as phrase
use Rattle.hq_command.specs.Ending.{Output}
use Rattle.hq_command.specs.Refusals.{contents_due}
use Rattle.hq_command.specs.declared.done.Done.TheVariants.{Answered}
use Rattle.hq_command.specs.declared.refusal.Refusal.{Refusal}

-- the rows of all tables
abbrev pub rows_in : List (List Row) → ℕ
rows_in [] = 0
rows_in (rows ∷ all) = length rows + rows_in all

-- `ok: T tables, R roles, N rows`
abbrev pub counts_line : (tables roles rows : ℕ) → List ℕ
counts_line tables roles rows =
    concat (phrase_text phrase.Ok ∷ decimal tables ∷ phrase_text phrase.Tables ∷ decimal roles ∷ phrase_text phrase.Roles ∷ decimal rows ∷ phrase_text phrase.Rows ∷ phrase_text phrase.End ∷ [])

abbrev pub check_line : Contents → List ℕ
check_line c = counts_line (length c.tables) (length (roles_in c.meta)) (rows_in c.rows)

-- what is due for a check: a line that counts what the directory holds
abbrev pub check_output : (dir : List ℕ) → List File → Result Output Refusal
check_output dir files = contents_due dir files >>= λ c. Ok (record { done = Answered; bytes = Some (check_line c) })
