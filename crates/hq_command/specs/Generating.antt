-- What `hq gen N` writes: for each of its requests how long the reply is that is due over the generated database, and how many
-- comparisons the look-ups by index made, of which no more is said.
use Rattle.std.specs.Prelude.{ℕ, ◌+◌, List, [], ◌∷◌, ◌++◌, length, unwrap_or, Option, Some, Ok}
use Rattle.hq_engine.specs.Replies.{due_reply}
use Rattle.hq_generator.specs.Lines.{reply_line, steps_line}
use Rattle.hq_generator.specs.Metadata.{metadata}
use Rattle.hq_generator.specs.Requests.{caller, requests}
use Rattle.hq_generator.specs.Rows.{rows}
use Rattle.hq_generator.specs.Tables.{tables}
use Rattle.hq_model.specs.Database.{Row}
use Rattle.hq_model.specs.Meta.{MetaTree}
use Rattle.hq_model.specs.declared.session.Session.{Session}
use Rattle.hq_model.specs.declared.table.Table.{Table}
use Rattle.hq_command.specs.Ending.{Outcome, Ends, Output}
use Rattle.hq_command.specs.declared.done.Done.TheVariants.{Answered}

-- how many bytes the body of the due reply has
abbrev pub reply_length : List Table → MetaTree → Session → List (List Row) → (body : List ℕ) → ℕ
reply_length tables meta session d body = length (unwrap_or (due_reply tables meta session d body) [])

-- a line for each reply, numbered from k on
abbrev pub reply_lines : (length_of : List ℕ → ℕ) → (k : ℕ) → List (List ℕ) → List ℕ
reply_lines length_of k [] = []
reply_lines length_of k (body ∷ bodies) = reply_line k (length_of body) ++ reply_lines length_of (k + 1) bodies

-- all lines
abbrev pub lines_over : List Table → MetaTree → List (List Row) → (steps : ℕ) → List ℕ
lines_over tables meta d steps = reply_lines (reply_length tables meta caller d) 1 requests ++ steps_line steps

abbrev pub gen_output : (authors steps : ℕ) → Output
gen_output authors steps = record { done = Answered; bytes = Some (lines_over tables metadata (rows authors) steps) }

-- how it ends: with these lines, for some number of comparisons
abbrev pub GenEnds : (authors : ℕ) → (old new : Option (List ℕ)) → Outcome → Type 0
GenEnds authors old new answer = (steps : ℕ) × Ends old new (Ok (gen_output authors steps)) answer
