-- What `hq confine` writes: of a text that spells a statement which is well-formed for the catalog whether it is confined for the
-- session, else that it spells none, or that this is not well-formed.
use Rattle.std.specs.Prelude.{◌≡◌, ◌⊎◌, ◌<◌, ◌≤◌, ◌-◌, ◌==◌, ◌++◌, ℕ, List, length, take, slice_index_or, cond, codes, decimal, Option, Some, None, Result, Ok, Err, ⊤}
use Rattle.hq_io.specs.declared.files.File.{File}
use Rattle.hq_model.specs.Grants.{grants_of}
use Rattle.hq_model.specs.Meta.{MetaTree}
use Rattle.hq_model.specs.Schema.{schema_of}
use Rattle.hq_model.specs.declared.session.Session.{Session}
use Rattle.hq_model.specs.declared.table.Table.{Table}
use Rattle.hq_session.specs.Sessions.{session_of}
use Rattle.hq_session.specs.declared.header.Header.{Header}
use Rattle.hq_load.specs.Loading.{Described}
use Rattle.hq_sql_tree.specs.Tree.{SelectTree}
use Rattle.hq_sql_tree.specs.WellFormed.{is_statement}
use Rattle.hq_sql_text.specs.Readable.{Spells}
use Rattle.hq_confine_rules.specs.Faults.{faults, worst}
use Rattle.hq_confine_rules.specs.Uses.{Fault}
use Rattle.hq_command.specs.Ending.{Outcome, Output, Writes, WritesPrefix}
use Rattle.hq_command.specs.Refusals.{description_of}
use Rattle.hq_command.specs.declared.done.Done.{Done}
use Rattle.hq_command.specs.declared.done.Done.TheVariants.{Answered, Faulty}
use Rattle.hq_command.specs.declared.reply.TheConstants.{INPUT_LIMIT}
use Rattle.hq_command.specs.declared.refusal.Refusal.{Refusal}
use Rattle.hq_command.specs.declared.refusal.Refusal.TheVariants as refusal

-- a text without its last byte, where that is a line end
abbrev pub without_line_end : List ℕ → List ℕ
without_line_end text = cond (slice_index_or text (length text - 1) 0 == 10) (take (length text - 1) text) text

-- ---- the lines

abbrev pub says : Done → List ℕ → Output
says done line = record { done = done; bytes = Some line }

abbrev pub not_sql : Output
not_sql = says Faulty (codes "not sql\n")

abbrev pub not_typed : Output
not_typed = says Faulty (codes "not typed\n")

abbrev pub yes : Output
yes = says Answered (codes "yes\n")

-- the rule that is violated, and the alias of its place
abbrev pub no_line : (rule : ℕ) → (alias : List ℕ) → List ℕ
no_line rule alias = codes "no: X" ++ decimal rule ++ codes " " ++ alias ++ codes "\n"

abbrev pub verdict_output : Option Fault → Output
verdict_output None = yes
verdict_output (Some f) = says Faulty (no_line f.rule f.alias)

-- ---- what is due

-- of a statement, for a session
abbrev pub tree_output : List Table → MetaTree → Session → SelectTree → Output
tree_output tables meta session s = cond (is_statement s tables) (verdict_output (worst (faults (schema_of tables meta) (grants_of session tables meta) s))) not_typed

-- of a text: of the statement that it spells, or that it spells none
abbrev pub IsSaid : List Table → MetaTree → Session → (text : List ℕ) → Output → Type 0
IsSaid tables meta session text output =
    ((s : SelectTree) × Spells text s × (output ≡ tree_output tables meta session s)) ⊎ (((s : SelectTree) → Spells text s → ⊥) × (output ≡ not_sql))

-- of an input of at most so many bytes: of the text without its last line end
abbrev pub IsDueFor : List Table → MetaTree → Session → (input : List ℕ) → Result Output Refusal → Type 0
IsDueFor tables meta session input (Ok output) = (length input ≤ INPUT_LIMIT) × IsSaid tables meta session (without_line_end input) output
IsDueFor tables meta session input (Err e) = (INPUT_LIMIT < length input) × (e ≡ refusal.InputTooLong)

-- of a directory, headers and an input: the description first
abbrev pub IsDueBehind : List Header → (input : List ℕ) → Result Described Refusal → Result Output Refusal → Type 0
IsDueBehind headers input (Ok d) due = IsDueFor d.tables d.meta (session_of headers) input due
IsDueBehind headers input (Err e) due = due ≡ Err e

abbrev pub IsConfineDue : (dir : List ℕ) → List Header → List File → (input : List ℕ) → Result Output Refusal → Type 0
IsConfineDue dir headers files input due = IsDueBehind headers input (description_of dir files) due

-- ---- how it ends

-- What an answer says of what was due, and of what was written. Want of memory, a failed read and a failed database say nothing of it;
-- all other refusals are due ones.
abbrev pub EndsBy : (IsDue : Result Output Refusal → Type 0) → (old new : Option (List ℕ)) → Outcome → Type 0
EndsBy IsDue old new (Ok done) = (output : Output) × IsDue (Ok output) × (output.done ≡ done) × Writes old new output.bytes
EndsBy IsDue old new (Err refusal.WriteFailed) = (output : Output) × IsDue (Ok output) × WritesPrefix old new output.bytes
EndsBy IsDue old new (Err refusal.ReadFailed) = ⊤
EndsBy IsDue old new (Err refusal.Memory) = ⊤
EndsBy IsDue old new (Err (refusal.Database before after)) = ⊤
EndsBy IsDue old new (Err r) = IsDue (Err r)

-- over a directory
abbrev pub Confines : (dir : List ℕ) → List Header → List File → (input : List ℕ) → (old new : Option (List ℕ)) → Outcome → Type 0
Confines dir headers files input old new answer = EndsBy (IsConfineDue dir headers files input) old new answer
