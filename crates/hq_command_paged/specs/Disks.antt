-- A disk on which tables are kept, as a command leaves it, and what is due over it.
use Rattle.std.specs.Prelude.{◌≤◌, ℕ, List, Option, option_map, Result, IfSome, ⊤}
use Rattle.hq_base.specs.Due.{◌>>=◌}
use Rattle.hq_io.specs.Causes.{Rose}
use Rattle.hq_io.specs.declared.files.File.{File}
use Rattle.hq_session.specs.Sessions.{session_of}
use Rattle.hq_session.specs.declared.header.Header.{Header}
use Rattle.hq_model.specs.Database.{Row}
use Rattle.hq_command.specs.Ending.{Output}
use Rattle.hq_command.specs.Output.{request_output}
use Rattle.hq_command.specs.Refusals.{contents_due}
use Rattle.hq_command.specs.declared.refusal.Refusal.{Refusal}
use Rattle.hq_command.specs.declared.refusal.Refusal.TheVariants as refusal

-- what a disk tells, and how often it has failed
pub record SeenDisk : Type 0 where
  pub told : Option (List ℕ)
  pub faults : ℕ

abbrev pub seen_disk : (told : Option (List ℕ)) → (faults : ℕ) → SeenDisk
seen_disk told faults = record { told = told; faults = faults }

-- where it tells its bytes, its count did not fall
abbrev pub DiskLater : (before after : SeenDisk) → Type 0
DiskLater before after = IfSome after.told (λ bytes. before.faults ≤ after.faults)

-- a failed database tells how the tables' count rose, and where the disk tells its bytes its own count rose
abbrev pub DiskFailed : (before after : SeenDisk) → Refusal → Type 0
DiskFailed before after (refusal.Database b a) = Rose b a × IfSome before.told (λ bytes. Rose before.faults after.faults)
DiskFailed before after r = ⊤

-- rows that are put on a disk are told where its bytes are
abbrev pub told_rows : (told : Option (List ℕ)) → List (List Row) → Option (List (List Row))
told_rows told rows = option_map (λ bytes. rows) told

-- what is due for a query whose tables are put on a disk: where it tells its bytes, the same
abbrev pub paged_output : (told : Option (List ℕ)) → (dir : List ℕ) → List Header → List File → (text : List ℕ) → Result Output Refusal
paged_output told dir headers files text =
    contents_due dir files >>= λ c. request_output c.tables c.meta (session_of headers) (told_rows told c.rows) text
