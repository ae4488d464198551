-- How a run ends, by cases on the command that the words ask for.
use Rattle.std.specs.Prelude.{◌≡◌, ◌≢◌, ◌⊎◌, ◌||◌, ℕ, Bool, true, false, Option, Some, None, Ok, Err, IfErr, IfSome}
use Rattle.hq_io.specs.Causes.{Rose}
use Rattle.hq_cli.specs.declared.command.Command.{Command}
use Rattle.hq_cli.specs.declared.command.Command.TheVariants.{Query, Sql, Explain, Confine, Copy, Check, Serve, Live, Gen, Show}
use Rattle.hq_command.specs.Ending.{Outcome, Ends, NotDatabase, Silent, status_of, told_line}
use Rattle.hq_command_explain.specs.Explaining.{Explains, explain_output}
use Rattle.hq_command_confine.specs.Confining.{Confines}
use Rattle.hq_command_copy.specs.Copying.{copy_output}
use Rattle.hq_command.specs.Generating.{GenEnds}
use Rattle.hq_command_paged.specs.Disks.{DiskFailed, paged_output}
use Rattle.hq_command.specs.Output.{query_output, sql_output}
use Rattle.hq_command.specs.Check.{check_output}
use Rattle.hq_command_serve.specs.Serving.{ServeEnds}
use Rattle.hq_command_paged.specs.Serving.{PagedServeEnds}
use Rattle.hq_command.specs.Showing.{page_output}
use Rattle.hq_command_live.specs.Living.{LiveEnds}
use Rattle.hq_command.specs.declared.done.Done.TheVariants.{Faulty}
use Rattle.hq_command.specs.declared.refusal.Refusal.{Refusal}
use Rattle.hq_command.specs.declared.refusal.Refusal.TheVariants.{BadWords, Memory}
use Rattle.hq_app.specs.Outside.{Outside, TellsLine}

-- whether a command reads the standard input
abbrev pub reads_input : Option Command → Bool
reads_input (Some (Query dir headers paged)) = true
reads_input (Some (Sql dir headers)) = true
reads_input (Some (Explain dir headers)) = true
reads_input (Some (Confine dir headers)) = true
reads_input command = false

-- whether it opens the door
abbrev pub opens_door : Option Command → Bool
opens_door (Some (Serve dir port connections secret unauthorized paged)) = true
opens_door command = false

-- whether it opens the hall
abbrev pub opens_hall : Option Command → Bool
opens_hall (Some (Live dir port connections secret unauthorized)) = true
opens_hall command = false

-- whether it tells of each connection on the output
abbrev pub tells_lines : Option Command → Bool
tells_lines command = opens_door command || opens_hall command

-- whether it tells of a refused file on the output
abbrev pub tells_files : Option Command → Bool
tells_files (Some (Explain dir headers)) = true
tells_files command = false

-- whether it keeps tables on the disk
abbrev pub uses_disk : Option Command → Bool
uses_disk (Some (Query dir headers paged)) = paged
uses_disk (Some (Serve dir port connections secret unauthorized paged)) = paged
uses_disk command = false

-- The answer is the due one, as far as it says what was due: of a query, of `sql`, `explain` and `confine` over told files and a told input,
-- of a copy and a check over told files, of `serve` and `live` over what the directory holds, of `gen`, and of a page. With tables on a disk it is the same where
-- this tells its bytes. A copy, a check and a page tell no fault, and where no part of a copy is
-- written, nothing is. Words that ask for no command are bad, unless memory is wanted.
abbrev pub Runs : {L T : Type 0} → Option Command → (before after : Outside L T) → Outcome → Type 0
Runs None before after answer = (answer ≡ Err BadWords) ⊎ (answer ≡ Err Memory)
Runs (Some (Query dir headers true)) before after answer =
    IfSome before.files.told (λ files. IfSome before.input.told (λ text. Ends before.out.told after.out.told (paged_output before.disk.told dir headers files text) answer))
    × IfErr answer (DiskFailed before.disk after.disk)
Runs (Some (Query dir headers false)) before after answer =
    IfSome before.files.told (λ files. IfSome before.input.told (λ text. Ends before.out.told after.out.told (query_output dir headers files text) answer))
Runs (Some (Sql dir headers)) before after answer =
    IfSome before.files.told (λ files. IfSome before.input.told (λ text. Ends before.out.told after.out.told (sql_output dir headers files text) answer))
Runs (Some (Explain dir headers)) before after answer =
    IfSome before.files.told (λ files. IfSome before.input.told (λ text. Explains before.out.told after.out.told (explain_output dir headers files text) answer))
Runs (Some (Confine dir headers)) before after answer =
    IfSome before.files.told (λ files. IfSome before.input.told (λ text. Confines dir headers files text before.out.told after.out.told answer))
Runs (Some (Copy dir part headers)) before after answer =
    IfSome before.files.told (λ files. Ends before.out.told after.out.told (copy_output dir part headers files) answer) × (answer ≢ Ok Faulty)
    × Silent before.out.told after.out.told answer
Runs (Some (Check dir)) before after answer =
    IfSome before.files.told (λ files. Ends before.out.told after.out.told (check_output dir files) answer) × (answer ≢ Ok Faulty)
Runs (Some (Serve dir port connections secret unauthorized true)) before after answer =
    PagedServeEnds before.links (record { secret = secret; unauthorized = unauthorized }) connections before.door after.door before.out.told after.out.told
    before.disk after.disk before.files.told dir answer
Runs (Some (Serve dir port connections secret unauthorized false)) before after answer =
    ServeEnds before.links (record { secret = secret; unauthorized = unauthorized }) connections before.door after.door before.out.told after.out.told before.files.told dir answer
Runs (Some (Live dir port connections secret unauthorized)) before after answer =
    LiveEnds before.talks (record { secret = secret; unauthorized = unauthorized }) connections before.hall after.hall before.out.told after.out.told before.files.told dir answer
Runs (Some (Gen n)) before after answer = GenEnds n before.out.told after.out.told answer
Runs (Some (Show page)) before after answer = Ends before.out.told after.out.told (Ok (page_output page)) answer × (answer ≢ Ok Faulty)

-- The status is that of an answer, and standard error has its line. The answer is the one that is due for the command, unless
-- memory or an object of the outside failed.
pub record EndsWith {L T : Type 0} (command : Option Command) (before after : Outside L T) (status : ℕ) : Type 0 where
  pub answer : Outcome
  pub status_is : status ≡ status_of answer
  pub line : TellsLine before after (told_line answer)
  pub runs : Runs command before after answer

-- a load of files failed
abbrev pub FilesRose : {L T : Type 0} → (before after : Outside L T) → Type 0
FilesRose before after = Rose before.files.faults after.files.faults

-- or, of tables that are kept on the disk, a call of it
abbrev pub FilesOrDiskRose : {L T : Type 0} → (before after : Outside L T) → Type 0
FilesOrDiskRose before after = FilesRose before after ⊎ Rose before.disk.faults after.disk.faults

-- this came before anything of the input was read, or else a read of the input failed
abbrev pub ThenInput : {L T : Type 0} → (loads : Type 0) → (before after : Outside L T) → Type 0
ThenInput loads before after = loads × (after.input.told ≡ before.input.told) ⊎ Rose before.input.faults after.input.faults

-- this came before a link was accepted, or else the door failed
abbrev pub ThenDoor : {L T : Type 0} → (loads : Type 0) → (before after : Outside L T) → Type 0
ThenDoor loads before after =
    loads × (after.door.links ≡ before.door.links) × (after.door.accepted ≡ before.door.accepted) ⊎ Rose before.door.faults after.door.faults

-- this came before a talk, or else the hall failed
abbrev pub ThenHall : {L T : Type 0} → (loads : Type 0) → (before after : Outside L T) → Type 0
ThenHall loads before after =
    loads × (after.hall.links ≡ before.hall.links) × (after.hall.accepted ≡ before.hall.accepted) ⊎ Rose before.hall.faults after.hall.faults

-- Why a read failed: a query loads files, and puts tables on the disk where it keeps them there, before it reads its input; `serve`
-- does so before it opens its door, and `live` before its hall; a copy and a check load files alone. `gen` and a page read nothing.
abbrev pub ReadCause : {L T : Type 0} → Option Command → (before after : Outside L T) → Type 0
ReadCause None before after = ⊥
ReadCause (Some (Query dir headers true)) before after = ThenInput (FilesOrDiskRose before after) before after
ReadCause (Some (Query dir headers false)) before after = ThenInput (FilesRose before after) before after
ReadCause (Some (Sql dir headers)) before after = ThenInput (FilesRose before after) before after
ReadCause (Some (Explain dir headers)) before after = ThenInput (FilesRose before after) before after
ReadCause (Some (Confine dir headers)) before after = ThenInput (FilesRose before after) before after
ReadCause (Some (Copy dir part headers)) before after = FilesRose before after
ReadCause (Some (Check dir)) before after = FilesRose before after
ReadCause (Some (Serve dir port connections secret unauthorized true)) before after = ThenDoor (FilesOrDiskRose before after) before after
ReadCause (Some (Serve dir port connections secret unauthorized false)) before after = ThenDoor (FilesRose before after) before after
ReadCause (Some (Live dir port connections secret unauthorized)) before after = ThenHall (FilesRose before after) before after
ReadCause (Some (Gen n)) before after = ⊥
ReadCause (Some (Show page)) before after = ⊥

-- a failed database comes only in a query whose tables are kept on the disk
abbrev pub MayFail : {L T : Type 0} → Option Command → (before after : Outside L T) → Refusal → Type 0
MayFail (Some (Query dir headers true)) before after r = DiskFailed before.disk after.disk r
MayFail command before after r = NotDatabase r

-- Why a database failed: only in a query whose tables are kept on the disk, whose own count rose where it tells its bytes.
abbrev pub DatabaseCause : {L T : Type 0} → Option Command → (before after : Outside L T) → Type 0
DatabaseCause (Some (Query dir headers true)) before after = IfSome before.disk.told (λ bytes. Rose before.disk.faults after.disk.faults)
DatabaseCause command before after = ⊥
