-- How a run of `serve` ends over tables that are kept on a disk.
use Rattle.std.specs.Prelude.{◌≤◌, ℕ, List, Option, Result, IfSome}
use Rattle.hq_io.specs.declared.files.File.{File}
use Rattle.hq_load.specs.Loading.{Contents}
use Rattle.hq_serve.specs.Serving.{Told}
use Rattle.hq_serve.specs.declared.serving.ServeRefusal.{ServeRefusal}
use Rattle.hq_session.specs.declared.secret.SecretRule.{SecretRule}
use Rattle.hq_model.specs.Database.{Row}
use Rattle.hq_model.specs.Meta.{MetaTree}
use Rattle.hq_model.specs.declared.table.Table.{Table}
use Rattle.hq_command.specs.Ending.{Outcome}
use Rattle.hq_command_serve.specs.Serving.{SeenDoor, ServesTables, EndsOver}
use Rattle.hq_command_paged.specs.Disks.{SeenDisk, told_rows}

module _ {L : Type 0} (t : Told L) (rule : SecretRule) (connections : ℕ) (before after : SeenDoor L) (old new : Option (List ℕ)) where
  -- It was served so, and a reply says that the database failed only where the tables' count of faults rose. Where the disk tells its
  -- bytes, its own count is at least as high as theirs in the end.
  pub record ServesFrom (first : ℕ) (left : SeenDisk) (tables : List Table) (meta : MetaTree) (rows : Option (List (List Row))) (result : Result (Unit {0}) ServeRefusal) : Type 0 where
    pub last : ℕ
    pub serves : ServesTables t rule connections before after old new first last tables meta rows result
    pub disk : IfSome left.told (λ bytes. last ≤ left.faults)

  pub record ServesOnDisk (disk left : SeenDisk) (held : Contents) (result : Result (Unit {0}) ServeRefusal) : Type 0 where
    pub first : ℕ
    pub begins : disk.faults ≤ first
    pub serves : ServesFrom first left held.tables held.meta (told_rows disk.told held.rows) result

  abbrev pub PagedServeEnds : (disk left : SeenDisk) → Option (List File) → (dir : List ℕ) → Outcome → Type 0
  PagedServeEnds disk left files dir answer = EndsOver before after old new (ServesOnDisk disk left) files dir answer
