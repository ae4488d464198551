-- The outside, as a run sees it.
use Rattle.std.specs.Prelude.{◌≤◌, ℕ, List, Option}
use Rattle.hq_io.specs.declared.files.File.{File}
use Rattle.hq_serve.specs.Serving.{Told}
use Rattle.hq_live_serve.specs.Talking.{ToldLink}
use Rattle.hq_command_paged.specs.Disks.{SeenDisk, DiskLater}
use Rattle.hq_command.specs.Ending.{Tells}
use Rattle.hq_command_serve.specs.Serving.{SeenDoor}

-- what an object of the outside tells, and how often it has failed
pub record SeenObject (A : Type 0) : Type 0 where
  pub told : Option A
  pub faults : ℕ

-- the parts of a world, what a link of its door tells, and what one of its hall does
pub record Outside (L T : Type 0) : Type 0 where
  pub files : SeenObject (List File)
  pub door : SeenDoor L
  pub links : Told L
  pub disk : SeenDisk
  pub input : SeenObject (List ℕ)
  pub out : SeenObject (List ℕ)
  pub err : SeenObject (List ℕ)
  pub hall : SeenDoor T
  pub talks : ToldLink T

-- no count of faults fell; of the disk's it is said where this tells its bytes
pub record NoneFell {L T : Type 0} (before after : Outside L T) : Type 0 where
  pub files : before.files.faults ≤ after.files.faults
  pub door : before.door.faults ≤ after.door.faults
  pub disk : DiskLater before.disk after.disk
  pub input : before.input.faults ≤ after.input.faults
  pub out : before.out.faults ≤ after.out.faults
  pub hall : before.hall.faults ≤ after.hall.faults

-- standard error has this line
abbrev pub TellsLine : {L T : Type 0} → (before after : Outside L T) → (line : List ℕ) → Type 0
TellsLine before after line = Tells before.err.told after.err.told before.err.faults after.err.faults line
