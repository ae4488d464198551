-- How a run of `serve` ends: what the directory holds is served at a door.
use Rattle.std.specs.Prelude.{◌≡◌, ◌⊎◌, ℕ, List, Option, Some, Result, Ok, Err, IfSome}
use Rattle.hq_io.specs.declared.files.File.{File}
use Rattle.hq_load.specs.Loading.{Contents}
use Rattle.hq_responder.specs.Due.{denies, gives}
use Rattle.hq_serve.specs.Serving.{Told, Serves}
use Rattle.hq_serve.specs.declared.serving.ServeRefusal.{ServeRefusal}
use Rattle.hq_serve.specs.declared.serving.ServeRefusal.TheVariants as serve
use Rattle.hq_session.specs.declared.secret.SecretRule.{SecretRule}
use Rattle.hq_model.specs.Database.{Row}
use Rattle.hq_model.specs.Meta.{MetaTree}
use Rattle.hq_model.specs.declared.table.Table.{Table}
use Rattle.hq_command.specs.Ending.{Outcome}
use Rattle.hq_command.specs.Refusals.{contents_due, of_serving}
use Rattle.hq_command.specs.declared.done.Done.TheVariants.{Answered, Faulty}
use Rattle.hq_command.specs.declared.refusal.Refusal.TheVariants as refusal

-- what a door tells: its links, how many it accepted, and how often it has failed
pub record SeenDoor (L : Type 0) : Type 0 where
  pub links : Option (List L)
  pub accepted : ℕ
  pub faults : ℕ

abbrev pub seen_door : {L : Type 0} → (links : Option (List L)) → (accepted faults : ℕ) → SeenDoor L
seen_door links accepted faults = record { links = links; accepted = accepted; faults = faults }

-- how serving ends the program
abbrev pub answer_of : Result (Unit {0}) ServeRefusal → Outcome
answer_of (Ok done) = Ok Answered
answer_of (Err e) = Err (of_serving e)

-- nothing was accepted, and nothing was written
pub record Untouched {L : Type 0} (before after : SeenDoor L) (old new : Option (List ℕ)) : Type 0 where
  pub links : after.links ≡ before.links
  pub accepted : after.accepted ≡ before.accepted
  pub written : new ≡ old

module _ {L : Type 0} (before after : SeenDoor L) (old new : Option (List ℕ)) where
  -- it was served so, where the door may fail, or memory be wanted, before that
  abbrev pub OpensOver : (Result (Unit {0}) ServeRefusal → Type 0) → Result (Unit {0}) ServeRefusal → Type 0
  OpensOver over (Ok done) = over (Ok done)
  OpensOver over (Err serve.WriteFailed) = over (Err serve.WriteFailed)
  OpensOver over (Err serve.DoorFailed) = Untouched before after old new ⊎ over (Err serve.DoorFailed)
  OpensOver over (Err serve.Memory) = Untouched before after old new ⊎ over (Err serve.Memory)

  -- what a directory holds was served so
  pub record ServesDirectory (over : Contents → Result (Unit {0}) ServeRefusal → Type 0) (files : Option (List File)) (dir : List ℕ) (result : Result (Unit {0}) ServeRefusal) : Type 0 where
    pub held : Contents
    pub holds : IfSome files (λ fs. contents_due dir fs ≡ Ok held)
    pub serves : over held result

  -- The lines of the connections that were served were written, all of them at 0; a refused file is the first, and nothing was
  -- done then. Nothing else comes.
  abbrev pub EndsOver : (Contents → Result (Unit {0}) ServeRefusal → Type 0) → Option (List File) → (dir : List ℕ) → Outcome → Type 0
  EndsOver over files dir (Ok Answered) = ServesDirectory over files dir (Ok tt)
  EndsOver over files dir (Ok Faulty) = ⊥
  EndsOver over files dir (Err refusal.WriteFailed) = ServesDirectory over files dir (Err serve.WriteFailed)
  EndsOver over files dir (Err refusal.ReadFailed) = Untouched before after old new ⊎ ServesDirectory over files dir (Err serve.DoorFailed)
  EndsOver over files dir (Err refusal.Memory) = Untouched before after old new ⊎ ServesDirectory over files dir (Err serve.Memory)
  EndsOver over files dir (Err (refusal.File file fault)) = Untouched before after old new × IfSome files (λ fs. contents_due dir fs ≡ Err (refusal.File file fault))
  EndsOver over files dir (Err refusal.BadWords) = ⊥
  EndsOver over files dir (Err (refusal.Database b a)) = ⊥
  EndsOver over files dir (Err refusal.InputTooLong) = ⊥
  EndsOver over files dir (Err (refusal.NotCopied cause)) = ⊥

module _ {L : Type 0} (t : Told L) (rule : SecretRule) (connections : ℕ) (before after : SeenDoor L) (old new : Option (List ℕ)) where
  -- So many connections were served by who the rule says that the caller is, with the replies that are due over the tables,
  -- whose count of faults rose from f to f'.
  abbrev pub ServesTables : (f f' : ℕ) → (tables : List Table) → MetaTree → Option (List (List Row)) → Result (Unit {0}) ServeRefusal → Type 0
  ServesTables f f' tables meta rows result =
      Serves (denies rule) (gives rule tables meta rows) t connections before.accepted after.accepted before.links after.links f f' old new result

  -- over tables in memory no reply says that the database failed
  abbrev pub ServesOver : Contents → Result (Unit {0}) ServeRefusal → Type 0
  ServesOver held result = ServesTables 0 0 held.tables held.meta (Some held.rows) result

  abbrev pub ServeEnds : Option (List File) → (dir : List ℕ) → Outcome → Type 0
  ServeEnds files dir answer = EndsOver before after old new ServesOver files dir answer
