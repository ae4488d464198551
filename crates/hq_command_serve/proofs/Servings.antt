-- How a run of `serve` ends, by its parts.
use Rattle.std.proofs.Common.{◌≡◌, ◌⊎◌, ℕ, List, Option, Some, None, IfSome, Result, Ok, Err, ap, subst, inl, inr}
use Rattle.hq_io.specs.declared.files.File.{File}
use Rattle.hq_model.specs.Database.{Row}
use Rattle.hq_model.specs.Meta.{MetaTree}
use Rattle.hq_model.specs.declared.table.Table.{Table}
use Rattle.hq_load.specs.Loading.{Contents, loaded_view, loading_due, refused_as}
use Rattle.hq_load.specs.Told.{GivesUnless}
use Rattle.hq_load.specs.declared.loaded.Loaded.{Loaded}
use Rattle.hq_load.specs.declared.refusal.LoadingRefusal.{LoadingRefusal}
use Rattle.hq_load.specs.declared.refusal.LoadingRefusal.TheVariants as loading
use Rattle.hq_responder.specs.Due.{denies, gives}
use Rattle.hq_serve.specs.Serving.{Told, Serves}
use Rattle.hq_serve.specs.declared.serving.ServeRefusal.{ServeRefusal}
use Rattle.hq_serve.specs.declared.serving.ServeRefusal.TheVariants as serve
use Rattle.hq_session.specs.declared.secret.SecretRule.{SecretRule}
use Rattle.hq_command.specs.Ending.{Outcome}
use Rattle.hq_command.specs.Refusals.{contents_due, of_loading}
use Rattle.hq_command_serve.specs.Serving.{SeenDoor, Untouched, answer_of, ServesTables, OpensOver, ServesDirectory, EndsOver}
use Rattle.hq_command.specs.declared.refusal.Refusal.TheVariants as refusal

-- what is due of the directory, by what its loading gives
held_due : (files : Option (List File)) (dir : List ℕ) (held : Contents) → IfSome files (λ fs. loading_due fs dir ≡ Ok held) → IfSome files (λ fs. contents_due dir fs ≡ Ok held)
held_due None dir held h = tt
held_due (Some fs) dir held h = ap (λ r. refused_as of_loading r) h

-- a refusal that is neither want of memory nor a failed load is the due one
loading_is : (e : LoadingRefusal) (d : Result Contents LoadingRefusal) → (e ≡ loading.Memory → ⊥) → (e ≡ loading.Failed → ⊥) → (e ≡ loading.Memory) ⊎ ((e ≡ loading.Failed) ⊎ (d ≡ Err e)) → d ≡ Err e
loading_is e d memory failed (inl h) = absurd (memory h)
loading_is e d memory failed (inr (inl h)) = absurd (failed h)
loading_is e d memory failed (inr (inr h)) = h

-- and so is a refused file to the program
refused_due : (files : Option (List File)) (dir file : List ℕ) (fault : _)
    → IfSome files
    (λ fs. GivesUnless {X = Loaded} loaded_view loading.Memory loading.Failed (loading_due fs dir) (Err (loading.File file fault)))
    → IfSome files (λ fs. contents_due dir fs ≡ Err (refusal.File file fault))
refused_due None dir file fault h = tt
refused_due (Some fs) dir file fault h =
    ap (λ r. refused_as of_loading r) (loading_is (loading.File file fault) (loading_due fs dir) (λ same. cc) (λ same. cc) h)

module _ {L : Type 0} (before after : SeenDoor L) (old new : Option (List ℕ)) where
  -- what was served was served, whatever came then
  pub opened : (over : Result (Unit {0}) ServeRefusal → Type 0) (result : Result (Unit {0}) ServeRefusal) → over result → OpensOver before after old new over result
  opened over (Ok done) s = s
  opened over (Err serve.DoorFailed) s = inr s
  opened over (Err serve.WriteFailed) s = s
  opened over (Err serve.Memory) s = inr s

  -- as one thing was served, so was another that follows
  pub opens_weaker : (over more : Result (Unit {0}) ServeRefusal → Type 0) (result : Result (Unit {0}) ServeRefusal) → ((r : Result (Unit {0}) ServeRefusal) → over r → more r)
      → OpensOver before after old new over result → OpensOver before after old new more result
  opens_weaker over more (Ok done) f s = f (Ok done) s
  opens_weaker over more (Err serve.WriteFailed) f s = f (Err serve.WriteFailed) s
  opens_weaker over more (Err serve.DoorFailed) f (inl u) = inl u
  opens_weaker over more (Err serve.DoorFailed) f (inr s) = inr (f (Err serve.DoorFailed) s)
  opens_weaker over more (Err serve.Memory) f (inl u) = inl u
  opens_weaker over more (Err serve.Memory) f (inr s) = inr (f (Err serve.Memory) s)

  module _ (over : Contents → Result (Unit {0}) ServeRefusal → Type 0) (files : Option (List File)) (dir : List ℕ) where
    -- a directory that is not loaded is not served
    pub load_refused : (e : LoadingRefusal) (a : Outcome) → a ≡ Err (of_loading e)
        → IfSome files (λ fs. GivesUnless {X = Loaded} loaded_view loading.Memory loading.Failed (loading_due fs dir) (Err e))
        → Untouched before after old new → EndsOver before after old new over files dir a
    load_refused (loading.File file fault) a is h u = rw is (u, refused_due files dir file fault h)
    load_refused loading.Failed a is h u = rw is (inl u)
    load_refused loading.Memory a is h u = rw is (inl u)

    module _ (held : Contents) (holds : IfSome files (λ fs. loading_due fs dir ≡ Ok held)) where
      -- one that is loaded is served as far as it goes
      directory : (result : Result (Unit {0}) ServeRefusal) → over held result → ServesDirectory before after old new over files dir result
      directory result s = record { held = held; holds = held_due files dir held holds; serves = s }

      pub ends_as : (result : Result (Unit {0}) ServeRefusal) (a : Outcome) → a ≡ answer_of result → OpensOver before after old new (over held) result → EndsOver before after old new over files dir a
      ends_as (Ok done) a is s = rw is (directory (Ok tt) s)
      ends_as (Err serve.WriteFailed) a is s = rw is (directory (Err serve.WriteFailed) s)
      ends_as (Err serve.DoorFailed) a is (inl u) = rw is (inl u)
      ends_as (Err serve.DoorFailed) a is (inr s) = rw is (inr (directory (Err serve.DoorFailed) s))
      ends_as (Err serve.Memory) a is (inl u) = rw is (inl u)
      ends_as (Err serve.Memory) a is (inr s) = rw is (inr (directory (Err serve.Memory) s))

-- what is served by an engine of these contents is served over them
pub over_same : {L : Type 0} (t : Told L) (rule : SecretRule) (n : ℕ) (before after : SeenDoor L) (old new : Option (List ℕ)) (f f' : ℕ)
    (tables ts : List Table) (meta m : MetaTree) (rows database : Option (List (List Row)))
    (result : Result (Unit {0}) ServeRefusal) → ts ≡ tables → m ≡ meta → database ≡ rows
    → ServesTables t rule n before after old new f f' ts m database result → ServesTables t rule n before after old new f f' tables meta rows result
over_same t rule n before after old new f f' tables ts meta m rows database result same_tables same_meta told s =
    let at_rows = subst (λ (d : Option (List (List Row))). ServesTables t rule n before after old new f f' ts m d result) told s in
    let at_meta = subst (λ (k : MetaTree). ServesTables t rule n before after old new f f' ts k rows result) same_meta at_rows in
    subst (λ (k : List Table). ServesTables t rule n before after old new f f' k meta rows result) same_tables at_meta

-- a door that was opened is the one that was there
pub door_same : {L : Type 0} (t : Told L) (rule : SecretRule) (n : ℕ) (tables : List Table) (meta : MetaTree)
    (rows : Option (List (List Row))) (f f' a a1 a2 : ℕ) (links links1 links2 : Option (List L)) (old new : Option (List ℕ))
    (result : Result (Unit {0}) ServeRefusal) → a1 ≡ a → links1 ≡ links
    → Serves (denies rule) (gives rule tables meta rows) t n a1 a2 links1 links2 f f' old new result → Serves (denies rule) (gives rule tables meta rows) t n a a2 links links2 f f' old new result
door_same t rule n tables meta rows f f' a a1 a2 links links1 links2 old new result same_count same_links s =
    let at_count = subst (λ k. Serves (denies rule) (gives rule tables meta rows) t n k a2 links1 links2 f f' old new result) same_count s in
    subst (λ ls. Serves (denies rule) (gives rule tables meta rows) t n a a2 ls links2 f f' old new result) same_links at_count

-- what a link tells
abbrev pub link_tells : {L : Type 0} → (left written : L → Option (List ℕ)) → (read_faults write_faults : L → ℕ) → Told L
link_tells left written read_faults write_faults = record { left = left; written = written; read_faults = read_faults; write_faults = write_faults }
