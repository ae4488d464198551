-- Serving over tables on a disk, by its parts.
use Rattle.std.proofs.Common.{◌≡◌, ◌≤◌, ℕ, List, Option, Some, None, is_some, IfSome, Result, Ok, Err, refl, subst, inl}
use Rattle.hq_io.specs.declared.files.File.{File}
use Rattle.hq_model.specs.Database.{Row}
use Rattle.hq_model.specs.Meta.{MetaTree, meta_view}
use Rattle.hq_model.specs.declared.session.Session.{Session}
use Rattle.hq_model.specs.declared.table.Table.{Table}
use Rattle.hq_engine.specs.Asking.{Counts}
use Rattle.hq_engine.specs.declared.engine.Engine.{Engine}
use Rattle.hq_load.specs.Loading.{Contents, loading_due}
use Rattle.hq_load_pages.specs.declared.refusal.PageRefusal.{PageRefusal}
use Rattle.hq_load_pages.specs.declared.refusal.PageRefusal.TheVariants as pages
use Rattle.hq_serve.specs.Serving.{Told}
use Rattle.hq_serve.specs.declared.serving.ServeRefusal.{ServeRefusal}
use Rattle.hq_session.specs.declared.secret.SecretRule.{SecretRule}
use Rattle.hq_command.specs.Answers.{Answers}
use Rattle.hq_command.specs.Ending.{Outcome, Ends}
use Rattle.hq_command.specs.Output.{request_output}
use Rattle.hq_command.specs.Refusals.{of_pages}
use Rattle.hq_command_serve.specs.Serving.{SeenDoor, Untouched, answer_of, OpensOver, EndsOver}
use Rattle.hq_command_serve.proofs.Servings.{ends_as, opens_weaker, over_same}
use Rattle.hq_command_paged.specs.Disks.{SeenDisk, told_rows}
use Rattle.hq_command_paged.specs.Serving.{ServesFrom, ServesOnDisk, PagedServeEnds}

-- rows on a disk are told alike where its bytes are told as they were before
pub rows_same : (old new : Option (List ℕ)) (rows : List (List Row)) → is_some new ≡ is_some old → told_rows new rows ≡ told_rows old rows
rows_same None None rows same = refl
rows_same None (Some new) rows same = absurd cc
rows_same (Some old) None rows same = absurd cc
rows_same (Some old) (Some new) rows same = refl

-- an answer over rows on a disk, by an engine of these contents, is due over them
pub over_disk : (engine : Engine) (session : Session) (database : Option (List (List Row))) (left : Option (List ℕ)) (tables : List Table)
    (meta : MetaTree) (rows : Option (List (List Row))) (old new : Option (List ℕ)) (before now : Counts) (answer : Outcome)
    → engine.catalog.tables ≡ tables → meta_view engine.meta ≡ meta → database ≡ rows → IfSome left (λ text. Answers engine session database text old new before now answer)
    → IfSome left (λ text. Ends old new (request_output tables meta session rows text) answer)
over_disk engine session database None tables meta rows old new before now answer same_tables same_meta same_rows h = tt
over_disk engine session database (Some text) tables meta rows old new before now answer same_tables same_meta same_rows h =
    subst (λ (d : Option (List (List Row))). Ends old new (request_output tables meta session d text) answer) same_rows
    (subst (λ (m : MetaTree). Ends old new (request_output tables m session database text) answer) same_meta
    (subst (λ (ts : List Table). Ends old new (request_output ts (meta_view engine.meta) session database text) answer) same_tables h.ends))

-- a directory whose tables are not on the disk is not served
pub pages_refused : {L : Type 0} (before after : SeenDoor L) (old new : Option (List ℕ))
    (over : Contents → Result (Unit {0}) ServeRefusal → Type 0) (files : Option (List File)) (dir : List ℕ) (e : PageRefusal) (a : Outcome)
    → a ≡ Err (of_pages e) → Untouched before after old new → EndsOver before after old new over files dir a
pages_refused before after old new over files dir pages.Failed a is u = rw is (inl u)
pages_refused before after old new over files dir pages.Memory a is u = rw is (inl u)

-- the same over tables on a disk
pub from_same : {L : Type 0} (t : Told L) (rule : SecretRule) (n : ℕ) (before after : SeenDoor L) (old new : Option (List ℕ))
    (disk left : SeenDisk) (first : ℕ) (held : Contents) (ts : List Table) (m : MetaTree) (database : Option (List (List Row)))
    (result : Result (Unit {0}) ServeRefusal) → ts ≡ held.tables → m ≡ held.meta → database ≡ told_rows disk.told held.rows → disk.faults ≤ first
    → ServesFrom t rule n before after old new first left ts m database result → ServesOnDisk t rule n before after old new disk left held result
from_same t rule n before after old new disk left first held ts m database result same_tables same_meta told begins s = record {
  first = first;
  begins = begins;
  serves = record {
    last = s.last;
    serves = over_same t rule n before after old new first s.last held.tables ts held.meta m (told_rows disk.told held.rows) database result same_tables same_meta told s.serves;
    disk = s.disk;
  };
}

-- how a run ends that serves over tables on a disk
pub ends_on_disk : {L : Type 0} (t : Told L) (rule : SecretRule) (n : ℕ) (before after : SeenDoor L) (old new : Option (List ℕ))
    (disk left : SeenDisk) (files : Option (List File)) (dir : List ℕ) (held : Contents)
    (first : ℕ) (ts : List Table) (m : MetaTree) (database : Option (List (List Row))) (result : Result (Unit {0}) ServeRefusal) (a : Outcome)
    → IfSome files (λ fs. loading_due fs dir ≡ Ok held) → ts ≡ held.tables → m ≡ held.meta → database ≡ told_rows disk.told held.rows → disk.faults ≤ first → a ≡ answer_of result
    → OpensOver before after old new (ServesFrom t rule n before after old new first left ts m database) result → PagedServeEnds t rule n before after old new disk left files dir a
ends_on_disk t rule n before after old new disk left files dir held first ts m database result a holds same_tables same_meta told begins is s =
    ends_as before after old new (ServesOnDisk t rule n before after old new disk left) files dir held holds result a is
    (opens_weaker before after old new (ServesFrom t rule n before after old new first left ts m database) (ServesOnDisk t rule n before after old new disk left held) result
    (λ r. from_same t rule n before after old new disk left first held ts m database r same_tables same_meta told begins) s)
