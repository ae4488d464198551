-- What the program's asker means: the replies that are due over the rows that it holds, and those that its reloads take.
use Rattle.std.specs.Prelude.{◌≡◌, ◌⊎◌, ℕ, ◌+◌, ◌-◌, ◌^◌, min, List, [], Option, None, Some, IfSome, Result, Ok, Err, ⊤}
use Rattle.hq_io.specs.Causes.{Rose, one_more}
use Rattle.hq_io.specs.declared.files.File.{File}
use Rattle.hq_model.specs.Database.{Row}
use Rattle.hq_model.specs.Meta.{MetaTree}
use Rattle.hq_model.specs.declared.table.Table.{Table}
use Rattle.hq_load.specs.Loading.{rows_in, each_due}
use Rattle.hq_load.specs.declared.refusal.LoadingRefusal.{LoadingRefusal}
use Rattle.hq_load.specs.declared.refusal.LoadingRefusal.TheVariants as loading
use Rattle.hq_live.specs.Asking.{Due, Next, always, untold}
use Rattle.hq_live.specs.declared.asker.Asked.{Asked}
use Rattle.hq_live.specs.declared.asker.Asked.TheVariants as asked
use Rattle.hq_live.specs.declared.asker.Reloaded.{Reloaded}
use Rattle.hq_live.specs.declared.asker.Reloaded.TheVariants as reloaded
use Rattle.hq_laws_live.specs.Worlds.{due_over}

-- the replies that are due over the rows that are held
abbrev pub due_of : List Table → MetaTree → Option (List (List Row)) → Due
due_of tables meta None = λ session body. []
due_of tables meta (Some rows) = due_over tables meta rows

-- the one database of a folder, where the readers accept its table files
abbrev pub read_next : List Table → MetaTree → Result (List (List Row)) LoadingRefusal → Next
read_next tables meta (Ok rows) = always (due_over tables meta rows)
read_next tables meta (Err e) = untold

abbrev pub next_of : List Table → MetaTree → Option (List File) → (dir : List ℕ) → Next
next_of tables meta None dir = untold
next_of tables meta (Some folder) dir = read_next tables meta (each_due (rows_in folder dir) tables)

-- the sum of two counts, which stays at the last value of a u64
abbrev pub sum : ℕ → ℕ → ℕ
sum a b = min (a + b) (2 ^ 64 - 1)

-- asking never fails
abbrev pub NeverFails : Asked → Type 0
NeverFails (asked.Reply reply) = ⊤
NeverFails (asked.Failed before after) = ⊥
NeverFails asked.Memory = ⊤

-- a file of a table is refused
abbrev pub IsRefused : Result (List (List Row)) LoadingRefusal → Type 0
IsRefused (Ok rows) = ⊥
IsRefused (Err (loading.File file fault)) = ⊤
IsRefused (Err loading.Failed) = ⊥
IsRefused (Err loading.Memory) = ⊥

-- these are the rows of a folder's table files, where that is told
abbrev pub IsRead : List Table → Option (List File) → (dir : List ℕ) → Option (List (List Row)) → Type 0
IsRead tables folder dir told = (rows : List (List Row)) × (told ≡ Some rows) × IfSome folder (λ files. each_due (rows_in files dir) tables ≡ Ok rows)

-- they are not read: a file is refused, over told files only where it is to be
abbrev pub IsUnread : List Table → Option (List File) → (dir : List ℕ) → LoadingRefusal → Type 0
IsUnread tables folder dir (loading.File file fault) = IfSome folder (λ files. IsRefused (each_due (rows_in files dir) tables))
IsUnread tables folder dir loading.Failed = ⊤
IsUnread tables folder dir loading.Memory = ⊤

-- Why a reload fails, by the counts of the files and of refused readings: the files failed, or a file of a table was refused, and that is
-- so over told files. It never tells that there is nothing to take.
abbrev pub FailsFor : List Table → Option (List File) → (dir : List ℕ) → (read read' refused refused' : ℕ) → Reloaded → Type 0
FailsFor tables folder dir read read' refused refused' reloaded.New = refused' ≡ refused
FailsFor tables folder dir read read' refused refused' reloaded.Same = ⊥
FailsFor tables folder dir read read' refused refused' (reloaded.Failed before after) =
    (Rose read read' × (refused' ≡ refused)) ⊎ ((refused' ≡ one_more refused) × IfSome folder (λ files. IsRefused (each_due (rows_in files dir) tables)))
FailsFor tables folder dir read read' refused refused' reloaded.Memory = refused' ≡ refused
