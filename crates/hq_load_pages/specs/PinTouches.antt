-- What a pin of a table does to the cache and to the count of the disk's calls.
use Rattle.std.specs.Prelude.{◌≡◌, ℕ, ◌+◌, ◌-◌, ◌^◌, List, min, slice_get}
use Rattle.std.specs.declared.option.Option.{Option}
use Rattle.std.specs.declared.option.Option.TheVariants.{Some}
use Rattle.std.specs.Map.{keys_of}
use Rattle.lru.specs.LruCache.{LruCache}
use Rattle.hq_load_pages.specs.Counts.{Rises}
use Rattle.hq_load_pages.specs.Touch.{missed_from, touched_from, TouchesSome}
use Rattle.hq_load_pages.specs.declared.table_run.TableRun.{TableRun}

-- the sum of two counts, which stays at the last value of a u64
abbrev pub sum_of : ℕ → ℕ → ℕ
sum_of a b = min (a + b) (2 ^ 64 - 1)

-- the list of pages in the cache is as after touching the table's pages in ascending order
abbrev pub Touches : {V : Type 0} → List TableRun → (t : ℕ) → (old new : LruCache ℕ V) → Type 0
Touches runs t old new = (run : TableRun) → slice_get runs t ≡ Some run → keys_of new.entries ≡ touched_from run.first run.pages old.cap (keys_of old.entries)

-- the disk's calls rose by the number of these pages that were not in the list at their turn
abbrev pub Reads : {V : Type 0} → List TableRun → (t : ℕ) → (cache : LruCache ℕ V) → (old new : Option ℕ) → Type 0
Reads runs t cache old new = (run : TableRun) → slice_get runs t ≡ Some run → Rises old new (missed_from run.first run.pages cache.cap (keys_of cache.entries))

-- the list of pages is as after touching some of the first of them
abbrev pub TouchesFirst : {V : Type 0} → List TableRun → (t : ℕ) → (old new : LruCache ℕ V) → Type 0
TouchesFirst runs t old new = (run : TableRun) → slice_get runs t ≡ Some run → TouchesSome run.first run.pages old.cap (keys_of old.entries) (keys_of new.entries)
