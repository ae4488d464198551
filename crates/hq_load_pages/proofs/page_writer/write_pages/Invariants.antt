use Rattle.std.proofs.Common.{◌≡◌, ◌-◌, ◌+◌, ◌*◌, ◌^◌, ◌≤◌, ◌++◌, ℕ, List, length, is_some}
use Rattle.hq_load_pages.specs.Counts.{Rises}
use Rattle.hq_load_pages.specs.DiskPages.{Grows, pages_from, run_pages}
use Rattle.hq_load_pages.specs.Held.{WhereTold}
use Rattle.hq_load_pages.specs.Writes.{Wrote}
use Rattle.hq_load_pages.proofs.page_writer.write_pages.Given as goal

-- what was written and what is left are the run
abbrev pub invariant-pieces : goal.invariant-pieces
invariant-pieces g l = record {
  number : l.piece + length l.rest ≤ length l.run;
  size : g.K.Disk.size l.disk ≡ 4096 * length l.headers.items;
  count : length l.fn.headers.items ≤ length l.headers.items;
  few : length l.headers.items ≤ 2 ^ 51;
  wrote : (done : List ℕ) × (done ++ l.rest ≡ l.run) × WhereTold (g.K.Disk.held l.disk) (Wrote (g.K.Disk.held l.fn.disk) l.fn.headers.items l.headers.items done);
  grown : (pages : List ℕ) × (most : ℕ) × (length l.rest ≤ most)
      × (pages ++ pages_from l.table l.piece most l.rest ≡ run_pages l.table l.run)
      × Grows (g.K.Disk.held l.fn.disk) (g.K.Disk.held l.disk) pages;
  told : is_some (g.K.Disk.held l.disk) ≡ is_some (g.K.Disk.held l.fn.disk);
  calls : Rises (g.K.Disk.calls l.fn.disk) (g.K.Disk.calls l.disk) (length l.headers.items - length l.fn.headers.items);
  later : g.K.Disk.faults l.fn.disk ≤ g.K.Disk.faults l.disk;
}

abbrev pub decreases-pieces : goal.decreases-pieces
decreases-pieces g l = length l.rest
