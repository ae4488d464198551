use Rattle.std.proofs.Common.{◌≡◌, ◌-◌, ◌*◌, ◌^◌, ◌≤◌, true, take, length, is_some}
use Rattle.hq_load_pages.specs.Counts.{Rises}
use Rattle.hq_load_pages.specs.Directory.{are_inside}
use Rattle.hq_load_pages.specs.DiskPages.{Grows, disk_pages}
use Rattle.hq_load_pages.specs.Held.{WhereTold}
use Rattle.hq_load_pages.specs.Writes.{Stores}
use Rattle.hq_load_pages.proofs.table_writer.write_tables.Given as goal

-- the tables so far are stored
abbrev pub invariant-tables : goal.invariant-tables
invariant-tables g l = record {
  within : l.at ≤ length l.tables;
  size : g.K.Disk.size l.disk ≡ 4096 * length l.headers.items;
  few : length l.headers.items ≤ 2 ^ 51;
  each : length l.runs.items ≡ l.at;
  inside : are_inside (length l.headers.items) l.runs.items ≡ true;
  stored : WhereTold (g.K.Disk.held l.disk) (Stores l.headers.items l.runs.items (take l.at l.tables) (take l.at l.all));
  grown : Grows (g.K.Disk.held l.fn.disk) (g.K.Disk.held l.disk) (disk_pages 0 (take l.at l.all));
  told : is_some (g.K.Disk.held l.disk) ≡ is_some (g.K.Disk.held l.fn.disk);
  calls : Rises (g.K.Disk.calls l.fn.disk) (g.K.Disk.calls l.disk) (length l.headers.items);
  later : g.K.Disk.faults l.fn.disk ≤ g.K.Disk.faults l.disk;
}

abbrev pub decreases-tables : goal.decreases-tables
decreases-tables g l = length l.tables - l.at
