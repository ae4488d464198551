use Rattle.std.proofs.Common.{◌≡◌, ◌-◌, ◌+◌, ◌≤◌, ◌++◌, true, option_map}
use Rattle.std.specs.Map.{keys_of}
use Rattle.hq_load_pages.specs.Counts.{Rises}
use Rattle.hq_load_pages.specs.Held.{are_pieces, due_run, WhereTold}
use Rattle.hq_load_pages.specs.Touch.{missed_from, touched_from}
use Rattle.hq_load_pages.proofs.pages.touch_run.Given as goal

-- what the pages so far made of the list, how many of them were read, and what their pieces are
abbrev pub invariant-pages : goal.invariant-pages
invariant-pages g l = record {
  within : l.done ≤ l.count;
  cap : l.pieces.cap ≡ l.fn.pieces.cap;
  cached : keys_of l.pieces.entries ≡ touched_from l.first l.done l.fn.pieces.cap (keys_of l.fn.pieces.entries);
  calls : Rises (g.K.Disk.calls l.fn.disk) (g.K.Disk.calls l.disk) (missed_from l.first l.done l.fn.pieces.cap (keys_of l.fn.pieces.entries));
  run : WhereTold (g.K.Disk.held l.fn.disk) (λ held. due_run l.headers held l.first l.count ≡ option_map (λ rest. l.run.items ++ rest) (due_run l.headers held (l.first + l.done) (l.count - l.done)));
  pieces : WhereTold (g.K.Disk.held l.fn.disk) (λ held. are_pieces (λ v. v.items) l.headers held l.pieces.entries ≡ true);
  held : g.K.Disk.held l.disk ≡ g.K.Disk.held l.fn.disk;
  later : g.K.Disk.faults l.fn.disk ≤ g.K.Disk.faults l.disk;
}

abbrev pub decreases-pages : goal.decreases-pages
decreases-pages g l = l.count - l.done
