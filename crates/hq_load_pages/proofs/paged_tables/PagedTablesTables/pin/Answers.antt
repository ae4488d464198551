use Rattle.std.proofs.Common.{◌∙◌, length, Some, rules}
use Rattle.hq_load_pages.proofs.Stores.{cells_few, first_here, inside_at, length_set, moved, never_broken, pins_fit, pins_of, reads_here, touches_here}
use Rattle.hq_load_pages.proofs.paged_tables.PagedTablesTables.pin.Goals as goal

pub returns-in-Ok-clause-touched : goal.returns-in-Ok-clause-touched
returns-in-Ok-clause-touched g c = λ _. search (rules, touches_here)

pub returns-in-Ok-clause-calls : goal.returns-in-Ok-clause-calls
returns-in-Ok-clause-calls g c = λ _. search (rules, reads_here)

pub returns-in-Err-Memory-clause-touched_some : goal.returns-in-Err-Memory-clause-touched_some
returns-in-Err-Memory-clause-touched_some g c = search (rules, first_here)

pub read_table-requires-clause-inside : goal.read_table-requires-clause-inside
read_table-requires-clause-inside g c =
    let there = inside_at (length c.args.self.now.headers.items) c.args.self.now.runs.items c.args.t c.run_at-run.result c.args.self.now.inside (search rules) in
    search (rules, there.0)

pub read_table-requires-clause-cells : goal.read_table-requires-clause-cells
read_table-requires-clause-cells g c =
    let there = inside_at (length c.args.self.now.headers.items) c.args.self.now.runs.items c.args.t c.run_at-run.result c.args.self.now.inside (search rules) in
    cells_few c.run_at-run.result.rows (length c.table_at-table.result.now.columns) there.1 c.table_at-table.ensures.few

-- the rows of the table are there

pub invariant_of-self-in-Ok-clause-fit : goal.invariant_of-self-in-Ok-clause-fit
invariant_of-self-in-Ok-clause-fit g c =
    let s = c.args.self.now in
    pins_fit s.catalog.tables s.pins.items c.at-at.result c.table_at-table.result.now c.in-Ok.rows s.fit (search rules) (search rules) c.in-Ok.ensures.valid

pub invariant_of-self-in-Ok-clause-told : goal.invariant_of-self-in-Ok-clause-told
invariant_of-self-in-Ok-clause-told g c =
    let s = c.args.self.now in
    moved (g.K.Disk.held s.disk) (g.K.Disk.held c.read_table.new.disk) c.in-Ok.ensures.held
    (pins_of (g.K.Disk.held s.disk) s.headers.items s.catalog.tables s.runs.items s.pins.items c.at-at.result c.table_at-table.result.now
    c.run_at-run.result c.in-Ok.rows s.told (search rules) (search rules) (search rules) (search rules) (search rules))

-- the pages are the due ones

pub invariant_of-self-in-Err-Broken-clause-sound : goal.invariant_of-self-in-Err-Broken-clause-sound
invariant_of-self-in-Err-Broken-clause-sound g c =
    let s = c.args.self.now in
    moved (g.K.Disk.held s.disk) (g.K.Disk.held c.read_table.new.disk) c.in-Err-Broken.ensures.held
    (never_broken (g.K.Disk.held s.disk) s.headers.items s.catalog.tables s.runs.items c.args.t c.table_at-table.result.now c.run_at-run.result
    c.count_fault.new.faults s.readable (search rules) (search rules) (search rules) (search rules))

pub invariant_of-self-in-Ok-clause-places : goal.invariant_of-self-in-Ok-clause-places
invariant_of-self-in-Ok-clause-places g c =
    let s = c.args.self.now in
    length_set s.pins.items c.at-at.result (Some c.in-Ok.rows) ∙ s.places
