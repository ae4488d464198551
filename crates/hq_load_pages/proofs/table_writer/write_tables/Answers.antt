use Rattle.std.proofs.Common.{◌≡◌, ◌∙◌, ◌-◌, ◌+◌, ◌<◌, ◌≤◌, ◌++◌, ◌∷◌, [], length, rules, arith}
use Rattle.hq_load_pages.proofs.PageRuns.{rises_more}
use Rattle.hq_load_pages.proofs.Writes.{all_pages, as_many, inside_more, next_table, rows_at, stores_all, stores_next}
use Rattle.hq_load_pages.proofs.table_writer.write_tables.Goals as goal

-- there are rows for each table
pub bounds-all-at : goal.bounds-all-at
bounds-all-at g c =
    let many = as_many c.args.tables.now c.args.all.now c.requires.valid in
    let below : c.tables.at < length c.args.tables.now = search rules in
    omega (arith, many, below)

-- and they are valid for it
pub write_table-requires-clause-valid : goal.write_table-requires-clause-valid
write_table-requires-clause-valid g c =
    rows_at c.args.tables.now c.args.all.now c.tables.at c.index-tables-at.result c.index-all-at.result c.requires.valid (search rules)
    c.index-tables-at.is c.index-all-at.is

-- a table more is stored
pub tables-preserved : goal.tables-preserved
tables-preserved g c =
    let so_far = c.tables.invariant in
    let wrote = c.in_ok-run.ensures in
    let run = c.in_ok-run.run' in
    let many = as_many c.args.tables.now c.args.all.now c.requires.valid in
    let below : c.tables.at < length c.args.tables.now = search rules in
    let there : c.tables.at < length c.args.all.now = omega (arith, many, below) in
    let runs : c.push.new.self.items ≡ c.tables.runs.items ++ run ∷ [] = search rules in
    let old = length c.tables.headers.items in
    let new = length c.write_table.new.headers.items in
    let sum : old + (new - old) ≡ new = omega (arith, wrote.count) in
    let within : run.first + run.pages ≤ new = omega (arith, wrote.pages) in
    let inside = inside_more old new c.tables.runs.items run so_far.inside wrote.count within wrote.rows in
    let stored =
    stores_next (g.K.Disk.held c.tables.disk) (g.K.Disk.held c.write_table.new.disk) c.tables.headers.items c.write_table.new.headers.items
    c.tables.runs.items c.args.tables.now c.args.all.now c.tables.at c.index-tables-at.result run c.index-all-at.result below there
    c.index-tables-at.is c.index-all-at.is so_far.stored wrote.wrote wrote.first wrote.pages in
    let calls = rises_more (g.K.Disk.calls c.args.disk.now) (g.K.Disk.calls c.tables.disk) (g.K.Disk.calls c.write_table.new.disk) old (new - old) so_far.calls wrote.calls in
    let grown =
    next_table (g.K.Disk.held c.args.disk.now) (g.K.Disk.held c.tables.disk) (g.K.Disk.held c.write_table.new.disk) c.args.all.now
    c.tables.at c.index-all-at.result there c.index-all-at.is so_far.grown wrote.grown in
    record {
      within = search rules;
      size = search rules;
      few = search rules;
      each = search rules;
      inside = rw runs inside;
      stored = rw runs stored;
      grown = grown;
      told = wrote.told ∙ so_far.told;
      calls = rw (← sum) calls;
      later = search rules;
    }

-- all tables are stored
pub returns-clause-stores : goal.returns-clause-stores
returns-clause-stores g c =
    let many = as_many c.args.tables.now c.args.all.now c.requires.valid in
    let end : length c.args.tables.now ≤ c.tables.at = search rules in
    stores_all (g.K.Disk.held c.tables.disk) c.tables.headers.items c.tables.runs.items c.args.tables.now c.args.all.now c.tables.at end (omega (arith, many, end)) c.tables.invariant.stored

-- and their pages are all that the disk has
pub returns-clause-bytes : goal.returns-clause-bytes
returns-clause-bytes g c =
    let many = as_many c.args.tables.now c.args.all.now c.requires.valid in
    let end : length c.args.tables.now ≤ c.tables.at = search rules in
    all_pages (g.K.Disk.held c.args.disk.now) (g.K.Disk.held c.tables.disk) c.args.all.now c.tables.at (g.K.Disk.size c.args.disk.now)
    (g.met.K.Disk.told_size c.args.disk.now) c.requires.empty (omega (arith, many, end)) c.tables.invariant.grown
