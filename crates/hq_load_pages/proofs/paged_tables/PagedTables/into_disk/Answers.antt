use Rattle.hq_load_pages.specs.Directory.{tables_read}
use Rattle.hq_load_pages.proofs.Told.{database_told, faults_told}
use Rattle.hq_load_pages.proofs.paged_tables.PagedTables.into_disk.Goals as goal

pub returns-clause-told : goal.returns-clause-told
returns-clause-told g c =
    let s = c.args.self in
    database_told s.catalog.tables (g.K.Disk.held s.disk) (λ held. tables_read s.headers.items held s.catalog.tables s.runs.items) s.readable

pub returns-clause-faults : goal.returns-clause-faults
returns-clause-faults g c = let s = c.args.self in faults_told (g.K.Disk.held s.disk) (g.K.Disk.faults s.disk) s.broken s.sound
