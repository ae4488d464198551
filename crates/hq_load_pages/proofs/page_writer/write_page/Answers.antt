use Rattle.std.proofs.Common.{◌*◌, length, subst, rules}
use Rattle.hq_load_pages.specs.DiskPages.{Grows}
use Rattle.hq_load_pages.proofs.Writes.{grows_one, page_is, told_kept, wrote_one}
use Rattle.hq_load_pages.proofs.page_writer.write_page.Goals as goal

-- the page is there
pub returns-clause-grown : goal.returns-clause-grown
returns-clause-grown g c =
    let one = grows_one (g.K.Disk.held c.args.disk.now) (g.K.Disk.held c.write_at.new.self) c.in_ok-page.page.items (4096 * length c.args.headers.now.items) (g.K.Disk.size c.args.disk.now) in
    let told = g.met.K.Disk.told_size c.args.disk.now in
    let grown = one (search rules) (search rules) told (search rules) in
    let is = page_is c.args.due c.args.piece.now c.in_ok-page.page.items (search rules) c.requires.length in
    subst (Grows (g.K.Disk.held c.args.disk.now) (g.K.Disk.held c.write_at.new.self)) is grown

-- and its piece
pub returns-clause-wrote : goal.returns-clause-wrote
returns-clause-wrote g c =
    let one = grows_one (g.K.Disk.held c.args.disk.now) (g.K.Disk.held c.write_at.new.self) c.in_ok-page.page.items (4096 * length c.args.headers.now.items) (g.K.Disk.size c.args.disk.now) in
    let told = g.met.K.Disk.told_size c.args.disk.now in
    let grown = one (search rules) (search rules) told (search rules) in
    let piece = wrote_one (g.K.Disk.held c.args.disk.now) (g.K.Disk.held c.write_at.new.self) c.args.headers.now.items c.args.due c.in_ok-page.page.items c.args.piece.now grown in
    search (rules, piece)

-- the disk tells its bytes if it did
pub returns-clause-told : goal.returns-clause-told
returns-clause-told g c = told_kept (g.K.Disk.held c.args.disk.now) (g.K.Disk.held c.write_at.new.self) (4096 * length c.args.headers.now.items) c.in_ok-page.page.items (search rules) (search rules)
