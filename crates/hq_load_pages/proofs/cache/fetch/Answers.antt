use Rattle.std.proofs.Common.{◌≡◌, Some, rules}
use Rattle.hq_load_pages.specs.Held.{WhereTold, due_piece}
use Rattle.hq_load_pages.proofs.Keys.{put_keys}
use Rattle.hq_load_pages.proofs.Pieces.{told_due, told_put}
use Rattle.hq_load_pages.proofs.cache.fetch.Goals as goal

-- the list of the pages after a `put`
pub returns-in-Ok-clause-cached : goal.returns-in-Ok-clause-cached
returns-in-Ok-clause-cached g c = let h = put_keys c.args.page c.in-Some.piece c.args.pieces.now.cap c.args.pieces.now.entries c.requires.missed c.len-len.ensures.valid.2 in search (rules, h)

-- the piece that was put is the due one
pub returns-in-Ok-clause-pieces : goal.returns-in-Ok-clause-pieces
returns-in-Ok-clause-pieces g c =
    let told = g.K.Disk.held c.args.disk.now in
    let due : WhereTold told (λ held. due_piece c.args.headers.now held c.args.page ≡ Some c.in-Some.piece.items) =
    search (rules, told_due c.args.headers.now told c.args.page c.index-headers-page.result c.in_ok-bytes.bytes.items) in
    told_put (λ v. v.items) c.args.headers.now told c.args.page c.in-Some.piece c.args.pieces.now.cap c.args.pieces.now.entries
    c.put.new.self.entries c.requires.pieces c.requires.missed due (search rules)
