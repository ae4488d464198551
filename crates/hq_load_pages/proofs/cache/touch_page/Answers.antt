use Rattle.std.proofs.Common.{◌∙◌, sym, ap, rules}
use Rattle.std.specs.Prelude.{option_map}
use Rattle.hq_load_pages.proofs.Pieces.{told_found, told_promoted}
use Rattle.hq_load_pages.proofs.PageRuns.{no_miss, rises_none}
use Rattle.hq_load_pages.proofs.cache.touch_page.Goals as goal

-- a look-up leaves all pieces

pub returns-in_err-piece-clause-pieces : goal.returns-in_err-piece-clause-pieces
returns-in_err-piece-clause-pieces g c =
    told_promoted (λ v. v.items) c.args.headers.now (g.K.Disk.held c.args.disk.now) c.args.page c.args.pieces.now.entries
    c.cached.new.pieces.entries c.requires.pieces c.cached.ensures.order

pub fetch-requires-clause-pieces : goal.fetch-requires-clause-pieces
fetch-requires-clause-pieces g c =
    told_promoted (λ v. v.items) c.args.headers.now (g.K.Disk.held c.args.disk.now) c.args.page c.args.pieces.now.entries
    c.cached.new.pieces.entries c.requires.pieces c.cached.ensures.order

pub returns-in-Some-clause-pieces : goal.returns-in-Some-clause-pieces
returns-in-Some-clause-pieces g c =
    told_promoted (λ v. v.items) c.args.headers.now (g.K.Disk.held c.args.disk.now) c.args.page c.args.pieces.now.entries
    c.cached.new.pieces.entries c.requires.pieces c.cached.ensures.order

-- what is found is the due piece
pub returns-in-Some-clause-piece : goal.returns-in-Some-clause-piece
returns-in-Some-clause-piece g c =
    told_found (λ v. v.items) c.args.headers.now (g.K.Disk.held c.args.disk.now) c.args.page c.args.pieces.now.entries c.in-Some.piece.items c.requires.pieces
    (ap (option_map (λ v. v.items)) (sym c.in-Some.is) ∙ c.in_ok-piece.ensures.bytes)

-- a page that is there is not read
pub returns-in-Some-clause-calls : goal.returns-in-Some-clause-calls
returns-in-Some-clause-calls g c =
    let none = rises_none (g.K.Disk.calls c.args.disk.now) in
    search (rules, none, no_miss)
