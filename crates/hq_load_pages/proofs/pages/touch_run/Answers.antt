use Rattle.std.proofs.Common.{inr, rules}
use Rattle.std.specs.Map.{keys_of}
use Rattle.hq_load_pages.proofs.PageRuns.{broken_run, next_calls, next_run, next_touched, on_err, refused_at}
use Rattle.hq_load_pages.proofs.pages.touch_run.Goals as goal

-- one page more
pub pages-preserved : goal.pages-preserved
pages-preserved g c =
    let told = g.K.Disk.held c.args.disk.now in
    let old = keys_of c.args.pieces.now.entries in
    let now = keys_of c.pages.pieces.entries in
    let cap = c.args.pieces.now.cap in
    let so_far = c.pages.invariant in
    let touched = next_touched c.args.first c.pages.done cap old now (keys_of c.touch_page.new.pieces.entries) so_far.cached (search rules) in
    let calls =
    next_calls (g.K.Disk.calls c.args.disk.now) (g.K.Disk.calls c.pages.disk) (g.K.Disk.calls c.touch_page.new.disk) c.args.first
    c.pages.done cap old now so_far.cached so_far.calls (search rules) in
    let run =
    next_run c.args.headers.now told c.args.first c.pages.done c.args.count c.pages.run.items c.append.new.run.items
    c.in_ok-piece.piece.items (search rules) (search rules) (search rules) so_far.run in
    record { within = search rules; cap = search rules; cached = touched; calls = calls; run = run; pieces = search rules; held = search rules; later = search rules }

-- a page that is refused
pub returns-in_err-piece-clause-refused : goal.returns-in_err-piece-clause-refused
returns-in_err-piece-clause-refused g c =
    on_err c.from_residual.result
    (refused_at c.args.first c.pages.done c.args.pieces.now.cap c.args.count (keys_of c.args.pieces.now.entries)
    (keys_of c.pages.pieces.entries) (keys_of c.touch_page.new.pieces.entries) (search rules) c.pages.invariant.cached (search rules))

-- a page that is not due
pub returns-in_err-piece-clause-broken : goal.returns-in_err-piece-clause-broken
returns-in_err-piece-clause-broken g c =
    let broken = broken_run c.args.headers.now (g.K.Disk.held c.args.disk.now) c.args.first c.pages.done c.args.count c.pages.run.items in
    search (rules, broken)

-- no memory for the piece: the page was touched
pub returns-in_err-append-clause-refused : goal.returns-in_err-append-clause-refused
returns-in_err-append-clause-refused g c =
    on_err c.from_residual-in_err-append.result
    (refused_at c.args.first c.pages.done c.args.pieces.now.cap c.args.count (keys_of c.args.pieces.now.entries)
    (keys_of c.pages.pieces.entries) (keys_of c.touch_page.new.pieces.entries) (search rules) c.pages.invariant.cached
    (inr (search rules)))
