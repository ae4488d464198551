use Rattle.std.proofs.Common.{◌≡◌, ◌∙◌, ◌-◌, ◌+◌, ◌<◌, ◌++◌, [], drop, length, min, take, append_assoc, refl, ap, subst, rules, arith}
use Rattle.std.proofs.lemmas.List.{take-append-drop}
use Rattle.hq_load_pages.specs.Counts.{Rises}
use Rattle.hq_load_pages.specs.DiskPages.{Grows, page_bytes, run_pages}
use Rattle.hq_load_pages.proofs.PageReads.{taken}
use Rattle.hq_load_pages.proofs.PageRuns.{rises_more, rises_none}
use Rattle.hq_load_pages.proofs.Writes.{cut_back, grows_more, grows_none, last_pages, next_pages, wrote_more, wrote_none}
use Rattle.hq_load_pages.proofs.page_writer.write_pages.Goals as goal

-- nothing is written yet
pub pieces-init : goal.pieces-init
pieces-init g c =
    let n = length c.args.headers.now.items in
    let o = g.K.Disk.calls c.args.disk.now in
    let none : n - n ≡ 0 = omega arith in
    record {
      number = search rules;
      size = search rules;
      count = search rules;
      few = search rules;
      wrote = ([], refl, wrote_none (g.K.Disk.held c.args.disk.now) c.args.headers.now.items);
      grown = ([], length c.args.run.now, search rules, refl, grows_none (g.K.Disk.held c.args.disk.now));
      told = refl;
      calls = rw none (rises_none o);
      later = search rules;
    }

-- a page more is written
pub pieces-preserved : goal.pieces-preserved
pieces-preserved g c =
    let so_far = c.pieces.invariant in
    let done = so_far.wrote.0 in
    let front = c.split_at.result.0.now in
    let behind = c.split_at.result.1.now in
    let parts : front ++ behind ≡ c.pieces.rest.now = search (rules, take-append-drop) in
    let cut : c.min-length.result ≡ min 4086 (length c.pieces.rest.now) = search rules in
    let cut_at : front ≡ take 4086 c.pieces.rest.now = search (rules, taken 4086 c.min-length.result c.pieces.rest.now cut) in
    let cut_behind : behind ≡ drop 4086 c.pieces.rest.now = search (rules, cut_back 4086 c.min-length.result c.pieces.rest.now cut) in
    let some : 0 < length c.pieces.rest.now = search rules in
    let pages = so_far.grown in
    let page = next_pages c.args.table c.pieces.piece pages.1 pages.0 c.pieces.rest.now front behind (run_pages c.args.table c.args.run.now) some pages.2 cut_at cut_behind pages.3 in
    let grown =
    grows_more (g.K.Disk.held c.args.disk.now) (g.K.Disk.held c.pieces.disk) (g.K.Disk.held c.write_page.new.disk) pages.0
    (page_bytes c.args.table c.pieces.piece front) pages.4 c.in_ok-write_page.ensures.grown in
    let one : length c.write_page.new.headers.items - length c.args.headers.now.items
    ≡ (length c.pieces.headers.items - length c.args.headers.now.items) + 1 =
    omega (arith, so_far.count, c.in_ok-write_page.ensures.count) in
    let next : Rises (g.K.Disk.calls c.pieces.disk) (g.K.Disk.calls c.write_page.new.disk) 1 = c.in_ok-write_page.ensures.calls in
    record {
      number = search rules;
      size = search rules;
      count = search rules;
      few = search rules;
      wrote = (
        done ++ front,
        append_assoc done front behind ∙ ap (λ xs. done ++ xs) parts ∙ so_far.wrote.1,
        wrote_more (g.K.Disk.held c.args.disk.now) (g.K.Disk.held c.pieces.disk) (g.K.Disk.held c.write_page.new.disk) c.args.headers.now.items
            c.pieces.headers.items c.write_page.new.headers.items done front so_far.wrote.2 c.in_ok-write_page.ensures.wrote,
      );
      grown = (pages.0 ++ page_bytes c.args.table c.pieces.piece front, pages.1 - 1, page.0, page.1, grown);
      told = c.in_ok-write_page.ensures.told ∙ so_far.told;
      calls =
          rw one
          (rises_more (g.K.Disk.calls c.args.disk.now) (g.K.Disk.calls c.pieces.disk) (g.K.Disk.calls c.write_page.new.disk)
          (length c.pieces.headers.items - length c.args.headers.now.items) 1 so_far.calls next);
      later = search rules;
    }

-- all pages are there
pub returns-clause-grown : goal.returns-clause-grown
returns-clause-grown g c =
    let pages = c.pieces.invariant.grown in
    let all = last_pages c.args.table c.pieces.piece pages.1 pages.0 c.pieces.rest.now (run_pages c.args.table c.args.run.now) (search rules) pages.3 in
    subst (Grows (g.K.Disk.held c.args.disk.now) (g.K.Disk.held c.pieces.disk)) all pages.4
