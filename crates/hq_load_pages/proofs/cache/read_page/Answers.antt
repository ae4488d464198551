use Rattle.std.proofs.Common.{rules, refl, ◌*◌, ◌∙◌, ap, take}
use Rattle.std.proofs.lemmas.List.{take_at}
use Rattle.hq_load_pages.proofs.PageReads.{page_got}
use Rattle.hq_load_pages.proofs.cache.read_page.Goals as goal

-- what is read of a told disk is its page
pub returns-in-Ok-clause-bytes : goal.returns-in-Ok-clause-bytes
returns-in-Ok-clause-bytes g c =
    page_got (g.K.Disk.held c.args.disk.now) c.read_at.new.buf _ c.in-Ok.count c.args.page (g.K.Disk.size c.args.disk.now) (4096 * c.args.page)
    (c.truncate.ensures.items ∙ ap (take c.in-Ok.count) (take_at c.read_at.new.buf _ _ (search rules))) (search rules) refl (search rules) (g.met.K.Disk.told_size c.args.disk.now) (search rules)
