use Rattle.std.proofs.Common.{rules}
use Rattle.hq_load_pages.proofs.PageBytes.{page_back}
use Rattle.hq_load_pages.proofs.page.page_with.Goals as goal

-- the page gives its piece back
pub returns-clause-back : goal.returns-clause-back
returns-clause-back c = let back = page_back c.args.due c.args.piece.now in search (rules, back)
