use Rattle.std.proofs.Common.{rules}
use Rattle.hq_load_pages.proofs.Keys.{keys-looked, looked}
use Rattle.hq_load_pages.proofs.cache.cached.Goals as goal

pub returns-clause-pages : goal.returns-clause-pages
returns-clause-pages c = let h = keys-looked c.args.page c.args.pieces.now.cap c.args.pieces.now.entries c.len-len.ensures.valid.1 in search (rules, h, c.look.ensures.order)

pub returns-clause-there : goal.returns-clause-there
returns-clause-there c = let h = looked (λ v. v.items) c.args.page c.args.pieces.now.entries in search (rules, h)
