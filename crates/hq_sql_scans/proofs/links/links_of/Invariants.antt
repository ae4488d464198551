use Rattle.std.proofs.Common.{take}
use Rattle.hq_sql_conjuncts.specs.Conjuncts.{lent_views}
use Rattle.hq_sql_scans.specs.Links.{AreLinks}
use Rattle.hq_sql_scans.proofs.links.links_of.Given as goal

-- the links of the conditions so far
abbrev pub invariant-loop-pred : goal.invariant-loop-pred
invariant-loop-pred l = AreLinks l.columns l.alias (lent_views (take l.pred-index l.preds)) l.own.items l.exprs.items
