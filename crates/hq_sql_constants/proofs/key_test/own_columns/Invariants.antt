use Rattle.std.proofs.Common.{take}
use Rattle.hq_sql_constants.specs.KeyTests.{AreOwn}
use Rattle.hq_sql_constants.proofs.key_test.own_columns.Given as goal

-- the columns of the expressions so far
abbrev pub invariant-loop-link : goal.invariant-loop-link
invariant-loop-link l = AreOwn l.columns l.alias (take l.link-index l.links) l.own.items
