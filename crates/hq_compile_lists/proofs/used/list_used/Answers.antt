use Rattle.hq_compile_lists.proofs.Selects.{gathered}
use Rattle.hq_compile_lists.proofs.used.list_used.Goals as goal

-- the columns of `where`, of the sort keys, of DISTINCT ON and of the outputs, in this order
pub returns : goal.returns
returns c = gathered _ _ _ _ _ _ _ _ _ c.in_ok-add_each.ensures c.in_ok-add_distinct.ensures c.in_ok-add_sorts.ensures c.in_ok-add_columns.ensures c.new-columns.ensures
