use Rattle.std.proofs.Common.{rules}
use Rattle.std.specs.Prelude.{ℤ}
use Rattle.std.proofs.lemmas.Cmp.{int_cmp_total}
use Rattle.hq_sql_cells.proofs.KeyOrders.{sorted_by_closure}
use Rattle.hq_sql_cells.proofs.different.sort_numbers.Goals as goal

pub returns : goal.returns
returns c = sorted_by_closure int_cmp_total (λ (n : ℤ). n) c.args.numbers.now.items _ c.in_ok-sort_by.ensures.sorted c.in_ok-sort_by.ensures.stable (λ a r f' k. search rules)
