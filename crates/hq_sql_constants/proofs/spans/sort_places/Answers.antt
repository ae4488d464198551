use Rattle.std.proofs.Common.{ℕ, rules}
use Rattle.std.proofs.lemmas.Cmp.{nat_cmp_total}
use Rattle.hq_load_index.proofs.Closures.{sorted_by_closure}
use Rattle.hq_sql_constants.proofs.spans.sort_places.Goals as goal

pub returns : goal.returns
returns c = sorted_by_closure nat_cmp_total (λ (x : ℕ). x) c.args.places.now.items _ c.in_ok-sort_by.ensures.sorted c.in_ok-sort_by.ensures.stable (λ a r f' k. search rules)
