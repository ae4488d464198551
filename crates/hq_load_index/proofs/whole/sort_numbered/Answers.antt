use Rattle.std.proofs.Common.{rules}
use Rattle.std.proofs.lemmas.Cmp.{int_cmp_total}
use Rattle.hq_load_index.specs.declared.whole.Numbered.{Numbered}
use Rattle.hq_load_index.proofs.Closures.{sorted_by_closure}
use Rattle.hq_load_index.proofs.whole.sort_numbered.Goals as goal

pub returns : goal.returns
returns c = sorted_by_closure int_cmp_total (λ (x : Numbered). x.key) c.args.all.now.items _ c.in_ok-sort_by.ensures.sorted c.in_ok-sort_by.ensures.stable (λ a r f' k. search rules)
