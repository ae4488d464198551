use Rattle.std.proofs.Common.{◌≤◌, ◌+◌, ap, length, arith}
use Rattle.std.proofs.lemmas.Result.{on_ok_weaker}
use Rattle.hq_request_tree.specs.Arguments.{arguments_view}
use Rattle.hq_translation.specs.Lists.{list_sorts}
use Rattle.hq_compile_tables.specs.Contexts.{context_schema}
use Rattle.hq_compile.proofs.SortCounts.{list_sorts-length}
use Rattle.hq_compile.proofs.counts.count_sorts.Goals as goal

-- the sum that was counted is no smaller than the number of sort keys
pub returns : goal.returns
returns c =
    let few : length (list_sorts (context_schema c.args.context.now) c.args.t (arguments_view c.args.args.now)) ≤ c.entry_count.result + length c.key.result.now =
    omega (arith, list_sorts-length (context_schema c.args.context.now) c.args.t (arguments_view c.args.args.now), ap length c.key.ensures, c.entry_count.ensures) in
    on_ok_weaker c.count_both.result (λ h. omega (arith, few, h)) c.count_both.ensures
