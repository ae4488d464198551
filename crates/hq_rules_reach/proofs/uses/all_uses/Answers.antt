use Rattle.std.proofs.Common.{◌+◌, sym, subst, map, take, List, [], Vec, Global, rules, arith}
use Rattle.std.proofs.lemmas.Grind.{common_steps}
use Rattle.std.specs.List.{All}
use Rattle.std.proofs.lemmas.List.Elements.{All-push}
use Rattle.hq_gql_nodes.specs.Names.{get_name}
use Rattle.hq_gql_nodes.specs.declared.node.Node.{Node}
use Rattle.hq_gql_nodes.specs.Nodes.{part_view, node_view}
use Rattle.hq_rules_reach.specs.declared.uses.Use.{Use}
use Rattle.hq_rules_reach.specs.Summaries.{IsSummary, AreSummaries}
use Rattle.hq_rules_reach.specs.Uses.{IsNumbered, AreNumbered, use_view, uses_of, uses_view, all_uses}
use Rattle.hq_rules_reach.proofs.ByNumber.{all_numbered_kept}
use Rattle.hq_rules_reach.proofs.Summing.{summaries_more}
use Rattle.hq_rules_reach.proofs.uses.all_uses.Goals as goal

pub loop-part-preserved : goal.loop-part-preserved
loop-part-preserved c =
    let old = get_name c.loop-part.numbers.names in
    let new = get_name c.summary_of.new.numbers.names in
    let one : IsSummary (map use_view c.in_ok-summary_of.field-0.items) (uses_of (map node_view c.part-item.result.nodes.items)) =
    subst (λ (ns : List Node). IsSummary (map use_view c.in_ok-summary_of.field-0.items) (uses_of (map node_view ns))) c.deref.ensures.value c.in_ok-summary_of.ensures.summary in
    record {
      numbers = c.in_ok-summary_of.ensures.numbers;
      numbered =
          subst (AreNumbered new) (sym c.in_ok-push.ensures.items)
          (All-push (λ (us : Vec Use Global). All (IsNumbered new) us.items) c.loop-part.all.items c.in_ok-summary_of.field-0
          (all_numbered_kept old new c.in_ok-summary_of.ensures.kept c.loop-part.all.items c.loop-part.invariant.numbered) c.in_ok-summary_of.ensures.numbered);
      long = first_of (search rules, grind (arith, common_steps, c.in_ok-push.ensures.items, c.loop-part.invariant.long));
      summaries =
          subst (λ (xs : List (Vec Use Global)). AreSummaries (uses_view xs) (all_uses (map part_view (take (c.loop-part.part-index + 1) c.args.parts.now)))) (sym c.in_ok-push.ensures.items)
          (summaries_more c.loop-part.all.items c.in_ok-summary_of.field-0 c.args.parts.now c.loop-part.part-index c.part-item.result
          c.loop-part-test.true c.part-item.is c.loop-part.invariant.long c.loop-part.invariant.summaries one);
    }
