use Rattle.std.proofs.Common.{◌≡◌, ◌∙◌, ◌==◌, [], true, length, map, refl, sym, subst, arith}
use Rattle.hq_sql_tree.specs.Tree.{joins_of}
use Rattle.hq_sql_tree.specs.View.{filter_view, join_view, order_view}
use Rattle.hq_sql_scans.specs.Ordered.{Finds}
use Rattle.hq_sql_scans.specs.Positions.{FindsArranged, WalksRows, rows_at}
use Rattle.hq_sql_scans.proofs.InOrder.{none_sorted, standing_walks, stands, walked_rows}
use Rattle.hq_sql_scans.proofs.ordered.ordered_at.Goals as goal

pub returns-then-is_empty : goal.returns-then-is_empty
returns-then-is_empty c =
    let js = joins_of (map join_view c.args.joins.now) in
    let order = c.args.parts.order.now in
    let positions = c.in_ok-positions.positions in
    let number : order.len ≡ length order.items = omega (arith, order.ok.0) in
    record {
      finds =
          subst (Finds js c.args.scope.now c.args.alias.now c.args.parts c.args.source) (sym c.standing.ensures)
          (stands js c.args.scope.now c.args.alias.now c.args.parts c.args.source positions _ refl
          (λ w. c.in_ok-positions.ensures.finds w
          ∙ none_sorted order.items _ (subst (λ k. (k == 0) ≡ true) number (sym c.is_empty.ensures ∙ c.if-is_empty.true))));
      walks = standing_walks _ c.args.source positions c.standing.result c.standing.ensures c.in_ok-positions.ensures.walks;
    }

pub returns-in-Some : goal.returns-in-Some
returns-in-Some c =
    let js = joins_of (map join_view c.args.joins.now) in
    let order = c.args.parts.order.now.items in
    let sorted : FindsArranged js c.args.scope.now c.args.alias.now (filter_view c.args.parts.filter.now) [] (map order_view order) c.args.source (rows_at c.args.source c.walked.result) =
    rw (c.walked.ensures, ← c.as_slice-order.ensures.value) (c.in-Some.ensures.finds c.args.scope.now (filter_view c.args.parts.filter.now)) in
    let walks : WalksRows c.args.source c.walked.result = rw c.walked.ensures (walked_rows _ c.args.source _ c.in-Some.ensures.over) in
    record {
      finds =
          subst (Finds js c.args.scope.now c.args.alias.now c.args.parts c.args.source) (sym c.standing-in-Some.ensures)
          (stands js c.args.scope.now c.args.alias.now c.args.parts c.args.source c.walked.result _ refl sorted);
      walks = standing_walks _ c.args.source c.walked.result c.standing-in-Some.result c.standing-in-Some.ensures walks;
    }
