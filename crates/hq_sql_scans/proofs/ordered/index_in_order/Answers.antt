use Rattle.std.proofs.Common.{◌≡◌, ◌∙◌, [], map, false, Option, None, Some, sym}
use Rattle.std.specs.Prelude.{IfSome}
use Rattle.std.specs.Borrow.{Bor}
use Rattle.hq_load_index.specs.declared.index.Index.{Index}
use Rattle.hq_sql_tree.specs.Tree.{FilterTree, joins_of}
use Rattle.hq_sql_tree.specs.View.{join_view, order_view}
use Rattle.hq_sql_tree.specs.Meaning.{kept}
use Rattle.hq_sql_access.specs.Equations.{is_joined}
use Rattle.hq_sql_access.specs.Lent.{rows_lent}
use Rattle.hq_sql_scans.specs.Ordered.{HasOrder, walked}
use Rattle.hq_sql_scans.specs.Positions.{IsOverSource, rows_at, FindsArranged}
use Rattle.hq_sql_access.specs.View.{scope_of}
use Rattle.hq_sql_access.specs.declared.scope.Scope.{Scope as InScope}
use Rattle.hq_sql_access.specs.declared.scope.Source.TheVariants as source
use Rattle.hq_sql_scans.proofs.InOrder.{ordered_is}
use Rattle.hq_sql_scans.proofs.ordered.index_in_order.Goals as goal

pub returns-in-Stored : goal.returns-in-Stored
returns-in-Stored c =
    let stored = c.in-Stored.stored in
    let columns = stored.now.table.now.columns in
    let rows = rows_lent stored.now.rows in
    let alias = c.args.alias.now in
    let js = joins_of (map join_view c.args.joins.now) in
    let os = map order_view c.args.order.now in
    let alone : is_joined js alias ≡ false = sym c.is_joined.ensures ∙ c.if-is_joined.false in
    let orders : (o : Option (Bor Index)) → IfSome o (λ index. HasOrder c.args.desc columns rows alias os index.now)
    → IfSome o (λ index. (scope : InScope) → (f : FilterTree) → FindsArranged js scope alias f [] os (source.Stored stored) (rows_at (source.Stored stored) (walked c.args.desc index))) =
    elim [ None ↦ λ h. h | Some index ↦ λ h. λ scope f w. ordered_is columns rows js w (scope_of scope w) alias (kept f w) c.args.desc os index h alone ] in
    let overs : (o : Option (Bor Index)) → IfSome o (λ index. HasOrder c.args.desc columns rows alias os index.now) → IfSome o (λ index. IsOverSource (source.Stored stored) index.now) =
    elim [ None ↦ λ h. h | Some index ↦ λ h. h.over ] in
    record {
      finds = rw c.in-Stored.is (orders c.index_of_stored.result c.index_of_stored.ensures);
      over = rw c.in-Stored.is (overs c.index_of_stored.result c.index_of_stored.ensures);
    }
