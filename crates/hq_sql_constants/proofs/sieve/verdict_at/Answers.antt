use Rattle.std.proofs.Common.{◌≡◌, ◌∙◌, [], true, false, map, rules, IfSome, sym, ap, subst}
use Rattle.hq_sql_access.specs.Lent.{rows_lent}
use Rattle.hq_sql_access.specs.View.{row_in, world_of}
use Rattle.hq_sql_access.specs.declared.scope.Source.TheVariants as source
use Rattle.hq_sql_tree.specs.Meaning.{named_row}
use Rattle.hq_sql_tree.specs.Tree.{joins_of}
use Rattle.hq_sql_tree.specs.View.{filter_view, join_view}
use Rattle.hq_sql_constants.specs.Sieves.{SievesOver, all_hold}
use Rattle.hq_sql_constants.proofs.Sieving.{row_there, told_dropped, told_kept}
use Rattle.hq_sql_constants.proofs.sieve.verdict_at.Goals as goal

pub returns-then-not-branch : goal.returns-then-not-branch
returns-then-not-branch c =
    let w = world_of c.args.world.now in
    let stored = c.in-Stored-Some.stored in
    let columns = stored.now.table.now.columns in
    let js = joins_of (map join_view c.args.joins.now) in
    let f = filter_view c.args.filter.now in
    let alias = c.args.alias.now in
    let s = c.in-Stored-Some.sieve in
    let row = c.row.result.now in
    let some : SievesOver w c.args.source alias js f s = subst (λ o. IfSome o (SievesOver w c.args.source alias js f)) c.in-Stored-Some.is-1 c.requires in
    let over : SievesOver w (source.Stored stored) alias js f s = subst (λ q. SievesOver w q alias js f s) c.in-Stored-Some.is-0 some in
    let named : row_in c.args.source c.args.position ≡ named_row columns row =
    ap (λ q. row_in q c.args.position) c.in-Stored-Some.is-0 ∙ row_there stored c.in-Some.rows.now c.args.position (ap rows_lent c.in-Some.is)
    ∙ ap (named_row columns) (sym c.row.ensures) in
    let told : c.in_ok-all_hold.field-0 ≡ false = search rules in
    let out : all_hold s.tests.items row ≡ false = ap (λ ts. all_hold ts row) (sym c.deref.ensures.value) ∙ sym c.in_ok-all_hold.ensures ∙ told in
    told_dropped w columns alias js f s row _ over.1 over.0 named out

pub returns-then-sieve : goal.returns-then-sieve
returns-then-sieve c =
    let w = world_of c.args.world.now in
    let stored = c.in-Stored-Some.stored in
    let columns = stored.now.table.now.columns in
    let js = joins_of (map join_view c.args.joins.now) in
    let f = filter_view c.args.filter.now in
    let alias = c.args.alias.now in
    let s = c.in-Stored-Some.sieve in
    let row = c.row.result.now in
    let some : SievesOver w c.args.source alias js f s = subst (λ o. IfSome o (SievesOver w c.args.source alias js f)) c.in-Stored-Some.is-1 c.requires in
    let over : SievesOver w (source.Stored stored) alias js f s = subst (λ q. SievesOver w q alias js f s) c.in-Stored-Some.is-0 some in
    let named : row_in c.args.source c.args.position ≡ named_row columns row =
    ap (λ q. row_in q c.args.position) c.in-Stored-Some.is-0 ∙ row_there stored c.in-Some.rows.now c.args.position (ap rows_lent c.in-Some.is)
    ∙ ap (named_row columns) (sym c.row.ensures) in
    let told : c.in_ok-all_hold.field-0 ≡ true = search rules in
    let holds : all_hold s.tests.items row ≡ true = ap (λ ts. all_hold ts row) (sym c.deref.ensures.value) ∙ sym c.in_ok-all_hold.ensures ∙ told in
    told_kept w columns alias js f s row _ over.1 over.0 named c.if-sieve.true holds
