use Rattle.std.proofs.Common.{◌≡◌, ◌∙◌, sym, ap, subst, ◌+◌, ◌<◌, ◌≤◌, ◌++◌, ◌∷◌, [], map, drop, length, bytes_eq, arith}
use Rattle.std.specs.Prelude.{IfOk}
use Rattle.std.proofs.lemmas.List.{append-nil, drop_all, map-append}
use Rattle.hq_base.specs.Lists.{all_differ}
use Rattle.hq_sql_tree.specs.Tree.{pairs_of}
use Rattle.hq_sql_tree.specs.View.{pair_view}
use Rattle.hq_sql_tree.specs.WellFormed.{pair_names}
use Rattle.hq_sql_check.specs.Scopes.{texts}
use Rattle.hq_sql_tree.proofs.Next.{next_pair}
use Rattle.hq_sql_check.proofs.Next.{piece_more}
use Rattle.hq_sql_check.proofs.differ.pairs_differ.Goals as goal

pub loop-pair-preserved : goal.loop-pair-preserved
loop-pair-preserved c =
    let items = c.deref-pair-items.result.now in
    let i = c.loop-pair.pair-index in
    let item = c.pair-item.result in
    let within : i < length items = omega arith in
    let names = c.loop-pair.names.items in
    piece_more (texts names) (texts c.push.new.self.items) (item.name ∷ []) (pair_names (pairs_of (map pair_view (drop (i + 1) items)))) (pair_names (pairs_of (map pair_view (drop i items)))) _
    (ap texts c.in_ok-push.ensures.items ∙ map-append (λ text. text.now) names (c.as_str.result ∷ []) ∙ ap (λ name. texts names ++ name ∷ []) c.as_str.ensures)
    (ap pair_names (next_pair items i item within c.pair-item.is)) c.loop-pair.invariant

pub returns : goal.returns
returns c =
    let items = c.deref-pair-items.result.now in
    let i = c.loop-pair.pair-index in
    let past : length items ≤ i = omega arith in
    let names = texts c.loop-pair.names.items in
    let all : names ≡ pair_names (pairs_of (map pair_view c.args.pairs.now.items)) =
    sym (append-nil names) ∙ ap (λ left. names ++ pair_names (pairs_of (map pair_view left))) (sym (drop_all i items past))
    ∙ c.loop-pair.invariant ∙ ap (λ list. pair_names (pairs_of (map pair_view list))) c.deref-pair-items.ensures.value in
    subst (λ known. IfOk c.all_differ.result (λ differ. differ ≡ all_differ bytes_eq known)) all c.all_differ.ensures
