use Rattle.std.proofs.Common.{◌≡◌, ◌++◌, drop, map}
use Rattle.hq_sql_tree.specs.declared.word.Word.TheVariants as word
use Rattle.hq_sql_tree.specs.Tree.{pairs_of, orders_of}
use Rattle.hq_sql_tree.specs.View.{pair_view, order_view}
use Rattle.hq_sql_tree.specs.Spelling.{separated, pair_texts, order_texts}
use Rattle.hq_sql_expr.proofs.Between.{rest_of}
use Rattle.hq_sql_expr.proofs.printing.+put_expr.Given as goal

abbrev pub invariant-put_pairs-loop-i : goal.invariant-put_pairs-loop-i
invariant-put_pairs-loop-i l =
    l.out.items ++ rest_of word.Comma l.i (pair_texts (pairs_of (map pair_view (drop l.i l.pairs.items))))
    ≡ l.initial.out.items ++ separated word.Comma (pair_texts (pairs_of (map pair_view l.pairs.items)))

abbrev pub invariant-put_orders-loop-i : goal.invariant-put_orders-loop-i
invariant-put_orders-loop-i l =
    l.out.items ++ rest_of word.Comma l.i (order_texts (orders_of (map order_view (drop l.i l.orders.items))))
    ≡ l.initial.out.items ++ separated word.Comma (order_texts (orders_of (map order_view l.orders.items)))
