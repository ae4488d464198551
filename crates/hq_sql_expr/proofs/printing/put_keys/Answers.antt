use Rattle.std.proofs.Common.{◌≡◌, ◌++◌, List, ℕ, map, subst}
use Rattle.std.specs.Prelude.{OnOk}
use Rattle.hq_sql_tree.specs.declared.word.Word.TheVariants as word
use Rattle.hq_sql_tree.specs.View.{order_view}
use Rattle.hq_sql_tree.specs.Spelling.{separated}
use Rattle.hq_sql_expr.proofs.Between.{order_texts_of}
use Rattle.hq_sql_expr.proofs.printing.put_keys.Goals as goal

pub returns : goal.returns
returns c =
    subst (λ (ts : List (List ℕ)). OnOk c.put_orders.result (c.put_orders.new.out.items ≡ c.args.out.now.items ++ separated word.Comma ts))
    (order_texts_of (map order_view c.args.orders.now.items)) c.put_orders.ensures
