use Rattle.std.proofs.Common.{◌≡◌, ◌∙◌, sym, ap, nat_le, length, rules}
use Rattle.hq_sql_tree.proofs.Listed.{listed_length}
use Rattle.hq_sql_tree.proofs.grammar.has_two.Goals as goal

pub returns : goal.returns
returns c =
    let count : c.len.result ≡ length c.args.preds.now.items = search rules in
    ap (λ n. nat_le 2 n) (count ∙ sym (listed_length c.args.preds.now.items))
