use Rattle.std.proofs.Common.{◌∙◌, sym, ap, map, take}
use Rattle.std.specs.List.{list_all}
use Rattle.hq_sql_tree.specs.View.{expr_view, order_view}
use Rattle.hq_sql_tree.specs.WellFormed.{is_among}
use Rattle.hq_sql_check.specs.Fronts.{key_values}
use Rattle.hq_sql_check.proofs.Fronts.{begins}
use Rattle.hq_sql_check.proofs.distinct.begin_with.Goals as goal

pub returns : goal.returns
returns c =
    c.are_keys.ensures
    ∙
    (ap (λ n. list_all (is_among (key_values (map order_view (take n c.args.keys.now)))) (map expr_view c.args.distinct.now))
    c.front_among-front.ensures.front
    ∙ sym (begins c.args.distinct.now c.args.keys.now))
