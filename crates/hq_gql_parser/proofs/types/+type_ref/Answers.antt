use Rattle.std.proofs.Common.{◌<◌, inr, sym, subst, ap, ◌∙◌, Err, arith}
use Rattle.hq_base.specs.Due.{Gives}
use Rattle.hq_gql_tree.specs.Types.{type_view}
use Rattle.hq_gql_parser.specs.declared.stop.Stop.TheVariants.{Memory}
use Rattle.hq_gql_parser.proofs.Depths.{list_type_none, list_type_is}
use Rattle.hq_gql_parser.proofs.types.+type_ref.Goals as goal

pub list_type-returns-then-depth-eq0 : goal.list_type-returns-then-depth-eq0
list_type-returns-then-depth-eq0 t c =
    inr (list_type_none c.args.depth c.args.tokens.now c.if-depth-eq0.true ∙ ap (λ s. Err s) (sym c.too_deep_or_unexpected.ensures))

pub list_type-returns : goal.list_type-returns
list_type-returns t c =
    let lt : 0 < c.args.depth = omega arith in
    subst (λ due. Gives (λ x. ((x.0, type_view x.1), x.2.now)) Memory due c.opened_list_type.result) (sym (list_type_is c.args.depth c.args.tokens.now lt)) c.opened_list_type.ensures
