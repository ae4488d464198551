use Rattle.std.proofs.Common.{◌∙◌, ap, sym, subst, map}
use Rattle.hq_base.specs.Due.{Gives, mapped}
use Rattle.hq_gql_tree.specs.Values.{argument_view}
use Rattle.hq_schema.specs.Schema.{arg_view}
use Rattle.hq_request_arguments.specs.Context.{context_view}
use Rattle.hq_request_arguments.specs.Due.{list_due, by_origin}
use Rattle.hq_request_arguments.specs.FieldArguments.{rows, field_args_view}
use Rattle.hq_request_arguments.specs.declared.refusal.ArgRefusal.TheVariants.{Memory}
use Rattle.hq_request_arguments.proofs.arguments.arguments_by.Goals as goal

pub returns-in-List : goal.returns-in-List
returns-in-List c =
    let x = context_view c.args.context.now in
    let args = map arg_view c.args.args.now in
    let xs = map argument_view c.args.arguments.now in
    subst (λ due. Gives field_args_view Memory due c.rows_args-in-List.result)
    (ap (λ u. mapped rows (list_due x args xs u)) c.remote-table.ensures ∙ sym (ap (by_origin x c.args.t args xs) c.in-List.is))
    c.rows_args-in-List.ensures

pub returns-in-ListAggregate : goal.returns-in-ListAggregate
returns-in-ListAggregate c =
    let x = context_view c.args.context.now in
    let args = map arg_view c.args.args.now in
    let xs = map argument_view c.args.arguments.now in
    subst (λ due. Gives field_args_view Memory due c.rows_args-in-ListAggregate.result)
    (ap (λ u. mapped rows (list_due x args xs u)) c.remote-table-in-ListAggregate.ensures ∙ sym (ap (by_origin x c.args.t args xs) c.in-ListAggregate.is))
    c.rows_args-in-ListAggregate.ensures
