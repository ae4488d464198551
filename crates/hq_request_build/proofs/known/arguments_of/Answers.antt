use Rattle.std.proofs.Common.{subst}
use Rattle.hq_base.specs.Due.{Gives}
use Rattle.hq_request_arguments.specs.Context.{context_view}
use Rattle.hq_request_arguments.specs.Due.{arguments_due}
use Rattle.hq_request_arguments.specs.FieldArguments.{field_args_view}
use Rattle.hq_request_coerce.specs.declared.refusal.CoerceRefusal.TheVariants as refusal
use Rattle.hq_gql_tree.specs.Selections.{FieldHead}
use Rattle.hq_schema.specs.Schema.{field_view}
use Rattle.hq_request_build.proofs.known.arguments_of.Goals as goal

pub returns : goal.returns
returns c =
    subst (λ (h : FieldHead). Gives field_args_view refusal.Memory (arguments_due (context_view c.args.context.now) c.args.t (field_view c.args.def.now) h) c.coerce_args.result)
    c.first.ensures c.coerce_args.ensures
