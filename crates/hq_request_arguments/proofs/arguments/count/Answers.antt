use Rattle.std.proofs.Common.{◌∙◌, ℕ, map, Bool, Option, sym, ap, subst, codes}
use Rattle.hq_base.specs.Due.{Gives, and_then}
use Rattle.hq_gql_tree.specs.Values.{argument_view}
use Rattle.hq_schema.specs.Schema.{arg_view}
use Rattle.hq_request_arguments.specs.Context.{context_view}
use Rattle.hq_request_arguments.specs.Due.{counting}
use Rattle.hq_request_arguments.specs.FieldArguments.{FieldArguments, field_args_view}
use Rattle.hq_request_arguments.specs.Plain.{flag_due}
use Rattle.hq_request_arguments.specs.Reading.{Read, given_named}
use Rattle.hq_request_arguments.specs.declared.refusal.ArgRefusal.TheVariants.{Memory}
use Rattle.hq_request_arguments.proofs.arguments.count.Goals as goal

pub returns : goal.returns
returns c =
    let x = context_view c.args.context.now in
    let flags = flag_due (given_named x (map arg_view c.args.args.now) (map argument_view c.args.arguments.now) (codes "distinct")) in
    subst (λ (due : Read FieldArguments). Gives field_args_view Memory due c.counting.result)
    (sym
    (ap (and_then (λ (column : Option ℕ). and_then (λ (distinct : Bool). counting x c.args.t column distinct) flags)) c.in_ok-col.ensures
    ∙ ap (and_then (λ (distinct : Bool). counting x c.args.t c.in_ok-col.col distinct)) c.in_ok-distinct.ensures))
    c.counting.ensures
