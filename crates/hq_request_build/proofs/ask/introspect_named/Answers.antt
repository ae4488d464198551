use Rattle.std.proofs.Common.{◌≡◌, ◌∙◌, ap, rules, subst, sym, Ok, Some}
use Rattle.hq_base.specs.Due.{Gives, and_then}
use Rattle.hq_request_arguments.specs.Context.{context_view}
use Rattle.hq_request_build.specs.Asked.{below_of, introspect_by}
use Rattle.hq_request_build.specs.KnownField.{leads_to, type_name_of}
use Rattle.hq_request_build.specs.Seen.{known_view}
use Rattle.hq_request_tree.specs.Fields.{field_view}
use Rattle.hq_request_coerce.specs.declared.refusal.CoerceRefusal.TheVariants.{Memory}
use Rattle.hq_request_collect.specs.TreeSeen.{parts_seen}
use Rattle.hq_request_build.proofs.ask.introspect_named.Goals as goal

pub returns : goal.returns
returns c =
    let x = context_view c.args.context.now in
    let f = parts_seen c.args.field.now in
    let k = known_view c.args.known in
    let to : c.base-to.result ≡ leads_to k = search rules in
    let named : type_name_of f.head k.1 ≡ Ok c.in_ok-name.name = search rules in
    subst (λ due. Gives field_view Memory due c.introspect.result)
    (ap (λ p. introspect_by f.head (Some c.in_ok-name.name) (below_of x p c.args.t f.below)) to
    ∙ sym (ap (and_then (λ name. introspect_by f.head (Some name) (below_of x (leads_to k) c.args.t f.below))) named))
    c.introspect.ensures
