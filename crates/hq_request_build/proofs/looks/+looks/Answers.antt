use Rattle.std.proofs.Common.{◌∙◌, refl, ap, map, [], ◌∷◌, ◌++◌, List, Ok}
use Rattle.std.proofs.lemmas.List.{map-append, at_drop_all}
use Rattle.hq_base.specs.Due.{mapped}
use Rattle.hq_request_arguments.specs.Context.{Context, context_view}
use Rattle.hq_base.proofs.Refusals.{passed_up}
use Rattle.hq_request_coerce.specs.declared.refusal.CoerceRefusal.{CoerceRefusal}
use Rattle.hq_request_coerce.specs.declared.refusal.CoerceRefusal.TheVariants.{Memory}
use Rattle.hq_request_collect.specs.TreeSeen.{collected_view, trees_of}
use Rattle.hq_request_collect.specs.declared.tree.CollectedField.{CollectedField}
use Rattle.hq_request_build.proofs.Walks.{front, walk_more, walk_refused}
use Rattle.hq_request_build.proofs.Ends.{looks_end}
use Rattle.hq_request_build.specs.Looks.{look_due, looks_due}
use Rattle.hq_request_tree.specs.Introspection.{looks, looks_of, introspection_view, keyed_introspection_view}
use Rattle.hq_request_build.proofs.looks.+looks.Goals as goal

pub ask_looks-returns : goal.ask_looks-returns
ask_looks-returns t c =
    let d : Context = context_view c.args.context.now in
    c.loop-field.invariant
    ∙ at_drop_all
    (λ (fs : List CollectedField). mapped (front looks (map keyed_introspection_view c.loop-field.looks.items))
    (looks_due d c.args.place c.args.t (trees_of (map collected_view fs))))
    c.deref-field-items.result.now c.loop-field.field-index c.loop-field-test.false
    ∙ ap Ok (looks_end (map keyed_introspection_view c.loop-field.looks.items))

pub ask_looks-returns-in_err-look : goal.ask_looks-returns-in_err-look
ask_looks-returns-in_err-look t c =
    let d : Context = context_view c.args.context.now in
    let e : CoerceRefusal = c.in_err-look.field-0.0 in
    passed_up (λ v. looks_of (map keyed_introspection_view v.items)) Memory e _ _ c.from_residual-in_err-look.result
    (walk_refused looks (look_due d c.args.place c.args.t) (λ fs. looks_due d c.args.place c.args.t (trees_of (map collected_view fs))) (λ f fs. refl)
    c.deref-field-items.result.now c.loop-field.field-index c.field-item.result (map keyed_introspection_view c.loop-field.looks.items) e _
    c.loop-field.invariant c.loop-field-test.true c.field-item.is)
    c.in_err-look.ensures c.from_residual-in_err-look.ensures.1

pub ask_looks-loop-field-preserved : goal.ask_looks-loop-field-preserved
ask_looks-loop-field-preserved t c =
    let d : Context = context_view c.args.context.now in
    walk_more looks (look_due d c.args.place c.args.t) (λ fs. looks_due d c.args.place c.args.t (trees_of (map collected_view fs))) (λ f fs. refl)
    c.deref-field-items.result.now c.loop-field.field-index c.field-item.result (map keyed_introspection_view c.loop-field.looks.items) _
    (introspection_view c.in_ok-look.look) _ c.loop-field.invariant c.loop-field-test.true c.field-item.is c.in_ok-look.ensures
    (ap (map keyed_introspection_view) c.in_ok-push.ensures.items ∙ map-append keyed_introspection_view _ _
    ∙ ap (λ p. map keyed_introspection_view c.loop-field.looks.items ++ p ∷ [])
    (c.keyed.ensures ∙ ap (λ k. (k, introspection_view c.in_ok-look.look)) (c.in_ok-key.ensures ∙ c.key.ensures)))
