use Rattle.std.proofs.Common.{◌∙◌, refl, ap, map, [], ◌∷◌, ◌++◌, List, Ok}
use Rattle.std.proofs.lemmas.List.{map-append, at_drop_all}
use Rattle.hq_base.specs.Due.{mapped}
use Rattle.hq_request_arguments.specs.Context.{Context, context_view}
use Rattle.hq_base.proofs.Refusals.{passed_up}
use Rattle.hq_request_coerce.specs.declared.refusal.CoerceRefusal.{CoerceRefusal}
use Rattle.hq_request_coerce.specs.declared.refusal.CoerceRefusal.TheVariants.{Memory}
use Rattle.hq_request_collect.specs.TreeSeen.{collected_view, trees_of}
use Rattle.hq_request_collect.specs.declared.tree.CollectedField.{CollectedField}
use Rattle.hq_request_build.proofs.Walks.{front, walk_more, walk_refused}
use Rattle.hq_request_build.proofs.Ends.{summary_pair, summaries_end}
use Rattle.hq_request_build.specs.Summaries.{one_summary_due, with_summary, summaries_due}
use Rattle.hq_request_build.proofs.summaries.ask_summaries.Goals as goal

pub returns : goal.returns
returns c =
    let d : Context = context_view c.args.context.now in
    c.loop-field.invariant
    ∙ at_drop_all
    (λ (fs : List CollectedField). mapped (front with_summary (map summary_pair c.loop-field.summaries))
    (summaries_due d c.args.place c.args.t (trees_of (map collected_view fs))))
    c.deref-field-items.result.now c.loop-field.field-index c.loop-field-test.false
    ∙ ap Ok (summaries_end c.loop-field.summaries)

pub returns-in_err-one : goal.returns-in_err-one
returns-in_err-one c =
    let d : Context = context_view c.args.context.now in
    let e : CoerceRefusal = c.in_err-one.field-0.0 in
    passed_up (λ v. v) Memory e _ _ c.from_residual-in_err-one.result
    (walk_refused with_summary (one_summary_due d c.args.place c.args.t) (λ fs. summaries_due d c.args.place c.args.t (trees_of (map collected_view fs))) (λ f fs. refl)
    c.deref-field-items.result.now c.loop-field.field-index c.field-item.result (map summary_pair c.loop-field.summaries) e _ c.loop-field.invariant c.loop-field-test.true c.field-item.is)
    c.in_err-one.ensures c.from_residual-in_err-one.ensures.1

pub loop-field-preserved : goal.loop-field-preserved
loop-field-preserved c =
    let d : Context = context_view c.args.context.now in
    walk_more with_summary (one_summary_due d c.args.place c.args.t) (λ fs. summaries_due d c.args.place c.args.t (trees_of (map collected_view fs))) (λ f fs. refl)
    c.deref-field-items.result.now c.loop-field.field-index c.field-item.result (map summary_pair c.loop-field.summaries) _
    (c.in_ok-one.one) _ c.loop-field.invariant c.loop-field-test.true c.field-item.is c.in_ok-one.ensures
    (ap (map summary_pair) c.in_ok-push.ensures.ok ∙ map-append summary_pair _ _
    ∙ ap (λ p. map summary_pair c.loop-field.summaries ++ p ∷ []) (ap (λ k. (k, c.in_ok-one.one)) (c.in_ok-key.ensures ∙ c.key.ensures)))
